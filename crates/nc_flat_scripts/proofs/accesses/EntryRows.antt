-- Each row, after a script's entry came into its hart's queue.
use Rattle.std.specs.Prelude.{Option, Some, None, ◌/◌, ◌==◌, if◌then◌else◌, map, unwrap_or}
use Rattle.std.specs.List.{list_any}
use Rattle.std.proofs.Common.{◌≡◌, ℕ, ◌*◌, Bool, true, false, List, refl, sym, ◌∙◌, inl, inr, subst, arith}
use Rattle.std.proofs.lemmas.Bool.{cases_Bool, eqb-true, eq-eqb, cond-true, false≢true}
use Rattle.nc_num.specs.Sizes.{IsBlockSize}
use Rattle.nc_num.specs.Places.{covers, block_at}
use Rattle.nc_num.specs.declared.names.Dir.{Dir}
use Rattle.nc_num.specs.declared.names.Dir.TheVariants.{Both, ToDev, FromDev}
use Rattle.nc_num.specs.declared.names.MapId.{MapId}
use Rattle.nc_num.specs.declared.names.MemType.{MemType}
use Rattle.nc_num.specs.declared.names.MemType.TheVariants.{Pma, Nc, Io}
use Rattle.nc_num.specs.declared.places.Block.{Block}
use Rattle.nc_num.specs.declared.places.Span.{Span}
use Rattle.nc_num.proofs.Blocks.{start_of_block}
use Rattle.nc_env.specs.declared.CboOp.{CboOp}
use Rattle.nc_env.specs.declared.CboOp.TheVariants as cbos
use Rattle.nc_queue.specs.Entries.{entry_gives, gives_in, has_op, is_inval, Fits}
use Rattle.nc_queue.specs.declared.entry.Entry.{Entry}
use Rattle.nc_queue.specs.declared.entry.Entry.TheVariants.{Store, Cbo, Reg, Mail, Lend, Mark}
use Rattle.nc_lines.specs.Lines.{bare}
use Rattle.nc_plan.specs.Parts.{comes_back}
use Rattle.nc_model.proofs.Faults.{covers-from}
use Rattle.nc_model.specs.declared.owners.Owner.{Owner}
use Rattle.nc_model.specs.declared.owners.Owner.TheVariants.{Thread, Passing, Lending, Device, Returning, Synced, Pool}
use Rattle.nc_rules.specs.Machine.{MachineState, queue_of}
use Rattle.nc_calls.specs.PlaceLaws.{may_leave_stale_copy}
use Rattle.nc_rows.specs.Ahead.{names, is_full, settling}
use Rattle.nc_rows.specs.Rows.{Loan, Book, device_place, ahead_of, Either, ByDir, Row}
use Rattle.nc_row_issues.specs.Laws.{Enters, NoByte, NoBlock, Passes, PassesTo, PassesAllocating, PassesLent, PassesLoan, PassesBack, IsOwn}
use Rattle.nc_row_issues.proofs.RowIssues.{rows_issue}
use Rattle.nc_flat_scripts.specs.Entering.{GivesOwn, IsPlain, IsNotIts, IsUnowned, IsApart, LoanIsApart, OwnerIsApart, IsPosted}

-- ---- a block of which an entry gives no byte

ungiven : (t : Bool) (v : ℕ) → (if t then Some v else None) ≡ None → t ≡ false
ungiven true v none = absurd cc
ungiven false v none = refl

some_given : (o : Option ℕ) (v : ℕ) → o ≡ Some v → o ≡ None → ⊥
some_given o v is none = absurd cc

op_block : {s : ℕ} (op : CboOp) (b : ℕ) (block : Block) → IsBlockSize s → ((y : ℕ) → y / s ≡ b → entry_gives s (Cbo block op) y ≡ None) → gives_in s b (Cbo block op) ≡ false
op_block {s = s} cbos.Zero b block size none = elim (cases_Bool (block.0 == b)) [
  | inl is ↦
      let same : block.0 ≡ b = eqb-true block.0 b is in
      let at : (s * b) / s ≡ b = (start_of_block {s = s} b size).0 in
      absurd (some_given _ 0 (cond-true ((s * b) / s == block.0) (Some 0) None (eq-eqb ((s * b) / s) block.0 (at ∙ sym same))) (none (s * b) at))
  | inr not ↦ not
]
op_block cbos.Clean b block size none = refl
op_block cbos.Flush b block size none = refl
op_block cbos.Inval b block size none = refl

pub none_block : {s : ℕ} (e : Entry) (b : ℕ) → IsBlockSize s → Fits s e → ((y : ℕ) → y / s ≡ b → entry_gives s e y ≡ None) → gives_in s b e ≡ false
none_block {s = s} (Store span bytes kind) b size fits none = elim (cases_Bool (block_at span.at s == b)) [
  | inl is ↦
      let over : covers span span.at ≡ true = covers-from span span.at (omega arith) (omega (arith, fits.some)) in
      absurd (some_given _ _ (cond-true (covers span span.at) _ None over) (none span.at (eqb-true (span.at / s) b is)))
  | inr not ↦ rw not refl
]
none_block {s = s} (Cbo block op) b size fits none = op_block {s = s} op b block size none
none_block (Reg chan off width value) b size fits none = refl
none_block (Mail buf to) b size fits none = refl
none_block (Lend label first count) b size fits none = refl
none_block (Mark pred succ) b size fits none = refl

-- what gives no byte of the place parts no byte of it, but for an invalidate
op_parts_none : (s : ℕ) (op : CboOp) (block : Block) (x : ℕ) → has_op is_inval (x / s) (Cbo block op) ≡ false → may_leave_stale_copy s (Cbo block op) x ≡ false
op_parts_none s cbos.Inval block x none = elim (cases_Bool (x / s == block.0)) [
  | inl is ↦ absurd (false≢true (sym none ∙ eq-eqb block.0 (x / s) (sym (eqb-true (x / s) block.0 is))))
  | inr not ↦ not
]
op_parts_none s cbos.Clean block x none = refl
op_parts_none s cbos.Flush block x none = refl
op_parts_none s cbos.Zero block x none = refl

store_parts_none : (s : ℕ) (kind : MemType) (span : Span) (bytes : List ℕ) (x : ℕ) → entry_gives s (Store span bytes kind) x ≡ None → may_leave_stale_copy s (Store span bytes kind) x ≡ false
store_parts_none s Pma span bytes x none = refl
store_parts_none s Nc span bytes x none = ungiven (covers span x) _ none
store_parts_none s Io span bytes x none = ungiven (covers span x) _ none

parts_given : (s : ℕ) (e : Entry) (x : ℕ) → has_op is_inval (x / s) e ≡ false → entry_gives s e x ≡ None → may_leave_stale_copy s e x ≡ false
parts_given s (Store span bytes kind) x keeps none = store_parts_none s kind span bytes x none
parts_given s (Cbo block op) x keeps none = op_parts_none s op block x keeps
parts_given s (Reg chan off width value) x keeps none = refl
parts_given s (Mail buf to) x keeps none = refl
parts_given s (Lend label first count) x keeps none = refl
parts_given s (Mark pred succ) x keeps none = refl

-- ---- rows that let it pass

by_dir : (d : Dir) (P Q : Type 0) → P → (comes_back d ≡ true → Q) → ByDir d P Q
by_dir ToDev P Q p q = p
by_dir Both P Q p q = q refl
by_dir FromDev P Q p q = q refl

by_area : (t : Bool) (P Q : Type 0) → (t ≡ true → P) → Q → Either t P Q
by_area true P Q p q = p refl
by_area false P Q p q = q

each_either : (t : Bool) (P Q : Type 0) → P → Q → Either t P Q
each_either true P Q p q = p
each_either false P Q p q = q

-- what is known of the entry, in hart h's queue of machine m
pub record Comes (a : Book) (owner : ℕ → Owner) (m : MachineState) (h : ℕ) (e : Entry) : Type 0 where
  pub size : IsBlockSize m.size
  pub fits : Fits m.size e
  pub plain : IsPlain e
  pub own : GivesOwn a owner m.size h e

-- a place of no hart
pub unowned_own : (a : Book) (h : ℕ) (o : Owner) → IsUnowned o → IsOwn a h o → ⊥
unowned_own a h (Thread j) un own = absurd un
unowned_own a h (Synced n) un own = absurd un
unowned_own a h (Passing j g) un own = own
unowned_own a h (Lending n) un own = own
unowned_own a h (Device n) un own = own
unowned_own a h (Returning n) un own = own
unowned_own a h Pool un own = own

pub unowned_none : (a : Book) (owner : ℕ → Owner) (s h : ℕ) (e : Entry) (y : ℕ) → GivesOwn a owner s h e → IsUnowned (owner y) → entry_gives s e y ≡ None
unowned_none a owner s h e y gives un = elim (gives y) [ inl none ↦ none | inr own ↦ absurd (unowned_own a h (owner y) un own) ]

-- the block that a mapping's channel may write
at_block : (a : Book) (owner : ℕ → Owner) (m : MachineState) (h : ℕ) (e : Entry) (l : Loan) (x : ℕ) → Comes a owner m h e → IsApart l owner m.size x → comes_back l.grant.dir ≡ true → NoBlock m e (device_place l x)
at_block a owner m h e l x c apart back = none_block {s = m.size} e (device_place l x / m.size) c.size c.fits (λ y here. unowned_none a owner m.size h e y c.own (apart.block back y here))

at_place : (a : Book) (owner : ℕ → Owner) (m : MachineState) (h : ℕ) (e : Entry) (l : Loan) (x : ℕ) → Comes a owner m h e → IsApart l owner m.size x → NoByte m e (device_place l x)
at_place a owner m h e l x c apart = unowned_none a owner m.size h e (device_place l x) c.own apart.place

-- the block of an area's place
at_area : (a : Book) (owner : ℕ → Owner) (m : MachineState) (h : ℕ) (e : Entry) (l : Loan) (x : ℕ) → Comes a owner m h e → IsApart l owner m.size x → l.area ≡ true → NoBlock m e x
at_area a owner m h e l x c apart area = none_block {s = m.size} e (x / m.size) c.size c.fits (λ y here. unowned_none a owner m.size h e y c.own (apart.area area y here))

allocating_passes : (a : Book) (owner : ℕ → Owner) (m : MachineState) (h : ℕ) (e : Entry) (x : ℕ) (n : MapId) (l : Loan) → Comes a owner m h e → IsApart l owner m.size x → NoByte m e x → l.area ≡ true → PassesAllocating n m h e x
allocating_passes a owner m h e x n l c apart none area = record { place = none; block = at_area a owner m h e l x c apart area; whole = parts_given m.size e x (c.plain.inval (x / m.size)) none; token = λ same. c.plain.token n }

lent_passes : (a : Book) (owner : ℕ → Owner) (m : MachineState) (h : ℕ) (e : Entry) (x : ℕ) (n : MapId) (o : Option Loan) → Comes a owner m h e → (n.hart.0 ≡ h → list_any (names n) (map bare (queue_of m h)) ≡ true) → LoanIsApart o owner m.size x → NoByte m e x → PassesLent a n o m h e x
lent_passes a owner m h e x n None c posted apart none = tt
lent_passes a owner m h e x n (Some l) c posted apart none =
    let queued : n.hart.0 ≡ h → list_any (names n) (map bare (queue_of m n.hart.0)) ≡ true = λ same. subst (λ (k : ℕ). list_any (names n) (map bare (queue_of m k)) ≡ true) (sym same) (posted same) in
    let to : PassesTo n m h e x (device_place l x) = record { buffer = none; device = at_place a owner m h e l x c apart; token = λ same. c.plain.token n; back = λ same. inr (queued same) } in
    by_area l.area _ _
    (λ area. each_either (settling l.lot (a.rest n.hart.0)) _ _ (allocating_passes a owner m h e x n l c apart none area) (record { place = none; token = λ same. c.plain.token n }))
    (by_dir l.grant.dir _ _ to (λ back. record { to = to; block = at_block a owner m h e l x c apart back }))

device_passes : (a : Book) (owner : ℕ → Owner) (m : MachineState) (h : ℕ) (e : Entry) (x : ℕ) (n : MapId) (o : Option Loan) → Comes a owner m h e → LoanIsApart o owner m.size x → NoByte m e x → PassesLoan n o m h e x
device_passes a owner m h e x n None c apart none = tt
device_passes a owner m h e x n (Some l) c apart none =
    by_area l.area _ _ (λ area. none)
    (by_dir l.grant.dir _ _ (record { device = at_place a owner m h e l x c apart; buffer = none }) (λ back. record { device = at_block a owner m h e l x c apart back; buffer = inr none }))

back_passes : (a : Book) (owner : ℕ → Owner) (m : MachineState) (h : ℕ) (e : Entry) (x : ℕ) (n : MapId) (o : Option Loan) → Comes a owner m h e → LoanIsApart o owner m.size x → NoByte m e x → PassesBack a n o m h e x
back_passes a owner m h e x n None c apart none = tt
back_passes a owner m h e x n (Some l) c apart none =
    let place = at_place a owner m h e l x c apart in
    by_area l.area _ _ (λ area. none)
    (by_dir l.grant.dir _ _ (record { device = place; buffer = none })
    (λ back. each_either (list_any is_full (ahead_of a n l)) _ _
    (record { opened = record { device = at_block a owner m h e l x c apart back; buffer = inr none }; fence = λ same. c.plain.fence })
    (record { device = place; buffer = inr none })))

pub passes : (a : Book) (owner : ℕ → Owner) (m : MachineState) (h : ℕ) (e : Entry) (x : ℕ) (o : Owner) → Comes a owner m h e → owner x ≡ o → OwnerIsApart a owner m.size x o → IsPosted owner m h x → IsNotIts a owner h e x → NoByte m e x → Passes a o m h e x
passes a owner m h e x (Thread j) c is apart posted quiet none = none
passes a owner m h e x (Passing j g) c is apart posted quiet none = record { place = none; message = λ same. quiet j g is same }
passes a owner m h e x (Lending n) c is apart posted quiet none = lent_passes a owner m h e x n (a.loan n) c (posted n is) apart none
passes a owner m h e x (Device n) c is apart posted quiet none = device_passes a owner m h e x n (a.loan n) c apart none
passes a owner m h e x (Returning n) c is apart posted quiet none = back_passes a owner m h e x n (a.loan n) c apart none
passes a owner m h e x (Synced n) c is apart posted quiet none = none
passes a owner m h e x Pool c is apart posted quiet none = none

-- the row behind it: with the entry's byte where it gives one
pub row_entered : (a : Book) (owner : ℕ → Owner) (v : ℕ) (m k : MachineState) (h : ℕ) (e : Entry) (x : ℕ) → Enters m k h e → Comes a owner m h e → OwnerIsApart a owner m.size x (owner x) → IsPosted owner m h x → IsNotIts a owner h e x → Row a (owner x) v m x
    → Row a (owner x) (unwrap_or (entry_gives m.size e x) v) k x
row_entered a owner v m k h e x by c apart posted quiet row = elim (c.own x) [
  | inl none ↦
      subst (λ (o : Option ℕ). Row a (owner x) (unwrap_or o v) k x) (sym none)
      (rows_issue.passed a (owner x) v m k h e x by (passes a owner m h e x (owner x) c refl apart posted quiet none) row)
  | inr own ↦ rows_issue.stored a (owner x) v m k h e x by own row
]
