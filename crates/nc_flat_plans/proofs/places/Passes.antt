-- An entry of a plan comes into its hart's queue: what the rows of all other places ask of it.
use Rattle.std.specs.Prelude.{Option, Some, None, ◌/◌, ◌==◌, map}
use Rattle.std.specs.List.{list_any}
use Rattle.std.proofs.Common.{◌≡◌, ◌⊎◌, ℕ, Bool, true, false, List, refl, inl, inr}
use Rattle.std.proofs.lemmas.Bool.{eqb-true, false_from_ne_true}
use Rattle.nc_num.specs.declared.names.MapId.{MapId}
use Rattle.nc_num.specs.declared.names.MemType.{MemType}
use Rattle.nc_num.specs.declared.places.Block.{Block}
use Rattle.nc_num.specs.declared.places.Span.{Span}
use Rattle.nc_env.specs.declared.CboOp.{CboOp}
use Rattle.nc_env.specs.declared.CboOp.TheVariants as cbos
use Rattle.nc_plan.specs.Parts.{comes_back}
use Rattle.nc_queue.specs.declared.entry.Entry.{Entry}
use Rattle.nc_queue.specs.declared.entry.Entry.TheVariants as entries
use Rattle.nc_queue.specs.Entries.{writes_back}
use Rattle.nc_lines.specs.Lines.{bare}
use Rattle.nc_model.specs.declared.owners.Owner.{Owner}
use Rattle.nc_model.specs.declared.owners.Owner.TheVariants.{Thread, Passing, Lending, Device, Returning, Synced, Pool}
use Rattle.nc_rules.specs.Machine.{MachineState, queue_of}
use Rattle.nc_calls.specs.PlaceLaws.{drops_copies, may_leave_stale_copy}
use Rattle.nc_rows.specs.Ahead.{names, is_full, is_mail, settling}
use Rattle.nc_rows.specs.Laws.{place_of, seen_at}
use Rattle.nc_rows.specs.Rows.{Loan, Book, device_place, ahead_of}
use Rattle.nc_row_issues.specs.Laws.{NoByte, NoBlock, NoToken, PassesTo, PassesLent, PassesLoan, PassesBack, Passes}
use Rattle.nc_flatness.specs.Copying.{is_register}
use Rattle.nc_flat_plans.proofs.places.OwnRows.{either_make, either_both, dir_make}

-- ---- the entries of plans

-- a clean, a flush or an invalidate
abbrev pub is_kept_op : CboOp → Bool
is_kept_op cbos.Clean = true
is_kept_op cbos.Flush = true
is_kept_op cbos.Inval = true
is_kept_op cbos.Zero = false

pub writes_kept : (o : CboOp) → writes_back o ≡ true → is_kept_op o ≡ true
writes_kept cbos.Clean is = refl
writes_kept cbos.Flush is = refl
writes_kept cbos.Inval is = absurd cc
writes_kept cbos.Zero is = absurd cc

pub drops_kept : (o : CboOp) → drops_copies o ≡ true → is_kept_op o ≡ true
drops_kept cbos.Flush is = refl
drops_kept cbos.Inval is = refl
drops_kept cbos.Clean is = absurd cc
drops_kept cbos.Zero is = absurd cc

-- no full fence, message or register
pub record IsPlain (e : Entry) : Type 0 where
  pub full : is_full (bare e) ≡ false
  pub fence : is_full e ≡ false
  pub mail : (b : ℕ) → is_mail b (bare e) ≡ false
  pub register : is_register e ≡ false

pub store_plain : (span : Span) (bytes : List ℕ) (kind : MemType) → IsPlain (entries.Store span bytes kind)
store_plain span bytes kind = record { full = refl; fence = refl; mail = λ b. refl; register = refl }

pub op_plain : (block : Block) (op : CboOp) → IsPlain (entries.Cbo block op)
op_plain block op = record { full = refl; fence = refl; mail = λ b. refl; register = refl }

pub op_byte : (m : MachineState) (block : Block) (op : CboOp) (x : ℕ) → is_kept_op op ≡ true → NoByte m (entries.Cbo block op) x
op_byte m block cbos.Clean x is = refl
op_byte m block cbos.Flush x is = refl
op_byte m block cbos.Inval x is = refl
op_byte m block cbos.Zero x is = absurd cc

pub op_block : (m : MachineState) (block : Block) (op : CboOp) (x : ℕ) → is_kept_op op ≡ true → NoBlock m (entries.Cbo block op) x
op_block m block cbos.Clean x is = refl
op_block m block cbos.Flush x is = refl
op_block m block cbos.Inval x is = refl
op_block m block cbos.Zero x is = absurd cc

-- none of the block, and nothing with which memory and the copies come to differ
abbrev pub NoWhole : MachineState → Entry → ℕ → Type 0
NoWhole m e x = NoBlock m e x × (may_leave_stale_copy m.size e x ≡ false)

-- an invalidate does so in its own block alone, and a clean or a flush nowhere
pub writes_whole : (m : MachineState) (block : Block) (op : CboOp) (x : ℕ) → writes_back op ≡ true → NoWhole m (entries.Cbo block op) x
writes_whole m block cbos.Clean x is = (refl, refl)
writes_whole m block cbos.Flush x is = (refl, refl)
writes_whole m block cbos.Inval x is = absurd cc
writes_whole m block cbos.Zero x is = absurd cc

pub op_whole : (m : MachineState) (block : Block) (op : CboOp) (x : ℕ) → is_kept_op op ≡ true → (x / m.size ≡ block.0 → ⊥) → NoWhole m (entries.Cbo block op) x
op_whole m block cbos.Clean x is far = (refl, refl)
op_whole m block cbos.Flush x is far = (refl, refl)
op_whole m block cbos.Inval x is far = (refl, false_from_ne_true (x / m.size == block.0) (λ t. far (eqb-true (x / m.size) block.0 t)))
op_whole m block cbos.Zero x is far = absurd cc

-- it gives no byte of any place
pub record IsBlank (m : MachineState) (e : Entry) : Type 0 where
  pub plain : IsPlain e
  pub byte : (x : ℕ) → NoByte m e x
  pub whole : (x : ℕ) → NoWhole m e x

-- ---- a place beside

-- a token of the mapping is queued
abbrev pub IsPosted : MachineState → MapId → Type 0
IsPosted m n = list_any (names n) (map bare (queue_of m n.hart.0)) ≡ true

abbrev pub IsLentTo : MapId → Owner → Type 0
IsLentTo n o = (o ≡ Lending n) ⊎ ((o ≡ Device n) ⊎ (o ≡ Returning n))

-- no byte of the place, nor of where its channel sees it; and where the channel may write it none of its block there
pub record IsClear (a : Book) (o : Owner) (m : MachineState) (h : ℕ) (e : Entry) (x : ℕ) : Type 0 where
  pub byte : NoByte m e x
  pub device : NoByte m e (seen_at a o x)
  pub block : (n : MapId) (l : Loan) → IsLentTo n o → a.loan n ≡ Some l → l.area ≡ false → comes_back l.grant.dir ≡ true → NoBlock m e (device_place l x)
  -- an area that is being lent
  pub area : (n : MapId) (l : Loan) → o ≡ Lending n → a.loan n ≡ Some l → l.area ≡ true → NoWhole m e x
  -- it is no token of a mapping that is being lent
  pub token : (n : MapId) → o ≡ Lending n → NoToken n h e

-- of a mapping that the hart itself lends a token is queued
abbrev pub ArePosted : Owner → MachineState → ℕ → Type 0
ArePosted o m h = (n : MapId) → o ≡ Lending n → n.hart.0 ≡ h → IsPosted m n

-- the same of the mapping that has the place
pub record NoDevice (m : MachineState) (e : Entry) (o : Option Loan) (x : ℕ) : Type 0 where
  pub byte : NoByte m e (place_of o x)
  pub block : (l : Loan) → o ≡ Some l → l.area ≡ false → comes_back l.grant.dir ≡ true → NoBlock m e (device_place l x)

lent_passes : (a : Book) (n : MapId) (o : Option Loan) (m : MachineState) (h : ℕ) (e : Entry) (x : ℕ) → NoByte m e x → NoDevice m e o x → ((l : Loan) → o ≡ Some l → l.area ≡ true → NoWhole m e x) → NoToken n h e → (n.hart.0 ≡ h → IsPosted m n) → PassesLent a n o m h e x
lent_passes a n None m h e x byte device area token posted = tt
lent_passes a n (Some l) m h e x byte device area token posted =
    let y = device_place l x in
    let to : PassesTo n m h e x y = record { buffer = byte; device = device.byte; token = token; back = λ own. inr (posted own) } in
    either_make l.area _ _
    (λ is.
    let none = area l refl is in
    either_both (settling l.lot (a.rest n.hart.0)) _ _ (record { place = byte; block = none.0; whole = none.1; token = token }) (record { place = byte; token = token }))
    (λ is. dir_make l.grant.dir _ _ (λ d. to) (λ d. record { to = to; block = device.block l refl is d }))

loan_passes : (n : MapId) (o : Option Loan) (m : MachineState) (h : ℕ) (e : Entry) (x : ℕ) → NoByte m e x → NoDevice m e o x → PassesLoan n o m h e x
loan_passes n None m h e x byte device = tt
loan_passes n (Some l) m h e x byte device =
    either_make l.area _ _ (λ is. byte)
    (λ is. dir_make l.grant.dir _ _ (λ d. record { device = device.byte; buffer = byte }) (λ d. record { device = device.block l refl is d; buffer = inr byte }))

back_passes : (a : Book) (n : MapId) (o : Option Loan) (m : MachineState) (h : ℕ) (e : Entry) (x : ℕ) → IsPlain e → NoByte m e x → NoDevice m e o x → PassesBack a n o m h e x
back_passes a n None m h e x plain byte device = tt
back_passes a n (Some l) m h e x plain byte device =
    either_make l.area _ _ (λ is. byte)
    (λ is.
    dir_make l.grant.dir _ _ (λ d. record { device = device.byte; buffer = byte })
    (λ d. either_both (list_any is_full (ahead_of a n l)) _ _
    (record { opened = record { device = device.block l refl is d; buffer = inr byte }; fence = λ own. plain.full })
    (record { device = device.byte; buffer = inr byte })))

pub passes_by : (a : Book) (o : Owner) (m : MachineState) (h : ℕ) (e : Entry) (x : ℕ) → IsPlain e → IsClear a o m h e x → ArePosted o m h → Passes a o m h e x
passes_by a (Thread j) m h e x plain clear posted = clear.byte
passes_by a (Passing j g) m h e x plain clear posted = record { place = clear.byte; message = λ own. plain.mail (a.buffer x) }
passes_by a (Lending n) m h e x plain clear posted =
    lent_passes a n (a.loan n) m h e x clear.byte (record { byte = clear.device; block = λ l is area d. clear.block n l (inl refl) is area d }) (λ l is area. clear.area n l refl is area) (clear.token n refl) (posted n refl)
passes_by a (Device n) m h e x plain clear posted = loan_passes n (a.loan n) m h e x clear.byte (record { byte = clear.device; block = λ l is area d. clear.block n l (inr (inl refl)) is area d })
passes_by a (Returning n) m h e x plain clear posted = back_passes a n (a.loan n) m h e x plain clear.byte (record { byte = clear.device; block = λ l is area d. clear.block n l (inr (inr refl)) is area d })
passes_by a (Synced n) m h e x plain clear posted = clear.byte
passes_by a Pool m h e x plain clear posted = clear.byte
