-- What a row reads of a book, and how the book changes as one driver goes on.
use Rattle.std.proofs.Common.{◌≡◌, ℕ, zero, suc, ◌<◌, Bool, true, false, List, [], ◌∷◌, length, refl, sym, ap, ◌∙◌, inl, inr, subst, arith, cond, Option, Some, None}
use Rattle.std.specs.Prelude.{◌≢◌, slice_index_or}
use Rattle.std.proofs.lemmas.Bool.{cases_eq}
use Rattle.std.proofs.lemmas.List.{get_or-set_same, get_or-set_other}
use Rattle.nc_num.specs.Places.{covers}
use Rattle.nc_num.specs.declared.names.HartNo.{HartNo}
use Rattle.nc_num.specs.declared.names.MapId.{MapId}
use Rattle.nc_num.specs.declared.places.Span.{Span}
use Rattle.nc_env.specs.declared.CboOp.{CboOp}
use Rattle.nc_env.specs.declared.CboOp.TheVariants as cbo_ops
use Rattle.nc_queue.specs.declared.entry.Entry.{Entry}
use Rattle.nc_queue.specs.declared.entry.Entry.TheVariants as entries
use Rattle.nc_model.specs.declared.owners.Owner.{Owner}
use Rattle.nc_model.specs.declared.owners.Owner.TheVariants.{Thread, Passing, Lending, Device, Returning, Synced, Pool}
use Rattle.nc_scen.specs.declared.scenario.Scenario.{Scenario}
use Rattle.nc_rules.specs.declared.lots.Lot.{Lot}
use Rattle.nc_rules.specs.declared.lots.LotId.{LotId}
use Rattle.nc_rules.specs.declared.steps.Step.{Step}
use Rattle.nc_rules.specs.Driver.{DriverState, Went}
use Rattle.nc_rules.specs.Lots.{DriverConfig}
use Rattle.nc_rules.specs.Machine.{MachineState, queue_of}
use Rattle.nc_rules.specs.Refusals.{buffer_of}
use Rattle.nc_rules.specs.EventTouches.{owner_of}
use Rattle.nc_rules.specs.World.{WorldState, no_driver, driver_of}
use Rattle.nc_calls.specs.PlaceLaws.{NotHeld}
use Rattle.nc_scripts.proofs.Lists.{all_to}
use Rattle.nc_holds.specs.Held.{AreRegions}
use Rattle.nc_rows.specs.Rows.{Loan, Book, LentRow, DeviceRow, BackRow, SyncedRow, Row}
use Rattle.nc_rows.specs.Laws.{place_of, seen_at}
use Rattle.nc_rows.specs.Ahead.{settling}
use Rattle.nc_rows.specs.Parts.{IsDropped, IsZeroed, OpIsQueued, IsQueued, Queued, IsAllocating, MayBeHeld, Uncached}
use Rattle.nc_flatness.specs.Books.{number_in, loan_of, book_of, mapping_in}
use Rattle.nc_flatness.specs.Flatness.{Flatness}
use Rattle.nc_flatness.proofs.books.Owned.{IsMapped, mapped, owned_ram}
use Rattle.nc_flatness.proofs.plans.Rests.{settling_ends, IsAtPlan, at_plan}
use Rattle.nc_flatness.proofs.worlds.Outcomes.{gone}

-- ---- the number of a buffer

number_by : (s : Span) (ss : List Span) (x : ℕ) (t : Bool) → covers s x ≡ t → number_in (s ∷ ss) x ≡ cond t 0 (suc (number_in ss x))
number_by s ss x true e = rw e refl
number_by s ss x false e = rw e refl

abbrev pub no_range : Span
no_range = record { at = 0; len = 0 }

pub number_is : (ss : List Span) (b x : ℕ) → b < length ss → covers (slice_index_or ss b no_range) x ≡ true → ((c : ℕ) → c < b → covers (slice_index_or ss c no_range) x ≡ false) → number_in ss x ≡ b
number_is [] b x lt on off = absurd (omega (arith, lt))
number_is (s ∷ ss) zero x lt on off = number_by s ss x true on
number_is (s ∷ ss) (suc b) x lt on off = number_by s ss x false (off zero (omega arith)) ∙ ap suc (number_is ss b x (omega (arith, lt)) on (λ c less. off (suc c) (omega (arith, less))))

-- a byte of buffer b has its number
pub number_of : (f : DriverConfig) (b x : ℕ) → AreRegions f → b < length f.buffers → covers (buffer_of f b) x ≡ true → number_in f.buffers x ≡ b
number_of f b x regions lt on = number_is f.buffers b x lt on (λ c less. off_by c less (covers (buffer_of f c) x) refl)
  where
    off_by : (c : ℕ) → c < b → (t : Bool) → covers (buffer_of f c) x ≡ t → covers (buffer_of f c) x ≡ false
    off_by c less true e = absurd (regions.buffers c b (λ same. omega (arith, less, same)) x e on)
    off_by c less false e = e

-- ---- the book behind a driver that goes on

pub driver_away : (w : WorldState) (h : HartNo) (machine : MachineState) (went : Went) (g : ℕ) → g ≢ h.0 → driver_of (gone w h machine went) g ≡ driver_of w g
driver_away w h machine went g ne = get_or-set_other w.drivers h.0 g went.driver no_driver ne

pub driver_here : (w : WorldState) (h : HartNo) (machine : MachineState) (went : Went) → h.0 < length w.drivers → driver_of (gone w h machine went) h.0 ≡ went.driver
driver_here w h machine went lt = get_or-set_same w.drivers h.0 went.driver no_driver lt

pub loan_away : (w : WorldState) (h : HartNo) (machine : MachineState) (went : Went) (n : MapId) → n.hart.0 ≢ h.0 → (book_of (gone w h machine went)).loan n ≡ (book_of w).loan n
loan_away w h machine went n ne = ap (λ (d : DriverState). loan_of d n) (driver_away w h machine went n.hart.0 ne)

pub loan_here : (w : WorldState) (h : HartNo) (machine : MachineState) (went : Went) (n : MapId) → n.hart.0 ≡ h.0 → h.0 < length w.drivers → (book_of (gone w h machine went)).loan n ≡ loan_of went.driver n
loan_here w h machine went n e lt = ap (λ (k : ℕ). loan_of (driver_of (gone w h machine went) k) n) e ∙ ap (λ (d : DriverState). loan_of d n) (driver_here w h machine went lt)

pub rest_away : (w : WorldState) (h : HartNo) (machine : MachineState) (went : Went) (g : ℕ) → g ≢ h.0 → (book_of (gone w h machine went)).rest g ≡ (book_of w).rest g
rest_away w h machine went g ne = ap (λ (d : DriverState). d.rest) (driver_away w h machine went g ne)

pub rest_here : (w : WorldState) (h : HartNo) (machine : MachineState) (went : Went) → h.0 < length w.drivers → (book_of (gone w h machine went)).rest h.0 ≡ went.driver.rest
rest_here w h machine went lt = ap (λ (d : DriverState). d.rest) (driver_here w h machine went lt)

pub fixed_gone : (w : WorldState) (h : HartNo) (machine : MachineState) (went : Went) (g : ℕ) → h.0 < length w.drivers → went.driver.fixed ≡ (driver_of w h.0).fixed → (driver_of (gone w h machine went) g).fixed ≡ (driver_of w g).fixed
fixed_gone w h machine went g lt same = elim (cases_eq g h.0) [
  | inl e ↦
      ap (λ (k : ℕ). (driver_of (gone w h machine went) k).fixed) e ∙ ap (λ (d : DriverState). d.fixed) (driver_here w h machine went lt) ∙ same
      ∙ ap (λ (k : ℕ). (driver_of w k).fixed) (sym e)
  | inr ne ↦ ap (λ (d : DriverState). d.fixed) (driver_away w h machine went g ne)
]

pub buffer_gone : (w : WorldState) (h : HartNo) (machine : MachineState) (went : Went) → h.0 < length w.drivers → went.driver.fixed ≡ (driver_of w h.0).fixed → (book_of (gone w h machine went)).buffer ≡ (book_of w).buffer
buffer_gone w h machine went lt same = ap (λ (f : DriverConfig). number_in f.buffers) (fixed_gone w h machine went 0 lt same)

loan_kept : (d e : DriverState) (n : MapId) → e.fixed ≡ d.fixed → e.lots ≡ d.lots → loan_of e n ≡ loan_of d n
loan_kept d e n fixed lots = ap (λ (f : DriverConfig). loan_of (record e { fixed = f }) n) fixed ∙ ap (λ (k : List Lot). loan_of (record e { fixed = d.fixed; lots = k }) n) lots

pub loan_gone : (w : WorldState) (h : HartNo) (machine : MachineState) (went : Went) (n : MapId) → h.0 < length w.drivers → went.driver.fixed ≡ (driver_of w h.0).fixed → went.driver.lots ≡ (driver_of w h.0).lots
    → (book_of (gone w h machine went)).loan n ≡ (book_of w).loan n
loan_gone w h machine went n lt fixed lots = elim (cases_eq n.hart.0 h.0) [
  | inl e ↦ loan_here w h machine went n e lt ∙ loan_kept (driver_of w h.0) went.driver n fixed lots ∙ ap (λ (k : ℕ). loan_of (driver_of w k) n) (sym e)
  | inr ne ↦ loan_away w h machine went n ne
]

pub rest_gone : (w : WorldState) (h : HartNo) (machine : MachineState) (went : Went) (g : ℕ) → h.0 < length w.drivers → went.driver.rest ≡ (driver_of w h.0).rest → (book_of (gone w h machine went)).rest g ≡ (book_of w).rest g
rest_gone w h machine went g lt same = elim (cases_eq g h.0) [
  | inl e ↦ ap (λ (k : ℕ). (driver_of (gone w h machine went) k).rest) e ∙ rest_here w h machine went lt ∙ same ∙ ap (λ (k : ℕ). (driver_of w k).rest) (sym e)
  | inr ne ↦ rest_away w h machine went g ne
]

-- ---- what a row reads

-- two books are alike in it
abbrev pub ReadsAlike : Book → Book → Owner → ℕ → Type 0
ReadsAlike a b (Thread h) x = Unit {0}
ReadsAlike a b (Passing h g) x = (a.buffer x ≡ b.buffer x) × (a.rest h.0 ≡ b.rest h.0)
ReadsAlike a b (Lending n) x = (a.loan n ≡ b.loan n) × (a.rest n.hart.0 ≡ b.rest n.hart.0)
ReadsAlike a b (Device n) x = a.loan n ≡ b.loan n
ReadsAlike a b (Returning n) x = (a.loan n ≡ b.loan n) × (a.rest n.hart.0 ≡ b.rest n.hart.0)
ReadsAlike a b (Synced n) x = a.loan n ≡ b.loan n
ReadsAlike a b Pool x = Unit {0}

lent_rest : (a b : Book) (n : MapId) (o : Option Loan) (v : ℕ) (m : MachineState) (x : ℕ) → a.rest n.hart.0 ≡ b.rest n.hart.0 → LentRow a n o v m x → LentRow b n o v m x
lent_rest a b n None v m x e row = absurd row
lent_rest a b n (Some l) v m x e row = subst (λ (r : List Step). LentRow (record a { rest = λ _. r }) n (Some l) v m x) e row

back_rest : (a b : Book) (n : MapId) (o : Option Loan) (v : ℕ) (m : MachineState) (x : ℕ) → a.rest n.hart.0 ≡ b.rest n.hart.0 → BackRow a n o v m x → BackRow b n o v m x
back_rest a b n None v m x e row = absurd row
back_rest a b n (Some l) v m x e row = subst (λ (r : List Step). BackRow (record a { rest = λ _. r }) n (Some l) v m x) e row

pub row_alike : (a b : Book) (o : Owner) (v : ℕ) (m : MachineState) (x : ℕ) → ReadsAlike a b o x → Row a o v m x → Row b o v m x
row_alike a b (Thread h) v m x e row = row
row_alike a b (Passing h g) v m x e row =
    subst (λ (r : List Step). Row (record b { rest = λ _. r }) (Passing h g) v m x) e.1 (subst (λ (k : ℕ). Row (record a { buffer = λ _. k; rest = λ _. a.rest h.0 }) (Passing h g) v m x) e.0 row)
row_alike a b (Lending n) v m x e row = subst (λ (o : Option Loan). LentRow b n o v m x) e.0 (lent_rest a b n (a.loan n) v m x e.1 row)
row_alike a b (Device n) v m x e row = subst (λ (o : Option Loan). DeviceRow n o v m x) e row
row_alike a b (Returning n) v m x e row = subst (λ (o : Option Loan). BackRow b n o v m x) e.0 (back_rest a b n (a.loan n) v m x e.1 row)
row_alike a b (Synced n) v m x e row = subst (λ (o : Option Loan). SyncedRow n o v m x) e row
row_alike a b Pool v m x e row = row

-- ---- where places are seen

pub seen_alike : (a b : Book) (o : Owner) (x : ℕ) → ((n : MapId) → a.loan n ≡ b.loan n) → seen_at a o x ≡ seen_at b o x
seen_alike a b (Thread h) x loans = refl
seen_alike a b (Passing h g) x loans = refl
seen_alike a b (Lending n) x loans = ap (λ (o : Option Loan). place_of o x) (loans n)
seen_alike a b (Device n) x loans = ap (λ (o : Option Loan). place_of o x) (loans n)
seen_alike a b (Returning n) x loans = ap (λ (o : Option Loan). place_of o x) (loans n)
seen_alike a b (Synced n) x loans = refl
seen_alike a b Pool x loans = refl

-- ---- what stands beside the rows

-- what is asked of queued entries, by another book and other owners
op_to : (a b : Book) (ws us : ℕ → Owner) (pool : Span) (s h : ℕ) (op : CboOp) (k : ℕ) → (IsDropped a ws s h k → IsDropped b us s h k) → (IsZeroed a ws s h k → IsZeroed b us s h k) → OpIsQueued a ws pool s h op k → OpIsQueued b us pool s h op k
op_to a b ws us pool s h cbo_ops.Inval k drops zeroes is = drops is
op_to a b ws us pool s h cbo_ops.Clean k drops zeroes is = is
op_to a b ws us pool s h cbo_ops.Flush k drops zeroes is = is
op_to a b ws us pool s h cbo_ops.Zero k drops zeroes (inl is) = inl is
op_to a b ws us pool s h cbo_ops.Zero k drops zeroes (inr is) = inr (zeroes is)

pub entry_to : (a b : Book) (ws us : ℕ → Owner) (pool : Span) (s h : ℕ) (e : Entry) → ((k : ℕ) → IsDropped a ws s h k → IsDropped b us s h k) → ((k : ℕ) → IsZeroed a ws s h k → IsZeroed b us s h k) → IsQueued a ws pool s h e → IsQueued b us pool s h e
entry_to a b ws us pool s h (entries.Store span bytes kind) drops zeroes is = is
entry_to a b ws us pool s h (entries.Cbo block op) drops zeroes is = op_to a b ws us pool s h op block.0 (drops block.0) (zeroes block.0) is
entry_to a b ws us pool s h (entries.Reg chan off width value) drops zeroes is = is
entry_to a b ws us pool s h (entries.Mail buf to) drops zeroes is = is
entry_to a b ws us pool s h (entries.Lend label first count) drops zeroes is = is
entry_to a b ws us pool s h (entries.Mark pred succ) drops zeroes is = is

pub queued_to : (a b : Book) (ws us : ℕ → Owner) (m : MachineState) → ((h k : ℕ) → IsDropped a ws m.size h k → IsDropped b us m.size h k) → ((h k : ℕ) → IsZeroed a ws m.size h k → IsZeroed b us m.size h k) → Queued a ws m → Queued b us m
queued_to a b ws us m drops zeroes q h =
    all_to (IsQueued a ws m.pool m.size h) (IsQueued b us m.pool m.size h) (queue_of m h) (q h) (λ e is. entry_to a b ws us m.pool m.size h e (drops h) (zeroes h) is)

-- the areas that hart h allocates are so by another book and other owners
pub record StillAllocates (a b : Book) (ws us : ℕ → Owner) (h : ℕ) : Type 0 where
  pub loans : (n : MapId) (l : Loan) → n.hart.0 ≡ h → a.loan n ≡ Some l → l.area ≡ true → settling l.lot (a.rest n.hart.0) ≡ true → (b.loan n ≡ Some l) × (settling l.lot (b.rest n.hart.0) ≡ true)
  pub owners : (n : MapId) (x : ℕ) → n.hart.0 ≡ h → ws x ≡ Lending n → us x ≡ Lending n

pub zeroed_to : (a b : Book) (ws us : ℕ → Owner) (s h k : ℕ) → StillAllocates a b ws us h → IsZeroed a ws s h k → IsZeroed b us s h k
zeroed_to a b ws us s h k still is =
    let loan = still.loans is.id is.loan is.own is.lent is.area is.ahead in
    record { id = is.id; loan = is.loan; lent = loan.0; own = is.own; area = is.area; ahead = loan.1; owned = λ x same. still.owners is.id x is.own (is.owned x same) }

pub may_to : (a b : Book) (ws us : ℕ → Owner) (n : MapId) (x : ℕ) → StillAllocates a b ws us n.hart.0 → ws x ≡ Lending n → MayBeHeld a (ws x) → MayBeHeld b (us x)
may_to a b ws us n x still e may = subst (MayBeHeld b) (sym (still.owners n x refl e)) (loan_to (a.loan n) refl (subst (MayBeHeld a) e may))
  where
    loan_to : (o : Option Loan) → a.loan n ≡ o → IsAllocating a n o → IsAllocating b n (b.loan n)
    loan_to None known is = absurd is
    loan_to (Some l) known is = let so = still.loans n l refl known is.0 is.1 in subst (IsAllocating b n) (sym so.0) (is.0, so.1)

-- ---- copies of the coherent pool

-- else there is none
pub pool_unheld : (sc : Scenario) (f : List ℕ) (w : WorldState) (x : ℕ) → Flatness sc f w → covers w.machine.pool x ≡ true → (MayBeHeld (book_of w) (owner_of w x) → ⊥) → NotHeld w.machine x
pool_unheld sc f w x flat on never = elim (flat.bytes.uncached x on) [
  | inl none ↦ none
  | inr may ↦ absurd (never may)
]

-- an area that is allocated is the lot in hand of its hart, which has its end in the rest
pub record IsAllocated (w : WorldState) (x : ℕ) : Type 0 where
  pub id : MapId
  pub owner : owner_of w x ≡ Lending id
  pub is : IsMapped w id x
  pub area : is.loan.area ≡ true
  pub settles : settling is.is.lot.id (driver_of w id.hart.0).rest ≡ true
  pub plan : IsAtPlan (driver_of w id.hart.0)

allocated_by : (sc : Scenario) (f : List ℕ) (w : WorldState) (x : ℕ) (n : MapId) → Flatness sc f w → owner_of w x ≡ Lending n → IsAllocating (book_of w) n ((book_of w).loan n) → IsAllocated w x
allocated_by sc f w x n flat e may =
    let at : mapping_in (owner_of w x) ≡ Some n = ap mapping_in e in
    let m = mapped sc f w n x flat (owned_ram sc f w x n flat at) at in
    let is = subst (IsAllocating (book_of w) n) m.known may in
    let settles = subst (λ (id : LotId). settling id (driver_of w n.hart.0).rest ≡ true) m.is.lot_is is.1 in
    let lt : n.hart.0 < length sc.harts = omega (arith, m.is.hart, flat.world.of_scenario.harts) in
    record {
      id = n;
      owner = e;
      is = m;
      area = is.0;
      settles = settles;
      plan = at_plan (driver_of w n.hart.0) m.is.lot.id (flat.bytes.drives n.hart.0 lt) (settling_ends m.is.lot.id (driver_of w n.hart.0).rest settles);
    }

allocating_of : (sc : Scenario) (f : List ℕ) (w : WorldState) (x : ℕ) (o : Owner) → Flatness sc f w → owner_of w x ≡ o → MayBeHeld (book_of w) o → IsAllocated w x
allocating_of sc f w x (Lending n) flat e may = allocated_by sc f w x n flat e may
allocating_of sc f w x (Thread h) flat e may = absurd may
allocating_of sc f w x (Passing h g) flat e may = absurd may
allocating_of sc f w x (Device n) flat e may = absurd may
allocating_of sc f w x (Returning n) flat e may = absurd may
allocating_of sc f w x (Synced n) flat e may = absurd may
allocating_of sc f w x Pool flat e may = absurd may

pub allocating : (sc : Scenario) (f : List ℕ) (w : WorldState) (x : ℕ) → Flatness sc f w → MayBeHeld (book_of w) (owner_of w x) → IsAllocated w x
allocating sc f w x flat may = allocating_of sc f w x (owner_of w x) flat refl may

pub uncached_of : (a : Book) (ws : ℕ → Owner) (m : MachineState) → ((x : ℕ) → covers m.pool x ≡ true → NotHeld m x) → Uncached a ws m
uncached_of a ws m none x on = inl (none x on)
