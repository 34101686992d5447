-- The rows of the area in hand, by what is still to come of its plan, before a step and behind it.
use Rattle.std.specs.Prelude.{Option, Some, true, false}
use Rattle.std.specs.List.{list_any, find}
use Rattle.std.proofs.Common.{◌≡◌, ℕ, List, [], ◌∷◌, refl, sym, ap, ◌∙◌, inl, inr, subst}
use Rattle.std.proofs.lemmas.Bool.{both_ways, cond-true}
use Rattle.nc_num.specs.Places.{covers}
use Rattle.nc_num.specs.declared.names.HartNo.{HartNo}
use Rattle.nc_num.specs.declared.names.MapId.{MapId}
use Rattle.nc_num.specs.declared.places.Span.{Span}
use Rattle.nc_queue.specs.Entries.{is_w, is_wo}
use Rattle.nc_queue.specs.declared.entry.Entry.{Entry as QueueEntry}
use Rattle.nc_queue.specs.declared.entry.Entry.TheVariants as entries
use Rattle.nc_queue.proofs.FenceLaws.{covered-none}
use Rattle.nc_lines.specs.Lines.{line, gives_at}
use Rattle.nc_model.specs.declared.owners.Owner.{Owner}
use Rattle.nc_model.specs.declared.owners.Owner.TheVariants.{Lending, Returning}
use Rattle.nc_scen.specs.declared.scenario.Scenario.{Scenario}
use Rattle.nc_sg.specs.declared.list.Entry.{Entry}
use Rattle.nc_rules.specs.declared.lots.Lot.{Lot}
use Rattle.nc_rules.specs.declared.lots.LotId.{LotId}
use Rattle.nc_rules.specs.declared.lots.Side.{Side}
use Rattle.nc_rules.specs.declared.lots.Side.TheVariants as sides
use Rattle.nc_rules.specs.declared.steps.Step.{Step}
use Rattle.nc_rules.specs.Lots.{owner_of_side}
use Rattle.nc_rules.specs.Machine.{MachineState, queue_of}
use Rattle.nc_rules.specs.Turns.{is_area}
use Rattle.nc_rules.specs.Driver.{Went}
use Rattle.nc_rules.specs.EventTouches.{owner_of}
use Rattle.nc_rules.specs.World.{WorldState, driver_of}
use Rattle.nc_calls.specs.PlaceLaws.{NotHeld}
use Rattle.nc_rows.specs.Ahead.{ends, settles_lot, is_settling, settling, names}
use Rattle.nc_rows.specs.Parts.{IsAllocating, MayBeHeld}
use Rattle.nc_rows.specs.Places.{ThreadRow, PoolRow}
use Rattle.nc_rows.specs.Rows.{Loan, gives_here, AllocatingRow, GivingRow, LentRow, BackRow, Row}
use Rattle.nc_row_plans.proofs.PlanEnds.{rows_plan}
use Rattle.nc_flatness.specs.Books.{book_of, IsPooled}
use Rattle.nc_flatness.proofs.books.BookReads.{pool_unheld}
use Rattle.nc_flatness.proofs.worlds.Outcomes.{gone}
use Rattle.nc_flat_starts.proofs.turning.Frames.{IsPlace, rest_hart}
use Rattle.nc_flat_plans.proofs.places.OwnRows.{either_true, either_false, of_either_true, of_either_false}
use Rattle.nc_flat_plans.proofs.places.Places.{IsUnder, its_id, its_loan, known, owned, pooled}
use Rattle.nc_flat_plans.proofs.drivers.Shifts.{sided, seen_mapped, IsShift}
use Rattle.nc_flat_plans.proofs.drivers.StepFrames.{driven, known_now}
use Rattle.nc_flat_plans.proofs.places.OwnPlaces.{to_come}

-- ---- the last step of a plan

-- a turn of the lot is its last, and settles it or not
pub last_settles : (id : LotId) (s : Step) → ends id s ≡ true → settling id (s ∷ []) ≡ settles_lot id s.last
last_settles id s on = ap (is_settling id) (cond-true (ends id s) (Some s) (find (ends id) []) on)

-- ---- before

-- it is being lent
lent_row : (sc : Scenario) (f : List ℕ) (w : WorldState) (h : HartNo) (m : MachineState) (lot : Lot) (i : ℕ) (e : Entry) (x v : ℕ) → IsUnder sc f w h lot → IsPlace lot i e x → lot.side ≡ sides.Lending → Row (book_of w) (owner_of w x) v m x
    → LentRow (book_of w) (its_id h lot i) (Some (its_loan w h lot i e)) v m x
lent_row sc f w h m lot i e x v u p side row =
    let a = book_of w in
    let n = its_id h lot i in
    let owner : owner_of w x ≡ Lending n = owned sc f w h lot i e x u p ∙ ap (owner_of_side n) side in
    let lent : LentRow a n (a.loan n) v m x = subst (λ (o : Owner). Row a o v m x) owner row in
    subst (λ (o : Option Loan). LentRow a n o v m x) (known sc f w h lot i e u p.entry) lent

-- it is allocated
pub allocating_as : (sc : Scenario) (f : List ℕ) (w : WorldState) (h : HartNo) (m : MachineState) (lot : Lot) (i : ℕ) (e : Entry) (x v : ℕ) (ahead : List QueueEntry) → IsUnder sc f w h lot → is_area lot.kind ≡ true → IsPlace lot i e x → lot.side ≡ sides.Lending
    → settling lot.id (driver_of w h.0).rest ≡ true → to_come h lot i (driver_of w h.0).rest ≡ ahead → Row (book_of w) (owner_of w x) v m x → AllocatingRow (its_id h lot i) v ahead m x
allocating_as sc f w h m lot i e x v ahead u area p side settles comes row =
    let lent = of_either_true (is_area lot.kind) _ _ area (lent_row sc f w h m lot i e x v u p side row) in
    subst (λ (es : List QueueEntry). AllocatingRow (its_id h lot i) v es m x) comes (of_either_true (settling lot.id (driver_of w h.0).rest) _ _ settles lent)

-- or given to its channel
pub giving_as : (sc : Scenario) (f : List ℕ) (w : WorldState) (h : HartNo) (m : MachineState) (lot : Lot) (i : ℕ) (e : Entry) (x v : ℕ) (ahead : List QueueEntry) → IsUnder sc f w h lot → is_area lot.kind ≡ true → IsPlace lot i e x → lot.side ≡ sides.Lending
    → settling lot.id (driver_of w h.0).rest ≡ false → to_come h lot i (driver_of w h.0).rest ≡ ahead → Row (book_of w) (owner_of w x) v m x → GivingRow (its_id h lot i) v ahead m x
giving_as sc f w h m lot i e x v ahead u area p side settles comes row =
    let lent = of_either_true (is_area lot.kind) _ _ area (lent_row sc f w h m lot i e x v u p side row) in
    subst (λ (es : List QueueEntry). GivingRow (its_id h lot i) v es m x) comes (of_either_false (settling lot.id (driver_of w h.0).rest) _ _ settles lent)

-- or taken back
pub taking_as : (sc : Scenario) (f : List ℕ) (w : WorldState) (h : HartNo) (m : MachineState) (lot : Lot) (i : ℕ) (e : Entry) (x v : ℕ) → IsUnder sc f w h lot → is_area lot.kind ≡ true → IsPlace lot i e x → lot.side ≡ sides.Returning → Row (book_of w) (owner_of w x) v m x
    → ThreadRow h.0 v m x
taking_as sc f w h m lot i e x v u area p side row =
    let a = book_of w in
    let n = its_id h lot i in
    let owner : owner_of w x ≡ Returning n = owned sc f w h lot i e x u p ∙ ap (owner_of_side n) side in
    let back : BackRow a n (a.loan n) v m x = subst (λ (o : Owner). Row a o v m x) owner row in
    of_either_true (is_area lot.kind) _ _ area (subst (λ (o : Option Loan). BackRow a n o v m x) (known sc f w h lot i e u p.entry) back)

-- ---- behind

pub as_allocating : (sc : Scenario) (f : List ℕ) (w : WorldState) (h : HartNo) (k : MachineState) (went : Went) (lot : Lot) (i : ℕ) (e : Entry) (x v : ℕ) (rest : List Step) → IsUnder sc f w h lot → is_area lot.kind ≡ true → IsPlace lot i e x → lot.side ≡ sides.Lending
    → IsShift w h went lot (sided lot.side) → went.driver.rest ≡ rest → settling lot.id rest ≡ true → AllocatingRow (its_id h lot i) v (to_come h lot i rest) k x → Row (book_of (gone w h k went)) (owner_of_side (its_id h lot i) lot.side) v k x
as_allocating sc f w h k went lot i e x v rest u area p side shift left settles row =
    let c = book_of (gone w h k went) in
    let n = its_id h lot i in
    let rests : c.rest h.0 ≡ rest = rest_hart w h k went h.0 (driven sc f w h lot u) refl ∙ left in
    let loan = known_now sc f w h k went lot (sided lot.side) i e u shift (seen_mapped n lot.side (inl side)) p.entry in
    let by : AllocatingRow n v (to_come h lot i (c.rest h.0)) k x = subst (λ (r : List Step). AllocatingRow n v (to_come h lot i r) k x) (sym rests) row in
    let so : settling lot.id (c.rest h.0) ≡ true = ap (settling lot.id) rests ∙ settles in
    let now : LentRow c n (Some (its_loan w h lot i e)) v k x = either_true (is_area lot.kind) _ _ area (either_true (settling lot.id (c.rest h.0)) _ _ so by) in
    subst (λ (s : Side). Row c (owner_of_side n s) v k x) (sym side) (subst (λ (o : Option Loan). LentRow c n o v k x) (sym loan) now)

pub as_giving : (sc : Scenario) (f : List ℕ) (w : WorldState) (h : HartNo) (k : MachineState) (went : Went) (lot : Lot) (i : ℕ) (e : Entry) (x v : ℕ) (rest : List Step) → IsUnder sc f w h lot → is_area lot.kind ≡ true → IsPlace lot i e x → lot.side ≡ sides.Lending
    → IsShift w h went lot (sided lot.side) → went.driver.rest ≡ rest → settling lot.id rest ≡ false → GivingRow (its_id h lot i) v (to_come h lot i rest) k x → Row (book_of (gone w h k went)) (owner_of_side (its_id h lot i) lot.side) v k x
as_giving sc f w h k went lot i e x v rest u area p side shift left settles row =
    let c = book_of (gone w h k went) in
    let n = its_id h lot i in
    let rests : c.rest h.0 ≡ rest = rest_hart w h k went h.0 (driven sc f w h lot u) refl ∙ left in
    let loan = known_now sc f w h k went lot (sided lot.side) i e u shift (seen_mapped n lot.side (inl side)) p.entry in
    let by : GivingRow n v (to_come h lot i (c.rest h.0)) k x = subst (λ (r : List Step). GivingRow n v (to_come h lot i r) k x) (sym rests) row in
    let so : settling lot.id (c.rest h.0) ≡ false = ap (settling lot.id) rests ∙ settles in
    let now : LentRow c n (Some (its_loan w h lot i e)) v k x = either_true (is_area lot.kind) _ _ area (either_false (settling lot.id (c.rest h.0)) _ _ so by) in
    subst (λ (s : Side). Row c (owner_of_side n s) v k x) (sym side) (subst (λ (o : Option Loan). LentRow c n o v k x) (sym loan) now)

-- it may be held while it is allocated
pub may_hold : (sc : Scenario) (f : List ℕ) (w : WorldState) (h : HartNo) (k : MachineState) (went : Went) (lot : Lot) (i : ℕ) (e : Entry) (x : ℕ) (rest : List Step) → IsUnder sc f w h lot → is_area lot.kind ≡ true → IsPlace lot i e x → lot.side ≡ sides.Lending
    → IsShift w h went lot (sided lot.side) → went.driver.rest ≡ rest → settling lot.id rest ≡ true → MayBeHeld (book_of (gone w h k went)) (owner_of_side (its_id h lot i) lot.side)
may_hold sc f w h k went lot i e x rest u area p side shift left settles =
    let c = book_of (gone w h k went) in
    let n = its_id h lot i in
    let rests : c.rest h.0 ≡ rest = rest_hart w h k went h.0 (driven sc f w h lot u) refl ∙ left in
    let loan = known_now sc f w h k went lot (sided lot.side) i e u shift (seen_mapped n lot.side (inl side)) p.entry in
    subst (λ (s : Side). MayBeHeld c (owner_of_side n s)) (sym side) (subst (λ (o : Option Loan). IsAllocating c n o) (sym loan) (area, ap (settling lot.id) rests ∙ settles))

-- its places are the pool's, with its mapping known
pub area_is_pooled : (sc : Scenario) (f : List ℕ) (w : WorldState) (h : HartNo) (k : MachineState) (went : Went) (lot : Lot) (i : ℕ) (e : Entry) (x : ℕ) (o : Owner) → is_area lot.kind ≡ true → IsPlace lot i e x
    → (book_of (gone w h k went)).loan (its_id h lot i) ≡ Some (its_loan w h lot i e) → IsPooled (book_of (gone w h k went)) o x
area_is_pooled sc f w h k went lot i e x o area p loan = inr (record { id = its_id h lot i; loan = its_loan w h lot i e; lent = loan; area = area; on = p.on })

-- ---- copies

-- a place of the area in hand is one of the machine's pool
machine_pooled : (sc : Scenario) (f : List ℕ) (w : WorldState) (h : HartNo) (lot : Lot) (i : ℕ) (e : Entry) (x : ℕ) → IsUnder sc f w h lot → is_area lot.kind ≡ true → IsPlace lot i e x → covers w.machine.pool x ≡ true
machine_pooled sc f w h lot i e x u area p = ap (λ (r : Span). covers r x) u.flat.world.of_scenario.pool ∙ pooled sc f w h lot i e x u area p

-- it is not held, but while it is allocated
pub unheld_lent : (sc : Scenario) (f : List ℕ) (w : WorldState) (h : HartNo) (lot : Lot) (i : ℕ) (e : Entry) (x : ℕ) → IsUnder sc f w h lot → is_area lot.kind ≡ true → IsPlace lot i e x → lot.side ≡ sides.Lending → settling lot.id (driver_of w h.0).rest ≡ false → NotHeld w.machine x
unheld_lent sc f w h lot i e x u area p side settles =
    let a = book_of w in
    let n = its_id h lot i in
    pool_unheld sc f w x u.flat (machine_pooled sc f w h lot i e x u area p) (λ may.
    let lent : MayBeHeld a (Lending n) = subst (λ (o : Owner). MayBeHeld a o) (owned sc f w h lot i e x u p ∙ ap (owner_of_side n) side) may in
    let is : IsAllocating a n (Some (its_loan w h lot i e)) = subst (λ (o : Option Loan). IsAllocating a n o) (known sc f w h lot i e u p.entry) lent in
    both_ways (settling lot.id (driver_of w h.0).rest) settles is.1)

pub unheld_back : (sc : Scenario) (f : List ℕ) (w : WorldState) (h : HartNo) (lot : Lot) (i : ℕ) (e : Entry) (x : ℕ) → IsUnder sc f w h lot → is_area lot.kind ≡ true → IsPlace lot i e x → lot.side ≡ sides.Returning → NotHeld w.machine x
unheld_back sc f w h lot i e x u area p side =
    pool_unheld sc f w x u.flat (machine_pooled sc f w h lot i e x u area p) (λ may. subst (λ (o : Owner). MayBeHeld (book_of w) o) (owned sc f w h lot i e x u p ∙ ap (owner_of_side (its_id h lot i)) side) may)

-- ---- an area that is nobody's again

-- without a write no byte is queued
unwritten_line : (s x : ℕ) (q : List QueueEntry) → list_any is_w q ≡ false → list_any (gives_at s x) (line q []) ≡ false
unwritten_line s x [] none = refl
unwritten_line s x (entries.Store span bytes kind ∷ q) none = absurd cc
unwritten_line s x (entries.Cbo block op ∷ q) none = absurd cc
unwritten_line s x (entries.Reg chan off width value ∷ q) none = unwritten_line s x q none
unwritten_line s x (entries.Mail buf to ∷ q) none = unwritten_line s x q none
unwritten_line s x (entries.Lend label first count ∷ q) none = unwritten_line s x q none
unwritten_line s x (entries.Mark pred succ ∷ q) none = unwritten_line s x q none

-- memory has each byte that its hart saw, where no copy is and no write is queued
pub nobodys : (m : MachineState) (n : MapId) (v x : ℕ) → list_any is_w (queue_of m n.hart.0) ≡ false → NotHeld m x → ThreadRow n.hart.0 v m x → PoolRow v m x
nobodys m n v x none free row =
    rows_plan.given m n v x [] none free (record { buffer = row; covered = covered-none (gives_here m x) is_wo (names n) (line (queue_of m n.hart.0) []) (unwritten_line m.size x (queue_of m n.hart.0) none) })
