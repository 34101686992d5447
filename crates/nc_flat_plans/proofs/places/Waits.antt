-- An end of a copy goes along while the plan is of the other: its row goes on as far as the plan does.
use Rattle.std.specs.Prelude.{Option, Some, ◌||◌, ◌/◌, Bool, true, false}
use Rattle.std.specs.List.{list_any}
use Rattle.std.proofs.Common.{◌≡◌, ℕ, List, [], ◌∷◌, ◌++◌, refl, sym, ap, ◌∙◌, inl, inr, subst}
use Rattle.std.proofs.lemmas.Bool.{both_ways, or_parts}
use Rattle.nc_num.specs.Memory.{byte}
use Rattle.nc_num.specs.declared.names.Dir.{Dir}
use Rattle.nc_num.specs.declared.names.HartNo.{HartNo}
use Rattle.nc_num.specs.declared.names.MapId.{MapId}
use Rattle.nc_queue.specs.Entries.{is_w, writes_back}
use Rattle.nc_queue.specs.Laws.{Stands, Covered}
use Rattle.nc_queue.specs.declared.entry.Entry.{Entry}
use Rattle.nc_queue.specs.declared.entry.Entry.TheVariants as entries
use Rattle.nc_lines.specs.Lines.{bare, line, Marked}
use Rattle.nc_model.specs.declared.owners.Owner.{Owner}
use Rattle.nc_model.specs.declared.owners.Owner.TheVariants.{Lending}
use Rattle.nc_ops.specs.declared.ops.Op.{Op}
use Rattle.nc_scen.specs.declared.scenario.Scenario.{Scenario}
use Rattle.nc_rules.specs.declared.lots.Lot.{Lot}
use Rattle.nc_rules.specs.declared.lots.LotId.{LotId}
use Rattle.nc_rules.specs.declared.steps.Step.{Step}
use Rattle.nc_rules.specs.Lots.{owner_of_side}
use Rattle.nc_rules.specs.Machine.{MachineState, queue_of}
use Rattle.nc_rules.specs.Driver.{Went}
use Rattle.nc_rules.specs.EventTouches.{owner_of}
use Rattle.nc_rules.specs.World.{WorldState, driver_of}
use Rattle.nc_rows.specs.Ahead.{ends, names, act_coming, coming}
use Rattle.nc_rows.specs.Rows.{Loan, device_place, back, gives_here, gives_block, LendingRow, LentRow, Row}
use Rattle.nc_row_moves.proofs.Tests.{op_w, gives_w, in_w}
use Rattle.nc_row_issues.specs.Laws.{Enters, NoByte}
use Rattle.nc_flatness.specs.Books.{loan_of, book_of}
use Rattle.nc_flatness.specs.Plans.{HasEnd}
use Rattle.nc_flatness.proofs.worlds.Outcomes.{gone}
use Rattle.nc_flatness.proofs.books.Seen.{seen, seen_lent}
use Rattle.nc_flat_starts.proofs.turning.Frames.{loan_hart, rest_hart}
use Rattle.nc_flat_plans.proofs.places.OwnRows.{LentAs, dir_map, lent_put, either_false, of_either_false}
use Rattle.nc_flat_plans.proofs.drivers.Drivers.{IsNext, IsDone, coming_next}
use Rattle.nc_flat_plans.proofs.places.Places.{IsUnder, WaitsAt, far_entry}
use Rattle.nc_flat_plans.proofs.drivers.Shifts.{IsShift}
use Rattle.nc_flat_plans.proofs.drivers.StepFrames.{driven}

-- ---- a full fence of the plan goes off its line, where no write is queued

bare_w : (e : Entry) → is_w (bare e) ≡ is_w e
bare_w (entries.Store span bytes kind) = refl
bare_w (entries.Cbo block op) = refl
bare_w (entries.Reg chan off width value) = refl
bare_w (entries.Mail buf to) = refl
bare_w (entries.Lend label first count) = refl
bare_w (entries.Mark pred succ) = refl

-- a test of writes alone
abbrev IsOfWrites : (Entry → Bool) → Type 0
IsOfWrites p = (e : Entry) → p e ≡ true → is_w e ≡ true

off_w : (p : Entry → Bool) (e : Entry) → IsOfWrites p → is_w e ≡ false → p (bare e) ≡ true → ⊥
off_w p e writes none on = both_ways (is_w e) none (sym (bare_w e) ∙ writes (bare e) on)

stands_off : (w t : Entry → Bool) (q ahead : List Entry) → w (entries.Mark 15 15) ≡ false → Stands w t (line q (entries.Mark 15 15 ∷ ahead)) → Stands w t (line q ahead)
stands_off w t [] ahead off (inl here) = absurd (both_ways (w (entries.Mark 15 15)) off here)
stands_off w t [] ahead off (inr later) = later.1
stands_off w t (e ∷ q) ahead off (inl here) = inl here
stands_off w t (e ∷ q) ahead off (inr later) = inr (later.0, stands_off w t q ahead off later.1)

any_off : (p : Entry → Bool) (q ahead : List Entry) → p (entries.Mark 15 15) ≡ false → list_any p (line q (entries.Mark 15 15 ∷ ahead)) ≡ list_any p (line q ahead)
any_off p [] ahead off = ap (λ (b : Bool). b || list_any p ahead) off
any_off p (e ∷ q) ahead off = ap (λ (b : Bool). p (bare e) || b) (any_off p q ahead off)

covered_off : (p w t : Entry → Bool) (q ahead : List Entry) → IsOfWrites p → p (entries.Mark 15 15) ≡ false → list_any is_w q ≡ false → Covered p w t (line q (entries.Mark 15 15 ∷ ahead)) → Covered p w t (line q ahead)
covered_off p w t [] ahead writes off none covered = covered.2
covered_off p w t (e ∷ q) ahead writes off none covered =
    let parts = or_parts (is_w e) (list_any is_w q) none in
    (λ on. absurd (off_w p e writes parts.0 on), λ is. sym (any_off p q ahead off) ∙ covered.1 is, covered_off p w t q ahead writes off parts.1 covered.2)

marked_off : (w t : Entry → Bool) (q ahead : List Entry) → IsOfWrites w → t (entries.Mark 15 15) ≡ false → list_any is_w q ≡ false → Marked w t (line q (entries.Mark 15 15 ∷ ahead)) → Marked w t (line q ahead)
marked_off w t [] ahead writes off none (inl here) = absurd (both_ways (t (entries.Mark 15 15)) off here)
marked_off w t [] ahead writes off none (inr later) = later.1
marked_off w t (e ∷ q) ahead writes off none (inl here) = inl here
marked_off w t (e ∷ q) ahead writes off none (inr later) =
    let parts = or_parts (is_w e) (list_any is_w q) none in
    inr (λ on. absurd (off_w w e writes parts.0 on), marked_off w t q ahead writes off parts.1 later.1)

back_writes : (m : MachineState) (y : ℕ) → IsOfWrites (back m y)
back_writes m y e on = op_w writes_back (y / m.size) e on

lending_off : (p : Entry → Bool) (S : Type 0) (n : MapId) (v x y : ℕ) (ahead : List Entry) (m : MachineState) → IsOfWrites p → p (entries.Mark 15 15) ≡ false → list_any is_w (queue_of m n.hart.0) ≡ false → LendingRow p S n v (entries.Mark 15 15 ∷ ahead) m x y → LendingRow p S n v ahead m x y
lending_off p S n v x y ahead m writes off none row =
    let q = queue_of m n.hart.0 in
    record {
      buffer = row.buffer;
      slot = elim row.slot [
        | inl direct ↦ inl direct
        | inr slot ↦ inr (record { unstored = slot.unstored; stored = slot.stored })
      ];
      behind = covered_off p (back m y) (names n) q ahead writes off none row.behind;
      marked = marked_off (back m y) (names n) q ahead (back_writes m y) refl none row.marked;
      settled = λ never. row.settled (λ stands. never (stands_off (back m y) (names n) q ahead refl stands));
    }

pub lent_off : (dir : Dir) (n : MapId) (v x y : ℕ) (ahead : List Entry) (m : MachineState) → list_any is_w (queue_of m n.hart.0) ≡ false → LentAs dir n v (entries.Mark 15 15 ∷ ahead) m x y → LentAs dir n v ahead m x y
lent_off dir n v x y ahead m none row =
    dir_map dir _ _ _ _ (λ d to. lending_off (gives_here m y) _ n v x y ahead m (λ e on. gives_w m.size y e on) refl none to)
    (λ d from. record { lending = lending_off (gives_block m y) _ n v x y ahead m (λ e on. in_w m.size (y / m.size) e on) refl none from.lending; alone = from.alone })
    row

-- ---- its row, before a step and behind it

-- what is to come of it
abbrev pub waits_for : (w : WorldState) (h : HartNo) (lot : Lot) (x : ℕ) → WaitsAt w h lot x → List Step → List Entry
waits_for w h lot x at rest = coming at.id at.other.at.is.lot.id rest

-- and where the channel is to see it
abbrev pub waits_place : (w : WorldState) (h : HartNo) (lot : Lot) (x : ℕ) → WaitsAt w h lot x → ℕ
waits_place w h lot x at = device_place at.other.at.loan x

abbrev pub WaitsAs : (w : WorldState) (h : HartNo) (lot : Lot) (x : ℕ) → WaitsAt w h lot x → ℕ → List Entry → MachineState → Type 0
WaitsAs w h lot x at v ahead m = LentAs at.other.at.loan.grant.dir at.id v ahead m x (waits_place w h lot x at)

waits_owner : (w : WorldState) (h : HartNo) (lot : Lot) (x : ℕ) → (at : WaitsAt w h lot x) → owner_of w x ≡ Lending at.id
waits_owner w h lot x at = at.other.at.owner ∙ ap (owner_of_side at.id) at.lends

-- it is seen there
pub waits_seen : (w : WorldState) (h : HartNo) (lot : Lot) (x : ℕ) → (at : WaitsAt w h lot x) → seen w x ≡ waits_place w h lot x at
waits_seen w h lot x at = seen_lent w at.id at.other.at.loan x at.other.at.known (inl (waits_owner w h lot x at))

waits_plain : (w : WorldState) (h : HartNo) (lot : Lot) (x : ℕ) → (at : WaitsAt w h lot x) → at.other.at.loan.area ≡ false
waits_plain w h lot x at = at.other.at.is.area ∙ at.plain

pub waits_as : (w : WorldState) (h : HartNo) (lot : Lot) (x v : ℕ) (m : MachineState) (steps : List Step) → (at : WaitsAt w h lot x) → (driver_of w h.0).rest ≡ steps → Row (book_of w) (owner_of w x) v m x → WaitsAs w h lot x at v (waits_for w h lot x at steps) m
waits_as w h lot x v m steps at rest_is row =
    let a = book_of w in
    let n = at.id in
    let it = at.other.at in
    let y = device_place it.loan x in
    let lent : LentRow a n (a.loan n) v m x = subst (λ (o : Owner). Row a o v m x) (waits_owner w h lot x at) row in
    let now : LentRow a n (Some it.loan) v m x = subst (λ (o : Option Loan). LentRow a n o v m x) it.known lent in
    let comes : coming n it.loan.lot (a.rest n.hart.0) ≡ coming n it.is.lot.id steps =
    ap (λ (id : LotId). coming n id (a.rest n.hart.0)) it.is.lot_is ∙ ap (λ (g : ℕ). coming n it.is.lot.id (driver_of w g).rest) at.own ∙ ap (coming n it.is.lot.id) rest_is in
    subst (λ (es : List Entry). LentAs it.loan.grant.dir n v es m x y) comes (of_either_false it.loan.area _ _ (waits_plain w h lot x at) now)

pub as_waits : (sc : Scenario) (f : List ℕ) (w : WorldState) (h : HartNo) (k : MachineState) (went : Went) (lot : Lot) (to : MapId → Owner) (x v : ℕ) (rest : List Step) → IsUnder sc f w h lot → IsShift w h went lot to → went.driver.rest ≡ rest → (at : WaitsAt w h lot x)
    → WaitsAs w h lot x at v (waits_for w h lot x at rest) k → Row (book_of (gone w h k went)) (owner_of w x) v k x
as_waits sc f w h k went lot to x v rest u shift left at row =
    let c = book_of (gone w h k went) in
    let n = at.id in
    let it = at.other.at in
    let y = device_place it.loan x in
    let lt = driven sc f w h lot u in
    let loan : c.loan n ≡ Some it.loan = loan_hart w h k went n lt at.own ∙ shift.others n (far_entry sc f w h lot n x u at.other) ∙ ap (λ (g : ℕ). loan_of (driver_of w g) n) (sym at.own) ∙ it.known in
    let comes : coming n it.is.lot.id rest ≡ coming n it.loan.lot (c.rest n.hart.0) = ap (λ (id : LotId). coming n id rest) (sym it.is.lot_is) ∙ sym (ap (coming n it.loan.lot) (rest_hart w h k went n.hart.0 lt at.own ∙ left)) in
    let by : LentAs it.loan.grant.dir n v (coming n it.loan.lot (c.rest n.hart.0)) k x y = subst (λ (es : List Entry). LentAs it.loan.grant.dir n v es k x y) comes row in
    let now : LentRow c n (Some it.loan) v k x = either_false it.loan.area _ _ (waits_plain w h lot x at) by in
    subst (λ (o : Owner). Row c o v k x) (sym (waits_owner w h lot x at)) (subst (λ (o : Option Loan). LentRow c n o v k x) (sym loan) now)

-- what the step puts goes off in front
pub waits_comes : (sc : Scenario) (f : List ℕ) (w : WorldState) (h : HartNo) (o : Op) (s : Step) (rest : List Step) (lot : Lot) (x : ℕ) → IsNext sc f w h o s rest → (at : WaitsAt w h lot x) → ends at.other.at.is.lot.id s ≡ false
    → waits_for w h lot x at (s ∷ rest) ≡ act_coming s.act ++ waits_for w h lot x at rest
waits_comes sc f w h o s rest lot x next at plain =
    let it = at.other.at.is.lot in
    let later : HasEnd it.id rest = sym (ap (λ (b : Bool). b || list_any (ends it.id) rest) plain) ∙ ap (list_any (ends it.id)) (sym next.rest_is) ∙ at.later in
    coming_next it at.id s rest later plain

-- ---- an entry of the plan's

pub waits_put : (sc : Scenario) (f : List ℕ) (w : WorldState) (h : HartNo) (o : Op) (s : Step) (rest : List Step) (k : MachineState) (went : Went) (lot : Lot) (to : MapId → Owner) (e : Entry) (x : ℕ) → IsNext sc f w h o s rest → IsDone (driver_of w h.0) s rest went → IsUnder sc f w h lot
    → IsShift w h went lot to → Enters w.machine k h.0 e → act_coming s.act ≡ bare e ∷ [] → (at : WaitsAt w h lot x) → ends at.other.at.is.lot.id s ≡ false → NoByte w.machine e x → NoByte w.machine e (waits_place w h lot x at)
    → Row (book_of w) (owner_of w x) (byte f x) w.machine x → Row (book_of (gone w h k went)) (owner_of w x) (byte f x) k x
waits_put sc f w h o s rest k went lot to e x next done u shift by entry at plain none beyond row =
    let n = at.id in
    let dir = at.other.at.loan.grant.dir in
    let v = byte f x in
    let y = waits_place w h lot x at in
    let ahead = waits_for w h lot x at rest in
    let comes : waits_for w h lot x at (s ∷ rest) ≡ bare e ∷ ahead = waits_comes sc f w h o s rest lot x next at plain ∙ ap (λ (es : List Entry). es ++ ahead) entry in
    let was : LentAs dir n v (bare e ∷ ahead) w.machine x y = subst (λ (es : List Entry). LentAs dir n v es w.machine x y) comes (waits_as w h lot x v w.machine (s ∷ rest) at next.rest_is row) in
    as_waits sc f w h k went lot to x v rest u shift done.rest at (lent_put dir w.machine k e n v x y ahead (subst (λ (g : ℕ). Enters w.machine k g e) (sym at.own) by) none (inr (inl beyond)) was)

-- a step that puts nothing
pub waits_none : (sc : Scenario) (f : List ℕ) (w : WorldState) (h : HartNo) (o : Op) (s : Step) (rest : List Step) (k : MachineState) (went : Went) (lot : Lot) (to : MapId → Owner) (x v : ℕ) → IsNext sc f w h o s rest → IsDone (driver_of w h.0) s rest went → IsUnder sc f w h lot
    → IsShift w h went lot to → act_coming s.act ≡ [] → (at : WaitsAt w h lot x) → ends at.other.at.is.lot.id s ≡ false → Row (book_of w) (owner_of w x) v k x → Row (book_of (gone w h k went)) (owner_of w x) v k x
waits_none sc f w h o s rest k went lot to x v next done u shift entry at plain row =
    let ahead = waits_for w h lot x at rest in
    let comes : waits_for w h lot x at (s ∷ rest) ≡ ahead = waits_comes sc f w h o s rest lot x next at plain ∙ ap (λ (es : List Entry). es ++ ahead) entry in
    as_waits sc f w h k went lot to x v rest u shift done.rest at
    (subst (λ (es : List Entry). WaitsAs w h lot x at v es k) comes (waits_as w h lot x v k (s ∷ rest) at next.rest_is row))

-- a full fence
pub waits_fence : (sc : Scenario) (f : List ℕ) (w : WorldState) (h : HartNo) (o : Op) (s : Step) (rest : List Step) (went : Went) (lot : Lot) (to : MapId → Owner) (x v : ℕ) → IsNext sc f w h o s rest → IsDone (driver_of w h.0) s rest went → IsUnder sc f w h lot
    → IsShift w h went lot to → act_coming s.act ≡ entries.Mark 15 15 ∷ [] → list_any is_w (queue_of w.machine h.0) ≡ false → (at : WaitsAt w h lot x) → ends at.other.at.is.lot.id s ≡ false
    → Row (book_of w) (owner_of w x) v w.machine x → Row (book_of (gone w h w.machine went)) (owner_of w x) v w.machine x
waits_fence sc f w h o s rest went lot to x v next done u shift entry none at plain row =
    let n = at.id in
    let dir = at.other.at.loan.grant.dir in
    let y = waits_place w h lot x at in
    let ahead = waits_for w h lot x at rest in
    let comes : waits_for w h lot x at (s ∷ rest) ≡ entries.Mark 15 15 ∷ ahead = waits_comes sc f w h o s rest lot x next at plain ∙ ap (λ (es : List Entry). es ++ ahead) entry in
    as_waits sc f w h w.machine went lot to x v rest u shift done.rest at
    (lent_off dir n v x y ahead w.machine (ap (λ (g : ℕ). list_any is_w (queue_of w.machine g)) at.own ∙ none)
    (subst (λ (es : List Entry). LentAs dir n v es w.machine x y) comes (waits_as w h lot x v w.machine (s ∷ rest) at next.rest_is row)))
