-- The row of a place of the lot in hand, by what is still to come of its plan, before a step and behind it.
use Rattle.std.specs.Prelude.{Option, Some, Bool, true, false}
use Rattle.std.proofs.Common.{◌≡◌, ℕ, List, refl, sym, ap, ◌∙◌, inl, inr, subst}
use Rattle.nc_num.specs.declared.names.Dir.{Dir}
use Rattle.nc_num.specs.declared.names.HartNo.{HartNo}
use Rattle.nc_num.specs.declared.names.MapId.{MapId}
use Rattle.nc_queue.specs.declared.entry.Entry.{Entry as QueueEntry}
use Rattle.nc_model.specs.declared.owners.Owner.{Owner}
use Rattle.nc_model.specs.declared.owners.Owner.TheVariants.{Thread, Lending, Device, Returning, Synced}
use Rattle.nc_scen.specs.declared.scenario.Scenario.{Scenario}
use Rattle.nc_sg.specs.declared.list.Entry.{Entry}
use Rattle.nc_rules.specs.declared.lots.Lot.{Lot}
use Rattle.nc_rules.specs.declared.lots.Side.{Side}
use Rattle.nc_rules.specs.declared.lots.Side.TheVariants as sides
use Rattle.nc_rules.specs.declared.steps.Step.{Step}
use Rattle.nc_rules.specs.Lots.{owner_of_side}
use Rattle.nc_rules.specs.Machine.{MachineState}
use Rattle.nc_rules.specs.Driver.{Went}
use Rattle.nc_rules.specs.Turns.{is_area}
use Rattle.nc_rules.specs.EventTouches.{owner_of}
use Rattle.nc_rules.specs.World.{WorldState, driver_of}
use Rattle.nc_rules.specs.View.{view}
use Rattle.nc_rows.specs.Ahead.{coming}
use Rattle.nc_rows.specs.Places.{ThreadRow}
use Rattle.nc_rows.specs.Rows.{Loan, LentRow, DeviceRow, BackRow, SyncedRow, Row}
use Rattle.nc_flatness.specs.Books.{book_of}
use Rattle.nc_flatness.proofs.worlds.Outcomes.{gone}
use Rattle.nc_flat_starts.proofs.turning.Frames.{IsPlace, rest_hart}
use Rattle.nc_flat_plans.proofs.places.OwnRows.{LentAs, GivenAs, BackAs, dir_end, either_false, of_either_false}
use Rattle.nc_flat_plans.proofs.places.Places.{IsUnder, its_id, its_loan, its_place, known, owned}
use Rattle.nc_flat_plans.proofs.drivers.Shifts.{sided, seen_mapped, IsShift}
use Rattle.nc_flat_plans.proofs.drivers.StepFrames.{driven, known_now}

-- what is to come of a mapping of it
abbrev pub to_come : HartNo → Lot → ℕ → List Step → List QueueEntry
to_come h lot i rest = coming (its_id h lot i) lot.id rest

-- ---- before

-- it is being lent
pub lent_as : (sc : Scenario) (f : List ℕ) (w : WorldState) (h : HartNo) (m : MachineState) (lot : Lot) (i : ℕ) (e : Entry) (x v : ℕ) (ahead : List QueueEntry) → IsUnder sc f w h lot → is_area lot.kind ≡ false → IsPlace lot i e x → lot.side ≡ sides.Lending → to_come h lot i (driver_of w h.0).rest ≡ ahead
    → Row (book_of w) (owner_of w x) v m x → LentAs lot.list.dir (its_id h lot i) v ahead m x (its_place w h lot i e x)
lent_as sc f w h m lot i e x v ahead u plain p side comes row =
    let a = book_of w in
    let n = its_id h lot i in
    let owner : owner_of w x ≡ Lending n = owned sc f w h lot i e x u p ∙ ap (owner_of_side n) side in
    let lent : LentRow a n (a.loan n) v m x = subst (λ (o : Owner). Row a o v m x) owner row in
    let now : LentRow a n (Some (its_loan w h lot i e)) v m x = subst (λ (o : Option Loan). LentRow a n o v m x) (known sc f w h lot i e u p.entry) lent in
    subst (λ (es : List QueueEntry). LentAs lot.list.dir n v es m x (its_place w h lot i e x)) comes (of_either_false (is_area lot.kind) _ _ plain now)

-- or taken back
pub back_as : (sc : Scenario) (f : List ℕ) (w : WorldState) (h : HartNo) (m : MachineState) (lot : Lot) (i : ℕ) (e : Entry) (x v : ℕ) (ahead : List QueueEntry) → IsUnder sc f w h lot → is_area lot.kind ≡ false → IsPlace lot i e x → lot.side ≡ sides.Returning → to_come h lot i (driver_of w h.0).rest ≡ ahead
    → Row (book_of w) (owner_of w x) v m x → BackAs lot.list.dir (its_id h lot i) v ahead m x (its_place w h lot i e x)
back_as sc f w h m lot i e x v ahead u plain p side comes row =
    let a = book_of w in
    let n = its_id h lot i in
    let owner : owner_of w x ≡ Returning n = owned sc f w h lot i e x u p ∙ ap (owner_of_side n) side in
    let back : BackRow a n (a.loan n) v m x = subst (λ (o : Owner). Row a o v m x) owner row in
    let now : BackRow a n (Some (its_loan w h lot i e)) v m x = subst (λ (o : Option Loan). BackRow a n o v m x) (known sc f w h lot i e u p.entry) back in
    subst (λ (es : List QueueEntry). BackAs lot.list.dir n v es m x (its_place w h lot i e x)) comes (of_either_false (is_area lot.kind) _ _ plain now)

-- the byte is flat memory's
pub lent_byte : (dir : Dir) (n : MapId) (v : ℕ) (ahead : List QueueEntry) (m : MachineState) (x y : ℕ) → LentAs dir n v ahead m x y → view m n.hart.0 x ≡ v
lent_byte dir n v ahead m x y row = dir_end dir _ _ _ (λ to. to.buffer.shows) (λ from. from.lending.buffer.shows) row

-- ---- behind

-- what is to come is what its driver has left
left_now : (sc : Scenario) (f : List ℕ) (w : WorldState) (h : HartNo) (k : MachineState) (went : Went) (lot : Lot) (i : ℕ) (rest : List Step) → IsUnder sc f w h lot → went.driver.rest ≡ rest
    → to_come h lot i ((book_of (gone w h k went)).rest h.0) ≡ to_come h lot i rest
left_now sc f w h k went lot i rest u left = ap (λ (r : List Step). to_come h lot i r) (rest_hart w h k went h.0 (driven sc f w h lot u) refl ∙ left)

pub as_lent : (sc : Scenario) (f : List ℕ) (w : WorldState) (h : HartNo) (k : MachineState) (went : Went) (lot : Lot) (i : ℕ) (e : Entry) (x v : ℕ) (rest : List Step) → IsUnder sc f w h lot → is_area lot.kind ≡ false → IsPlace lot i e x → lot.side ≡ sides.Lending → IsShift w h went lot (sided lot.side)
    → went.driver.rest ≡ rest → LentAs lot.list.dir (its_id h lot i) v (to_come h lot i rest) k x (its_place w h lot i e x) → Row (book_of (gone w h k went)) (owner_of_side (its_id h lot i) lot.side) v k x
as_lent sc f w h k went lot i e x v rest u plain p side shift left row =
    let c = book_of (gone w h k went) in
    let n = its_id h lot i in
    let loan = known_now sc f w h k went lot (sided lot.side) i e u shift (seen_mapped n lot.side (inl side)) p.entry in
    let by : LentAs lot.list.dir n v (to_come h lot i (c.rest h.0)) k x (its_place w h lot i e x) = subst (λ (es : List QueueEntry). LentAs lot.list.dir n v es k x (its_place w h lot i e x)) (sym (left_now sc f w h k went lot i rest u left)) row in
    let now : LentRow c n (Some (its_loan w h lot i e)) v k x = either_false (is_area lot.kind) _ _ plain by in
    subst (λ (s : Side). Row c (owner_of_side n s) v k x) (sym side) (subst (λ (o : Option Loan). LentRow c n o v k x) (sym loan) now)

-- whatever it was before
pub as_taken : (sc : Scenario) (f : List ℕ) (w : WorldState) (h : HartNo) (k : MachineState) (went : Went) (lot : Lot) (i : ℕ) (e : Entry) (x v : ℕ) (rest : List Step) → IsUnder sc f w h lot → is_area lot.kind ≡ false → IsPlace lot i e x → IsShift w h went lot (sided sides.Returning)
    → went.driver.rest ≡ rest → BackAs lot.list.dir (its_id h lot i) v (to_come h lot i rest) k x (its_place w h lot i e x) → Row (book_of (gone w h k went)) (owner_of_side (its_id h lot i) sides.Returning) v k x
as_taken sc f w h k went lot i e x v rest u plain p shift left row =
    let c = book_of (gone w h k went) in
    let n = its_id h lot i in
    let loan = known_now sc f w h k went lot (sided sides.Returning) i e u shift (seen_mapped n sides.Returning (inr (inr refl))) p.entry in
    let by : BackAs lot.list.dir n v (to_come h lot i (c.rest h.0)) k x (its_place w h lot i e x) = subst (λ (es : List QueueEntry). BackAs lot.list.dir n v es k x (its_place w h lot i e x)) (sym (left_now sc f w h k went lot i rest u left)) row in
    let now : BackRow c n (Some (its_loan w h lot i e)) v k x = either_false (is_area lot.kind) _ _ plain by in
    subst (λ (o : Option Loan). BackRow c n o v k x) (sym loan) now

-- it is its channel's, before
pub given_as : (sc : Scenario) (f : List ℕ) (w : WorldState) (h : HartNo) (m : MachineState) (lot : Lot) (i : ℕ) (e : Entry) (x v : ℕ) → IsUnder sc f w h lot → is_area lot.kind ≡ false → IsPlace lot i e x → lot.side ≡ sides.Device → Row (book_of w) (owner_of w x) v m x
    → GivenAs lot.list.dir (its_id h lot i) v m x (its_place w h lot i e x)
given_as sc f w h m lot i e x v u plain p side row =
    let a = book_of w in
    let n = its_id h lot i in
    let owner : owner_of w x ≡ Device n = owned sc f w h lot i e x u p ∙ ap (owner_of_side n) side in
    let has : DeviceRow n (a.loan n) v m x = subst (λ (o : Owner). Row a o v m x) owner row in
    of_either_false (is_area lot.kind) _ _ plain (subst (λ (o : Option Loan). DeviceRow n o v m x) (known sc f w h lot i e u p.entry) has)

pub as_back : (sc : Scenario) (f : List ℕ) (w : WorldState) (h : HartNo) (k : MachineState) (went : Went) (lot : Lot) (i : ℕ) (e : Entry) (x v : ℕ) (rest : List Step) → IsUnder sc f w h lot → is_area lot.kind ≡ false → IsPlace lot i e x → lot.side ≡ sides.Returning → IsShift w h went lot (sided lot.side)
    → went.driver.rest ≡ rest → BackAs lot.list.dir (its_id h lot i) v (to_come h lot i rest) k x (its_place w h lot i e x) → Row (book_of (gone w h k went)) (owner_of_side (its_id h lot i) lot.side) v k x
as_back sc f w h k went lot i e x v rest u plain p side shift left row =
    let c = book_of (gone w h k went) in
    let n = its_id h lot i in
    let loan = known_now sc f w h k went lot (sided lot.side) i e u shift (seen_mapped n lot.side (inr (inr side))) p.entry in
    let by : BackAs lot.list.dir n v (to_come h lot i (c.rest h.0)) k x (its_place w h lot i e x) = subst (λ (es : List QueueEntry). BackAs lot.list.dir n v es k x (its_place w h lot i e x)) (sym (left_now sc f w h k went lot i rest u left)) row in
    let now : BackRow c n (Some (its_loan w h lot i e)) v k x = either_false (is_area lot.kind) _ _ plain by in
    subst (λ (s : Side). Row c (owner_of_side n s) v k x) (sym side) (subst (λ (o : Option Loan). BackRow c n o v k x) (sym loan) now)

-- it is its channel's
pub as_given : (sc : Scenario) (f : List ℕ) (w : WorldState) (h : HartNo) (k : MachineState) (went : Went) (lot : Lot) (i : ℕ) (e : Entry) (x v : ℕ) → IsUnder sc f w h lot → is_area lot.kind ≡ false → IsPlace lot i e x → IsShift w h went lot (sided sides.Device)
    → GivenAs lot.list.dir (its_id h lot i) v k x (its_place w h lot i e x) → Row (book_of (gone w h k went)) (owner_of_side (its_id h lot i) sides.Device) v k x
as_given sc f w h k went lot i e x v u plain p shift row =
    let n = its_id h lot i in
    let loan = known_now sc f w h k went lot (sided sides.Device) i e u shift (seen_mapped n sides.Device (inr (inl refl))) p.entry in
    subst (λ (o : Option Loan). DeviceRow n o v k x) (sym loan) (either_false (is_area lot.kind) _ _ plain row)

-- it is its hart's again, synced or not mapped any more
abbrev pub home_to : HartNo → Bool → MapId → Owner
home_to h true n = Synced n
home_to h false n = Thread h

pub as_home : (sc : Scenario) (f : List ℕ) (w : WorldState) (h : HartNo) (k : MachineState) (went : Went) (lot : Lot) (i : ℕ) (e : Entry) (x v : ℕ) (synced : Bool) → IsUnder sc f w h lot → IsPlace lot i e x → IsShift w h went lot (home_to h synced)
    → ThreadRow h.0 v k x → Row (book_of (gone w h k went)) (home_to h synced (its_id h lot i)) v k x
as_home sc f w h k went lot i e x v true u p shift row =
    let n = its_id h lot i in
    let loan = known_now sc f w h k went lot (home_to h true) i e u shift (λ none. absurd cc) p.entry in
    subst (λ (o : Option Loan). SyncedRow n o v k x) (sym loan) row
as_home sc f w h k went lot i e x v false u p shift row = row
