-- A step of a plan: what stands in its hart's queue is as its book wants it.
use Rattle.std.specs.Prelude.{Some, All, ◌/◌, true, false}
use Rattle.std.specs.List.{list_any}
use Rattle.std.proofs.Common.{◌≡◌, ℕ, List, [], ◌∷◌, refl, sym, ap, ◌∙◌, inl, inr, subst}
use Rattle.std.proofs.lemmas.Bool.{both_ways, or_parts, false_from_ne_true}
use Rattle.std.proofs.lemmas.List.Elements.{All-nil, All-cons, All-append}
use Rattle.nc_num.specs.declared.names.HartNo.{HartNo}
use Rattle.nc_num.specs.declared.names.MapId.{MapId}
use Rattle.nc_num.specs.declared.places.Span.{Span}
use Rattle.nc_plan.specs.Plans.{In}
use Rattle.nc_plan.specs.Parts.{comes_back}
use Rattle.nc_queue.specs.Entries.{is_w}
use Rattle.nc_queue.specs.declared.entry.Entry.{Entry as QueueEntry}
use Rattle.nc_queue.specs.declared.entry.Entry.TheVariants as entries
use Rattle.nc_model.specs.declared.owners.Owner.{Owner}
use Rattle.nc_model.specs.declared.owners.Owner.TheVariants.{Thread, Lending, Device, Returning, Synced}
use Rattle.nc_scen.specs.declared.scenario.Scenario.{Scenario}
use Rattle.nc_sg.specs.declared.list.Entry.{Entry}
use Rattle.nc_rules.specs.declared.lots.Lot.{Lot}
use Rattle.nc_rules.specs.declared.lots.LotId.{LotId}
use Rattle.nc_rules.specs.declared.lots.Side.{Side}
use Rattle.nc_rules.specs.declared.lots.Side.TheVariants as sides
use Rattle.nc_rules.specs.declared.steps.Step.{Step}
use Rattle.nc_rules.specs.Lots.{DriverConfig, owner_of_side}
use Rattle.nc_rules.specs.Machine.{MachineState, queue_of}
use Rattle.nc_rules.specs.Turns.{is_area}
use Rattle.nc_rules.specs.Driver.{Went}
use Rattle.nc_rules.specs.EventTouches.{owner_of}
use Rattle.nc_rules.specs.World.{WorldState, driver_of}
use Rattle.nc_scripts.proofs.Lists.{all_to}
use Rattle.nc_rows.specs.Ahead.{same_lot, ends, is_full, settling, coming}
use Rattle.nc_rows.specs.Rows.{Loan, Book, device_place}
use Rattle.nc_rows.specs.Parts.{IsDropped, IsZeroed, IsQueued}
use Rattle.nc_row_issues.specs.Laws.{Enters}
use Rattle.nc_flatness.specs.Books.{is_entry_of, loan_of, book_of, mapping_in}
use Rattle.nc_flatness.specs.Flatness.{Flatness}
use Rattle.nc_flatness.specs.Plans.{IsStill, StillDevice, StillSynced, StillOwn, StillSent, IsBeside}
use Rattle.nc_flatness.proofs.worlds.Outcomes.{gone}
use Rattle.nc_flatness.proofs.books.Loans.{one_lot, one_of, own_entry, get_below, loan_is}
use Rattle.nc_flatness.proofs.plans.Rests.{turn_name}
use Rattle.nc_flatness.proofs.books.Owned.{owned_ram}
use Rattle.nc_flatness.proofs.books.BookReads.{entry_to}
use Rattle.nc_flat_starts.proofs.turning.Frames.{IsPlace, IsOff, On, Off, somewhere, loan_hart, rest_hart}
use Rattle.nc_flat_plans.proofs.drivers.Drivers.{IsDone, settling_next}
use Rattle.nc_flat_plans.proofs.places.Places.{IsMoving, IsUnder, lent_side, its_id, its_loan, its_place, known, owned, mapping_of, beside}
use Rattle.nc_flat_plans.proofs.drivers.Shifts.{sided, seen_mapped, IsShift, IsStay, stay_owner, stay_loans}
use Rattle.nc_flat_plans.proofs.drivers.StepFrames.{driven, known_now}

-- ---- the queue of the hart

-- a block that the hart drops is one of the lot in hand
pub record IsOwnDrop (w : WorldState) (h : HartNo) (lot : Lot) (s : Step) (rest : List Step) (b : ℕ) : Type 0 where
  pub i : ℕ
  pub entry : Entry
  pub place : ℕ
  pub on : IsPlace lot i entry place
  pub side : lot.side ≡ sides.Returning
  pub back : comes_back lot.list.dir ≡ true
  pub ahead : list_any is_full (coming (its_id h lot i) lot.id (s ∷ rest)) ≡ true
  pub here : its_place w h lot i entry place / w.machine.size ≡ b

hart_by : (n k : MapId) (side : Side) → IsMoving side → owner_of_side n side ≡ Returning k → n ≡ k
hart_by n k side (inl is) owner = let both : Lending n ≡ Returning k = sym (ap (owner_of_side n) is) ∙ owner in absurd (cc)
hart_by n k side (inr (inl is)) owner = let both : Returning n ≡ Returning k = sym (ap (owner_of_side n) is) ∙ owner in cc
hart_by n k side (inr (inr is)) owner = let both : Device n ≡ Returning k = sym (ap (owner_of_side n) is) ∙ owner in absurd (cc)

back_side : (n k : MapId) (side : Side) → IsMoving side → owner_of_side n side ≡ Returning k → side ≡ sides.Returning
back_side n k side (inl is) owner = let both : Lending n ≡ Returning k = sym (ap (owner_of_side n) is) ∙ owner in absurd (cc)
back_side n k side (inr (inl is)) owner = is
back_side n k side (inr (inr is)) owner = let both : Device n ≡ Returning k = sym (ap (owner_of_side n) is) ∙ owner in absurd (cc)

still_back : (f : DriverConfig) (n : MapId) (lot : Lot) → owner_of_side n lot.side ≡ Returning n → IsStill f lot → ⊥
still_back f n lot owner (StillDevice is) = let both : Device n ≡ Returning n = sym (ap (owner_of_side n) is) ∙ owner in absurd (cc)
still_back f n lot owner (StillSynced is kind) = let both : Synced n ≡ Returning n = sym (ap (owner_of_side n) is) ∙ owner in absurd (cc)
still_back f n lot owner (StillOwn is kind) = let both : Thread n.hart ≡ Returning n = sym (ap (owner_of_side n) is) ∙ owner in absurd (cc)
still_back f n lot owner (StillSent is light) = let both : Lending n ≡ Returning n = sym (ap (owner_of_side n) is) ∙ owner in absurd (cc)

beside_back : (f : DriverConfig) (n : MapId) (lot other : Lot) → owner_of_side n other.side ≡ Returning n → IsBeside f lot other → ⊥
beside_back f n lot other owner (inl still) = still_back f n other owner still
beside_back f n lot other owner (inr waits) = let both : Lending n ≡ Returning n = sym (ap (owner_of_side n) waits.waits) ∙ owner in absurd (cc)

pub own_drop : (sc : Scenario) (f : List ℕ) (w : WorldState) (h : HartNo) (lot : Lot) (s : Step) (rest : List Step) (b : ℕ) → IsUnder sc f w h lot → (driver_of w h.0).rest ≡ s ∷ rest → IsDropped (book_of w) (owner_of w) w.machine.size h.0 b
    → IsOwnDrop w h lot s rest b
own_drop sc f w h lot s rest b u rest_is is =
    let x = is.place in
    let mapped : mapping_in (owner_of w x) ≡ Some is.id = ap mapping_in is.owned in
    let there = owned_ram sc f w x is.id u.flat mapped in
    elim (somewhere lot x) [
      | On i e p ↦
          let n = its_id h lot i in
          let owner : owner_of_side n lot.side ≡ Returning is.id = sym (owned sc f w h lot i e x u p) ∙ is.owned in
          let same : n ≡ is.id = hart_by n is.id lot.side u.moves owner in
          let lent : (book_of w).loan n ≡ Some is.loan = ap (λ (j : MapId). (book_of w).loan j) same ∙ is.lent in
          let loan : its_loan w h lot i e ≡ is.loan = let both = sym (known sc f w h lot i e u p.entry) ∙ lent in cc in
          record {
            i = i;
            entry = e;
            place = x;
            on = p;
            side = back_side n is.id lot.side u.moves owner;
            back = ap (λ (l : Loan). comes_back l.grant.dir) loan ∙ is.back;
            ahead = ap (λ (r : List Step). list_any is_full (coming n lot.id r)) (sym rest_is) ∙ ap (λ (j : MapId). list_any is_full (coming j lot.id (driver_of w j.hart.0).rest)) same
                ∙ ap (λ (l : Loan). list_any is_full (coming is.id l.lot (driver_of w is.id.hart.0).rest)) loan ∙ is.ahead;
            here = ap (λ (l : Loan). device_place l x / w.machine.size) loan ∙ is.here;
          }
      | Off off ↦
          let o = beside sc f w h lot is.id x u there off mapped is.own in
          absurd (beside_back (driver_of w h.0).fixed is.id lot o.at.is.lot (sym o.at.owner ∙ is.owned) o.way)
    ]

-- a step with no turn, of which no entry is a full fence
pub stays_dropped : (sc : Scenario) (f : List ℕ) (w : WorldState) (h : HartNo) (k : MachineState) (went : Went) (lot : Lot) (s : Step) (rest : List Step) (b : ℕ) → IsUnder sc f w h lot → (driver_of w h.0).rest ≡ s ∷ rest → went.driver.rest ≡ rest
    → IsShift w h went lot (sided lot.side) → ((i : ℕ) → list_any is_full (coming (its_id h lot i) lot.id (s ∷ rest)) ≡ true → list_any is_full (coming (its_id h lot i) lot.id rest) ≡ true)
    → IsDropped (book_of w) (owner_of w) w.machine.size h.0 b → IsDropped (book_of (gone w h k went)) (owner_of (gone w h k went)) w.machine.size h.0 b
stays_dropped sc f w h k went lot s rest b u rest_is left shift ahead is =
    let o = own_drop sc f w h lot s rest b u rest_is is in
    let n = its_id h lot o.i in
    let lt = driven sc f w h lot u in
    record {
      id = n;
      loan = its_loan w h lot o.i o.entry;
      lent = known_now sc f w h k went lot (sided lot.side) o.i o.entry u shift (seen_mapped n lot.side (inr (inr o.side))) o.on.entry;
      own = refl;
      back = o.back;
      ahead = ap (λ (r : List Step). list_any is_full (coming n lot.id r)) (rest_hart w h k went h.0 lt refl ∙ left) ∙ ahead o.i o.ahead;
      place = o.place;
      owned = shift.on o.i o.entry o.place o.on ∙ ap (owner_of_side n) o.side;
      here = o.here;
    }

-- a block of an area that is zeroed stays one, where no step ends its stay
pub stays_zeroed : (sc : Scenario) (f : List ℕ) (w : WorldState) (h : HartNo) (k : MachineState) (went : Went) (lot : Lot) (s : Step) (rest : List Step) (b : ℕ) → IsUnder sc f w h lot → (driver_of w h.0).rest ≡ s ∷ rest → IsDone (driver_of w h.0) s rest went
    → IsStay s → ((id : LotId) → ends id s ≡ false) → IsZeroed (book_of w) (owner_of w) w.machine.size h.0 b → IsZeroed (book_of (gone w h k went)) (owner_of (gone w h k went)) w.machine.size h.0 b
stays_zeroed sc f w h k went lot s rest b u rest_is done stay plain is =
    let lt = driven sc f w h lot u in
    let own : is.id.hart.0 ≡ h.0 = is.own in
    record {
      id = is.id;
      loan = is.loan;
      lent = loan_hart w h k went is.id lt own ∙ stay_loans (driver_of w h.0) s rest went done stay is.id ∙ ap (λ (g : ℕ). loan_of (driver_of w g) is.id) (sym own) ∙ is.lent;
      own = is.own;
      area = is.area;
      ahead = ap (λ (r : List Step). settling is.loan.lot r) (rest_hart w h k went is.id.hart.0 lt own ∙ done.rest) ∙ sym (settling_next is.loan.lot s rest (plain is.loan.lot))
          ∙ ap (λ (r : List Step). settling is.loan.lot r) (sym rest_is ∙ ap (λ (g : ℕ). (driver_of w g).rest) (sym own)) ∙ is.ahead;
      owned = λ x here. stay_owner (driver_of w h.0) w s rest went x done stay ∙ is.owned x here;
    }

-- one of another lot stays, whatever becomes of a mapping that is in hand
pub other_zeroed : (sc : Scenario) (f : List ℕ) (w : WorldState) (h : HartNo) (k : MachineState) (went : Went) (lot : Lot) (to : MapId → Owner) (s : Step) (rest : List Step) (b : ℕ) → IsUnder sc f w h lot → is_area lot.kind ≡ false → (driver_of w h.0).rest ≡ s ∷ rest → went.driver.rest ≡ rest
    → IsShift w h went lot to → ((id : LotId) → same_lot id lot.id ≡ false → ends id s ≡ false) → IsZeroed (book_of w) (owner_of w) w.machine.size h.0 b → IsZeroed (book_of (gone w h k went)) (owner_of (gone w h k went)) w.machine.size h.0 b
other_zeroed sc f w h k went lot to s rest b u plain rest_is left shift ends_one is =
    let lt = driven sc f w h lot u in
    let own : is.id.hart.0 ≡ h.0 = is.own in
    let loan = loan_is sc f w is.id is.loan u.flat is.lent in
    let here : In loan.lot (driver_of w h.0).lots = subst (λ (g : ℕ). In loan.lot (driver_of w g).lots) own loan.here.lot_in in
    let other : loan.lot ≡ lot → ⊥ = λ same. both_ways (is_area lot.kind) plain (ap (λ (l : Lot). is_area l.kind) (sym same) ∙ sym loan.area ∙ is.area) in
    let far : is_entry_of is.id lot ≡ false = false_from_ne_true (is_entry_of is.id lot) (λ too. other (one_of sc f w h.0 is.id loan.lot lot u.flat here u.here loan.entry_of too)) in
    let off : same_lot is.loan.lot lot.id ≡ false = ap (λ (id : LotId). same_lot id lot.id) loan.lot_is ∙ false_from_ne_true (same_lot loan.lot.id lot.id) (λ same. other (one_lot sc f w h.0 loan.lot lot u.flat here u.here (turn_name loan.lot.id lot.id same))) in
    let beyond : (x : ℕ) → owner_of w x ≡ Lending is.id → IsOff lot x = λ x owner i e p.
    let both : Some (its_id h lot i) ≡ Some is.id = sym (mapping_of sc f w h lot i e x u p) ∙ ap mapping_in owner in
    let same : its_id h lot i ≡ is.id = cc in
    both_ways (is_entry_of is.id lot) far (subst (λ (n : MapId). is_entry_of n lot ≡ true) same (own_entry h.0 lot i (get_below lot.list.entries i e p.entry) (lent_side lot u.moves))) in
    record {
      id = is.id;
      loan = is.loan;
      lent = loan_hart w h k went is.id lt own ∙ shift.others is.id far ∙ ap (λ (g : ℕ). loan_of (driver_of w g) is.id) (sym own) ∙ is.lent;
      own = is.own;
      area = is.area;
      ahead = ap (λ (r : List Step). settling is.loan.lot r) (rest_hart w h k went is.id.hart.0 lt own ∙ left) ∙ sym (settling_next is.loan.lot s rest (ends_one is.loan.lot off))
          ∙ ap (λ (r : List Step). settling is.loan.lot r) (sym rest_is ∙ ap (λ (g : ℕ). (driver_of w g).rest) (sym own)) ∙ is.ahead;
      owned = λ x met. shift.off x (beyond x (is.owned x met)) ∙ is.owned x met;
    }

-- the entries that exist
pub queue_stays : (sc : Scenario) (f : List ℕ) (w : WorldState) (h : HartNo) (k : MachineState) (went : Went) → Flatness sc f w
    → ((b : ℕ) → IsDropped (book_of w) (owner_of w) w.machine.size h.0 b → IsDropped (book_of (gone w h k went)) (owner_of (gone w h k went)) w.machine.size h.0 b)
    → ((b : ℕ) → IsZeroed (book_of w) (owner_of w) w.machine.size h.0 b → IsZeroed (book_of (gone w h k went)) (owner_of (gone w h k went)) w.machine.size h.0 b)
    → All (IsQueued (book_of (gone w h k went)) (owner_of (gone w h k went)) w.machine.pool w.machine.size h.0) (queue_of w.machine h.0)
queue_stays sc f w h k went flat drops zeroes =
    let m = w.machine in
    let v = gone w h k went in
    all_to (IsQueued (book_of w) (owner_of w) m.pool m.size h.0) (IsQueued (book_of v) (owner_of v) m.pool m.size h.0) (queue_of m h.0) (flat.bytes.queued h.0)
    (λ e is. entry_to (book_of w) (book_of v) (owner_of w) (owner_of v) m.pool m.size h.0 e drops zeroes is)

-- and with one more
pub queue_more : (a : Book) (owner : ℕ → Owner) (m k : MachineState) (h : ℕ) (e : QueueEntry) → Enters m k h e → IsQueued a owner m.pool m.size h e → All (IsQueued a owner m.pool m.size h) (queue_of m h) → All (IsQueued a owner k.pool k.size h) (queue_of k h)
queue_more a owner m k h e by is all =
    rw (by.shape.pool, by.shape.size)
    (subst (λ (q : List QueueEntry). All (IsQueued a owner m.pool m.size h) q) (sym by.pushes.queues.own)
    (All-append (IsQueued a owner m.pool m.size h) (queue_of m h) (e ∷ []) all (All-cons (IsQueued a owner m.pool m.size h) e [] is (All-nil (IsQueued a owner m.pool m.size h)))))

-- or none that writes
unwritten : (c : Book) (owner : ℕ → Owner) (pool : Span) (s h : ℕ) (e : QueueEntry) → is_w e ≡ false → IsQueued c owner pool s h e
unwritten c owner pool s h (entries.Store span bytes kind) is = absurd cc
unwritten c owner pool s h (entries.Cbo block op) is = absurd cc
unwritten c owner pool s h (entries.Reg chan off width value) is = tt
unwritten c owner pool s h (entries.Mail buf to) is = tt
unwritten c owner pool s h (entries.Lend label first count) is = tt
unwritten c owner pool s h (entries.Mark pred succ) is = tt

pub queue_clear : (c : Book) (owner : ℕ → Owner) (pool : Span) (s h : ℕ) (q : List QueueEntry) → list_any is_w q ≡ false → All (IsQueued c owner pool s h) q
queue_clear c owner pool s h [] none = All-nil (IsQueued c owner pool s h)
queue_clear c owner pool s h (e ∷ q) none =
    let parts = or_parts (is_w e) (list_any is_w q) none in
    All-cons (IsQueued c owner pool s h) e q (unwritten c owner pool s h e parts.0) (queue_clear c owner pool s h q parts.1)
