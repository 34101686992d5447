-- The full fence of an area's plan: the area is its hart's, or its channel's, or nobody's.
use Rattle.std.specs.Prelude.{Option, Some, true, false}
use Rattle.std.specs.List.{list_any}
use Rattle.std.proofs.Common.{◌≡◌, ℕ, List, [], ◌∷◌, refl, sym, ap, ◌∙◌, inl, inr, subst}
use Rattle.std.proofs.lemmas.Bool.{or_left, cond-true}
use Rattle.nc_num.specs.Memory.{byte}
use Rattle.nc_num.specs.declared.names.HartNo.{HartNo}
use Rattle.nc_num.specs.declared.names.MapId.{MapId}
use Rattle.nc_num.specs.declared.places.Span.{Span}
use Rattle.nc_plan.specs.Plans.{full}
use Rattle.nc_queue.specs.Entries.{is_w}
use Rattle.nc_queue.specs.declared.entry.Entry.TheVariants as entries
use Rattle.nc_model.specs.declared.owners.Owner.{Owner}
use Rattle.nc_model.specs.declared.owners.Owner.TheVariants.{Thread, Pool}
use Rattle.nc_ops.specs.declared.ops.Op.{Op}
use Rattle.nc_scen.specs.declared.events.Event.TheVariants as events
use Rattle.nc_scen.specs.declared.scenario.Scenario.{Scenario}
use Rattle.nc_sg.specs.declared.list.Entry.{Entry}
use Rattle.nc_rules.specs.declared.lots.Lot.{Lot}
use Rattle.nc_rules.specs.declared.lots.Side.{Side}
use Rattle.nc_rules.specs.declared.lots.Side.TheVariants as sides
use Rattle.nc_rules.specs.declared.steps.Step.{Step}
use Rattle.nc_rules.specs.declared.steps.Turn.{Turn}
use Rattle.nc_rules.specs.declared.steps.Turn.TheVariants as turns
use Rattle.nc_rules.specs.Lots.{is_wanted, owner_of_side}
use Rattle.nc_rules.specs.Turns.{is_area, last_owner, set_side, of_those, to_side, lots_after, transfers_of}
use Rattle.nc_rules.specs.Plans.{turning, hart_step}
use Rattle.nc_rules.specs.Machine.{hart_of, queue_of}
use Rattle.nc_rules.specs.Driver.{Went}
use Rattle.nc_rules.specs.EventTouches.{owner_of}
use Rattle.nc_rules.specs.World.{WorldState, driver_of}
use Rattle.nc_calls.specs.PlaceLaws.{NotHeld}
use Rattle.nc_rows.specs.Ahead.{turns_lot, gives_lot, settles_lot, settling, act_coming, token}
use Rattle.nc_rows.specs.Parts.{rest_last}
use Rattle.nc_rows.specs.Places.{ThreadRow}
use Rattle.nc_rows.specs.Rows.{Loan, DeviceRow, Row}
use Rattle.nc_row_plans.proofs.PlanEnds.{rows_plan}
use Rattle.nc_flatness.specs.Books.{book_of, IsPooled}
use Rattle.nc_flatness.specs.Plans.{IsSettle, IsAreaGive, IsTakeBack}
use Rattle.nc_flatness.specs.Steps.{Goes}
use Rattle.nc_flatness.proofs.worlds.Outcomes.{gone}
use Rattle.nc_flatness.proofs.plans.Rests.{by_turn}
use Rattle.nc_flat_starts.proofs.turning.Frames.{IsPlace, rewrites_none, goes_still, loan_hart, last_none}
use Rattle.nc_flat_plans.proofs.places.OwnRows.{either_true}
use Rattle.nc_flat_plans.proofs.drivers.Drivers.{IsNext, IsDone, stay_lots, stay_transfers, done_so, same_id}
use Rattle.nc_flat_plans.proofs.drivers.OwnCopies.{channels_stay}
use Rattle.nc_flat_plans.proofs.places.Places.{IsUnder, lends_under, back_under, its_id, its_loan, known, in_ram, unslotted, area_alone}
use Rattle.nc_flat_plans.proofs.drivers.Shifts.{sided, IsShift, side_loans, side_shift, end_shift}
use Rattle.nc_flat_plans.proofs.drivers.StepFrames.{driven, behind_bytes}
use Rattle.nc_flat_plans.proofs.drivers.StepQueues.{queue_clear}
use Rattle.nc_flat_plans.proofs.drivers.StepSeen.{area_unseen}
use Rattle.nc_flat_plans.proofs.places.OwnPlaces.{to_come}
use Rattle.nc_flat_plans.proofs.areas.AreaRows.{last_settles, allocating_as, giving_as, taking_as, area_is_pooled, unheld_lent, unheld_back, nobodys}
use Rattle.nc_flat_plans.proofs.operations.Backs.{turn_comes}
use Rattle.nc_flat_plans.proofs.operations.Fences.{fence_event, fence_tokens, given_comes}
use Rattle.nc_flat_plans.proofs.drivers.Issues.{IsOpNext, op_may, emptied, went_by}

-- ---- the full fence

-- it is the plan's last step, and makes this turn of an area
record IsFence (sc : Scenario) (f : List ℕ) (w : WorldState) (h : HartNo) (o : Op) (s : Step) (rest : List Step) (lot : Lot) (turn : Turn) : Type 0 where
  op : IsOpNext sc f w h o full s rest
  under : IsUnder sc f w h lot
  area : is_area lot.kind ≡ true
  over : rest ≡ []
  first : s.first ≡ turns.Stay
  last : s.last ≡ turn

fence_so : (sc : Scenario) (f : List ℕ) (w : WorldState) (h : HartNo) (o : Op) (s : Step) (rest : List Step) (lot : Lot) (turn : Turn) → IsNext sc f w h o s rest → IsUnder sc f w h lot
    → is_area lot.kind ≡ true → s ≡ turning turn (hart_step full) → rest ≡ [] → IsFence sc f w h o s rest lot turn
fence_so sc f w h o s rest lot turn next under area step over = record {
  op = record { next = next; act = ap (λ (t : Step). t.act) step };
  under = under;
  area = area;
  over = over;
  first = ap (λ (t : Step). t.first) step;
  last = ap (λ (t : Step). t.last) step;
}

-- nothing is queued
fence_empty : (sc : Scenario) (f : List ℕ) (w : WorldState) (h : HartNo) (o : Op) (s : Step) (rest : List Step) (lot : Lot) (turn : Turn) → IsFence sc f w h o s rest lot turn
    → list_any is_w (queue_of w.machine h.0) ≡ false
fence_empty sc f w h o s rest lot turn k = emptied w h (op_may sc f w h o full s rest k.op)

-- where it gives nothing it is alone to come
fence_comes : (sc : Scenario) (f : List ℕ) (w : WorldState) (h : HartNo) (o : Op) (s : Step) (rest : List Step) (lot : Lot) (turn : Turn) (i : ℕ) → IsFence sc f w h o s rest lot turn
    → turns_lot lot.id turn ≡ true → gives_lot lot.id turn ≡ false → to_come h lot i (driver_of w h.0).rest ≡ entries.Mark 15 15 ∷ []
fence_comes sc f w h o s rest lot turn i k turns gives =
    ap (λ (r : List Step). to_come h lot i r) (k.op.next.rest_is ∙ ap (λ (r : List Step). s ∷ r) k.over)
    ∙ turn_comes (its_id h lot i) lot.id s [] (ap (turns_lot lot.id) k.last ∙ turns) (ap (gives_lot lot.id) k.last ∙ gives) ∙ ap act_coming k.op.act

-- whether the plan settles the area
fence_settles : (sc : Scenario) (f : List ℕ) (w : WorldState) (h : HartNo) (o : Op) (s : Step) (rest : List Step) (lot : Lot) (turn : Turn) → IsFence sc f w h o s rest lot turn
    → turns_lot lot.id turn ≡ true → settling lot.id (driver_of w h.0).rest ≡ settles_lot lot.id turn
fence_settles sc f w h o s rest lot turn k turns =
    ap (settling lot.id) (k.op.next.rest_is ∙ ap (λ (r : List Step). s ∷ r) k.over)
    ∙ last_settles lot.id s (or_left (turns_lot lot.id s.last) _ (ap (turns_lot lot.id) k.last ∙ turns)) ∙ ap (settles_lot lot.id) k.last

-- ---- behind it

fence_done : (sc : Scenario) (f : List ℕ) (w : WorldState) (h : HartNo) (o : Op) (s : Step) (rest : List Step) (lot : Lot) (turn : Turn) → IsFence sc f w h o s rest lot turn
    → IsDone (driver_of w h.0) s rest (went_by w h full)
fence_done sc f w h o s rest lot turn k = done_so sc f w h o s rest _ k.op.next refl refl

fence_lots : (sc : Scenario) (f : List ℕ) (w : WorldState) (h : HartNo) (o : Op) (s : Step) (rest : List Step) (lot : Lot) (turn : Turn) → IsFence sc f w h o s rest lot turn
    → (went_by w h full).driver.lots ≡ lots_after turn (driver_of w h.0).lots
fence_lots sc f w h o s rest lot turn k =
    stay_lots (driver_of w h.0) s rest (went_by w h full) (fence_done sc f w h o s rest lot turn k) k.first ∙ ap (λ (t : Turn). lots_after t (driver_of w h.0).lots) k.last

fence_moves : (sc : Scenario) (f : List ℕ) (w : WorldState) (h : HartNo) (o : Op) (s : Step) (rest : List Step) (lot : Lot) (turn : Turn) → IsFence sc f w h o s rest lot turn
    → (went_by w h full).moves.transfers ≡ transfers_of (driver_of w h.0).fixed.me (driver_of w h.0).lots turn
fence_moves sc f w h o s rest lot turn k =
    let d = driver_of w h.0 in
    stay_transfers d s rest (went_by w h full) (fence_done sc f w h o s rest lot turn k) k.first ∙ ap {B = List (Span × Owner)} (λ (t : Turn). transfers_of d.fixed.me d.lots t) k.last

-- the places of the area have this owner
record IsFenced (f : List ℕ) (w : WorldState) (h : HartNo) (lot : Lot) (to : MapId → Owner) : Type 0 where
  shift : IsShift w h (went_by w h full) lot to
  row : (i : ℕ) (e : Entry) (x : ℕ) → IsPlace lot i e x → Row (book_of w) (owner_of w x) (byte f x) w.machine x → Row (book_of (gone w h w.machine (went_by w h full))) (to (its_id h lot i)) (byte f x) w.machine x
  pooled : (i : ℕ) (e : Entry) (x : ℕ) → IsPlace lot i e x → IsPooled (book_of (gone w h w.machine (went_by w h full))) (to (its_id h lot i)) x
  free : (i : ℕ) (e : Entry) (x : ℕ) → IsPlace lot i e x → NotHeld w.machine x

area_fenced : (sc : Scenario) (f : List ℕ) (w : WorldState) (h : HartNo) (o : Op) (s : Step) (rest : List Step) (lot : Lot) (turn : Turn) (to : MapId → Owner) → IsFence sc f w h o s rest lot turn
    → IsFenced f w h lot to → Goes sc f w (events.Issue h)
area_fenced sc f w h o s rest lot turn to k c =
    let m = w.machine in
    let went = went_by w h full in
    let v = gone w h m went in
    let u = k.under in
    let done = fence_done sc f w h o s rest lot turn k in
    fence_event sc f w h o s rest k.op
    (behind_bytes sc f f w h o s rest m went lot to k.op.next done u c.shift (rewrites_none sc f w h lot) (goes_still sc f w h u.flat.bytes) (record {
      passes = λ x b there off beyond still row. row;
      waits = λ x there off beyond at row. absurd (area_alone sc f w h lot x u k.area at);
      row = c.row;
      channels = channels_stay m h.0;
      same = λ plain. refl;
      queue = queue_clear (book_of v) (owner_of v) m.pool m.size h.0 (queue_of m h.0) (fence_empty sc f w h o s rest lot turn k);
      lasting = last_none (book_of v) f h.0 (hart_of m h.0).last (rest_last went.driver.rest) (ap rest_last (done.rest ∙ k.over));
      calm = λ z slot unseen. u.flat.bytes.calm z slot (area_unseen sc f w h m went lot to z u k.area c.shift slot unseen);
      pooled = λ i e x p on. c.pooled i e x p;
      tokens = fence_tokens sc f w h o s rest k.op done k.first;
      free = λ i e x p on. inl (c.free i e x p);
    }))

-- an area that gets this side keeps its mapping
side_fenced : (sc : Scenario) (f : List ℕ) (w : WorldState) (h : HartNo) (o : Op) (s : Step) (rest : List Step) (lot : Lot) (turn : Turn) (side : Side) → IsFence sc f w h o s rest lot turn
    → is_wanted side ≡ false
    → lots_after turn (driver_of w h.0).lots ≡ set_side side lot.id (driver_of w h.0).lots
    → transfers_of (driver_of w h.0).fixed.me (driver_of w h.0).lots turn ≡ of_those (to_side (driver_of w h.0).fixed.me side) lot.id (driver_of w h.0).lots
    → ((i : ℕ) (e : Entry) (x : ℕ) → IsPlace lot i e x → (book_of (gone w h w.machine (went_by w h full))).loan (its_id h lot i) ≡ Some (its_loan w h lot i e) → Row (book_of w) (owner_of w x) (byte f x) w.machine x
    → Row (book_of (gone w h w.machine (went_by w h full))) (owner_of_side (its_id h lot i) side) (byte f x) w.machine x)
    → ((i : ℕ) (e : Entry) (x : ℕ) → IsPlace lot i e x → NotHeld w.machine x) → Goes sc f w (events.Issue h)
side_fenced sc f w h o s rest lot turn side k now lots moves row free =
    let m = w.machine in
    let went = went_by w h full in
    let u = k.under in
    let done = fence_done sc f w h o s rest lot turn k in
    let lots_so = fence_lots sc f w h o s rest lot turn k ∙ lots in
    let its : (i : ℕ) (e : Entry) (x : ℕ) → IsPlace lot i e x → (book_of (gone w h m went)).loan (its_id h lot i) ≡ Some (its_loan w h lot i e) =
    λ i e x p. loan_hart w h m went (its_id h lot i) (driven sc f w h lot u) refl ∙ side_loans sc f w h went lot side u now done.fixed lots_so (its_id h lot i) ∙ known sc f w h lot i e u p.entry in
    area_fenced sc f w h o s rest lot turn (sided side) k (record {
      shift = side_shift sc f w h went lot side u now done.fixed lots_so (fence_moves sc f w h o s rest lot turn k ∙ moves);
      row = λ i e x p was. row i e x p (its i e x p) was;
      pooled = λ i e x p. area_is_pooled sc f w h m went lot i e x _ k.area p (its i e x p);
      free = free;
    })

-- the hart's own
own_row : (w : WorldState) (h : HartNo) (went : Went) (lot : Lot) (i x v : ℕ) → ThreadRow h.0 v w.machine x → Row (book_of (gone w h w.machine went)) (owner_of_side (its_id h lot i) sides.Own) v w.machine x
own_row w h went lot i x v row = row

-- ---- an area that was allocated is its hart's

pub settled_goes : (sc : Scenario) (f : List ℕ) (w : WorldState) (h : HartNo) (o : Op) (s : Step) (rest : List Step) → IsNext sc f w h o s rest → IsSettle (driver_of w h.0).fixed (driver_of w h.0).lots s rest → Goes sc f w (events.Issue h)
settled_goes sc f w h o s rest next is =
    let m = w.machine in
    let lot = is.lot in
    let turn = turns.Settle lot.id in
    let area = is.hand.area_is in
    let u = lends_under sc f w h o s rest lot true next is.hand (by_turn lot.id s rest turn (ap (λ (t : Step). t.last) is.step) (same_id lot.id)) in
    let k = fence_so sc f w h o s rest lot turn next u area is.step is.over in
    let settles : settling lot.id (driver_of w h.0).rest ≡ true = fence_settles sc f w h o s rest lot turn k (same_id lot.id) ∙ same_id lot.id in
    let both : (i : ℕ) (e : Entry) (x : ℕ) → IsPlace lot i e x → Row (book_of w) (owner_of w x) (byte f x) m x → ThreadRow h.0 (byte f x) m x × NotHeld m x =
    λ i e x p row.
    rows_plan.allocated m (its_id h lot i) (byte f x) x (fence_empty sc f w h o s rest lot turn k)
    (allocating_as sc f w h m lot i e x (byte f x) (entries.Mark 15 15 ∷ []) u area p is.hand.side_is settles (fence_comes sc f w h o s rest lot turn i k (same_id lot.id) refl) row) in
    side_fenced sc f w h o s rest lot turn sides.Own k refl refl refl (λ i e x p known row. own_row w h (went_by w h full) lot i x (byte f x) (both i e x p row).0)
    (λ i e x p. (both i e x p (u.flat.bytes.rows x (in_ram sc f w h lot i e x u p) (unslotted sc f w h lot i e x u p))).1)

-- ---- an area is its channel's

pub area_given_goes : (sc : Scenario) (f : List ℕ) (w : WorldState) (h : HartNo) (o : Op) (s : Step) (rest : List Step) → IsNext sc f w h o s rest → IsAreaGive (driver_of w h.0).fixed (driver_of w h.0).lots s rest → Goes sc f w (events.Issue h)
area_given_goes sc f w h o s rest next is =
    let d = driver_of w h.0 in
    let m = w.machine in
    let lot = is.lot in
    let turn = turns.Give lot.id in
    let area = is.hand.area_is in
    let u = lends_under sc f w h o s rest lot true next is.hand (by_turn lot.id s rest turn (ap (λ (t : Step). t.last) is.step) (same_id lot.id)) in
    let k = fence_so sc f w h o s rest lot turn next u area is.step is.over in
    let settles : settling lot.id d.rest ≡ false = fence_settles sc f w h o s rest lot turn k (same_id lot.id) in
    let free : (i : ℕ) (e : Entry) (x : ℕ) → IsPlace lot i e x → NotHeld m x = λ i e x p. unheld_lent sc f w h lot i e x u area p is.hand.side_is settles in
    side_fenced sc f w h o s rest lot turn sides.Device k refl refl refl
    (λ i e x p known row.
    let n = its_id h lot i in
    let ahead = entries.Mark 15 15 ∷ token n ∷ [] in
    let comes : to_come h lot i d.rest ≡ ahead = ap (λ (r : List Step). to_come h lot i r) (next.rest_is ∙ ap (λ (r : List Step). s ∷ r) is.over) ∙ given_comes n lot.id s [] is.step in
    let pool = rows_plan.given m n (byte f x) x ahead (fence_empty sc f w h o s rest lot turn k) (free i e x p)
    (giving_as sc f w h m lot i e x (byte f x) ahead u area p is.hand.side_is settles comes row) in
    subst (λ (l : Option Loan). DeviceRow n l (byte f x) m x) (sym known) (either_true (is_area lot.kind) _ _ area pool))
    free

-- ---- an area has come back

pub taken_goes : (sc : Scenario) (f : List ℕ) (w : WorldState) (h : HartNo) (o : Op) (s : Step) (rest : List Step) → IsNext sc f w h o s rest → IsTakeBack (driver_of w h.0).fixed (driver_of w h.0).lots s rest → Goes sc f w (events.Issue h)
taken_goes sc f w h o s rest next is =
    let m = w.machine in
    let lot = is.lot in
    let went = went_by w h full in
    let area = is.hand.area_is in
    let u : IsUnder sc f w h lot = back_under sc f w h o s rest lot true next is.hand in
    let makes : (turn : Turn) → is.turn ≡ turn → IsFence sc f w h o s rest lot turn =
    λ turn same. fence_so sc f w h o s rest lot turn next u area (is.step ∙ ap (λ (t : Turn). turning t (hart_step full)) same) is.over in
    let free : (i : ℕ) (e : Entry) (x : ℕ) → IsPlace lot i e x → NotHeld m x = λ i e x p. unheld_back sc f w h lot i e x u area p is.hand.side_is in
    let thread : (i : ℕ) (e : Entry) (x : ℕ) → IsPlace lot i e x → Row (book_of w) (owner_of w x) (byte f x) m x → ThreadRow h.0 (byte f x) m x = λ i e x p row. taking_as sc f w h m lot i e x (byte f x) u area p is.hand.side_is row in
    elim is.is_back [
      | inl settle ↦
          side_fenced sc f w h o s rest lot (turns.Settle lot.id) sides.Own (makes (turns.Settle lot.id) settle) refl refl refl (λ i e x p known row. own_row w h went lot i x (byte f x) (thread i e x p row)) free
      | inr end ↦
          let turn = turns.End lot.id in
          let k = makes turn end in
          let shift : IsShift w h went lot (λ n. last_owner h lot) =
          end_shift sc f w h went lot u (fence_done sc f w h o s rest lot turn k).fixed (fence_lots sc f w h o s rest lot turn k) (fence_moves sc f w h o s rest lot turn k) in
          area_fenced sc f w h o s rest lot turn (λ n. Pool) k (record {
            shift = subst (λ (p : Owner). IsShift w h went lot (λ n. p)) (cond-true (is_area lot.kind) Pool (Thread h) area) shift;
            row = λ i e x p row. nobodys m (its_id h lot i) (byte f x) x (fence_empty sc f w h o s rest lot turn k) (free i e x p) (thread i e x p row);
            pooled = λ i e x p. inl refl;
            free = free;
          })
    ]
