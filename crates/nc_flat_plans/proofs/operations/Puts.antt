-- A step of a plan with no turn that puts an entry in its hart's queue.
use Rattle.std.specs.Prelude.{None, true, false}
use Rattle.std.specs.List.{list_any}
use Rattle.std.proofs.Common.{◌≡◌, ◌⊎◌, ℕ, ◌<◌, List, [], ◌∷◌, ◌++◌, sym, ap, ◌∙◌, inl, inr, subst}
use Rattle.std.proofs.lemmas.Bool.{or_parts}
use Rattle.nc_num.specs.Memory.{byte}
use Rattle.nc_num.specs.Places.{covers}
use Rattle.nc_num.specs.declared.names.HartNo.{HartNo}
use Rattle.nc_queue.specs.declared.entry.Entry.{Entry as QueueEntry}
use Rattle.nc_lines.specs.Lines.{bare}
use Rattle.nc_ops.specs.declared.ops.Op.{Op}
use Rattle.nc_scen.specs.Regions.{slots_of}
use Rattle.nc_scen.specs.declared.scenario.Scenario.{Scenario}
use Rattle.nc_sg.specs.declared.list.Entry.{Entry}
use Rattle.nc_rules.specs.declared.lots.Lot.{Lot}
use Rattle.nc_rules.specs.declared.lots.LotId.{LotId}
use Rattle.nc_rules.specs.declared.lots.Side.TheVariants as sides
use Rattle.nc_rules.specs.declared.steps.Step.{Step}
use Rattle.nc_rules.specs.Lots.{owner_of_side}
use Rattle.nc_rules.specs.Machine.{MachineState, hart_of}
use Rattle.nc_rules.specs.Turns.{is_area}
use Rattle.nc_rules.specs.Driver.{Went}
use Rattle.nc_rules.specs.EventTouches.{owner_of}
use Rattle.nc_rules.specs.World.{WorldState, driver_of}
use Rattle.nc_rows.specs.Ahead.{turns_lot, stores_io, tokens_lot, ends, is_full, act_coming}
use Rattle.nc_rows.specs.Parts.{IsQueued, rest_last}
use Rattle.nc_rows.specs.Rows.{Row}
use Rattle.nc_row_issues.specs.Laws.{Enters, NoByte}
use Rattle.nc_row_issues.proofs.PlacePushes.{calm_pushed}
use Rattle.nc_row_issues.proofs.RowIssues.{rows_issue}
use Rattle.nc_row_plans.specs.Laws.{PutsDevice}
use Rattle.nc_flatness.specs.Books.{book_of}
use Rattle.nc_flatness.specs.Plans.{HasEnd}
use Rattle.nc_flatness.specs.Flatness.{IsUnseen, BytesStand}
use Rattle.nc_flatness.proofs.worlds.Outcomes.{gone}
use Rattle.nc_flat_starts.proofs.turning.Frames.{IsPlace, IsOff, last_none}
use Rattle.nc_flat_plans.proofs.places.OwnRows.{BackAs, lent_put, same_full}
use Rattle.nc_flat_plans.proofs.places.Passes.{IsPlain, IsClear, passes_by}
use Rattle.nc_flat_plans.proofs.drivers.Drivers.{IsNext, IsDone, coming_next}
use Rattle.nc_flat_plans.proofs.places.Places.{IsUnder, its_id, its_place}
use Rattle.nc_flat_plans.proofs.places.Besides.{posted_beside}
use Rattle.nc_flat_plans.proofs.drivers.OwnCopies.{channels_entered}
use Rattle.nc_flat_plans.proofs.places.Waits.{waits_seen, waits_put}
use Rattle.nc_flat_plans.proofs.drivers.Shifts.{sided, IsStay, stay_shift}
use Rattle.nc_flat_plans.proofs.light.StepTokens.{IsUntokened, same_entered, kept_tokens}
use Rattle.nc_flat_plans.proofs.drivers.StepFrames.{step_bytes, enters_by}
use Rattle.nc_flat_plans.proofs.drivers.StepQueues.{stays_dropped, stays_zeroed, queue_stays, queue_more}
use Rattle.nc_flat_plans.proofs.drivers.StepSeen.{unseen_before, moved_seen}
use Rattle.nc_flat_plans.proofs.places.OwnPlaces.{to_come, lent_as, back_as, as_lent, as_back}

-- ---- a step with no turn

pub record IsStaying (sc : Scenario) (f : List ℕ) (w : WorldState) (h : HartNo) (o : Op) (s : Step) (rest : List Step) (lot : Lot) : Type 0 where
  pub next : IsNext sc f w h o s rest
  pub under : IsUnder sc f w h lot
  pub stay : IsStay s
  pub plain : (id : LotId) → ends id s ≡ false
  pub mapping : is_area lot.kind ≡ false
  pub later : HasEnd lot.id rest

-- what it puts goes off in front of what is to come
pub stay_comes : (sc : Scenario) (f : List ℕ) (w : WorldState) (h : HartNo) (o : Op) (s : Step) (rest : List Step) (lot : Lot) (i : ℕ) → IsStaying sc f w h o s rest lot → to_come h lot i (s ∷ rest) ≡ act_coming s.act ++ to_come h lot i rest
stay_comes sc f w h o s rest lot i c = coming_next lot (its_id h lot i) s rest c.later (c.plain lot.id)

-- ---- an entry

-- what it does to the places of the lot, to those beside, and to the slots
pub record IsPut (sc : Scenario) (f : List ℕ) (w : WorldState) (h : HartNo) (k : MachineState) (e : QueueEntry) (rest : List Step) (lot : Lot) : Type 0 where
  pub plain : IsPlain e
  pub token : IsUntokened e
  pub clear : (x : ℕ) → x < sc.ram → covers (slots_of sc) x ≡ false → IsOff lot x → IsClear (book_of w) (owner_of w x) w.machine h.0 e x
  pub moves : (lot.side ≡ sides.Lending) ⊎ (lot.side ≡ sides.Returning)
  pub lends : lot.side ≡ sides.Lending → (i : ℕ) (d : Entry) (x : ℕ) → IsPlace lot i d x → NoByte w.machine e x × PutsDevice w.machine e (byte f x) x (its_place w h lot i d x) (to_come h lot i rest)
  pub backs : lot.side ≡ sides.Returning → (i : ℕ) (d : Entry) (x : ℕ) → IsPlace lot i d x → BackAs lot.list.dir (its_id h lot i) (byte f x) (bare e ∷ to_come h lot i rest) w.machine x (its_place w h lot i d x)
      → BackAs lot.list.dir (its_id h lot i) (byte f x) (to_come h lot i rest) k x (its_place w h lot i d x)
  pub unseen : (z : ℕ) → covers (slots_of sc) z ≡ true → IsUnseen (book_of w) (owner_of w) (slots_of sc) z → NoByte w.machine e z

put_row : (sc : Scenario) (f : List ℕ) (w : WorldState) (h : HartNo) (o : Op) (s : Step) (rest : List Step) (k : MachineState) (went : Went) (e : QueueEntry) (lot : Lot) (i : ℕ) (d : Entry) (x : ℕ) → IsStaying sc f w h o s rest lot → IsDone (driver_of w h.0) s rest went
    → Enters w.machine k h.0 e → act_coming s.act ≡ bare e ∷ [] → IsPut sc f w h k e rest lot → IsPlace lot i d x → Row (book_of w) (owner_of w x) (byte f x) w.machine x
    → Row (book_of (gone w h k went)) (owner_of_side (its_id h lot i) lot.side) (byte f x) k x
put_row sc f w h o s rest k went e lot i d x c done by entry put p row =
    let u = c.under in
    let n = its_id h lot i in
    let y = its_place w h lot i d x in
    let dir = lot.list.dir in
    let shift = stay_shift sc f w h went lot s rest u done c.stay in
    let comes : to_come h lot i (driver_of w h.0).rest ≡ bare e ∷ to_come h lot i rest =
    ap (λ (r : List Step). to_come h lot i r) c.next.rest_is ∙ stay_comes sc f w h o s rest lot i c ∙ ap (λ (es : List QueueEntry). es ++ to_come h lot i rest) entry in
    elim put.moves [
      | inl side ↦
          let puts = put.lends side i d x p in
          as_lent sc f w h k went lot i d x (byte f x) rest u c.mapping p side shift done.rest
          (lent_put dir w.machine k e n (byte f x) x y (to_come h lot i rest) by puts.0 puts.1 (lent_as sc f w h w.machine lot i d x (byte f x) (bare e ∷ to_come h lot i rest) u c.mapping p side comes row))
      | inr side ↦
          as_back sc f w h k went lot i d x (byte f x) rest u c.mapping p side shift done.rest
          (put.backs side i d x p (back_as sc f w h w.machine lot i d x (byte f x) (bare e ∷ to_come h lot i rest) u c.mapping p side comes row))
    ]

pub put_bytes : (sc : Scenario) (f : List ℕ) (w : WorldState) (h : HartNo) (o : Op) (s : Step) (rest : List Step) (k : MachineState) (went : Went) (e : QueueEntry) (lot : Lot) → IsStaying sc f w h o s rest lot → IsDone (driver_of w h.0) s rest went
    → Enters w.machine k h.0 e → act_coming s.act ≡ bare e ∷ [] → IsPut sc f w h k e rest lot → IsQueued (book_of (gone w h k went)) (owner_of (gone w h k went)) w.machine.pool w.machine.size h.0 e → rest_last rest ≡ None
    → BytesStand sc f (gone w h k went)
put_bytes sc f w h o s rest k went e lot c done by entry put queued last =
    let m = w.machine in
    let v = gone w h k went in
    let u = c.under in
    let flat = u.flat in
    let shift = stay_shift sc f w h went lot s rest u done c.stay in
    let full : (i : ℕ) → list_any is_full (to_come h lot i (s ∷ rest)) ≡ list_any is_full (to_come h lot i rest) =
    λ i. ap (list_any is_full) (stay_comes sc f w h o s rest lot i c ∙ ap (λ (es : List QueueEntry). es ++ to_come h lot i rest) entry) ∙ same_full e (to_come h lot i rest) put.plain.full in
    step_bytes sc f w h o s rest k went lot (sided lot.side) c.next done u c.mapping shift (enters_by sc f w h k e flat by put.plain.fence) (record {
      passes = λ x b there off beyond still row.
          rows_issue.passed (book_of w) (owner_of w x) b m k h.0 e x by (passes_by (book_of w) (owner_of w x) m h.0 e x put.plain (put.clear x there off beyond) (posted_beside sc f w h lot x u still)) row;
      waits = λ x there off beyond at row.
          let clear = put.clear x there off beyond in
          waits_put sc f w h o s rest k went lot (sided lot.side) e x c.next done u shift by entry at (c.plain at.other.at.is.lot.id) clear.byte (subst (λ (z : ℕ). NoByte m e z) (waits_seen w h lot x at) clear.device) row;
      channels = channels_entered m k h.0 e by put.plain.register;
      row = λ i d x p row. put_row sc f w h o s rest k went e lot i d x c done by entry put p row;
      queue = queue_more (book_of v) (owner_of v) m k h.0 e by queued
          (queue_stays sc f w h k went flat (λ b is. stays_dropped sc f w h k went lot s rest b u c.next.rest_is done.rest shift (λ i was. sym (full i) ∙ was) is)
          (λ b is. stays_zeroed sc f w h k went lot s rest b u c.next.rest_is done c.stay c.plain is));
      lasting = last_none (book_of v) f h.0 (hart_of k h.0).last (rest_last went.driver.rest) (ap rest_last done.rest ∙ last);
      calm = λ z slot unseen.
          let before = unseen_before sc f w h k went lot lot.side z u shift (moved_seen lot u.moves) unseen in
          calm_pushed m k h.0 e z by (put.unseen z slot before) (flat.bytes.calm z slot before);
      tokens = kept_tokens sc f w h o s rest k went c.next done c.stay.first (λ id. (or_parts (turns_lot id s.last) (stores_io (tokens_lot id) s.act) (c.plain id)).1) (same_entered m k h e by put.token);
    })
