-- A step of a plan that lends with light fences: its marker or its token, which gives no byte, is issued.
use Rattle.std.specs.Prelude.{None, All, true, false}
use Rattle.std.proofs.Common.{◌≡◌, ℕ, ◌<◌, List, ◌∷◌, refl, sym, ap, ◌∙◌, inl, inr, []}
use Rattle.std.proofs.lemmas.Bool.{cases_Bool, both_ways}
use Rattle.nc_num.specs.Memory.{byte}
use Rattle.nc_num.specs.Places.{covers}
use Rattle.nc_num.specs.declared.names.HartNo.{HartNo}
use Rattle.nc_num.specs.declared.names.MapId.{MapId}
use Rattle.nc_num.specs.declared.places.Span.{Span}
use Rattle.nc_queue.specs.declared.entry.Entry.{Entry as QueueEntry}
use Rattle.nc_lines.specs.Lines.{bare}
use Rattle.nc_model.specs.declared.owners.Owner.TheVariants.{Lending}
use Rattle.nc_ops.specs.declared.ops.Op.{Op}
use Rattle.nc_scen.specs.Regions.{pool_of}
use Rattle.nc_scen.specs.declared.scenario.Scenario.{Scenario}
use Rattle.nc_sg.specs.declared.list.Entry.{Entry}
use Rattle.nc_rules.specs.declared.lots.Lot.{Lot}
use Rattle.nc_rules.specs.declared.lots.Side.TheVariants as sides
use Rattle.nc_rules.specs.declared.steps.Step.{Step}
use Rattle.nc_rules.specs.Lots.{owner_of_side, is_lot}
use Rattle.nc_rules.specs.Machine.{MachineState, hart_of, queue_of}
use Rattle.nc_rules.specs.Turns.{is_area}
use Rattle.nc_rules.specs.Driver.{Went}
use Rattle.nc_rules.specs.EventTouches.{owner_of}
use Rattle.nc_rules.specs.World.{WorldState, driver_of}
use Rattle.nc_rows.specs.Ahead.{settling, act_coming, ends}
use Rattle.nc_rows.specs.Parts.{IsQueued, IsZeroed, rest_last}
use Rattle.nc_rows.specs.Rows.{Row}
use Rattle.nc_row_issues.specs.Laws.{Enters, NoToken}
use Rattle.nc_row_issues.proofs.PlacePushes.{calm_pushed}
use Rattle.nc_row_issues.proofs.RowIssues.{rows_issue}
use Rattle.nc_row_plans.proofs.PlanEnds.{rows_plan}
use Rattle.nc_flatness.specs.Books.{book_of}
use Rattle.nc_flatness.specs.Flatness.{BytesStand}
use Rattle.nc_flatness.specs.Tokens.{TokenStands}
use Rattle.nc_flatness.proofs.worlds.Outcomes.{gone}
use Rattle.nc_flat_starts.proofs.turning.Frames.{IsPlace, IsOff, rewrites_none, last_none}
use Rattle.nc_flat_plans.proofs.places.OwnRows.{lent_put}
use Rattle.nc_flat_plans.proofs.places.Passes.{IsBlank, IsClear, passes_by}
use Rattle.nc_flat_plans.proofs.drivers.Drivers.{IsNext, IsDone}
use Rattle.nc_flat_plans.proofs.places.Places.{IsUnder, its_id, its_place, unpooled}
use Rattle.nc_flat_plans.proofs.places.Besides.{posted_beside}
use Rattle.nc_flat_plans.proofs.drivers.OwnCopies.{channels_entered}
use Rattle.nc_flat_plans.proofs.drivers.Shifts.{sided, seen_mapped, IsStay, stay_shift}
use Rattle.nc_flat_plans.proofs.drivers.StepFrames.{known_now, enters_by, behind_bytes}
use Rattle.nc_flat_plans.proofs.drivers.StepQueues.{queue_stays, queue_more, own_drop}
use Rattle.nc_flat_plans.proofs.drivers.StepSeen.{unseen_before, moved_seen}
use Rattle.nc_flat_plans.proofs.places.OwnPlaces.{to_come, lent_as, as_lent}
use Rattle.nc_flat_plans.proofs.areas.AreaRows.{giving_as, as_giving, area_is_pooled, unheld_lent}
use Rattle.nc_flat_plans.proofs.places.Waits.{waits_put}
use Rattle.nc_plan.specs.Plans.{In}

-- an entry of the end of a plan that lends, of a lot that is lent and settled by nothing
pub record IsLightPut (sc : Scenario) (f : List ℕ) (w : WorldState) (h : HartNo) (o : Op) (s : Step) (rest : List Step) (k : MachineState) (went : Went) (e : QueueEntry) (lot : Lot) : Type 0 where
  pub next : IsNext sc f w h o s rest
  pub under : IsUnder sc f w h lot
  pub done : IsDone (driver_of w h.0) s rest went
  pub side : lot.side ≡ sides.Lending
  pub stay : IsStay s
  pub enters : Enters w.machine k h.0 e
  pub blank : IsBlank w.machine e
  pub queued : IsQueued (book_of (gone w h k went)) (owner_of (gone w h k went)) w.machine.pool w.machine.size h.0 e
  pub puts : act_coming s.act ≡ bare e ∷ []
  -- it is the end of no other lot's stay
  pub others : (other : Lot) → In other (driver_of w h.0).lots → is_lot lot.id other ≡ false → ends other.id s ≡ false
  pub unsettled : settling lot.id (s ∷ rest) ≡ false
  pub settles : settling lot.id rest ≡ false
  pub last : rest_last rest ≡ None
  -- of another lot it is no token
  pub token : (n : MapId) (x : ℕ) → x < sc.ram → IsOff lot x → owner_of w x ≡ Lending n → NoToken n h.0 e
  pub zeroes : (b : ℕ) → IsZeroed (book_of w) (owner_of w) w.machine.size h.0 b → IsZeroed (book_of (gone w h k went)) (owner_of (gone w h k went)) w.machine.size h.0 b
  pub tokens : went.driver.fixed.light ≡ true → All (TokenStands went.driver.rest (queue_of k h.0)) went.driver.lots

still_unsettled : (sc : Scenario) (f : List ℕ) (w : WorldState) (h : HartNo) (o : Op) (s : Step) (rest : List Step) (k : MachineState) (went : Went) (e : QueueEntry) (lot : Lot) → IsLightPut sc f w h o s rest k went e lot → settling lot.id (driver_of w h.0).rest ≡ false
still_unsettled sc f w h o s rest k went e lot c = ap (settling lot.id) c.next.rest_is ∙ c.unsettled

-- ---- the rows

-- the entry comes off in front of what is to come of the lot
pub light_row : (sc : Scenario) (f : List ℕ) (w : WorldState) (h : HartNo) (o : Op) (s : Step) (rest : List Step) (k : MachineState) (went : Went) (e : QueueEntry) (lot : Lot) (i : ℕ) (d : Entry) (x : ℕ) → IsLightPut sc f w h o s rest k went e lot → to_come h lot i (s ∷ rest) ≡ bare e ∷ to_come h lot i rest → IsPlace lot i d x
    → Row (book_of w) (owner_of w x) (byte f x) w.machine x → Row (book_of (gone w h k went)) (owner_of_side (its_id h lot i) lot.side) (byte f x) k x
light_row sc f w h o s rest k went e lot i d x c off p row =
    let m = w.machine in
    let u = c.under in
    let n = its_id h lot i in
    let v = byte f x in
    let ahead = to_come h lot i rest in
    let shift = stay_shift sc f w h went lot s rest u c.done c.stay in
    let comes : to_come h lot i (driver_of w h.0).rest ≡ bare e ∷ ahead = ap (λ (r : List Step). to_come h lot i r) c.next.rest_is ∙ off in
    elim (cases_Bool (is_area lot.kind)) [
      | inl area ↦
          as_giving sc f w h k went lot i d x v rest u area p c.side shift c.done.rest c.settles
          (rows_plan.give m k e n v x ahead c.enters (c.blank.byte x) (giving_as sc f w h m lot i d x v (bare e ∷ ahead) u area p c.side (still_unsettled sc f w h o s rest k went e lot c) comes row))
      | inr plain ↦
          let y = its_place w h lot i d x in
          as_lent sc f w h k went lot i d x v rest u plain p c.side shift c.done.rest
          (lent_put lot.list.dir m k e n v x y ahead c.enters (c.blank.byte x) (inr (inl (c.blank.byte y))) (lent_as sc f w h m lot i d x v (bare e ∷ ahead) u plain p c.side comes row))
    ]

-- beside the lot
light_clear : (sc : Scenario) (f : List ℕ) (w : WorldState) (h : HartNo) (o : Op) (s : Step) (rest : List Step) (k : MachineState) (went : Went) (e : QueueEntry) (lot : Lot) (x : ℕ) → IsLightPut sc f w h o s rest k went e lot → x < sc.ram → IsOff lot x
    → IsClear (book_of w) (owner_of w x) w.machine h.0 e x
light_clear sc f w h o s rest k went e lot x c there off = record {
  byte = c.blank.byte x;
  device = c.blank.byte _;
  block = λ j l lent known area back. (c.blank.whole _).0;
  area = λ j l owner known area. c.blank.whole x;
  token = λ j owner own. c.token j x there off owner own;
}

-- ---- the bytes behind it

pub light_bytes : (sc : Scenario) (f : List ℕ) (w : WorldState) (h : HartNo) (o : Op) (s : Step) (rest : List Step) (k : MachineState) (went : Went) (e : QueueEntry) (lot : Lot) → IsLightPut sc f w h o s rest k went e lot
    → ((i : ℕ) (d : Entry) (x : ℕ) → IsPlace lot i d x → Row (book_of w) (owner_of w x) (byte f x) w.machine x → Row (book_of (gone w h k went)) (owner_of_side (its_id h lot i) lot.side) (byte f x) k x) → BytesStand sc f (gone w h k went)
light_bytes sc f w h o s rest k went e lot c rows =
    let m = w.machine in
    let v = gone w h k went in
    let u = c.under in
    let shift = stay_shift sc f w h went lot s rest u c.done c.stay in
    let by = enters_by sc f w h k e u.flat c.enters c.blank.plain.fence in
    behind_bytes sc f f w h o s rest k went lot (sided lot.side) c.next c.done u shift (rewrites_none sc f w h lot) by (record {
      passes = λ x b there slot off still row.
          rows_issue.passed (book_of w) (owner_of w x) b m k h.0 e x c.enters (passes_by (book_of w) (owner_of w x) m h.0 e x c.blank.plain (light_clear sc f w h o s rest k went e lot x c there off) (posted_beside sc f w h lot x u still)) row;
      waits = λ x there slot off at row.
          waits_put sc f w h o s rest k went lot (sided lot.side) e x c.next c.done u shift c.enters c.puts at (c.others at.other.at.is.lot at.other.here at.other.off) (c.blank.byte x) (c.blank.byte _) row;
      channels = channels_entered m k h.0 e c.enters c.blank.plain.register;
      same = λ plain. refl;
      row = rows;
      queue = queue_more (book_of v) (owner_of v) m k h.0 e c.enters c.queued
          (queue_stays sc f w h k went u.flat (λ b is. let drop = own_drop sc f w h lot s rest b u c.next.rest_is is in let both : sides.Lending ≡ sides.Returning = sym c.side ∙ drop.side in absurd (cc)) c.zeroes);
      lasting = last_none (book_of v) f h.0 (hart_of k h.0).last (rest_last went.driver.rest) (ap rest_last c.done.rest ∙ c.last);
      calm = λ z slot unseen. calm_pushed m k h.0 e z c.enters (c.blank.byte z) (u.flat.bytes.calm z slot (unseen_before sc f w h k went lot lot.side z u shift (moved_seen lot u.moves) unseen));
      tokens = c.tokens;
      pooled = λ i d x p over. elim (cases_Bool (is_area lot.kind)) [
        | inl area ↦ area_is_pooled sc f w h k went lot i d x (owner_of_side (its_id h lot i) lot.side) area p (known_now sc f w h k went lot (sided lot.side) i d u shift (seen_mapped (its_id h lot i) lot.side (inl c.side)) p.entry)
        | inr plain ↦ absurd (both_ways (covers (pool_of sc) x) (unpooled sc f w h lot i d x u plain p) over)
      ];
      free = λ i d x p over. elim (cases_Bool (is_area lot.kind)) [
        | inl area ↦ inl (by.free x (ap (λ (r : Span). covers r x) u.flat.world.of_scenario.pool ∙ over) (unheld_lent sc f w h lot i d x u area p c.side (still_unsettled sc f w h o s rest k went e lot c)))
        | inr plain ↦ absurd (both_ways (covers (pool_of sc) x) (unpooled sc f w h lot i d x u plain p) over)
      ];
    })
