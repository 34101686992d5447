-- The end of a lending with light fences: its marker is issued, and then its token, with which the plan is over, or goes on
-- for a copy.
use Rattle.std.specs.Prelude.{None, All, not, Bool, true, false, length, Some, slice_get}
use Rattle.std.specs.List.{list_any, find}
use Rattle.std.proofs.Common.{◌≡◌, ℕ, ◌<◌, List, [], ◌∷◌, ◌++◌, refl, sym, ap, ◌∙◌, inl, inr, subst}
use Rattle.std.proofs.lemmas.Bool.{cases_Bool, and_from, both_ways, or_left, cond-false, false_from_ne_true, cond-true, and_parts}
use Rattle.nc_num.specs.declared.names.HartNo.{HartNo}
use Rattle.nc_num.specs.declared.names.MapId.{MapId}
use Rattle.nc_plan.specs.declared.ops.HartOp.{HartOp}
use Rattle.nc_plan.specs.declared.ops.HartOp.TheVariants as hart_ops
use Rattle.nc_plan.specs.declared.ops.IoTarget.TheVariants as io
use Rattle.nc_plan.specs.Plans.{In}
use Rattle.nc_queue.specs.declared.entry.Entry.{Entry as QueueEntry}
use Rattle.nc_queue.specs.declared.entry.Entry.TheVariants as entries
use Rattle.nc_lines.specs.Lines.{bare}
use Rattle.nc_model.specs.declared.owners.Owner.TheVariants.{Lending}
use Rattle.nc_ops.specs.declared.ops.Op.{Op}
use Rattle.nc_scen.specs.declared.events.Event.TheVariants as events
use Rattle.nc_scen.specs.declared.scenario.Scenario.{Scenario}
use Rattle.nc_sg.specs.declared.list.Entry.{Entry}
use Rattle.nc_rules.specs.declared.lots.Lot.{Lot}
use Rattle.nc_rules.specs.declared.lots.LotId.{LotId}
use Rattle.nc_rules.specs.declared.steps.Act.{Act}
use Rattle.nc_rules.specs.declared.steps.Step.{Step}
use Rattle.nc_rules.specs.declared.steps.Turn.{Turn}
use Rattle.nc_rules.specs.Lots.{is_wanted, is_lot}
use Rattle.nc_rules.specs.Machine.{MachineState, queue_of}
use Rattle.nc_rules.specs.Turns.{is_area, lots_after}
use Rattle.nc_rules.specs.Calls.{issue_next}
use Rattle.nc_rules.specs.Driver.{Went, is_script}
use Rattle.nc_rules.specs.Flat.{records_trace}
use Rattle.nc_rules.specs.Records.{op_records}
use Rattle.nc_rules.specs.EventTouches.{owner_of}
use Rattle.nc_rules.specs.World.{WorldState, driver_of}
use Rattle.nc_rows.specs.Ahead.{ends, names, is_settling, settling, stores_io, tokens_lot, act_coming, coming, same_lot}
use Rattle.nc_rows.specs.Parts.{rest_last}
use Rattle.nc_rows.proofs.Steps.{steps_ahead}
use Rattle.nc_row_issues.specs.Laws.{Enters}
use Rattle.nc_flatness.specs.Books.{is_entry_of, mapping_in}
use Rattle.nc_flatness.specs.Plans.{HasEnd, token_step, IsMark, IsPost}
use Rattle.nc_flatness.specs.Tokens.{lot_token, TokenStands}
use Rattle.nc_flatness.specs.Steps.{Goes}
use Rattle.nc_flatness.proofs.plans.Rests.{behind, by_token, turn_name, unlent_settling, same_id}
use Rattle.nc_flatness.proofs.tokens.Stands.{post_stands}
use Rattle.nc_flatness.proofs.books.Loans.{one_lot, own_entry, get_below}
use Rattle.nc_flat_starts.proofs.turning.Frames.{IsOff}
use Rattle.nc_flat_plans.proofs.places.Passes.{IsBlank}
use Rattle.nc_flat_plans.proofs.drivers.Drivers.{IsNext, IsDone, stay_lots, done_so, coming_next, settling_next}
use Rattle.nc_flat_plans.proofs.drivers.Shifts.{IsStay, stay_shift, sided}
use Rattle.nc_flat_plans.proofs.places.Places.{IsUnder, lends_under, lent_side, its_id, beside, far_entry, far_lot}
use Rattle.nc_flat_plans.proofs.light.StepTokens.{same_entered, kept_tokens, driver_apart}
use Rattle.nc_flat_plans.proofs.drivers.StepQueues.{stays_zeroed, other_zeroed}
use Rattle.nc_flat_plans.proofs.places.OwnPlaces.{to_come}
use Rattle.nc_flat_plans.proofs.areas.AreaRows.{last_settles}
use Rattle.nc_flat_plans.proofs.light.LightSteps.{light_bytes, IsLightPut, light_row}
use Rattle.nc_flat_plans.proofs.light.Posted.{posted_row}
use Rattle.nc_flat_plans.proofs.drivers.Issues.{IsOpNext, op_enters, went_by, op_goes}

-- ---- the operations

abbrev mark_op : HartOp
mark_op = hart_ops.Mark 1 4

abbrev token_op : Lot → HartOp
token_op lot = hart_ops.IoStore (io.Lend lot.id.label lot.id.first (length lot.list.entries))

mark_silent : (w : WorldState) (h : HartNo) (b : Bool) → records_trace w.machine.size w.grants (op_records w.machine h b mark_op) ≡ []
unfolding op_records
mark_silent w h b = refl

token_silent : (w : WorldState) (h : HartNo) (b : Bool) (lot : Lot) → records_trace w.machine.size w.grants (op_records w.machine h b (token_op lot)) ≡ []
unfolding op_records
token_silent w h b lot = refl

mark_blank : (m : MachineState) → IsBlank m (entries.Mark 1 4)
mark_blank m = record { plain = record { full = refl; fence = refl; mail = λ b. refl; register = refl }; byte = λ x. refl; whole = λ x. (refl, refl) }

token_blank : (m : MachineState) (lot : Lot) → IsBlank m (lot_token lot)
token_blank m lot = record { plain = record { full = refl; fence = refl; mail = λ b. refl; register = refl }; byte = λ x. refl; whole = λ x. (refl, refl) }

-- ---- the token as the last step that lends

-- what is to come of the lot is its token
token_comes : (n : MapId) (lot : Lot) (more : List Step) → coming n lot.id (token_step lot ∷ more) ≡ lot_token lot ∷ []
token_comes n lot more = steps_ahead.last n lot.id (token_step lot) more (by_token lot)

-- and no area is settled by it
token_settles : (lot : Lot) (more : List Step) → settling lot.id (token_step lot ∷ more) ≡ false
token_settles lot more = ap (is_settling lot.id) (cond-true (ends lot.id (token_step lot)) (Some (token_step lot)) (find (ends lot.id) more) (by_token lot))

only_settles : (id : LotId) (lot : Lot) → settling id (token_step lot ∷ []) ≡ false
only_settles id lot = elim (cases_Bool (ends id (token_step lot))) [
  | inl on ↦ last_settles id (token_step lot) on
  | inr off ↦ ap (is_settling id) (cond-false (ends id (token_step lot)) _ None off)
]

-- it ends no other lot's stay
token_off : (sc : Scenario) (f : List ℕ) (w : WorldState) (h : HartNo) (lot other : Lot) → IsUnder sc f w h lot → In other (driver_of w h.0).lots → is_lot lot.id other ≡ false → ends other.id (token_step lot) ≡ false
token_off sc f w h lot other u here off =
    false_from_ne_true (ends other.id (token_step lot)) (λ on. far_lot lot other off (one_lot sc f w h.0 other lot u.flat here u.here (sym (turn_name lot.id other.id on))))

-- ---- the marker is issued

pub marked_goes : (sc : Scenario) (f : List ℕ) (w : WorldState) (h : HartNo) (o : Op) (s : Step) (rest : List Step) → IsNext sc f w h o s rest → IsMark (driver_of w h.0).fixed (driver_of w h.0).lots s rest → Goes sc f w (events.Issue h)
marked_goes sc f w h o s rest next is =
    let m = w.machine in
    let lot = is.lot in
    let e = entries.Mark 1 4 in
    let n = issue_next m h.0 mark_op in
    let went = went_by w h mark_op in
    let k : IsOpNext sc f w h o mark_op s rest = record { next = next; act = ap (λ (t : Step). t.act) is.step } in
    let later : HasEnd lot.id rest = ap (list_any (ends lot.id)) is.left ∙ or_left (ends lot.id (token_step lot)) (list_any (ends lot.id) is.more) (by_token lot) in
    let u : IsUnder sc f w h lot = lends_under sc f w h o s rest lot (is_area lot.kind) next is.hand (behind lot.id s rest later) in
    let done = done_so sc f w h o s rest _ next refl refl in
    let stay : IsStay s = record { first = ap (λ (t : Step). t.first) is.step; last = ap (λ (t : Step). t.last) is.step } in
    let plain : (id : LotId) → ends id s ≡ false = λ id. ap (ends id) is.step in
    let by = op_enters sc f w h o mark_op s rest e k refl in
    let settles : settling lot.id rest ≡ false = ap (settling lot.id) is.left ∙ token_settles lot is.more in
    let c : IsLightPut sc f w h o s rest n went e lot = record {
      next = next;
      under = u;
      done = done;
      side = is.hand.side_is;
      stay = stay;
      enters = by;
      blank = mark_blank m;
      queued = tt;
      puts = ap act_coming k.act;
      others = λ other here off. plain other.id;
      unsettled = settling_next lot.id s rest (plain lot.id) ∙ settles;
      settles = settles;
      last = ap rest_last is.left;
      token = λ j x there off owner own. refl;
      zeroes = λ b was. stays_zeroed sc f w h n went lot s rest b u next.rest_is done stay plain was;
      tokens = kept_tokens sc f w h o s rest n went next done stay.first (λ id. ap (stores_io (tokens_lot id)) k.act) (same_entered m n h e by (λ id. refl));
    } in
    let comes : (i : ℕ) → to_come h lot i (s ∷ rest) ≡ bare e ∷ to_come h lot i rest = λ i. coming_next lot (its_id h lot i) s rest later (plain lot.id) ∙ ap (λ (a : Act). act_coming a ++ to_come h lot i rest) k.act in
    op_goes sc f w h o mark_op s rest k (mark_silent w h (is_script (driver_of w h.0).phase))
    (light_bytes sc f w h o s rest n went e lot c (λ i d x p row. light_row sc f w h o s rest n went e lot i d x c (comes i) p row))

-- ---- its token is issued

-- it names no mapping of another lot
other_token : (sc : Scenario) (f : List ℕ) (w : WorldState) (h : HartNo) (lot : Lot) (n : MapId) (x : ℕ) → IsUnder sc f w h lot → x < sc.ram → IsOff lot x → owner_of w x ≡ Lending n → n.hart.0 ≡ h.0 → names n (bare (lot_token lot)) ≡ false
other_token sc f w h lot n x u there off owner own =
    false_from_ne_true (names n (lot_token lot))
    (λ named. both_ways (is_entry_of n lot) (far_entry sc f w h lot n x u (beside sc f w h lot n x u there off (ap mapping_in owner) own)) (and_from (not (is_wanted lot.side)) (names n (lot_token lot)) (ap not (lent_side lot u.moves)) named))

-- but those of its own
its_named : (h : HartNo) (lot : Lot) (i : ℕ) (e : Entry) → slice_get lot.list.entries i ≡ Some e → is_wanted lot.side ≡ false → names (its_id h lot i) (lot_token lot) ≡ true
its_named h lot i e at lent = (and_parts (not (is_wanted lot.side)) (names (its_id h lot i) (lot_token lot)) (own_entry h.0 lot i (get_below lot.list.entries i e at) lent)).1

-- behind it it stands in the queue
post_tokens : (sc : Scenario) (f : List ℕ) (w : WorldState) (h : HartNo) (o : Op) (s : Step) (rest : List Step) (k : MachineState) (went : Went) → IsNext sc f w h o s rest → IsDone (driver_of w h.0) s rest went → (is : IsPost (driver_of w h.0).fixed (driver_of w h.0).lots s rest)
    → Enters w.machine k h.0 (lot_token is.lot) → All (TokenStands went.driver.rest (queue_of k h.0)) went.driver.lots
post_tokens sc f w h o s rest k went next done is by =
    let d = driver_of w h.0 in
    let lot = is.lot in
    let flat = next.now.flat in
    let q = queue_of w.machine h.0 in
    let left : d.rest ≡ token_step lot ∷ rest = next.rest_is ∙ ap (λ (t : Step). t ∷ rest) is.step in
    let was : All (TokenStands (token_step lot ∷ rest) q) d.lots = subst (λ (r : List Step). All (TokenStands r q) d.lots) left (flat.bytes.tokens h.0 next.now.there is.light) in
    let now : All (TokenStands rest (q ++ lot_token lot ∷ [])) d.lots = post_stands d.lots lot rest q (driver_apart sc f w h flat next.now.there) is.hand.here is.hand.side_is is.lent was in
    let lots : went.driver.lots ≡ d.lots = stay_lots d s rest went done (ap (λ (t : Step). t.first) is.step) ∙ ap (λ (t : Turn). lots_after t d.lots) (ap (λ (t : Step). t.last) is.step) in
    subst (λ (r : List Step). All (TokenStands r (queue_of k h.0)) went.driver.lots) (sym done.rest)
    (subst (λ (ls : List Lot). All (TokenStands rest (queue_of k h.0)) ls) (sym lots) (subst (λ (es : List QueueEntry). All (TokenStands rest es) d.lots) (sym by.pushes.queues.own) now))

pub posted_goes : (sc : Scenario) (f : List ℕ) (w : WorldState) (h : HartNo) (o : Op) (s : Step) (rest : List Step) → IsNext sc f w h o s rest → IsPost (driver_of w h.0).fixed (driver_of w h.0).lots s rest → Goes sc f w (events.Issue h)
posted_goes sc f w h o s rest next is =
    let m = w.machine in
    let lot = is.lot in
    let op = token_op lot in
    let e = lot_token lot in
    let n = issue_next m h.0 op in
    let went = went_by w h op in
    let k : IsOpNext sc f w h o op s rest = record { next = next; act = ap (λ (t : Step). t.act) is.step } in
    let on : ends lot.id s ≡ true = ap (ends lot.id) is.step ∙ by_token lot in
    let ended : HasEnd lot.id (s ∷ rest) = or_left (ends lot.id s) (list_any (ends lot.id) rest) on in
    let u : IsUnder sc f w h lot = lends_under sc f w h o s rest lot (is_area lot.kind) next is.hand ended in
    let done = done_so sc f w h o s rest _ next refl refl in
    let by = op_enters sc f w h o op s rest e k refl in
    let stay : IsStay s = record { first = ap (λ (t : Step). t.first) is.step; last = ap (λ (t : Step). t.last) is.step } in
    let shift = stay_shift sc f w h went lot s rest u done stay in
    let others : (other : Lot) → In other (driver_of w h.0).lots → is_lot lot.id other ≡ false → ends other.id s ≡ false = λ other here off. ap (ends other.id) is.step ∙ token_off sc f w h lot other u here off in
    let comes : (i : ℕ) → to_come h lot i (s ∷ rest) ≡ e ∷ [] = λ i. ap (λ (t : Step). to_come h lot i (t ∷ rest)) is.step ∙ token_comes (its_id h lot i) lot rest in
    let all : rest ≡ [] → (id : LotId) → settling id (s ∷ rest) ≡ false = λ over id. ap (λ (r : List Step). settling id (s ∷ r)) over ∙ ap (λ (t : Step). settling id (t ∷ [])) is.step ∙ only_settles id lot in
    let c : IsLightPut sc f w h o s rest n went e lot = record {
      next = next;
      under = u;
      done = done;
      side = is.hand.side_is;
      stay = stay;
      enters = by;
      blank = token_blank m lot;
      queued = tt;
      puts = ap act_coming k.act;
      others = others;
      unsettled = ap (λ (t : Step). settling lot.id (t ∷ rest)) is.step ∙ token_settles lot rest;
      settles = unlent_settling lot.id rest is.lent;
      last = is.next;
      token = λ j x there off owner own. other_token sc f w h lot j x u there off owner own;
      zeroes = λ b was. elim (cases_Bool (is_area lot.kind)) [
        | inl area ↦
            let ahead : settling was.loan.lot (s ∷ rest) ≡ true = ap (λ (r : List Step). settling was.loan.lot r) (sym (ap (λ (g : ℕ). (driver_of w g).rest) was.own ∙ next.rest_is)) ∙ was.ahead in
            absurd (both_ways (settling was.loan.lot (s ∷ rest)) (all (is.over area) was.loan.lot) ahead)
        | inr plain ↦
            other_zeroed sc f w h n went lot (sided lot.side) s rest b u plain next.rest_is done.rest shift
            (λ id off. ap (ends id) is.step ∙ false_from_ne_true (ends id (token_step lot)) (λ same. both_ways (same_lot id lot.id) off (ap (λ (j : LotId). same_lot j lot.id) (sym (turn_name lot.id id same)) ∙ same_id lot.id))) was
      ];
      tokens = λ light. post_tokens sc f w h o s rest n went next done is by;
    } in
    op_goes sc f w h o op s rest k (token_silent w h (is_script (driver_of w h.0).phase) lot)
    (light_bytes sc f w h o s rest n went e lot c (λ i d x p row. elim (cases_Bool (is_area lot.kind)) [
      | inl area ↦ light_row sc f w h o s rest n went e lot i d x c (comes i ∙ ap (λ (r : List Step). e ∷ to_come h lot i r) (sym (is.over area))) p row
      | inr plain ↦ posted_row sc f w h o s rest n went e lot i d x c plain (comes i) (its_named h lot i d p.entry (lent_side lot u.moves)) is.quiet p row
    ]))
