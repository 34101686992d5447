-- A cache operation of a plan: a block is written back before its lot is lent, or dropped before the full fence.
use Rattle.std.specs.Prelude.{None, ◌/◌, true, false}
use Rattle.std.specs.List.{list_any}
use Rattle.std.proofs.Common.{◌≡◌, ◌⊎◌, ℕ, List, refl, sym, ap, ◌∙◌, inl, inr}
use Rattle.nc_num.specs.Places.{covers}
use Rattle.nc_num.specs.declared.names.HartNo.{HartNo}
use Rattle.nc_num.specs.declared.places.Block.{Block}
use Rattle.nc_env.specs.declared.CboOp.{CboOp}
use Rattle.nc_env.specs.declared.CboOp.TheVariants as cbos
use Rattle.nc_plan.specs.declared.ops.HartOp.TheVariants as hart_ops
use Rattle.nc_queue.specs.Entries.{writes_back}
use Rattle.nc_queue.specs.declared.entry.Entry.TheVariants as entries
use Rattle.nc_ops.specs.declared.ops.Op.{Op}
use Rattle.nc_scen.specs.Regions.{pool_of}
use Rattle.nc_scen.specs.declared.events.Event.TheVariants as events
use Rattle.nc_scen.specs.declared.scenario.Scenario.{Scenario}
use Rattle.nc_rules.specs.declared.lots.Lot.{Lot}
use Rattle.nc_rules.specs.declared.lots.Side.TheVariants as sides
use Rattle.nc_rules.specs.declared.steps.Step.{Step}
use Rattle.nc_rules.specs.Lots.{owner_of_side}
use Rattle.nc_rules.specs.Plans.{hart_step}
use Rattle.nc_rules.specs.Turns.{is_area}
use Rattle.nc_rules.specs.Calls.{issue_next}
use Rattle.nc_rules.specs.Driver.{is_script}
use Rattle.nc_rules.specs.EventTouches.{owner_of}
use Rattle.nc_rules.specs.World.{WorldState, driver_of}
use Rattle.nc_calls.specs.PlaceLaws.{drops_copies}
use Rattle.nc_rows.specs.Ahead.{ends, is_full, act_coming}
use Rattle.nc_rows.specs.Parts.{IsDropped, OpIsQueued, rest_last}
use Rattle.nc_flatness.specs.Books.{book_of}
use Rattle.nc_flatness.specs.Plans.{HasEnd, IsWriteBack, IsDrop}
use Rattle.nc_flatness.specs.Steps.{Goes}
use Rattle.nc_flatness.proofs.worlds.Outcomes.{gone}
use Rattle.nc_flatness.proofs.books.Loans.{loan_is}
use Rattle.nc_flatness.proofs.plans.Rests.{behind, lend_has_end}
use Rattle.nc_flatness.proofs.books.Seen.{device_place_of}
use Rattle.nc_flat_starts.proofs.turning.Frames.{IsPlace, rest_hart}
use Rattle.nc_flat_plans.proofs.places.OwnRows.{back_op}
use Rattle.nc_flat_plans.proofs.places.Passes.{is_kept_op, writes_kept, drops_kept, op_plain, op_byte, op_block, NoWhole, writes_whole, op_whole}
use Rattle.nc_flat_plans.proofs.drivers.Drivers.{IsNext, done_so, returns_later}
use Rattle.nc_flat_plans.proofs.areas.PoolPlaces.{lent_pooled, pool_apart}
use Rattle.nc_flat_plans.proofs.places.Places.{IsUnder, lends_under, back_under, its_id, its_loan, its_place, known, device_unpooled}
use Rattle.nc_flat_plans.proofs.drivers.Shifts.{sided, seen_mapped, held, stay_shift}
use Rattle.nc_flat_plans.proofs.drivers.StepFrames.{driven, known_now}
use Rattle.nc_flat_plans.proofs.places.OwnPlaces.{to_come}
use Rattle.nc_flat_plans.proofs.operations.Puts.{IsStaying, IsPut, put_bytes}
use Rattle.nc_flat_plans.proofs.drivers.Issues.{IsOpNext, op_enters, kept_silent, went_by, op_goes}

-- no row is changed by it
op_put : (sc : Scenario) (f : List ℕ) (w : WorldState) (h : HartNo) (o : Op) (op : CboOp) (block : Block) (s : Step) (rest : List Step) (lot : Lot) → IsOpNext sc f w h o (hart_ops.Cbo op block) s rest → IsUnder sc f w h lot → (lot.side ≡ sides.Lending) ⊎ (lot.side ≡ sides.Returning) → is_kept_op op ≡ true
    → ((x : ℕ) → covers (pool_of sc) x ≡ true → NoWhole w.machine (entries.Cbo block op) x) → IsPut sc f w h (issue_next w.machine h.0 (hart_ops.Cbo op block)) (entries.Cbo block op) rest lot
op_put sc f w h o op block s rest lot k u moves kept whole =
    let m = w.machine in
    let n = issue_next m h.0 (hart_ops.Cbo op block) in
    let e = entries.Cbo block op in
    let by = op_enters sc f w h o (hart_ops.Cbo op block) s rest e k refl in
    record {
      plain = op_plain block op;
      token = λ id. refl;
      clear = λ x there off beyond. record {
        byte = op_byte m block op x kept;
        device = op_byte m block op _ kept;
        block = λ j l lent known area back. op_block m block op _ kept;
        area = λ j l owner known area. whole x (lent_pooled sc f w j l x u.flat there owner known area);
        token = λ j owner own. refl;
      };
      moves = moves;
      lends = λ side i d x p. (op_byte m block op x kept, inr (inl (op_byte m block op _ kept)));
      backs = λ side i d x p row. back_op lot.list.dir m n e (its_id h lot i) _ x _ (to_come h lot i rest) by refl (λ z. op_byte m block op z kept) (λ z. op_block m block op z kept) row;
      unseen = λ z slot unseen. op_byte m block op z kept;
    }

-- the event, with what is asked of the entry
op_event : (sc : Scenario) (f : List ℕ) (w : WorldState) (h : HartNo) (o : Op) (op : CboOp) (block : Block) (s : Step) (rest : List Step) (lot : Lot) → IsOpNext sc f w h o (hart_ops.Cbo op block) s rest → IsUnder sc f w h lot → (lot.side ≡ sides.Lending) ⊎ (lot.side ≡ sides.Returning) → s ≡ hart_step (hart_ops.Cbo op block)
    → is_kept_op op ≡ true → ((x : ℕ) → covers (pool_of sc) x ≡ true → NoWhole w.machine (entries.Cbo block op) x) → is_area lot.kind ≡ false → HasEnd lot.id rest → rest_last rest ≡ None
    → OpIsQueued (book_of (gone w h (issue_next w.machine h.0 (hart_ops.Cbo op block)) (went_by w h (hart_ops.Cbo op block)))) (owner_of (gone w h (issue_next w.machine h.0 (hart_ops.Cbo op block)) (went_by w h (hart_ops.Cbo op block)))) w.machine.pool w.machine.size h.0 op
    block.0
    → Goes sc f w (events.Issue h)
op_event sc f w h o op block s rest lot k u moves step kept whole mapping later last queued =
    let cbo = hart_ops.Cbo op block in
    let done = done_so sc f w h o s rest _ k.next refl refl in
    let stays : IsStaying sc f w h o s rest lot = record { next = k.next; under = u; stay = record { first = ap (λ (t : Step). t.first) step; last = ap (λ (t : Step). t.last) step }; plain = λ id. ap (ends id) step; mapping = mapping; later = later } in
    op_goes sc f w h o cbo s rest k (kept_silent w h (is_script (driver_of w h.0).phase) op block kept)
    (put_bytes sc f w h o s rest (issue_next w.machine h.0 cbo) (went_by w h cbo) (entries.Cbo block op) lot stays done (op_enters sc f w h o cbo s rest (entries.Cbo block op) k refl) (ap act_coming k.act)
    (op_put sc f w h o op block s rest lot k u moves kept whole) queued last)

-- ---- a block is written back

written_queued : (w v : WorldState) (h : ℕ) (op : CboOp) (b : ℕ) → writes_back op ≡ true → OpIsQueued (book_of v) (owner_of v) w.machine.pool w.machine.size h op b
written_queued w v h cbos.Clean b is = tt
written_queued w v h cbos.Flush b is = tt
written_queued w v h cbos.Inval b is = absurd cc
written_queued w v h cbos.Zero b is = absurd cc

pub written_goes : (sc : Scenario) (f : List ℕ) (w : WorldState) (h : HartNo) (o : Op) (s : Step) (rest : List Step) → IsNext sc f w h o s rest → IsWriteBack (driver_of w h.0).fixed (driver_of w h.0).lots s rest → Goes sc f w (events.Issue h)
written_goes sc f w h o s rest next is =
    let cbo = hart_ops.Cbo is.op is.block in
    let k : IsOpNext sc f w h o cbo s rest = record { next = next; act = ap (λ (t : Step). t.act) is.step } in
    let later = lend_has_end is.lot.id rest is.later in
    let u : IsUnder sc f w h is.lot = lends_under sc f w h o s rest is.lot false next is.hand (behind is.lot.id s rest later) in
    op_event sc f w h o is.op is.block s rest is.lot k u (inl is.hand.side_is) is.step (writes_kept is.op is.writes) (λ x over. writes_whole w.machine is.block is.op x is.writes) is.hand.area_is later is.next
    (written_queued w (gone w h (issue_next w.machine h.0 cbo) (went_by w h cbo)) h.0 is.op is.block.0 is.writes)

-- ---- a block is dropped

pub dropped_queued : (w v : WorldState) (h : ℕ) (op : CboOp) (b : ℕ) → drops_copies op ≡ true → IsDropped (book_of v) (owner_of v) w.machine.size h b → OpIsQueued (book_of v) (owner_of v) w.machine.pool w.machine.size h op b
dropped_queued w v h cbos.Clean b is dropped = absurd cc
dropped_queued w v h cbos.Flush b is dropped = tt
dropped_queued w v h cbos.Inval b is dropped = dropped
dropped_queued w v h cbos.Zero b is dropped = absurd cc

pub dropped_goes : (sc : Scenario) (f : List ℕ) (w : WorldState) (h : HartNo) (o : Op) (s : Step) (rest : List Step) → IsNext sc f w h o s rest → IsDrop (driver_of w h.0).fixed (driver_of w h.0).lots s rest → Goes sc f w (events.Issue h)
dropped_goes sc f w h o s rest next is =
    let d = driver_of w h.0 in
    let m = w.machine in
    let lot = is.lot in
    let cbo = hart_ops.Cbo is.op is.block in
    let n = issue_next m h.0 cbo in
    let went = went_by w h cbo in
    let v = gone w h n went in
    let k : IsOpNext sc f w h o cbo s rest = record { next = next; act = ap (λ (t : Step). t.act) is.step } in
    let u : IsUnder sc f w h lot = back_under sc f w h o s rest lot false next is.hand in
    let done = done_so sc f w h o s rest _ next refl refl in
    let shift = stay_shift sc f w h went lot s rest u done (record { first = ap (λ (t : Step). t.first) is.step; last = ap (λ (t : Step). t.last) is.step }) in
    let id = its_id h lot is.i in
    let l = its_loan w h lot is.i is.entry in
    let at = device_place_of w id l is.place (loan_is sc f w id l u.flat (known sc f w h lot is.i is.entry u is.here.entry)) is.covered in
    let p : IsPlace lot is.i is.entry at.place = record { entry = is.here.entry; on = at.on } in
    let size : d.fixed.size ≡ m.size = sym (held sc f w h lot u).setting.block in
    let dropped : IsDropped (book_of v) (owner_of v) m.size h.0 is.block.0 = record {
      id = id;
      loan = l;
      lent = known_now sc f w h n went lot (sided lot.side) is.i is.entry u shift (seen_mapped id lot.side (inr (inr is.hand.side_is))) is.here.entry;
      own = refl;
      back = is.back;
      ahead = ap (λ (r : List Step). list_any is_full (to_come h lot is.i r)) (rest_hart w h n went h.0 (driven sc f w h lot u) refl ∙ done.rest) ∙ is.ahead id;
      place = at.place;
      owned = shift.on is.i is.entry at.place p ∙ ap (owner_of_side id) is.hand.side_is;
      here = ap (λ (y : ℕ). y / m.size) at.here ∙ ap (λ (z : ℕ). is.place / z) (sym size) ∙ is.met;
    } in
    op_event sc f w h o is.op is.block s rest lot k u (inr is.hand.side_is) is.step (drops_kept is.op is.drops)
    (λ x over. op_whole m is.block is.op x (drops_kept is.op is.drops) (λ met. pool_apart sc f w x (its_place w h lot is.i is.entry at.place) u.flat over (device_unpooled sc f w h lot is.i is.entry at.place u is.hand.area_is p) (dropped.here ∙ sym met))) is.hand.area_is
    (returns_later sc f w h o s rest lot next u.here is.hand.side_is (ap (ends lot.id) is.step)) is.next (dropped_queued w v h.0 is.op is.block.0 is.drops dropped)
