-- The full fence of a plan: the lot is its channel's, what bounces may come out of its slots, or the lot is its hart's again.
use Rattle.std.specs.Prelude.{All, if◌then◌else◌, Bool, true, false}
use Rattle.std.specs.List.{list_any}
use Rattle.std.proofs.Common.{◌≡◌, ℕ, List, [], ◌∷◌, ◌++◌, refl, sym, ap, ◌∙◌, inl, inr, subst}
use Rattle.std.proofs.lemmas.Bool.{or_left, or_from, both_ways}
use Rattle.nc_num.specs.Memory.{byte}
use Rattle.nc_num.specs.declared.names.HartNo.{HartNo}
use Rattle.nc_num.specs.declared.names.MapId.{MapId}
use Rattle.nc_num.specs.declared.places.Span.{Span}
use Rattle.nc_plan.specs.Plans.{full}
use Rattle.nc_queue.specs.declared.entry.Entry.TheVariants as entries
use Rattle.nc_lines.specs.Lines.{gives_at}
use Rattle.nc_model.specs.declared.owners.Owner.{Owner}
use Rattle.nc_ops.specs.declared.ops.Op.{Op}
use Rattle.nc_scen.specs.declared.events.Event.TheVariants as events
use Rattle.nc_scen.specs.declared.scenario.Scenario.{Scenario}
use Rattle.nc_sg.specs.declared.list.Entry.{Entry}
use Rattle.nc_rules.specs.declared.lots.LotId.{LotId}
use Rattle.nc_rules.specs.declared.lots.Side.TheVariants as sides
use Rattle.nc_rules.specs.declared.steps.Act.{Act}
use Rattle.nc_rules.specs.declared.steps.Step.{Step}
use Rattle.nc_rules.specs.declared.steps.Turn.{Turn}
use Rattle.nc_rules.specs.declared.steps.Turn.TheVariants as turns
use Rattle.nc_rules.specs.Plans.{hart_step, turning}
use Rattle.nc_rules.specs.Turns.{lots_after, transfers_of}
use Rattle.nc_rules.specs.Machine.{MachineState, hart_of, queue_of}
use Rattle.nc_rules.specs.Driver.{is_script}
use Rattle.nc_rules.specs.EventTouches.{owner_of}
use Rattle.nc_rules.specs.World.{WorldState, driver_of}
use Rattle.nc_holds.proofs.lists.Members.{all_at, at_get}
use Rattle.nc_rows.specs.Ahead.{same_lot, stores_io, tokens_lot, ends, gives_lot, act_coming, token, coming, turns_lot}
use Rattle.nc_rows.specs.Parts.{rest_last}
use Rattle.nc_rows.proofs.Steps.{steps_ahead}
use Rattle.nc_flatness.specs.Books.{book_of}
use Rattle.nc_flatness.specs.Plans.{HasEnd, IsBack, IsGive, IsFence, IsEnd}
use Rattle.nc_flatness.specs.Flatness.{BytesStand}
use Rattle.nc_flatness.specs.Tokens.{TokenStands}
use Rattle.nc_flatness.specs.Steps.{Goes}
use Rattle.nc_flatness.proofs.worlds.Outcomes.{gone}
use Rattle.nc_flatness.proofs.plans.Rests.{by_turn}
use Rattle.nc_flat_starts.proofs.turning.Frames.{goes_still, last_none}
use Rattle.nc_flat_plans.proofs.places.OwnRows.{lent_full, back_full}
use Rattle.nc_flat_plans.proofs.drivers.Drivers.{IsNext, IsDone, stay_lots, stay_transfers, done_so, returns_later, same_id}
use Rattle.nc_flat_plans.proofs.places.Places.{IsUnder, lends_under, back_under, its_id, its_place, ways, waits_far}
use Rattle.nc_flat_plans.proofs.drivers.OwnCopies.{channels_stay}
use Rattle.nc_flat_plans.proofs.places.Waits.{waits_fence}
use Rattle.nc_flat_plans.proofs.drivers.Shifts.{sided, held, stay_shift, side_shift}
use Rattle.nc_flat_plans.proofs.light.StepTokens.{kept_tokens}
use Rattle.nc_flat_plans.proofs.drivers.StepFrames.{step_bytes}
use Rattle.nc_flat_plans.proofs.drivers.StepQueues.{queue_clear}
use Rattle.nc_flat_plans.proofs.drivers.StepSeen.{unseen_before, moved_seen}
use Rattle.nc_flat_plans.proofs.places.OwnPlaces.{to_come, lent_as, back_as, as_given, as_back, home_to}
use Rattle.nc_flat_plans.proofs.operations.Puts.{IsStaying, stay_comes}
use Rattle.nc_flat_plans.proofs.operations.Backs.{last_comes, home_shift, home_bytes, turns_one}
use Rattle.nc_flat_plans.proofs.drivers.Issues.{IsOpNext, op_may, emptied, fence_stays, fence_silent, went_by, op_goes}

-- the machine stays
pub fence_event : (sc : Scenario) (f : List ℕ) (w : WorldState) (h : HartNo) (o : Op) (s : Step) (rest : List Step) → IsOpNext sc f w h o full s rest → BytesStand sc f (gone w h w.machine (went_by w h full)) → Goes sc f w (events.Issue h)
fence_event sc f w h o s rest k bytes =
    op_goes sc f w h o full s rest k (fence_silent w h (is_script (driver_of w h.0).phase)) (subst (λ (m : MachineState). BytesStand sc f (gone w h m (went_by w h full))) (sym (fence_stays w.machine h.0)) bytes)

-- and so do its tokens
pub fence_tokens : (sc : Scenario) (f : List ℕ) (w : WorldState) (h : HartNo) (o : Op) (s : Step) (rest : List Step) → IsOpNext sc f w h o full s rest → IsDone (driver_of w h.0) s rest (went_by w h full) → s.first ≡ turns.Stay → (went_by w h full).driver.fixed.light ≡ true
    → All (TokenStands (went_by w h full).driver.rest (queue_of w.machine h.0)) (went_by w h full).driver.lots
fence_tokens sc f w h o s rest k done first light = kept_tokens sc f w h o s rest w.machine (went_by w h full) k.next done first (λ id. ap (stores_io (tokens_lot id)) k.act) (λ id. refl) light

-- ---- the lot is its channel's

pub given_comes : (n : MapId) (id : LotId) (s : Step) (rest : List Step) → s ≡ turning (turns.Give id) (hart_step full) → coming n id (s ∷ rest) ≡ entries.Mark 15 15 ∷ token n ∷ []
given_comes n id s rest is =
    ap (λ (t : Step). coming n id (t ∷ rest)) is ∙ steps_ahead.last n id (turning (turns.Give id) (hart_step full)) rest (or_left (gives_lot id (turns.Give id)) _ (same_id id))
    ∙ ap (λ (b : Bool). entries.Mark 15 15 ∷ (if b then token n ∷ [] else [])) (same_id id)

pub given_goes : (sc : Scenario) (f : List ℕ) (w : WorldState) (h : HartNo) (o : Op) (s : Step) (rest : List Step) → IsNext sc f w h o s rest → IsGive (driver_of w h.0).fixed (driver_of w h.0).lots s rest → Goes sc f w (events.Issue h)
given_goes sc f w h o s rest next is =
    let d = driver_of w h.0 in
    let m = w.machine in
    let lot = is.lot in
    let went = went_by w h full in
    let v = gone w h m went in
    let k : IsOpNext sc f w h o full s rest = record { next = next; act = ap (λ (t : Step). t.act) is.step } in
    let u : IsUnder sc f w h lot = lends_under sc f w h o s rest lot false next is.hand (by_turn lot.id s rest (turns.Give lot.id) (ap (λ (t : Step). t.last) is.step) (same_id lot.id)) in
    let done = done_so sc f w h o s rest _ next refl refl in
    let first : s.first ≡ turns.Stay = ap (λ (t : Step). t.first) is.step in
    let turn : s.last ≡ turns.Give lot.id = ap (λ (t : Step). t.last) is.step in
    let none = emptied w h (op_may sc f w h o full s rest k) in
    let plain = is.hand.area_is in
    let shift = side_shift sc f w h went lot sides.Device u refl done.fixed (stay_lots d s rest went done first ∙ ap (λ (t : Turn). lots_after t d.lots) turn)
    (stay_transfers d s rest went done first ∙ ap {B = List (Span × Owner)} (λ (t : Turn). transfers_of d.fixed.me d.lots t) turn) in
    fence_event sc f w h o s rest k
    (step_bytes sc f w h o s rest m went lot (sided sides.Device) next done u plain shift (goes_still sc f w h u.flat.bytes) (record {
      passes = λ x b there off beyond still row. row;
      waits = λ x there off beyond at row.
          let it = at.other.at.is.lot in
          let far = waits_far sc f w h lot x u at in
          waits_fence sc f w h o s rest went lot (sided sides.Device) x (byte f x) next done u shift (ap act_coming k.act) none at (ap (ends it.id) is.step ∙ or_from (same_lot it.id lot.id) false far refl) row;
      channels = channels_stay m h.0;
      row = λ i e x p row.
          let b = byte f x in
          let comes : to_come h lot i d.rest ≡ entries.Mark 15 15 ∷ token (its_id h lot i) ∷ [] =
          ap (λ (r : List Step). to_come h lot i r) next.rest_is ∙ given_comes (its_id h lot i) lot.id s rest is.step in
          as_given sc f w h m went lot i e x b u plain p shift
          (lent_full lot.list.dir m (its_id h lot i) b x (its_place w h lot i e x) [] none (lent_as sc f w h m lot i e x b (entries.Mark 15 15 ∷ token (its_id h lot i) ∷ []) u plain p is.hand.side_is comes row));
      queue = queue_clear (book_of v) (owner_of v) m.pool m.size h.0 (queue_of m h.0) none;
      lasting = last_none (book_of v) f h.0 (hart_of m h.0).last (rest_last went.driver.rest) (ap rest_last done.rest ∙ is.next);
      calm = λ z slot unseen. u.flat.bytes.calm z slot (unseen_before sc f w h m went lot sides.Device z u shift (inr (inl refl)) unseen);
      tokens = fence_tokens sc f w h o s rest k done first;
    }))

-- ---- what bounces may come out

pub fenced_goes : (sc : Scenario) (f : List ℕ) (w : WorldState) (h : HartNo) (o : Op) (s : Step) (rest : List Step) → IsNext sc f w h o s rest → IsFence (driver_of w h.0).fixed (driver_of w h.0).lots s rest → Goes sc f w (events.Issue h)
fenced_goes sc f w h o s rest next is =
    let d = driver_of w h.0 in
    let m = w.machine in
    let lot = is.lot in
    let dir = lot.list.dir in
    let went = went_by w h full in
    let v = gone w h m went in
    let k : IsOpNext sc f w h o full s rest = record { next = next; act = ap (λ (t : Step). t.act) is.step } in
    let u : IsUnder sc f w h lot = back_under sc f w h o s rest lot false next is.hand in
    let done = done_so sc f w h o s rest _ next refl refl in
    let first : s.first ≡ turns.Stay = ap (λ (t : Step). t.first) is.step in
    let none = emptied w h (op_may sc f w h o full s rest k) in
    let stay : s.last ≡ turns.Stay = ap (λ (t : Step). t.last) is.step in
    let later : HasEnd lot.id rest = returns_later sc f w h o s rest lot next u.here is.hand.side_is (ap (ends lot.id) is.step) in
    let plain = is.hand.area_is in
    let stays : IsStaying sc f w h o s rest lot = record { next = next; under = u; stay = record { first = first; last = stay }; plain = λ id. ap (ends id) is.step; mapping = plain; later = later } in
    let shift = stay_shift sc f w h went lot s rest u done stays.stay in
    let size : d.fixed.size ≡ m.size = sym (held sc f w h lot u).setting.block in
    fence_event sc f w h o s rest k
    (step_bytes sc f w h o s rest m went lot (sided lot.side) next done u plain shift (goes_still sc f w h u.flat.bytes) (record {
      passes = λ x b there off beyond still row. row;
      waits = λ x there off beyond at row.
          waits_fence sc f w h o s rest went lot (sided lot.side) x (byte f x) next done u shift (ap act_coming k.act) none at (stays.plain at.other.at.is.lot.id) row;
      channels = channels_stay m h.0;
      row = λ i e x p row.
          let b = byte f x in
          let n = its_id h lot i in
          let y = its_place w h lot i e x in
          let ahead = to_come h lot i rest in
          let comes : to_come h lot i d.rest ≡ entries.Mark 15 15 ∷ ahead =
          ap (λ (r : List Step). to_come h lot i r) next.rest_is ∙ stay_comes sc f w h o s rest lot i stays ∙ ap (λ (a : Act). act_coming a ++ ahead) k.act in
          as_back sc f w h m went lot i e x b rest u plain p is.hand.side_is shift done.rest
          (back_full dir m n b x y ahead u.flat.world.machine none (is.only n)
          (λ back. elim (ways sc f w h lot i e x u p) [
            | inl direct ↦ inl (sym direct.0)
            | inr slot ↦
                inr (ap (λ (z : ℕ). list_any (gives_at z x) ahead) (sym size) ∙ is.out i e x (record { lot_in = u.here; entry = p.entry }) slot.1 back p.on n)
          ])
          (back_as sc f w h m lot i e x b (entries.Mark 15 15 ∷ ahead) u plain p is.hand.side_is comes row));
      queue = queue_clear (book_of v) (owner_of v) m.pool m.size h.0 (queue_of m h.0) none;
      lasting = last_none (book_of v) f h.0 (hart_of m h.0).last (rest_last went.driver.rest) (ap rest_last done.rest ∙ is.next);
      calm = λ z slot unseen. u.flat.bytes.calm z slot (unseen_before sc f w h m went lot lot.side z u shift (moved_seen lot u.moves) unseen);
      tokens = fence_tokens sc f w h o s rest k done first;
    }))

-- ---- the lot is its hart's again

pub ended_goes : (sc : Scenario) (f : List ℕ) (w : WorldState) (h : HartNo) (o : Op) (s : Step) (rest : List Step) → IsNext sc f w h o s rest → IsEnd (driver_of w h.0).fixed (driver_of w h.0).lots s rest → Goes sc f w (events.Issue h)
ended_goes sc f w h o s rest next is =
    let d = driver_of w h.0 in
    let m = w.machine in
    let lot = is.lot in
    let dir = lot.list.dir in
    let went = went_by w h full in
    let v = gone w h m went in
    let k : IsOpNext sc f w h o full s rest = record { next = next; act = ap (λ (t : Step). t.act) is.step } in
    let u : IsUnder sc f w h lot = back_under sc f w h o s rest lot false next is.hand in
    let done = done_so sc f w h o s rest _ next refl refl in
    let first : s.first ≡ turns.Stay = ap (λ (t : Step). t.first) is.step in
    let turn : s.last ≡ is.turn = ap (λ (t : Step). t.last) is.step in
    let plain = is.hand.area_is in
    let back : IsBack lot.id s.last = subst (λ (t : Turn). IsBack lot.id t) (sym turn) is.is_back in
    let home = home_shift sc f w h went lot s rest u plain done first back in
    let none = emptied w h (op_may sc f w h o full s rest k) in
    fence_event sc f w h o s rest k
    (home_bytes sc f w h o s rest m went lot next done u plain home is.next (goes_still sc f w h u.flat.bytes) (record {
      passes = λ x b there off beyond still row. row;
      waits = λ x there off beyond at row.
          let it = at.other.at.is.lot in
          waits_fence sc f w h o s rest went lot (home_to h home.synced) x (byte f x) next done u home.shift (ap act_coming k.act) none at
          (or_from (turns_lot it.id s.last) (stores_io (tokens_lot it.id) s.act) (turns_one it.id lot.id s.last back (waits_far sc f w h lot x u at)) (ap (stores_io (tokens_lot it.id)) k.act)) row;
      channels = channels_stay m h.0;
      back = λ i e x p row.
          let b = byte f x in
          let n = its_id h lot i in
          let y = its_place w h lot i e x in
          let comes : to_come h lot i d.rest ≡ entries.Mark 15 15 ∷ [] =
          ap (λ (r : List Step). to_come h lot i r) next.rest_is ∙ last_comes n lot.id s rest back ∙ ap act_coming k.act in
          back_full dir m n b x y [] u.flat.world.machine none refl
          (λ returns. elim (ways sc f w h lot i e x u p) [
            | inl direct ↦ inl (sym direct.0)
            | inr slot ↦ absurd (both_ways e.bounced (all_at (λ (c : Entry). c.bounced ≡ false) lot.list.entries e (is.straight returns) (at_get lot.list.entries i e p.entry)) slot.1)
          ])
          (back_as sc f w h m lot i e x b (entries.Mark 15 15 ∷ []) u plain p is.hand.side_is comes row);
      queue = queue_clear (book_of v) (owner_of v) m.pool m.size h.0 (queue_of m h.0) none;
      stays = λ z slot calm. calm;
      tokens = fence_tokens sc f w h o s rest k done first;
    }))
