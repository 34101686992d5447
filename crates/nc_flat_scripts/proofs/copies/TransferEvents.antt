-- A copy's stores to its channel's registers, its poll and its release, as events: the bytes of flat memory stand behind
-- them.
use Rattle.std.specs.Prelude.{Some, None, Bool, true, false, not, All}
use Rattle.std.specs.List.{list_any}
use Rattle.std.proofs.Common.{◌≡◌, ◌⊎◌, ℕ, List, [], ◌∷◌, refl, sym, ap, ◌∙◌, inl, inr, subst}
use Rattle.std.proofs.lemmas.Bool.{and_parts}
use Rattle.nc_num.specs.declared.names.ChanNo.{ChanNo}
use Rattle.nc_num.specs.declared.names.HartNo.{HartNo}
use Rattle.nc_queue.specs.declared.entry.Entry.TheVariants.{Reg}
use Rattle.nc_plan.specs.declared.ops.HartOp.TheVariants as hart_ops
use Rattle.nc_plan.specs.declared.ops.IoTarget.TheVariants as io
use Rattle.nc_ops.specs.declared.ops.Op.{Op}
use Rattle.nc_scen.specs.declared.events.Event.TheVariants as events
use Rattle.nc_scen.specs.declared.scenario.Scenario.{Scenario}
use Rattle.nc_rules.specs.declared.lots.Lot.{Lot}
use Rattle.nc_rules.specs.declared.lots.LotId.{LotId}
use Rattle.nc_rules.specs.declared.steps.Act.{Act}
use Rattle.nc_rules.specs.declared.steps.Act.TheVariants as acts
use Rattle.nc_rules.specs.declared.steps.Next.TheVariants as nexts
use Rattle.nc_rules.specs.declared.steps.Phase.{Phase}
use Rattle.nc_rules.specs.declared.steps.Phase.TheVariants.{Work}
use Rattle.nc_rules.specs.declared.steps.Seen.{Seen}
use Rattle.nc_rules.specs.declared.steps.Seen.TheVariants as seen
use Rattle.nc_rules.specs.declared.steps.Step.{Step}
use Rattle.nc_rules.specs.declared.steps.Turn.TheVariants as turns
use Rattle.nc_rules.specs.Calls.{issue_next, control_of, io_waits}
use Rattle.nc_rules.specs.Driver.{in_hand, is_script, kept, busy, done}
use Rattle.nc_rules.specs.Events.{is_over}
use Rattle.nc_rules.specs.Flat.{records_trace}
use Rattle.nc_rules.specs.Lots.{DriverConfig}
use Rattle.nc_rules.specs.Machine.{queue_of}
use Rattle.nc_rules.specs.Plans.{step, control_step}
use Rattle.nc_rules.specs.Records.{op_records}
use Rattle.nc_rules.specs.Turns.{lots_after_both}
use Rattle.nc_rules.specs.EventTouches.{issue_touch, poll_touch}
use Rattle.nc_rules.specs.World.{WorldState, driver_of}
use Rattle.nc_scripts.specs.Drivers.{IsAtWork, IsPhase, ClaimsFirst, ClaimsNothing}
use Rattle.nc_rows.specs.Parts.{rest_last}
use Rattle.nc_flatness.specs.Copying.{polls, SawDone}
use Rattle.nc_flatness.specs.Lending.{is_lending}
use Rattle.nc_flatness.specs.Plans.{IsStill, StepGoes, Loads, Stores, WritesBack, Drops, Gives, Fences, Ends, Zeroes, Flushes, Settles, GivesArea, TakesBack, Marks, Posts, Claims, Registers, Polls, TakesTarget, TakesSource, IsRegister, IsPoll, lots_behind, PlanGoes, EndsOne}
use Rattle.nc_flatness.specs.Steps.{OfClaim, OfChannel, OfLots, kind_of_act, kind_of_next, Goes, TransfersAreFlat}
use Rattle.nc_flatness.proofs.worlds.Outcomes.{gone, goes_go, goes_silent}
use Rattle.nc_flatness.specs.Tokens.{is_lending_side, ends_lending, TokenStands}
use Rattle.nc_flatness.proofs.plans.Rests.{ends_one_next, given_same}
use Rattle.nc_flatness.proofs.tokens.Stands.{poll_unlent}
use Rattle.nc_flat_scripts.proofs.accesses.OpActs.{enters}
use Rattle.nc_flat_scripts.proofs.accesses.ScriptEvents.{IsHere, here_by, next_there, may_next, outcome_is, op_is, poll_is}
use Rattle.nc_flat_scripts.proofs.handing.SendEvents.{next_work}
use Rattle.nc_flat_scripts.proofs.copies.TransferCopies.{copies_own, copies_on}
use Rattle.nc_flat_scripts.proofs.copies.TransferDrivers.{at_work, IsWent, done_so}
use Rattle.nc_flat_scripts.proofs.copies.TransferFrames.{IsMade, step_stands}
use Rattle.nc_flat_scripts.proofs.copies.TransferPolls.{not_so, none_tokens, poll_finds, sees_done}
use Rattle.nc_flat_scripts.proofs.copies.TransferRows.{Leaves, Sets}

-- ---- the plan in hand

-- hart h's plan makes a step next that does this and turns nothing, of which this rest is left
pub record IsNext (sc : Scenario) (f : List ℕ) (w : WorldState) (h : HartNo) (o : Op) (a : Act) (rest : List Step) : Type 0 where
  pub here : IsHere sc f w h
  pub hand : in_hand (driver_of w h.0) ≡ Some o
  pub lends : is_lending o ≡ true
  pub phase : (driver_of w h.0).phase ≡ Work
  pub rest_is : (driver_of w h.0).rest ≡ step a ∷ rest
  pub left : PlanGoes (driver_of w h.0).fixed (driver_of w h.0).lots rest
  pub one : (driver_of w h.0).fixed.light ≡ true → EndsOne rest

pub unclaimed : (sc : Scenario) (f : List ℕ) (w : WorldState) (h : HartNo) (s : Step) (rest : List Step) → IsHere sc f w h → (driver_of w h.0).phase ≡ Work → (driver_of w h.0).rest ≡ s ∷ rest → ClaimsNothing rest
unclaimed sc f w h s rest here phase is =
    let d = driver_of w h.0 in
    let work : IsAtWork d = subst (λ (p : Phase). IsPhase d p) phase (here.now.flat.world.holds.each h.0 here.there).driver.phase in
    (subst (λ (r : List Step). ClaimsFirst d.lots r) is work.claims).1

-- the driver behind it
went_so : (sc : Scenario) (f : List ℕ) (w : WorldState) (h : HartNo) (o : Op) (a : Act) (rest : List Step) (saw : Seen) → IsNext sc f w h o a rest → busy saw ≡ None → IsWent (driver_of w h.0) rest (kept (driver_of w h.0).saw saw) (done (driver_of w h.0) saw)
went_so sc f w h o a rest saw k free =
    done_so (driver_of w h.0) o a rest saw k.hand k.lends k.phase k.rest_is free (k.here.now.flat.bytes.drives h.0 k.here.lt).lots k.left k.one

-- ---- a store to a register

store_silent : (w : WorldState) (h : HartNo) (t : Bool) (chan : ChanNo) (off width value : ℕ) → records_trace w.machine.size w.grants (op_records w.machine h t (hart_ops.IoStore (io.Reg chan off width value))) ≡ []
unfolding op_records
store_silent w h t chan off width value = refl

store_goes : (sc : Scenario) (f : List ℕ) (w : WorldState) (h : HartNo) (o : Op) (chan : ChanNo) (off width value : ℕ) (rest : List Step) → IsNext sc f w h o (acts.Op (hart_ops.IoStore (io.Reg chan off width value))) rest → All (IsStill (driver_of w h.0).fixed) (driver_of w h.0).lots → rest_last rest ≡ None
    → Goes sc f w (events.Issue h)
store_goes sc f w h o chan off width value rest k still next =
    let d = driver_of w h.0 in
    let m = w.machine in
    let flat = k.here.now.flat in
    let op = hart_ops.IoStore (io.Reg chan off width value) in
    let s = step (acts.Op op) in
    let n = issue_next m h.0 op in
    let went = done d seen.Nothing in
    let rs = op_records m h (is_script d.phase) op in
    let nx = next_work d o (s ∷ rest) k.hand k.phase k.rest_is in
    let on = went_so sc f w h o (acts.Op op) rest seen.Nothing k refl in
    let made : IsMade sc f w h n went s = record {
      flat = flat;
      lt = k.here.lt;
      still = still;
      fixed = on.fixed;
      lots = on.lots;
      rest = k.rest_is ∙ ap (λ (r : List Step). s ∷ r) (sym on.rest);
      none = record { ends = λ lot. refl; posts = λ b. refl };
      unstored = ap rest_last on.rest ∙ next;
      drives = on.drives;
      transfers = on.transfers;
      moves = Sets chan off width value (enters w h op (Reg chan off width value) flat.world.machine k.here.there refl (next_there sc f w h op k.here nx) (may_next sc f w h (nexts.Op op) k.here nx)) refl;
    } in
    let own = copies_own sc f w h n went s made (record { hand = on.hand; phase = k.phase }) refl
    (λ c was now begun over. subst SawDone (sym (on.saw begun)) (now.polled k.phase (ap polls k.rest_is ∙ ap polls (sym on.rest) ∙ over))) in
    goes_go sc f w (events.Issue h) h n went w.slots (issue_touch w h (is_script d.phase) op) rs k.here.now.may (outcome_is w h (nexts.Op op) nx ∙ op_is w h op)
    (λ none. goes_silent sc f (records_trace m.size w.grants rs) (gone w h n went) (store_silent w h (is_script d.phase) chan off width value) (step_stands sc f w h n went s made (copies_on sc f w h n went s made own)))

-- ---- the poll

polled_goes : (sc : Scenario) (f : List ℕ) (w : WorldState) (h : HartNo) (o : Op) (chan : ChanNo) (rest more : List Step) → IsNext sc f w h o (acts.Poll chan) rest → All (IsStill (driver_of w h.0).fixed) (driver_of w h.0).lots → rest ≡ control_step chan 0 ∷ more
    → Goes sc f w (events.Issue h)
polled_goes sc f w h o chan rest more k still release =
    let d = driver_of w h.0 in
    let m = w.machine in
    let s = step (acts.Poll chan) in
    let saw = seen.Control (control_of m chan.0) in
    let went = done d saw in
    let nx = next_work d o (s ∷ rest) k.hand k.phase k.rest_is in
    let on = went_so sc f w h o (acts.Poll chan) rest saw k refl in
    let made : IsMade sc f w h m went s = record {
      flat = k.here.now.flat;
      lt = k.here.lt;
      still = still;
      fixed = on.fixed;
      lots = on.lots;
      rest = k.rest_is ∙ ap (λ (r : List Step). s ∷ r) (sym on.rest);
      none = record { ends = λ lot. refl; posts = λ b. refl };
      unstored = ap rest_last on.rest ∙ ap rest_last release;
      drives = on.drives;
      transfers = on.transfers;
      moves = Leaves refl refl;
    } in
    let all : d.rest ≡ s ∷ control_step chan 0 ∷ more = k.rest_is ∙ ap (λ (r : List Step). s ∷ r) release in
    let own = copies_own sc f w h m went s made (record { hand = on.hand; phase = k.phase }) refl
    (λ c was now begun over.
    subst SawDone (sym (on.saw begun))
    (sees_done sc f w h.0 c now.from now.to chan (poll_finds sc f w h c chan more now all (unclaimed sc f w h s (control_step chan 0 ∷ more) k.here k.phase all) (may_next sc f w h (nexts.Poll chan) k.here nx)))) in
    goes_go sc f w (events.Issue h) h m went w.slots (poll_touch w h chan) [] k.here.now.may (outcome_is w h (nexts.Poll chan) nx ∙ poll_is w h chan)
    (λ none. goes_silent sc f [] (gone w h m went) refl (step_stands sc f w h m went s made (copies_on sc f w h m went s made own)))

-- ---- whichever it is

lots_channel : OfLots ≡ OfChannel → ⊥
lots_channel e = absurd cc

claim_channel : OfClaim ≡ OfChannel → ⊥
claim_channel e = absurd cc

lots_kind : {A : Type 0} (s t : Step) → s ≡ t → kind_of_act s.act ≡ OfChannel → kind_of_act t.act ≡ OfLots → A
lots_kind s t same is lots = absurd (lots_channel (sym lots ∙ ap (λ (k : Step). kind_of_act k.act) (sym same) ∙ is))

pub channel_step : (f : DriverConfig) (lots : List Lot) (s : Step) (rest : List Step) → kind_of_act s.act ≡ OfChannel → StepGoes f lots s rest → IsRegister f lots s rest ⊎ IsPoll f lots s rest
channel_step f lots s rest kind (Registers is) = inl is
channel_step f lots s rest kind (Polls is) = inr is
channel_step f lots s rest kind (Stores is) = absurd (lots_channel (ap kind_of_act (sym is.act) ∙ kind))
channel_step f lots s rest kind (Claims is) = absurd (claim_channel (ap kind_of_next (sym is.steps) ∙ kind))
channel_step f lots s rest kind (TakesTarget is) = lots_kind (record s { first = turns.Stay }) _ is.goes.step kind refl
channel_step f lots s rest kind (TakesSource is) = lots_kind (record s { first = turns.Stay }) _ is.goes.step kind refl
channel_step f lots s rest kind (Loads is) = lots_kind s _ is.step kind refl
channel_step f lots s rest kind (WritesBack is) = lots_kind s _ is.step kind refl
channel_step f lots s rest kind (Drops is) = lots_kind s _ is.step kind refl
channel_step f lots s rest kind (Gives is) = lots_kind s _ is.step kind refl
channel_step f lots s rest kind (Fences is) = lots_kind s _ is.step kind refl
channel_step f lots s rest kind (Ends is) = lots_kind s _ is.step kind refl
channel_step f lots s rest kind (Zeroes is) = lots_kind s _ is.step kind refl
channel_step f lots s rest kind (Flushes is) = lots_kind s _ is.step kind refl
channel_step f lots s rest kind (Settles is) = lots_kind s _ is.step kind refl
channel_step f lots s rest kind (GivesArea is) = lots_kind s _ is.step kind refl
channel_step f lots s rest kind (TakesBack is) = lots_kind s _ is.step kind refl
channel_step f lots s rest kind (Marks is) = lots_kind s _ is.step kind refl
channel_step f lots s rest kind (Posts is) = lots_kind s _ is.step kind refl

-- the poll waits for each token, so no lot is being lent
none_lent : (sc : Scenario) (f : List ℕ) (w : WorldState) (h : HartNo) (o : Op) (chan : ChanNo) (rest : List Step) → IsHere sc f w h → in_hand (driver_of w h.0) ≡ Some o → (driver_of w h.0).phase ≡ Work → (driver_of w h.0).rest ≡ step (acts.Poll chan) ∷ rest
    → All (IsStill (driver_of w h.0).fixed) (driver_of w h.0).lots → ((id : LotId) → list_any (ends_lending id) rest ≡ false) → All (λ lot. is_lending_side lot.side ≡ false) (driver_of w h.0).lots
none_lent sc f w h o chan rest here hand phase all still lent =
    let d = driver_of w h.0 in
    let q = queue_of w.machine h.0 in
    let s = step (acts.Poll chan) in
    let may = and_parts (not (io_waits w.machine h.0)) (is_over (control_of w.machine chan.0)) (may_next sc f w h (nexts.Poll chan) here (next_work d o (s ∷ rest) hand phase all)) in
    poll_unlent d.fixed (s ∷ rest) q d.lots still lent (λ id e queued. none_tokens q id e (not_so (io_waits w.machine h.0) may.0) queued)
    (λ light. subst (λ (r : List Step). All (TokenStands r q) d.lots) all (here.now.flat.bytes.tokens h.0 here.lt light))

step_by : (sc : Scenario) (f : List ℕ) (w : WorldState) (h : HartNo) (o : Op) (s : Step) (rest : List Step) → IsHere sc f w h → in_hand (driver_of w h.0) ≡ Some o → is_lending o ≡ true → (driver_of w h.0).phase ≡ Work → (driver_of w h.0).rest ≡ s ∷ rest
    → PlanGoes (driver_of w h.0).fixed (lots_after_both s.first s.last (lots_behind s.act (driver_of w h.0).lots)) rest → ((driver_of w h.0).fixed.light ≡ true → EndsOne rest) → IsRegister (driver_of w h.0).fixed (driver_of w h.0).lots s rest ⊎ IsPoll (driver_of w h.0).fixed (driver_of w h.0).lots s rest
    → Goes sc f w (events.Issue h)
step_by sc f w h o s rest here hand lends phase all left one (inl is) =
    let d = driver_of w h.0 in
    store_goes sc f w h o is.chan is.off is.width is.value rest
    (record {
      here = here;
      hand = hand;
      lends = lends;
      phase = phase;
      rest_is = all ∙ ap (λ (t : Step). t ∷ rest) is.step;
      left = subst (λ (t : Step). PlanGoes d.fixed (lots_after_both t.first t.last (lots_behind t.act d.lots)) rest) is.step left;
      one = one;
    }) is.still is.next
step_by sc f w h o s rest here hand lends phase all left one (inr is) =
    let d = driver_of w h.0 in
    let at : d.rest ≡ step (acts.Poll is.chan) ∷ rest = all ∙ ap (λ (t : Step). t ∷ rest) is.step in
    let behind = subst (λ (t : Step). PlanGoes d.fixed (lots_after_both t.first t.last (lots_behind t.act d.lots)) rest) is.step left in
    polled_goes sc f w h o is.chan rest is.more
    (record {
      here = here;
      hand = hand;
      lends = lends;
      phase = phase;
      rest_is = at;
      left = subst (λ (ls : List Lot). PlanGoes d.fixed ls rest) (given_same d.lots (none_lent sc f w h o is.chan rest here hand phase at is.still is.lent)) behind;
      one = one;
    }) is.still is.release

rest_by : (sc : Scenario) (f : List ℕ) (w : WorldState) (h : HartNo) (o : Op) (rest : List Step) → IsHere sc f w h → in_hand (driver_of w h.0) ≡ Some o → is_lending o ≡ true → (driver_of w h.0).phase ≡ Work → (driver_of w h.0).rest ≡ rest
    → PlanGoes (driver_of w h.0).fixed (driver_of w h.0).lots rest → ((driver_of w h.0).fixed.light ≡ true → EndsOne rest) → kind_of_next rest ≡ OfChannel → Goes sc f w (events.Issue h)
rest_by sc f w h o [] here hand lends phase all goes one kind = absurd (lots_channel kind)
rest_by sc f w h o (s ∷ rest) here hand lends phase all goes one kind = step_by sc f w h o s rest here hand lends phase all goes.1 (λ light. ends_one_next s rest (one light)) (channel_step (driver_of w h.0).fixed (driver_of w h.0).lots s rest kind goes.0)

pub transfers_go : TransfersAreFlat
transfers_go sc f w h o now hand lends phase kind =
    let here = here_by sc f w h now in
    let d = driver_of w h.0 in
    let plan = at_work d o (now.flat.bytes.drives h.0 here.lt) hand lends phase in
    rest_by sc f w h o d.rest here hand lends phase refl plan.goes plan.one kind
