-- The steps of operations that go by number, as events: a touch comes first, or the bytes of flat memory stand behind it.
use Rattle.std.specs.Prelude.{Some, None, Ok, Bool, true, if◌then◌else◌}
use Rattle.std.proofs.Common.{◌≡◌, ℕ, ◌<◌, List, [], length, refl, sym, ap, ◌∙◌, subst, arith}
use Rattle.std.proofs.lemmas.Bool.{and_parts}
use Rattle.nc_num.specs.declared.names.ChanNo.{ChanNo}
use Rattle.nc_num.specs.declared.names.HartNo.{HartNo}
use Rattle.nc_plan.specs.declared.ops.HartOp.{HartOp}
use Rattle.nc_model.specs.Flat.{TraceItem, flat, deeds}
use Rattle.nc_ops.specs.declared.ops.Op.{Op}
use Rattle.nc_scen.specs.declared.events.Event.TheVariants as events
use Rattle.nc_scen.specs.declared.scenario.Scenario.{Scenario}
use Rattle.nc_rules.specs.declared.steps.Act.{Act}
use Rattle.nc_rules.specs.declared.steps.Act.TheVariants as acts
use Rattle.nc_rules.specs.declared.steps.Next.{Next}
use Rattle.nc_rules.specs.declared.steps.Next.TheVariants as nexts
use Rattle.nc_rules.specs.declared.steps.Phase.{Phase}
use Rattle.nc_rules.specs.declared.steps.Phase.TheVariants.{Steps}
use Rattle.nc_rules.specs.declared.steps.Seen.TheVariants as seen
use Rattle.nc_rules.specs.declared.steps.Step.{Step}
use Rattle.nc_rules.specs.Machine.{MachineState, grantee_of}
use Rattle.nc_rules.specs.Calls.{issue_next, issue_answer, claim_next, control_of}
use Rattle.nc_rules.specs.Driver.{DriverState, Went, in_hand, next_act, next_of, is_script, started, waits_for, done}
use Rattle.nc_rules.specs.Events.{is_out, may_go_on, enabled}
use Rattle.nc_rules.specs.Flat.{records_trace}
use Rattle.nc_rules.specs.Operations.{step_at}
use Rattle.nc_rules.specs.Outcomes.{goes, seen_of, claim_seen, start_outcome, op_outcome, claim_outcome, poll_outcome, step_outcome, outcome}
use Rattle.nc_rules.specs.Records.{op_records}
use Rattle.nc_rules.specs.Sound.{OpIsThere}
use Rattle.nc_rules.specs.EventTouches.{op_touch, issue_touch, poll_touch}
use Rattle.nc_rules.specs.World.{WorldState, driver_of}
use Rattle.nc_scripts.specs.Scripts.{IsDriven}
use Rattle.nc_scripts.proofs.EveryDriver.{op_there}
use Rattle.nc_calls.proofs.CallProofs.{channels_by_place}
use Rattle.nc_holds.specs.Rests.{RestAt}
use Rattle.nc_calls.proofs.SoundLaws.{calls_keep_shape}
use Rattle.nc_flatness.specs.Flatness.{StandsAt}
use Rattle.nc_flatness.specs.Steps.{GoesTo, IsNow, Goes}
use Rattle.nc_flatness.proofs.worlds.Outcomes.{gone, goes_go, goes_silent}
use Rattle.nc_flat_scripts.proofs.accesses.ActRows.{stands_now, stays_stand}
use Rattle.nc_flat_scripts.proofs.accesses.OpActs.{Acts, acts_op}
use Rattle.nc_flat_scripts.proofs.copies.OtherCopies.{claim_keeps}
use Rattle.nc_flat_scripts.proofs.steps.ScriptCalls.{IsIdle, GoesIdle, done_idles}
use Rattle.nc_flat_scripts.proofs.accesses.ScriptSteps.{IsNoTake, IsOwn}
use Rattle.nc_flat_scripts.proofs.steps.StepFrames.{StandsIn, idle_stands}

-- ---- a hart whose driver goes on

-- what is known of hart h of the world, whose event it is
pub record IsHere (sc : Scenario) (f : List ℕ) (w : WorldState) (h : HartNo) : Type 0 where
  pub now : IsNow sc f w (events.Issue h)
  pub lt : h.0 < length sc.harts
  pub there : h.0 < length w.machine.harts
  pub may : may_go_on w h (next_of (driver_of w h.0)) ≡ true

may_by : (w : WorldState) (h : HartNo) → enabled w (events.Issue h) ≡ true → may_go_on w h (next_of (driver_of w h.0)) ≡ true
unfolding enabled
may_by w h may = (and_parts (is_out w.machine h (waits_for (driver_of w h.0))) (may_go_on w h (next_of (driver_of w h.0))) may).1

pub here_by : (sc : Scenario) (f : List ℕ) (w : WorldState) (h : HartNo) → IsNow sc f w (events.Issue h) → IsHere sc f w h
here_by sc f w h now =
    let lt : h.0 < length sc.harts = now.there in
    record { now = now; lt = lt; there = omega (arith, now.flat.world.of_scenario.harts, lt); may = may_by w h now.may }

-- the driver stands at a step of an operation, with no plan
pub idle_by : (sc : Scenario) (f : List ℕ) (w : WorldState) (h : HartNo) (n : ℕ) → IsHere sc f w h → (driver_of w h.0).phase ≡ Steps n → IsIdle (driver_of w h.0)
idle_by sc f w h n here phase =
    let d = driver_of w h.0 in
    let drives = here.now.flat.bytes.drives h.0 here.lt in
    record {
      count = n;
      phase = phase;
      rest = subst (λ (p : Phase). RestAt p d.rest) phase drives.idle;
      still = subst (λ (p : Phase). StandsAt d p) phase drives.stands;
    }

driven : (sc : Scenario) (f : List ℕ) (w : WorldState) (h : HartNo) → IsHere sc f w h → IsDriven (length w.machine.cache.ram) (length w.machine.harts) (driver_of w h.0).fixed w.machine
driven sc f w h here = let s = (here.now.flat.world.holds.each h.0 here.there).setting in record { memory = refl; block = s.block; processors = refl; boxes = s.boxes }

pub next_there : (sc : Scenario) (f : List ℕ) (w : WorldState) (h : HartNo) (op : HartOp) → IsHere sc f w h → next_of (driver_of w h.0) ≡ nexts.Op op → OpIsThere w.machine h.0 op
next_there sc f w h op here nx =
    let holds = here.now.flat.world.holds.each h.0 here.there in
    op_there (length w.machine.cache.ram) (length w.machine.harts) (driver_of w h.0) op w.machine h.0 holds.driver nx (driven sc f w h here) holds.loads

pub may_next : (sc : Scenario) (f : List ℕ) (w : WorldState) (h : HartNo) (nx : Next) → IsHere sc f w h → next_of (driver_of w h.0) ≡ nx → may_go_on w h nx ≡ true
may_next sc f w h nx here is = subst (λ (k : Next). may_go_on w h k ≡ true) is here.may

-- ---- the outcome of a step

pub outcome_is : (w : WorldState) (h : HartNo) (nx : Next) → next_of (driver_of w h.0) ≡ nx → outcome w (events.Issue h) ≡ step_outcome w h nx
unfolding outcome
outcome_is w h nx is = ap (step_outcome w h) is

pub start_is : (w : WorldState) (h : HartNo) → step_outcome w h nexts.Start ≡ goes w h w.machine (started (driver_of w h.0) w.owners w.pages) w.slots None []
unfolding step_outcome start_outcome
start_is w h = refl

pub op_is : (w : WorldState) (h : HartNo) (op : HartOp)
    → step_outcome w h (nexts.Op op) ≡ goes w h (issue_next w.machine h.0 op) (done (driver_of w h.0) (seen_of (issue_answer w.machine h.0 op))) w.slots (issue_touch w h (is_script (driver_of w h.0).phase) op) (op_records w.machine h (is_script (driver_of w h.0).phase) op)
unfolding step_outcome op_outcome
op_is w h op = refl

claim_is : (w : WorldState) (h : HartNo) (chan : ChanNo) → step_outcome w h (nexts.Claim chan) ≡ goes w h (claim_next w.machine h chan.0) (done (driver_of w h.0) (claim_seen (grantee_of w.machine chan.0))) w.slots None []
unfolding step_outcome claim_outcome
claim_is w h chan = refl

pub poll_is : (w : WorldState) (h : HartNo) (chan : ChanNo) → step_outcome w h (nexts.Poll chan) ≡ goes w h w.machine (done (driver_of w h.0) (seen.Control (control_of w.machine chan.0))) w.slots (poll_touch w h chan) []
unfolding step_outcome poll_outcome
poll_is w h chan = refl

-- ---- a step that has no plan before it nor behind it

pub acts_go : (sc : Scenario) (f : List ℕ) (ms : List TraceItem) (w : WorldState) (h : HartNo) (n : MachineState) (went : Went) → IsHere sc f w h → IsIdle (driver_of w h.0) → GoesIdle (driver_of w h.0) went [] → Acts sc f ms w n → GoesTo sc f ms (gone w h n went)
acts_go sc f ms w h n went here was idle is = record { untouched = is.untouched; latest = is.latest; bytes = idle_stands sc f (flat f (deeds ms)) w h n went here.now.flat here.lt was idle is.stands }

pub quiet_go : (sc : Scenario) (f : List ℕ) (w : WorldState) (h : HartNo) (n : MachineState) (went : Went) → IsHere sc f w h → IsIdle (driver_of w h.0) → GoesIdle (driver_of w h.0) went [] → StandsIn sc f w n → GoesTo sc f [] (gone w h n went)
quiet_go sc f w h n went here was idle is = goes_silent sc f [] (gone w h n went) refl (idle_stands sc f f w h n went here.now.flat here.lt was idle is)

-- it is at this step of the operation in hand
pub record AtStep (d : DriverState) (o : Op) (n : ℕ) (s : Step) : Type 0 where
  pub hand : in_hand d ≡ Some o
  pub phase : d.phase ≡ Steps n
  pub is : step_at d.fixed d.lots o n ≡ Ok (Some s)
  pub own : IsOwn d.fixed s

script_touch : (w : WorldState) (h : HartNo) (op : HartOp) (n : ℕ) (p : Phase) → p ≡ Steps n → issue_touch w h (is_script p) op ≡ None → op_touch w h op ≡ None
script_touch w h op n p is none = subst (λ (t : Bool). (if t then op_touch w h op else None) ≡ None) (ap is_script is) none

op_goes : (sc : Scenario) (f : List ℕ) (w : WorldState) (h : HartNo) (o : Op) (n : ℕ) (s : Step) (op : HartOp) → IsHere sc f w h → AtStep (driver_of w h.0) o n s → s.act ≡ acts.Op op → next_of (driver_of w h.0) ≡ nexts.Op op → Goes sc f w (events.Issue h)
op_goes sc f w h o n s op here at act nx =
    let d = driver_of w h.0 in
    let m = w.machine in
    let saw = seen_of (issue_answer m h.0 op) in
    let went = done d saw in
    let was = idle_by sc f w h n here at.phase in
    let next = issue_next m h.0 op in
    let marks : Bool → List TraceItem = λ t. records_trace m.size w.grants (op_records m h t op) in
    goes_go sc f w (events.Issue h) h next went w.slots (issue_touch w h (is_script d.phase) op) (op_records m h (is_script d.phase) op) here.now.may (outcome_is w h (nexts.Op op) nx ∙ op_is w h op)
    (λ none. subst (λ (t : Bool). GoesTo sc f (marks t) (gone w h next went)) (sym (ap is_script at.phase))
    (acts_go sc f (marks true) w h next went here was (done_idles d saw o n s was.still at.hand at.phase at.is at.own)
    (acts_op sc f w h op here.now.flat here.there was (script_touch w h op n d.phase at.phase none) (subst (IsNoTake d.fixed) act at.own.act) (next_there sc f w h op here nx) (may_next sc f w h (nexts.Op op) here nx))))

claim_goes : (sc : Scenario) (f : List ℕ) (w : WorldState) (h : HartNo) (o : Op) (n : ℕ) (s : Step) (chan : ChanNo) → IsHere sc f w h → AtStep (driver_of w h.0) o n s → next_of (driver_of w h.0) ≡ nexts.Claim chan → Goes sc f w (events.Issue h)
claim_goes sc f w h o n s chan here at nx =
    let d = driver_of w h.0 in
    let saw = claim_seen (grantee_of w.machine chan.0) in
    let was = idle_by sc f w h n here at.phase in
    let next = claim_next w.machine h chan.0 in
    goes_go sc f w (events.Issue h) h next (done d saw) w.slots None [] here.now.may (outcome_is w h (nexts.Claim chan) nx ∙ claim_is w h chan)
    (λ none. quiet_go sc f w h next (done d saw) here was (done_idles d saw o n s was.still at.hand at.phase at.is at.own)
    (stays_stand sc f w next here.now.flat (calls_keep_shape.of_claim w.machine h chan.0) (channels_by_place.claim_stays w.machine h chan.0) (λ k. claim_keeps w.machine h chan.0 k)))

poll_goes : (sc : Scenario) (f : List ℕ) (w : WorldState) (h : HartNo) (o : Op) (n : ℕ) (s : Step) (chan : ChanNo) → IsHere sc f w h → AtStep (driver_of w h.0) o n s → next_of (driver_of w h.0) ≡ nexts.Poll chan → Goes sc f w (events.Issue h)
poll_goes sc f w h o n s chan here at nx =
    let d = driver_of w h.0 in
    let saw = seen.Control (control_of w.machine chan.0) in
    let was = idle_by sc f w h n here at.phase in
    goes_go sc f w (events.Issue h) h w.machine (done d saw) w.slots (poll_touch w h chan) [] here.now.may (outcome_is w h (nexts.Poll chan) nx ∙ poll_is w h chan)
    (λ none. quiet_go sc f w h w.machine (done d saw) here was (done_idles d saw o n s was.still at.hand at.phase at.is at.own) (stands_now sc f w here.now.flat))

pub act_goes : (sc : Scenario) (f : List ℕ) (w : WorldState) (h : HartNo) (o : Op) (n : ℕ) (s : Step) (a : Act) → IsHere sc f w h → AtStep (driver_of w h.0) o n s → s.act ≡ a → next_of (driver_of w h.0) ≡ next_act a → Goes sc f w (events.Issue h)
act_goes sc f w h o n s (acts.Op op) here at act nx = op_goes sc f w h o n s op here at act nx
act_goes sc f w h o n s (acts.Claim chan) here at act nx = claim_goes sc f w h o n s chan here at nx
act_goes sc f w h o n s (acts.Poll chan) here at act nx = poll_goes sc f w h o n s chan here at nx
act_goes sc f w h o n s (acts.Take buf) here at act nx = absurd (subst (IsNoTake (driver_of w h.0).fixed) act at.own.act)
