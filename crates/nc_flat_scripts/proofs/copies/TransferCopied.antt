-- The poll of a copy that a hart has in hand is of the copy's own channel and no touch, and flat memory has the source's
-- bytes at the destination then.
use Rattle.std.specs.Prelude.{Option, Some, None, Bool, true, if◌then◌else◌, ◌==◌}
use Rattle.std.proofs.Common.{◌≡◌, ℕ, ◌+◌, ◌<◌, List, [], ◌∷◌, refl, sym, ap, ◌∙◌, inl, inr, subst}
use Rattle.std.proofs.lemmas.Bool.{cond-true, eq-eqb}
use Rattle.nc_num.specs.Memory.{byte}
use Rattle.nc_num.specs.declared.names.ChanNo.{ChanNo}
use Rattle.nc_num.specs.declared.names.HartNo.{HartNo}
use Rattle.nc_num.specs.declared.places.Span.{Span}
use Rattle.nc_plan.specs.declared.ops.HartOp.TheVariants as hart_ops
use Rattle.nc_plan.specs.declared.ops.IoTarget.TheVariants as io
use Rattle.nc_model.specs.Flat.{TraceItem}
use Rattle.nc_model.specs.Touches.{register_touch}
use Rattle.nc_model.specs.declared.touches.Touch.{Touch}
use Rattle.nc_scen.specs.declared.events.Event.TheVariants as events
use Rattle.nc_scen.specs.declared.scenario.Scenario.{Scenario}
use Rattle.nc_rules.specs.declared.lots.Lot.{Lot}
use Rattle.nc_rules.specs.declared.records.Record.{Record}
use Rattle.nc_rules.specs.declared.records.Record.TheVariants as records
use Rattle.nc_rules.specs.declared.steps.Next.TheVariants as nexts
use Rattle.nc_rules.specs.declared.steps.Phase.TheVariants.{Work}
use Rattle.nc_rules.specs.declared.steps.Seen.TheVariants as seen
use Rattle.nc_rules.specs.declared.steps.Step.{Step}
use Rattle.nc_rules.specs.declared.steps.Act.{Act}
use Rattle.nc_rules.specs.declared.steps.Act.TheVariants as acts
use Rattle.nc_rules.specs.Calls.{control_of}
use Rattle.nc_rules.specs.Driver.{in_hand, next_of, next_act, next_rest, done}
use Rattle.nc_rules.specs.Events.{enabled}
use Rattle.nc_rules.specs.Flat.{records_trace, event_trace}
use Rattle.nc_rules.specs.Lots.{DriverConfig}
use Rattle.nc_rules.specs.Machine.{grantee_of}
use Rattle.nc_rules.specs.Next.{event_records}
use Rattle.nc_rules.specs.Outcomes.{Outcome, goes, outcome}
use Rattle.nc_rules.specs.Plans.{step, control_step}
use Rattle.nc_rules.specs.EventTouches.{poll_touch}
use Rattle.nc_rules.specs.World.{WorldState, driver_of, hart}
use Rattle.nc_transfers.specs.Transfers.{IsCopied}
use Rattle.nc_flatness.specs.Copying.{CopyOp, copy_op, IsBegun, IsCopyNow, IsUnderWay}
use Rattle.nc_flatness.specs.Plans.{PlanGoes}
use Rattle.nc_flatness.specs.Steps.{IsNow, kind_of_act}
use Rattle.nc_flatness.proofs.worlds.Trace.{moves_silent}
use Rattle.nc_flat_scripts.proofs.accesses.ScriptEvents.{IsHere, here_by, may_next, outcome_is, poll_is}
use Rattle.nc_flat_scripts.proofs.handing.SendEvents.{next_work}
use Rattle.nc_flat_scripts.proofs.copies.TransferDrivers.{at_work}
use Rattle.nc_flat_scripts.proofs.copies.TransferEvents.{unclaimed, channel_step}
use Rattle.nc_flat_scripts.proofs.copies.TransferPolls.{PollFinds, poll_finds}

-- ---- no touch

granted_silent : (w : WorldState) (h : HartNo) (chan : ChanNo) → grantee_of w.machine chan.0 ≡ Some (hart h.0) → poll_touch w h chan ≡ None
granted_silent w h chan is =
    ap (λ (g : Option HartNo). register_touch h chan 0 4 g) is ∙ cond-true (h.0 == h.0) None _ (eq-eqb h.0 h.0 refl)

poll_trace : (w : WorldState) (h : HartNo) (chan : ChanNo) → enabled w (events.Issue h) ≡ true → next_of (driver_of w h.0) ≡ nexts.Poll chan → grantee_of w.machine chan.0 ≡ Some (hart h.0) → event_trace w (events.Issue h) ≡ []
unfolding event_trace event_records
poll_trace w h chan may nx granted =
    let went = done (driver_of w h.0) (seen.Control (control_of w.machine chan.0)) in
    let marks : List Record → List TraceItem = λ rs. records_trace w.machine.size w.grants rs in
    ap (λ (t : Bool). marks (if t then records.Event (events.Issue h) ∷ (outcome w (events.Issue h)).records else [])) may
    ∙ ap (λ (o : Outcome). marks (records.Event (events.Issue h) ∷ o.records)) (outcome_is w h (nexts.Poll chan) nx ∙ poll_is w h chan)
    ∙ ap (λ (t : Option Touch). marks (records.Event (events.Issue h) ∷ (goes w h w.machine went w.slots t []).records)) (granted_silent w h chan granted)
    ∙ moves_silent w.machine.size w.grants h (driver_of w h.0).op went.moves

-- ---- the poll comes next

-- and the release behind it
record IsPolled (steps : List Step) (chan : ChanNo) : Type 0 where
  more : List Step
  rest : steps ≡ step (acts.Poll chan) ∷ control_step chan 0 ∷ more

act_polls : (a : Act) (chan : ChanNo) → next_act a ≡ nexts.Poll chan → a ≡ acts.Poll chan
act_polls (acts.Op op) chan is = absurd cc
act_polls (acts.Claim c) chan is = absurd cc
act_polls (acts.Poll c) chan is = let same : c ≡ chan = cc in ap acts.Poll same
act_polls (acts.Take buf) chan is = absurd cc

poll_next : (f : DriverConfig) (lots : List Lot) (rest : List Step) (chan : ChanNo) → PlanGoes f lots rest → next_rest rest ≡ nexts.Poll chan → IsPolled rest chan
poll_next f lots [] chan goes is = absurd cc
poll_next f lots (s ∷ rest) chan goes is =
    let act = act_polls s.act chan is in
    elim (channel_step f lots s rest (ap kind_of_act act) goes.0) [
      | inl r ↦ let no : acts.Op (hart_ops.IoStore (io.Reg r.chan r.off r.width r.value)) ≡ acts.Poll chan = sym (ap (λ (t : Step). t.act) r.step) ∙ act in absurd cc
      | inr p ↦
          let same : acts.Poll p.chan ≡ acts.Poll chan = sym (ap (λ (t : Step). t.act) p.step) ∙ act in
          let chan_is : p.chan ≡ chan = cc in
          record { more = p.more; rest = ap (λ (t : Step). t ∷ rest) p.step ∙ ap (λ (r : List Step). step (acts.Poll p.chan) ∷ r) p.release ∙ ap (λ (c : ChanNo). step (acts.Poll c) ∷ control_step c 0 ∷ p.more) chan_is }
    ]

-- ---- the whole

pub record PollCopied (sc : Scenario) (f : List ℕ) (w : WorldState) (h : HartNo) (k : CopyOp) (chan : ChanNo) : Type 0 where
  pub now : IsCopyNow sc f w h.0 k
  pub chan_is : chan ≡ k.chan
  pub under : IsUnderWay sc f w h.0 k now.from now.to
  pub copied : IsCopied under.ends f under.ends.len
  -- the ranges are as long, and flat memory's bytes are the same at both
  pub long : now.from.len ≡ now.to.len
  pub same : (i : ℕ) → i < now.to.len → byte f (now.to.at + i) ≡ byte f (now.from.at + i)
  pub silent : event_trace w (events.Issue h) ≡ []

copied_so : (sc : Scenario) (f : List ℕ) (w : WorldState) (h : HartNo) (k : CopyOp) (chan : ChanNo) → IsHere sc f w h → next_of (driver_of w h.0) ≡ nexts.Poll chan → (now : IsCopyNow sc f w h.0 k) → PollFinds sc f w h.0 k now.from now.to chan → PollCopied sc f w h k chan
copied_so sc f w h k chan here nx now finds =
    let u = finds.under in
    let from_at : u.ends.source ≡ now.from.at = sym (ap (λ (s : Span). s.at) u.from_is) in
    let to_at : u.ends.target ≡ now.to.at = sym (ap (λ (s : Span). s.at) u.to_is) in
    let len : now.to.len ≡ u.ends.len = ap (λ (s : Span). s.len) u.to_is in
    record {
      now = now;
      chan_is = finds.chan_is;
      under = u;
      copied = finds.moved.copied;
      long = ap (λ (s : Span). s.len) u.from_is ∙ sym len;
      same = λ i less.
          subst (λ (x : ℕ). byte f (x + i) ≡ byte f (now.from.at + i)) to_at
          (subst (λ (x : ℕ). byte f (u.ends.target + i) ≡ byte f (x + i)) from_at (finds.moved.copied.same i (subst (λ (n : ℕ). i < n) len less)));
      silent = poll_trace w h chan here.now.may nx (ap (λ (c : ChanNo). grantee_of w.machine c.0) finds.chan_is ∙ u.granted);
    }

pub poll_copied : (sc : Scenario) (f : List ℕ) (w : WorldState) (h : HartNo) (k : CopyOp) (chan : ChanNo) → IsNow sc f w (events.Issue h) → in_hand (driver_of w h.0) ≡ Some (copy_op k) → (driver_of w h.0).phase ≡ Work → next_of (driver_of w h.0) ≡ nexts.Poll chan
    → PollCopied sc f w h k chan
poll_copied sc f w h k chan now hand phase nx =
    let here = here_by sc f w h now in
    let d = driver_of w h.0 in
    let copy = now.flat.bytes.copying h.0 here.lt k hand (subst IsBegun (sym phase) tt) in
    let plan = at_work d (copy_op k) (now.flat.bytes.drives h.0 here.lt) hand refl phase in
    let is : IsPolled d.rest chan = poll_next d.fixed d.lots d.rest chan plan.goes (sym (next_work d (copy_op k) d.rest hand phase refl) ∙ nx) in
    copied_so sc f w h k chan here nx copy
    (poll_finds sc f w h k chan is.more copy is.rest (unclaimed sc f w h (step (acts.Poll chan)) (control_step chan 0 ∷ is.more) here phase is.rest) (may_next sc f w h (nexts.Poll chan) here nx))
