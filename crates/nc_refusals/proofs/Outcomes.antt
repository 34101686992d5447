-- What each event is by which a hart's driver goes on: the call that is made, the machine and the slot words behind it.
use Rattle.std.proofs.Common.{◌≡◌, ℕ, Bool, true, false, List, [], refl, ap, subst, Option, Some, None}
use Rattle.std.specs.Prelude.{is_none, is_some}
use Rattle.std.proofs.lemmas.Bool.{false≢true, and_parts}
use Rattle.nc_num.specs.declared.names.ChanNo.{ChanNo}
use Rattle.nc_num.specs.declared.names.HartNo.{HartNo}
use Rattle.nc_plan.specs.declared.ops.HartOp.{HartOp}
use Rattle.nc_model.specs.declared.touches.Touch.{Touch}
use Rattle.nc_slots.specs.SlotWords.{holder_of, tried_at}
use Rattle.nc_scen.specs.declared.events.Event.{Event}
use Rattle.nc_scen.specs.declared.events.Event.TheVariants as events
use Rattle.nc_rules.specs.declared.answers.Issued.{Issued}
use Rattle.nc_rules.specs.declared.answers.Issued.TheVariants as issued
use Rattle.nc_rules.specs.declared.records.Record.{Record}
use Rattle.nc_rules.specs.declared.steps.Act.{Act}
use Rattle.nc_rules.specs.declared.steps.Act.TheVariants as acts
use Rattle.nc_rules.specs.declared.steps.Next.{Next}
use Rattle.nc_rules.specs.declared.steps.Next.TheVariants as nexts
use Rattle.nc_rules.specs.declared.steps.Seen.{Seen}
use Rattle.nc_rules.specs.declared.steps.Seen.TheVariants as seen
use Rattle.nc_rules.specs.Machine.{MachineState, grantee_of}
use Rattle.nc_rules.specs.Calls.{issue_answer, control_of, claim_next, claimed_by}
use Rattle.nc_rules.specs.Driver.{next_of, next_act, searching, is_script, started, told, done, waits_for}
use Rattle.nc_rules.specs.Events.{enabled, may_go_on, is_out}
use Rattle.nc_rules.specs.Outcomes.{Outcome, goes, seen_of, claim_seen, start_outcome, op_outcome, claim_outcome, poll_outcome, take_outcome, step_outcome, try_outcome, told_outcome, at_word, outcome}
use Rattle.nc_rules.specs.Records.{op_records, try_records, told_records}
use Rattle.nc_rules.specs.EventTouches.{issue_touch, poll_touch}
use Rattle.nc_rules.specs.World.{WorldState, driver_of}
use Rattle.nc_refusals.specs.Refused.{acted, maker}

-- the slot words behind a try of word k by hart h
pub data Words (w : WorldState) (h : HartNo) (k : ℕ) (got : Bool) (now : List (Option HartNo)) : Type 0 where
  Free : holder_of w.slots k ≡ None → got ≡ true → now ≡ tried_at None w.slots h k → Words w h k got now
  Missed : got ≡ false → now ≡ w.slots → Words w h k got now

-- what a step sees: only a claim of a channel that is granted sees that, and leaves the machine as it was
abbrev pub SeesSo : MachineState → HartNo → Act → Seen → Type 0
SeesSo m h act (seen.Busy g) = ((chan : ChanNo) × (act ≡ acts.Claim chan)) × (acted m h act ≡ m)
SeesSo m h act seen.Nothing = Unit {0}
SeesSo m h act (seen.Control control) = Unit {0}
SeesSo m h act seen.Claimed = Unit {0}
SeesSo m h act (seen.Value value) = Unit {0}

pub data Made (w : WorldState) (h : HartNo) (o : Outcome) : Type 0 where
  Starts : (touch : Option Touch) (records : List Record) → next_of (driver_of w h.0) ≡ nexts.Start → o ≡ goes w h w.machine (started (driver_of w h.0) w.owners w.pages) w.slots touch records → Made w h o
  Hears : (k : ℕ) (got : Bool) (now : List (Option HartNo)) (records : List Record) → searching (driver_of w h.0) ≡ Some k → Words w h k got now → o ≡ goes w h w.machine (told (driver_of w h.0) got) now None records → Made w h o
  Acts : (act : Act) (saw : Seen) (touch : Option Touch) (records : List Record) → next_of (driver_of w h.0) ≡ next_act act → SeesSo w.machine h act saw → o ≡ goes w h (acted w.machine h act) (done (driver_of w h.0) saw) w.slots touch records
      → Made w h o

-- ---- steps

start_made : (w : WorldState) (h : HartNo) → next_of (driver_of w h.0) ≡ nexts.Start → Made w h (start_outcome w h)
unfolding start_outcome
start_made w h e = Starts None [] e refl

sees_op : (m : MachineState) (h : HartNo) (act : Act) (a : Issued) → SeesSo m h act (seen_of a)
sees_op m h act (issued.Value value) = tt
sees_op m h act (issued.Loaded bytes bus) = tt
sees_op m h act issued.Queued = tt
sees_op m h act issued.Passed = tt

op_made : (w : WorldState) (h : HartNo) (op : HartOp) → next_of (driver_of w h.0) ≡ nexts.Op op → Made w h (op_outcome w h op)
unfolding op_outcome
op_made w h op e = Acts (acts.Op op) (seen_of (issue_answer w.machine h.0 op)) (issue_touch w h (is_script (driver_of w h.0).phase) op) (op_records w.machine h (is_script (driver_of w h.0).phase) op) e (sees_op w.machine h (acts.Op op) (issue_answer w.machine h.0 op)) refl

claim_left : (m : MachineState) (h : HartNo) (chan : ChanNo) (g : HartNo) → grantee_of m chan.0 ≡ Some g → claim_next m h chan.0 ≡ m
unfolding claim_next
claim_left m h chan g e = ap (claimed_by m h chan.0) e

sees_claim : (m : MachineState) (h : HartNo) (chan : ChanNo) (o : Option HartNo) → grantee_of m chan.0 ≡ o → SeesSo m h (acts.Claim chan) (claim_seen o)
sees_claim m h chan None e = tt
sees_claim m h chan (Some g) e = ((chan, refl), claim_left m h chan g e)

claim_made : (w : WorldState) (h : HartNo) (chan : ChanNo) → next_of (driver_of w h.0) ≡ nexts.Claim chan → Made w h (claim_outcome w h chan)
unfolding claim_outcome
claim_made w h chan e = Acts (acts.Claim chan) (claim_seen (grantee_of w.machine chan.0)) None [] e (sees_claim w.machine h chan (grantee_of w.machine chan.0) refl) refl

poll_made : (w : WorldState) (h : HartNo) (chan : ChanNo) → next_of (driver_of w h.0) ≡ nexts.Poll chan → Made w h (poll_outcome w h chan)
unfolding poll_outcome
poll_made w h chan e = Acts (acts.Poll chan) (seen.Control (control_of w.machine chan.0)) (poll_touch w h chan) [] e tt refl

take_made : (w : WorldState) (h : HartNo) (buf : ℕ) → next_of (driver_of w h.0) ≡ nexts.Take buf → Made w h (take_outcome w h buf)
unfolding take_outcome
take_made w h buf e = Acts (acts.Take buf) seen.Nothing None [] e tt refl

step_made : (w : WorldState) (h : HartNo) (next : Next) → next_of (driver_of w h.0) ≡ next → may_go_on w h next ≡ true → Made w h (step_outcome w h next)
unfolding step_outcome
step_made w h nexts.End e may = absurd (false≢true may)
step_made w h nexts.Start e may = start_made w h e
step_made w h (nexts.Search k) e may = absurd (false≢true may)
step_made w h (nexts.Op op) e may = op_made w h op e
step_made w h (nexts.Claim chan) e may = claim_made w h chan e
step_made w h (nexts.Poll chan) e may = poll_made w h chan e
step_made w h (nexts.Take buf) e may = take_made w h buf e

-- ---- tries

try_at : (w : WorldState) (h : HartNo) (k : ℕ) (o : Option HartNo) (records : List Record) → holder_of w.slots k ≡ o → searching (driver_of w h.0) ≡ Some k → Made w h (goes w h w.machine (told (driver_of w h.0) (is_none o)) (tried_at o w.slots h k) None records)
try_at w h k None records e at = Hears k true (tried_at None w.slots h k) records at (Free e refl refl) refl
try_at w h k (Some g) records e at = Hears k false w.slots records at (Missed refl refl) refl

try_made : (w : WorldState) (h : HartNo) (k : ℕ) → searching (driver_of w h.0) ≡ Some k → Made w h (try_outcome w h k)
unfolding try_outcome
try_made w h k at = try_at w h k (holder_of w.slots k) (try_records h k (holder_of w.slots k)) refl at

told_made_by : (w : WorldState) (h : HartNo) (k : ℕ) (got : Bool) → searching (driver_of w h.0) ≡ Some k → Made w h (told_outcome w h got k)
unfolding told_outcome
told_made_by w h k true at = try_at w h k (holder_of w.slots k) (told_records h k true (holder_of w.slots k)) refl at
told_made_by w h k false at = Hears k false w.slots (told_records h k false (holder_of w.slots k)) at (Missed refl refl) refl

word_made : (w : WorldState) (h : HartNo) (f : ℕ → Outcome) (o : Option ℕ) → searching (driver_of w h.0) ≡ o → (o ≡ None → ⊥) → ((k : ℕ) → o ≡ Some k → Made w h (f k)) → Made w h (at_word w f o)
word_made w h f None e some made = absurd (some refl)
word_made w h f (Some k) e some made = made k refl

-- ---- all

some_not : (o : Option ℕ) → is_some o ≡ true → o ≡ None → ⊥
some_not None e n = false≢true e
some_not (Some k) e n = absurd (cc)

pub made : (w : WorldState) (e : Event) (h : HartNo) → maker e ≡ Some h → enabled w e ≡ true → Made w h (outcome w e)
unfolding outcome enabled
made w (events.Issue g) h by may =
    let same : g ≡ h = cc in
    subst (λ (x : HartNo). Made w x (step_outcome w g (next_of (driver_of w g.0)))) same
    (step_made w g (next_of (driver_of w g.0)) refl (and_parts (is_out w.machine g (waits_for (driver_of w g.0))) (may_go_on w g (next_of (driver_of w g.0))) may).1)
made w (events.Try g) h by may =
    let same : g ≡ h = cc in
    subst (λ (x : HartNo). Made w x (at_word w (try_outcome w g) (searching (driver_of w g.0)))) same
    (word_made w g (try_outcome w g) (searching (driver_of w g.0)) refl (some_not (searching (driver_of w g.0)) may) (λ k at. try_made w g k at))
made w (events.Told g got) h by may =
    let same : g ≡ h = cc in
    subst (λ (x : HartNo). Made w x (at_word w (told_outcome w g got) (searching (driver_of w g.0)))) same
    (word_made w g (told_outcome w g got) (searching (driver_of w g.0)) refl (some_not (searching (driver_of w g.0)) may) (λ k at. told_made_by w g k got at))
made w (events.Drain g i) h by may = absurd (cc)
made w (events.Fill g b) h by may = absurd (cc)
made w (events.Evict g b) h by may = absurd (cc)
made w (events.ChanRead chan) h by may = absurd (cc)
made w (events.ChanWrite chan) h by may = absurd (cc)
