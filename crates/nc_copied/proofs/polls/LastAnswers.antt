-- The event that answers a copy is the last step of its plan; what its poll saw says that it is done.
use Rattle.std.specs.Prelude.{is_none, Option, Some, None, Bool, true, false}
use Rattle.std.proofs.Common.{◌≡◌, ℕ, ◌<◌, List, [], ◌∷◌, length, refl, sym, ap, ◌∙◌, subst, inl, inr, arith, ◌⊎◌}
use Rattle.std.proofs.lemmas.Bool.{false≢true}
use Rattle.nc_num.specs.declared.names.HartNo.{HartNo}
use Rattle.nc_slots.specs.SlotWords.{holder_of}
use Rattle.nc_model.specs.declared.touches.Touch.{Touch}
use Rattle.nc_ops.specs.declared.ops.Op.{Op}
use Rattle.nc_ops.specs.Fits.{FitsOp}
use Rattle.nc_scen.specs.declared.events.Event.{Event}
use Rattle.nc_scen.specs.declared.events.Event.TheVariants as events
use Rattle.nc_rules.specs.declared.answers.Issued.{Issued}
use Rattle.nc_rules.specs.declared.answers.Issued.TheVariants as issued
use Rattle.nc_rules.specs.declared.records.Record.{Record}
use Rattle.nc_rules.specs.declared.steps.Act.{Act}
use Rattle.nc_rules.specs.declared.steps.Act.TheVariants as acts
use Rattle.nc_rules.specs.declared.steps.Next.{Next}
use Rattle.nc_rules.specs.declared.steps.Next.TheVariants as nexts
use Rattle.nc_rules.specs.declared.steps.Phase.{Phase}
use Rattle.nc_rules.specs.declared.steps.Phase.TheVariants.{Steps, Search, Work}
use Rattle.nc_rules.specs.declared.steps.Seen.{Seen}
use Rattle.nc_rules.specs.declared.steps.Seen.TheVariants as seen
use Rattle.nc_rules.specs.declared.steps.Step.{Step}
use Rattle.nc_rules.specs.Calls.{issue_next, issue_answer, claim_next, control_of, take_next}
use Rattle.nc_rules.specs.Driver.{DriverState, in_hand, next_act, next_of, next_of_op, next_in, next_rest, searching, is_script, started, told, done, kept}
use Rattle.nc_rules.specs.Lots.{slot_given}
use Rattle.nc_rules.specs.Machine.{MachineState, grantee_of}
use Rattle.nc_rules.specs.Outcomes.{Outcome, goes, seen_of, claim_seen, got_word, at_word, outcome, step_outcome, start_outcome, op_outcome, claim_outcome, poll_outcome, take_outcome, try_outcome, told_outcome}
use Rattle.nc_rules.specs.Records.{op_records}
use Rattle.nc_rules.specs.EventTouches.{issue_touch, poll_touch}
use Rattle.nc_rules.specs.World.{WorldState, driver_of}
use Rattle.nc_scripts.specs.Drivers.{AreMade, IsPhase, IsSearching}
use Rattle.nc_scripts.specs.Scripts.{is_act}
use Rattle.nc_scripts.proofs.NewLots.{new_is}
use Rattle.nc_scripts.proofs.SlotLaws.{made_given}
use Rattle.nc_holds.specs.Holds.{DriverHolds}
use Rattle.nc_holds.proofs.lists.Members.{all_at, at_get}
use Rattle.nc_flatness.specs.Copying.{copy_op, is_poll}
use Rattle.nc_refusals.specs.Refused.{maker}
use Rattle.nc_copied.proofs.polls.LastSteps.{tells, MakesLots, start_not, told_not, IsLastOf, done_last}

-- ---- what a step of a hart saw

abbrev IsNoControl : Seen → Type 0
IsNoControl seen.Nothing = Unit {0}
IsNoControl (seen.Control control) = ⊥
IsNoControl seen.Claimed = Unit {0}
IsNoControl (seen.Busy g) = Unit {0}
IsNoControl (seen.Value value) = Unit {0}

-- hart h's driver made this act, and saw this; only a poll sees Control
pub record IsDoneBy (w : WorldState) (h : HartNo) (o : Outcome) : Type 0 where
  pub act : Act
  pub saw : Seen
  pub machine : MachineState
  pub touch : Option Touch
  pub records : List Record
  pub next : next_of (driver_of w h.0) ≡ next_act act
  pub sees : is_poll act ≡ false → IsNoControl saw
  pub is : o ≡ goes w h machine (done (driver_of w h.0) saw) w.slots touch records

-- else no copy is answered
abbrev IsDoneOrNot : WorldState → HartNo → Outcome → Type 0
IsDoneOrNot w h o = IsDoneBy w h o ⊎ (tells o.moves.answer ≡ false)

op_sees : (a : Issued) → IsNoControl (seen_of a)
op_sees (issued.Value value) = tt
op_sees (issued.Loaded bytes bus) = tt
op_sees issued.Queued = tt
op_sees issued.Passed = tt

claim_sees : (g : Option HartNo) → IsNoControl (claim_seen g)
claim_sees None = tt
claim_sees (Some g) = tt

step_made : (w : WorldState) (h : HartNo) (nx : Next) → next_of (driver_of w h.0) ≡ nx → (next_of (driver_of w h.0) ≡ nexts.Start → tells (started (driver_of w h.0) w.owners w.pages).moves.answer ≡ false) → IsDoneOrNot w h (step_outcome w h nx)
unfolding step_outcome start_outcome op_outcome claim_outcome poll_outcome take_outcome
step_made w h nexts.End is start = inr refl
step_made w h (nexts.Search k) is start = inr refl
step_made w h nexts.Start is start = inr (start is)
step_made w h (nexts.Op op) is start =
    let d = driver_of w h.0 in
    inl (record {
      act = acts.Op op;
      saw = seen_of (issue_answer w.machine h.0 op);
      machine = issue_next w.machine h.0 op;
      touch = issue_touch w h (is_script d.phase) op;
      records = op_records w.machine h (is_script d.phase) op;
      next = is;
      sees = λ off. op_sees (issue_answer w.machine h.0 op);
      is = refl;
    })
step_made w h (nexts.Claim chan) is start =
    inl (record { act = acts.Claim chan; saw = claim_seen (grantee_of w.machine chan.0); machine = claim_next w.machine h chan.0; touch = None; records = []; next = is; sees = λ off. claim_sees (grantee_of w.machine chan.0); is = refl })
step_made w h (nexts.Poll chan) is start =
    inl (record { act = acts.Poll chan; saw = seen.Control (control_of w.machine chan.0); machine = w.machine; touch = poll_touch w h chan; records = []; next = is; sees = λ off. absurd (false≢true (sym off)); is = refl })
step_made w h (nexts.Take buf) is start =
    inl (record { act = acts.Take buf; saw = seen.Nothing; machine = take_next w.machine h.0 buf; touch = None; records = []; next = is; sees = λ off. tt; is = refl })

word_not : (w : WorldState) (o : ℕ → Outcome) (word : Option ℕ) → ((k : ℕ) → tells (o k).moves.answer ≡ false) → tells (at_word w o word).moves.answer ≡ false
word_not w o None each = refl
word_not w o (Some k) each = each k

try_not : (w : WorldState) (h : HartNo) (k : ℕ) → ((got : Bool) → tells (told (driver_of w h.0) got).moves.answer ≡ false) → tells (try_outcome w h k).moves.answer ≡ false
unfolding try_outcome
try_not w h k each = each (is_none (holder_of w.slots k))

heard_not : (w : WorldState) (h : HartNo) (got : Bool) (k : ℕ) → ((got : Bool) → tells (told (driver_of w h.0) got).moves.answer ≡ false) → tells (told_outcome w h got k).moves.answer ≡ false
unfolding told_outcome
heard_not w h got k each = each (got_word got (holder_of w.slots k))

-- what its calls answer beside steps
record NoneTells (w : WorldState) (h : HartNo) : Type 0 where
  start : next_of (driver_of w h.0) ≡ nexts.Start → tells (started (driver_of w h.0) w.owners w.pages).moves.answer ≡ false
  told : (got : Bool) → tells (told (driver_of w h.0) got).moves.answer ≡ false

at_hart : (w : WorldState) (e : Event) (h : HartNo) → maker e ≡ Some h → NoneTells w h → IsDoneOrNot w h (outcome w e)
unfolding outcome
at_hart w (events.Issue g) h by none =
    let same : g ≡ h = cc in
    subst (λ (x : HartNo). IsDoneOrNot w h (step_outcome w x (next_of (driver_of w x.0)))) (sym same) (step_made w h (next_of (driver_of w h.0)) refl none.start)
at_hart w (events.Try g) h by none =
    let same : g ≡ h = cc in
    subst (λ (x : HartNo). IsDoneOrNot w h (at_word w (try_outcome w x) (searching (driver_of w x.0)))) (sym same) (inr (word_not w (try_outcome w h) (searching (driver_of w h.0)) (λ k. try_not w h k none.told)))
at_hart w (events.Told g got) h by none =
    let same : g ≡ h = cc in
    subst (λ (x : HartNo). IsDoneOrNot w h (at_word w (told_outcome w x got) (searching (driver_of w x.0)))) (sym same) (inr (word_not w (told_outcome w h got) (searching (driver_of w h.0)) (λ k. heard_not w h got k none.told)))
at_hart w (events.Drain g i) h by none = absurd cc
at_hart w (events.Fill g b) h by none = absurd cc
at_hart w (events.Evict g b) h by none = absurd cc
at_hart w (events.ChanRead chan) h by none = absurd cc
at_hart w (events.ChanWrite chan) h by none = absurd cc

-- ---- a start and a search make lots, of which each is in the plan

next_is : (d : DriverState) (o : Op) (p : Phase) → in_hand d ≡ Some o → d.phase ≡ p → next_of d ≡ next_in d o p
unfolding next_of
next_is d o p hand phase = ap (next_of_op d) hand ∙ ap (next_in d o) phase

act_starts : {A : Type 0} (a : Act) → next_act a ≡ nexts.Start → A
act_starts (acts.Op op) e = absurd cc
act_starts (acts.Claim chan) e = absurd cc
act_starts (acts.Poll chan) e = absurd cc
act_starts (acts.Take buf) e = absurd cc

rest_starts : {A : Type 0} (rest : List Step) → 0 < length rest → next_rest rest ≡ nexts.Start → A
rest_starts [] some e = absurd (omega (arith, some))
rest_starts (s ∷ rest) some e = act_starts s.act e

search_starts : {A : Type 0} (k : ℕ) → nexts.Search k ≡ nexts.Start → A
search_starts k e = absurd cc

made_at : (w : WorldState) (h : HartNo) (o : Op) (p : Phase) → DriverHolds w h.0 → in_hand (driver_of w h.0) ≡ Some o → (driver_of w h.0).phase ≡ p → IsPhase (driver_of w h.0) p → next_of (driver_of w h.0) ≡ nexts.Start → MakesLots (driver_of w h.0) w.owners w.pages o
made_at w h o (Search k) holds hand phase is nx = λ new made. search_starts k (sym (next_is (driver_of w h.0) o (Search k) hand phase) ∙ nx)
made_at w h o Work holds hand phase is nx = λ new made. rest_starts (driver_of w h.0).rest is.some (sym (next_is (driver_of w h.0) o Work hand phase) ∙ nx)
made_at w h o (Steps n) holds hand phase is nx = λ new made.
    let d = driver_of w h.0 in
    let ram = length w.machine.cache.ram in
    let harts = length w.machine.harts in
    let fits : FitsOp harts (length d.fixed.buffers) o = all_at (FitsOp harts (length d.fixed.buffers)) d.fixed.script o holds.driver.fixed.script (at_get d.fixed.script d.op o hand) in
    let it = new_is ram harts d.fixed d.lots new w.owners w.pages o holds.driver.fixed is.settled holds.driver.apart holds.setting.pages fits made in
    record { old = d.lots; new = new; all = refl; settled = is.settled; names = it.names; wanted = it.wanted }

searched_at : (w : WorldState) (h : HartNo) (o : Op) (k : ℕ) → DriverHolds w h.0 → in_hand (driver_of w h.0) ≡ Some o → (driver_of w h.0).phase ≡ Search k → AreMade o (slot_given k (driver_of w h.0).lots)
searched_at w h o k holds hand phase =
    let d = driver_of w h.0 in
    let is : IsSearching d k = subst (λ (p : Phase). IsPhase d p) phase holds.driver.phase in
    made_given k o d.lots (is.made o hand)

none_tells : (w : WorldState) (h : HartNo) → DriverHolds w h.0 → NoneTells w h
none_tells w h holds =
    let d = driver_of w h.0 in
    record {
      start = λ nx. start_not d w.owners w.pages (λ o hand starts. made_at w h o d.phase holds hand refl holds.driver.phase nx);
      told = λ got. told_not d got (λ o k hand phase. searched_at w h o k holds hand phase);
    }

-- ---- the last step

act_acts : (a : Act) → is_act (next_act a) ≡ true
act_acts (acts.Op op) = refl
act_acts (acts.Claim chan) = refl
act_acts (acts.Poll chan) = refl
act_acts (acts.Take buf) = refl

pub record IsLastStep (w : WorldState) (h : HartNo) (o : Outcome) : Type 0 where
  pub by : IsDoneBy w h o
  pub last : IsLastOf (driver_of w h.0) by.saw o.moves.answer

last_by : (w : WorldState) (h : HartNo) (o : Outcome) → tells o.moves.answer ≡ true → IsDoneOrNot w h o → IsLastStep w h o
last_by w h o t (inr none) = absurd (false≢true (sym none ∙ t))
last_by w h o t (inl by) =
    let d = driver_of w h.0 in
    let answers : o.moves.answer ≡ (done d by.saw).moves.answer = ap (λ (x : Outcome). x.moves.answer) by.is in
    record {
      by = by;
      last = subst (IsLastOf d by.saw) (sym answers) (done_last d by.saw (ap is_act by.next ∙ act_acts by.act) (ap tells (sym answers) ∙ t));
    }

-- an event that answers a copy
pub last_step : (w : WorldState) (e : Event) (h : HartNo) → DriverHolds w h.0 → maker e ≡ Some h → tells (outcome w e).moves.answer ≡ true → IsLastStep w h (outcome w e)
last_step w e h holds by t = last_by w h (outcome w e) t (at_hart w e h by (none_tells w h holds))

-- ---- what it saw

polls_next : Next → Bool
polls_next (nexts.Poll chan) = true
polls_next _ = false

polls_act : (a : Act) → polls_next (next_act a) ≡ is_poll a
unfolding polls_next
polls_act (acts.Op op) = refl
polls_act (acts.Claim chan) = refl
polls_act (acts.Poll chan) = refl
polls_act (acts.Take buf) = refl

kept_old : (old saw : Seen) (control : ℕ) → IsNoControl saw → kept old saw ≡ seen.Control control → old ≡ seen.Control control
kept_old old seen.Nothing control none is = is
kept_old old (seen.Control c) control none is = absurd none
kept_old old seen.Claimed control none is = absurd cc
kept_old old (seen.Busy g) control none is = absurd cc
kept_old old (seen.Value value) control none is = absurd cc

-- where it is no poll, the poll saw it
pub saw_old : (w : WorldState) (h : HartNo) (o : Outcome) → (is : IsLastStep w h o) → is_poll is.last.step.act ≡ false → (driver_of w h.0).saw ≡ seen.Control is.last.control
saw_old w h o is off =
    let d = driver_of w h.0 in
    let next : next_act is.by.act ≡ next_act is.last.step.act =
    sym is.by.next ∙ next_is d (copy_op is.last.copy) Work is.last.hand is.last.phase ∙ ap next_rest is.last.rest in
    let none : is_poll is.by.act ≡ false = sym (polls_act is.by.act) ∙ ap polls_next next ∙ polls_act is.last.step.act ∙ off in
    kept_old d.saw is.by.saw is.last.control (is.by.sees none) is.last.saw_is
