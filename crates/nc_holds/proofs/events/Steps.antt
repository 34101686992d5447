-- What each event does that may happen: the machine alone goes on, or a driver goes on by one of its calls.
use Rattle.std.proofs.Common.{◌≡◌, ℕ, ◌<◌, Bool, true, false, List, [], length, refl, sym, ap, ◌∙◌, subst, Option, Some, None}
use Rattle.std.specs.Prelude.{not, is_none, slice_set}
use Rattle.std.proofs.lemmas.Bool.{and_parts}
use Rattle.nc_num.specs.declared.names.ChanNo.{ChanNo}
use Rattle.nc_num.specs.declared.names.HartNo.{HartNo}
use Rattle.nc_queue.specs.declared.entry.Entry.{Entry}
use Rattle.nc_queue.specs.declared.entry.Entry.TheVariants as entries
use Rattle.nc_plan.specs.declared.ops.HartOp.{HartOp}
use Rattle.nc_model.specs.declared.owners.Owner.TheVariants as owners
use Rattle.nc_model.specs.declared.touches.Touch.{Touch}
use Rattle.nc_slots.specs.SlotWords.{holder_of, tried_at}
use Rattle.nc_scen.specs.declared.events.Event.{Event}
use Rattle.nc_scen.specs.declared.events.Event.TheVariants as events
use Rattle.nc_rules.specs.declared.answers.Issued.{Issued}
use Rattle.nc_rules.specs.declared.answers.Issued.TheVariants as issued
use Rattle.nc_rules.specs.declared.records.Record.{Record}
use Rattle.nc_rules.specs.declared.steps.Next.{Next}
use Rattle.nc_rules.specs.declared.steps.Next.TheVariants as nexts
use Rattle.nc_rules.specs.declared.steps.Seen.{Seen}
use Rattle.nc_rules.specs.declared.steps.Seen.TheVariants as seen
use Rattle.nc_rules.specs.Refusals.{buffer_of}
use Rattle.nc_rules.specs.Machine.{MachineState, grantee_of}
use Rattle.nc_rules.specs.Calls.{issue_next, issue_answer, leaving, drain_next, control_of, claim_next, take_next, may_take, io_waits}
use Rattle.nc_rules.specs.Driver.{Went, next_of, searching, is_script, started, told, done, lent, waits_for}
use Rattle.nc_rules.specs.Events.{enabled, may_go_on, is_out}
use Rattle.nc_rules.specs.Outcomes.{Outcome, goes, runs, nothing, seen_of, claim_seen, start_outcome, op_outcome, claim_outcome, poll_outcome, take_outcome, step_outcome, try_outcome, got_word, told_outcome, at_word, leaves, drain_outcome, outcome}
use Rattle.nc_rules.specs.Records.{op_records, drain_records, try_records, told_records}
use Rattle.nc_rules.specs.Sound.{IsMachine}
use Rattle.nc_rules.specs.EventTouches.{issue_touch, poll_touch, drain_touch}
use Rattle.nc_rules.specs.World.{WorldState, driver_of}
use Rattle.nc_calls.specs.MachineLaws.{SameShape}
use Rattle.nc_calls.proofs.SoundLaws.{calls_keep_shape}
use Rattle.nc_calls.proofs.SoundWith.{shape_same}
use Rattle.nc_scripts.specs.Scripts.{is_act}
use Rattle.nc_scripts.specs.Scripts as plain
use Rattle.nc_scripts.specs.Drivers.{IsSeenAt, Keeps, StaysDriver}
use Rattle.nc_scripts.proofs.EveryDriver.{drivers_stay, op_there}
use Rattle.nc_holds.specs.Held.{IsOwnedBy}
use Rattle.nc_holds.specs.Holds.{DriverHolds, Holds, held_of, mover}
use Rattle.nc_holds.proofs.calls.Shapes.{IsCall}
use Rattle.nc_holds.proofs.calls.Starts.{start_call}
use Rattle.nc_holds.proofs.calls.Told.{told_call}
use Rattle.nc_holds.proofs.calls.Done.{CanTake, done_call, lent_call}
use Rattle.nc_holds.proofs.tokens.GoesOn.{tokens_are_lent}
use Rattle.nc_holds.proofs.messages.Laws.{take_is_passed}
use Rattle.nc_holds.proofs.events.Given.{IsEvent}
use Rattle.nc_holds.proofs.events.From.{GoesOn, fixed_in}

-- what an outcome is, of an event by which the driver of this hart may go on
pub data OutcomeIs (w : WorldState) (by : Option HartNo) (o : Outcome) : Type 0 where
  Runs : (machine : MachineState) (touch : Option Touch) (records : List Record) → SameShape w.machine machine → o ≡ runs w machine touch records → OutcomeIs w by o
  Goes : (h : HartNo) (machine : MachineState) (went : Went) (now : List (Option HartNo)) (touch : Option Touch) (records : List Record) → by ≡ Some h → GoesOn w h.0 machine now went → o ≡ goes w h machine went now touch records
      → OutcomeIs w by o

nothing_is : (w : WorldState) (by : Option HartNo) → OutcomeIs w by (nothing w)
nothing_is w by = Runs w.machine None [] (shape_same w.machine) refl

-- a hart's driver, in a world that is sound
record IsGoing (w : WorldState) (h : HartNo) : Type 0 where
  sound : IsMachine w.machine
  all : Holds w
  there : h.0 < length w.machine.harts

holds_of : (w : WorldState) (h : HartNo) → IsGoing w h → DriverHolds w h.0
holds_of w h g = g.all.each h.0 g.there

stays_of : (w : WorldState) (h : HartNo) → IsGoing w h → StaysDriver (length w.machine.cache.ram) (length w.machine.harts) (driver_of w h.0)
stays_of w h g = drivers_stay (length w.machine.cache.ram) (length w.machine.harts) (driver_of w h.0) (holds_of w h g).driver

me_is : (w : WorldState) (h : HartNo) → IsGoing w h → (fixed_in w h.0).me ≡ h
me_is w h g = let n = (holds_of w h g).me in λ i. record { 0 = n i }

go_by : (w : WorldState) (h : HartNo) (machine : MachineState) (now : List (Option HartNo)) (went : Went) (loaded : ℕ → ℕ) → IsGoing w h → SameShape w.machine machine → IsCall (length w.machine.cache.ram) (fixed_in w h.0) (held_of w h.0) now went
    → Keeps (length w.machine.cache.ram) (length w.machine.harts) (driver_of w h.0) loaded went → GoesOn w h.0 machine now went
go_by w h machine now went loaded g shape call keeps = record {
  there = g.there;
  shape = shape;
  call = call;
  driver = keeps.driver;
  fixed = keeps.fixed;
  moves = keeps.moves;
}

-- ---- a driver's step

start_is : (w : WorldState) (h : HartNo) → IsGoing w h → next_of (driver_of w h.0) ≡ nexts.Start → OutcomeIs w (Some h) (start_outcome w h)
unfolding start_outcome
start_is w h g e =
    let d = holds_of w h g in
    Goes h w.machine (started (driver_of w h.0) w.owners w.pages) w.slots None [] refl
    (go_by w h w.machine w.slots (started (driver_of w h.0) w.owners w.pages) (λ n. n) g (shape_same w.machine)
    (start_call (length w.machine.cache.ram) (length w.machine.harts) (driver_of w h.0) (held_of w h.0) d.driver d.setting.pages d.turns e)
    ((stays_of w h g).start w.owners w.pages e d.setting.pages))
    refl

-- a step that is made
done_go : (w : WorldState) (h : HartNo) (machine : MachineState) (saw : Seen) → IsGoing w h → SameShape w.machine machine → is_act (next_of (driver_of w h.0)) ≡ true → IsSeenAt (next_of (driver_of w h.0)) saw → CanTake (fixed_in w h.0) (held_of w h.0) (next_of (driver_of w h.0))
    → GoesOn w h.0 machine w.slots (done (driver_of w h.0) saw)
done_go w h machine saw g shape act at take =
    let d = holds_of w h g in
    go_by w h machine w.slots (done (driver_of w h.0) saw) _ g shape
    (done_call (length w.machine.cache.ram) (length w.machine.harts) (driver_of w h.0) (held_of w h.0) saw d.driver d.turns take act)
    ((stays_of w h g).goes_on saw act at)

seen_op : (next : Next) (a : Issued) → IsSeenAt next (seen_of a)
seen_op next (issued.Value value) = tt
seen_op next (issued.Loaded bytes bus) = tt
seen_op next issued.Queued = tt
seen_op next issued.Passed = tt

seen_claim : (next : Next) (chan : ChanNo) (o : Option HartNo) → next ≡ nexts.Claim chan → IsSeenAt next (claim_seen o)
seen_claim next chan None e = tt
seen_claim next chan (Some g) e = (chan.0, e)

no_take : (w : WorldState) (h : HartNo) (next other : Next) → next ≡ other → ((buf : ℕ) → other ≡ nexts.Take buf → ⊥) → CanTake (fixed_in w h.0) (held_of w h.0) next
no_take w h next other e none buf is = absurd (none buf (sym e ∙ is))

acts_so : (next other : Next) → next ≡ other → is_act other ≡ true → is_act next ≡ true
acts_so next other e act = ap is_act e ∙ act

driven : (w : WorldState) (h : HartNo) → IsGoing w h → plain.IsDriven (length w.machine.cache.ram) (length w.machine.harts) (fixed_in w h.0) w.machine
driven w h g = let s = (holds_of w h g).setting in record { memory = refl; block = s.block; processors = refl; boxes = s.boxes }

op_is : (w : WorldState) (h : HartNo) (op : HartOp) → IsGoing w h → next_of (driver_of w h.0) ≡ nexts.Op op → may_go_on w h (nexts.Op op) ≡ true → OutcomeIs w (Some h) (op_outcome w h op)
unfolding op_outcome
op_is w h op g e may =
    let d = holds_of w h g in
    let there = op_there (length w.machine.cache.ram) (length w.machine.harts) (driver_of w h.0) op w.machine h.0 d.driver e (driven w h g) d.loads in
    let shape = calls_keep_shape.of_issue w.machine h.0 op g.sound (record { hart = g.there; there = there; may = may }) in
    Goes h (issue_next w.machine h.0 op) (done (driver_of w h.0) (seen_of (issue_answer w.machine h.0 op))) w.slots (issue_touch w h (is_script (driver_of w h.0).phase) op) (op_records w.machine h (is_script (driver_of w h.0).phase) op) refl
    (done_go w h (issue_next w.machine h.0 op) (seen_of (issue_answer w.machine h.0 op)) g shape (acts_so (next_of (driver_of w h.0)) (nexts.Op op) e refl) (seen_op (next_of (driver_of w h.0)) (issue_answer w.machine h.0 op))
    (no_take w h (next_of (driver_of w h.0)) (nexts.Op op) e (λ buf is. absurd (cc))))
    refl

claim_is : (w : WorldState) (h : HartNo) (chan : ChanNo) → IsGoing w h → next_of (driver_of w h.0) ≡ nexts.Claim chan → OutcomeIs w (Some h) (claim_outcome w h chan)
unfolding claim_outcome
claim_is w h chan g e =
    Goes h (claim_next w.machine h chan.0) (done (driver_of w h.0) (claim_seen (grantee_of w.machine chan.0))) w.slots None [] refl
    (done_go w h (claim_next w.machine h chan.0) (claim_seen (grantee_of w.machine chan.0)) g (calls_keep_shape.of_claim w.machine h chan.0) (acts_so (next_of (driver_of w h.0)) (nexts.Claim chan) e refl)
    (seen_claim (next_of (driver_of w h.0)) chan (grantee_of w.machine chan.0) e) (no_take w h (next_of (driver_of w h.0)) (nexts.Claim chan) e (λ buf is. absurd (cc))))
    refl

poll_is : (w : WorldState) (h : HartNo) (chan : ChanNo) → IsGoing w h → next_of (driver_of w h.0) ≡ nexts.Poll chan → OutcomeIs w (Some h) (poll_outcome w h chan)
unfolding poll_outcome
poll_is w h chan g e =
    Goes h w.machine (done (driver_of w h.0) (seen.Control (control_of w.machine chan.0))) w.slots (poll_touch w h chan) [] refl
    (done_go w h w.machine (seen.Control (control_of w.machine chan.0)) g (shape_same w.machine) (acts_so (next_of (driver_of w h.0)) (nexts.Poll chan) e refl) tt
    (no_take w h (next_of (driver_of w h.0)) (nexts.Poll chan) e (λ buf is. absurd (cc))))
    refl

takes : (w : WorldState) (h : HartNo) (buf : ℕ) → IsGoing w h → next_of (driver_of w h.0) ≡ nexts.Take buf → may_take w.machine h.0 buf ≡ true → CanTake (fixed_in w h.0) (held_of w h.0) (next_of (driver_of w h.0))
takes w h buf g e may b is =
    let same : buf ≡ b = let both = sym e ∙ is in cc in
    let from = take_is_passed w h buf g.sound g.all g.there e may in
    subst (λ (k : ℕ). (x : HartNo) × IsOwnedBy w.owners (buffer_of (fixed_in w h.0) k) (owners.Passing x (fixed_in w h.0).me)) same
    (from.0, subst (λ (to : HartNo). IsOwnedBy w.owners (buffer_of (fixed_in w h.0) buf) (owners.Passing from.0 to)) (sym (me_is w h g)) from.1)

take_is : (w : WorldState) (h : HartNo) (buf : ℕ) → IsGoing w h → next_of (driver_of w h.0) ≡ nexts.Take buf → may_go_on w h (nexts.Take buf) ≡ true → OutcomeIs w (Some h) (take_outcome w h buf)
unfolding take_outcome
take_is w h buf g e may =
    Goes h (take_next w.machine h.0 buf) (done (driver_of w h.0) seen.Nothing) w.slots None [] refl
    (done_go w h (take_next w.machine h.0 buf) seen.Nothing g (calls_keep_shape.of_take w.machine h.0 buf) (acts_so (next_of (driver_of w h.0)) (nexts.Take buf) e refl) tt
    (takes w h buf g e (and_parts (not (io_waits w.machine h.0)) (may_take w.machine h.0 buf) may).1))
    refl

step_by : (w : WorldState) (h : HartNo) (next : Next) → IsGoing w h → next_of (driver_of w h.0) ≡ next → may_go_on w h next ≡ true → OutcomeIs w (Some h) (step_outcome w h next)
unfolding step_outcome
step_by w h nexts.End g e may = nothing_is w (Some h)
step_by w h nexts.Start g e may = start_is w h g e
step_by w h (nexts.Search k) g e may = nothing_is w (Some h)
step_by w h (nexts.Op op) g e may = op_is w h op g e may
step_by w h (nexts.Claim chan) g e may = claim_is w h chan g e
step_by w h (nexts.Poll chan) g e may = poll_is w h chan g e
step_by w h (nexts.Take buf) g e may = take_is w h buf g e may

-- ---- a slot search

told_go : (w : WorldState) (h : HartNo) (k : ℕ) → IsGoing w h → searching (driver_of w h.0) ≡ Some k → GoesOn w h.0 w.machine w.slots (told (driver_of w h.0) false)
told_go w h k g at =
    let d = holds_of w h g in
    go_by w h w.machine w.slots (told (driver_of w h.0) false) (λ n. n) g (shape_same w.machine)
    (told_call (length w.machine.cache.ram) (length w.machine.harts) (driver_of w h.0) (held_of w h.0) k false d.driver at tt)
    ((stays_of w h g).hears false)

got_go : (w : WorldState) (h : HartNo) (k : ℕ) → IsGoing w h → searching (driver_of w h.0) ≡ Some k → holder_of w.slots k ≡ None → GoesOn w h.0 w.machine (slice_set w.slots k (Some h)) (told (driver_of w h.0) true)
got_go w h k g at free =
    let d = holds_of w h g in
    subst (λ (x : HartNo). GoesOn w h.0 w.machine (slice_set w.slots k (Some x)) (told (driver_of w h.0) true)) (me_is w h g)
    (go_by w h w.machine (slice_set w.slots k (Some (fixed_in w h.0).me)) (told (driver_of w h.0) true) (λ n. n) g (shape_same w.machine)
    (told_call (length w.machine.cache.ram) (length w.machine.harts) (driver_of w h.0) (held_of w h.0) k true d.driver at free)
    ((stays_of w h g).hears true))

try_at : (w : WorldState) (h : HartNo) (k : ℕ) (o : Option HartNo) → holder_of w.slots k ≡ o → IsGoing w h → searching (driver_of w h.0) ≡ Some k
    → OutcomeIs w (Some h) (goes w h w.machine (told (driver_of w h.0) (is_none o)) (tried_at o w.slots h k) None (try_records h k o))
try_at w h k None e g at = Goes h w.machine (told (driver_of w h.0) true) (slice_set w.slots k (Some h)) None (try_records h k None) refl (got_go w h k g at e) refl
try_at w h k (Some x) e g at = Goes h w.machine (told (driver_of w h.0) false) w.slots None (try_records h k (Some x)) refl (told_go w h k g at) refl

try_by : (w : WorldState) (h : HartNo) (o : Option ℕ) → searching (driver_of w h.0) ≡ o → IsGoing w h → OutcomeIs w (Some h) (at_word w (try_outcome w h) o)
unfolding try_outcome
try_by w h None e g = nothing_is w (Some h)
try_by w h (Some k) e g = try_at w h k (holder_of w.slots k) refl g e

told_true : (w : WorldState) (h : HartNo) (k : ℕ) (o : Option HartNo) → holder_of w.slots k ≡ o → IsGoing w h → searching (driver_of w h.0) ≡ Some k
    → OutcomeIs w (Some h) (goes w h w.machine (told (driver_of w h.0) (got_word true o)) (tried_at o w.slots h k) None (told_records h k true o))
told_true w h k None e g at = Goes h w.machine (told (driver_of w h.0) true) (slice_set w.slots k (Some h)) None (told_records h k true None) refl (got_go w h k g at e) refl
told_true w h k (Some x) e g at = Goes h w.machine (told (driver_of w h.0) false) w.slots None (told_records h k true (Some x)) refl (told_go w h k g at) refl

told_by : (w : WorldState) (h : HartNo) (got : Bool) (o : Option ℕ) → searching (driver_of w h.0) ≡ o → IsGoing w h → OutcomeIs w (Some h) (at_word w (told_outcome w h got) o)
unfolding told_outcome
told_by w h got None e g = nothing_is w (Some h)
told_by w h true (Some k) e g = told_true w h k (holder_of w.slots k) refl g e
told_by w h false (Some k) e g = Goes h w.machine (told (driver_of w h.0) false) w.slots None (told_records h k false (holder_of w.slots k)) refl (told_go w h k g e) refl

-- ---- a drain

leaves_so : (w : WorldState) (h : HartNo) (i : ℕ) (e : Entry) → IsGoing w h → leaving w.machine h.0 i ≡ Some e
    → OutcomeIs w (Some h) (leaves w h (drain_next w.machine h.0 i) (drain_touch w h e) (drain_records w.machine h e) e)
leaves_so w h i (entries.Lend label first count) g e =
    let d = holds_of w h g in
    let at = tokens_are_lent w h.0 i label first count g.all g.there e in
    Goes h (drain_next w.machine h.0 i) (lent (driver_of w h.0) label first) w.slots (drain_touch w h (entries.Lend label first count)) (drain_records w.machine h (entries.Lend label first count)) refl
    (go_by w h (drain_next w.machine h.0 i) w.slots (lent (driver_of w h.0) label first) (λ n. n) g (calls_keep_shape.of_drain w.machine h.0 i g.sound g.there)
    (lent_call (length w.machine.cache.ram) (driver_of w h.0) (held_of w h.0) label first at d.turns)
    ((stays_of w h g).lends label first at))
    refl
leaves_so w h i (entries.Store span bytes kind) g e = Runs (drain_next w.machine h.0 i) _ _ (calls_keep_shape.of_drain w.machine h.0 i g.sound g.there) refl
leaves_so w h i (entries.Cbo block op) g e = Runs (drain_next w.machine h.0 i) _ _ (calls_keep_shape.of_drain w.machine h.0 i g.sound g.there) refl
leaves_so w h i (entries.Reg chan off width value) g e = Runs (drain_next w.machine h.0 i) _ _ (calls_keep_shape.of_drain w.machine h.0 i g.sound g.there) refl
leaves_so w h i (entries.Mail buf to) g e = Runs (drain_next w.machine h.0 i) _ _ (calls_keep_shape.of_drain w.machine h.0 i g.sound g.there) refl
leaves_so w h i (entries.Mark pred succ) g e = Runs (drain_next w.machine h.0 i) _ _ (calls_keep_shape.of_drain w.machine h.0 i g.sound g.there) refl

drain_by : (w : WorldState) (h : HartNo) (i : ℕ) (o : Option Entry) → leaving w.machine h.0 i ≡ o → IsGoing w h → OutcomeIs w (Some h) (drain_outcome w h i o)
unfolding drain_outcome
drain_by w h i None e g = nothing_is w (Some h)
drain_by w h i (Some x) e g = leaves_so w h i x g e

-- ---- every event

pub outcome_is : (w : WorldState) (e : Event) → IsEvent w e → OutcomeIs w (mover e) (outcome w e)
unfolding outcome enabled
outcome_is w (events.Issue h) is =
    step_by w h (next_of (driver_of w h.0)) (record { sound = is.sound; all = is.holds; there = is.there }) refl
    (and_parts (is_out w.machine h (waits_for (driver_of w h.0))) (may_go_on w h (next_of (driver_of w h.0))) is.may).1
outcome_is w (events.Try h) is = try_by w h (searching (driver_of w h.0)) refl (record { sound = is.sound; all = is.holds; there = is.there })
outcome_is w (events.Told h got) is = told_by w h got (searching (driver_of w h.0)) refl (record { sound = is.sound; all = is.holds; there = is.there })
outcome_is w (events.Drain h i) is = drain_by w h i (leaving w.machine h.0 i) refl (record { sound = is.sound; all = is.holds; there = is.there })
outcome_is w (events.Fill h b) is = Runs _ _ _ (calls_keep_shape.of_fill w.machine h.0 b.0 is.sound (record { hart = is.there.0; block = is.there.1 })) refl
outcome_is w (events.Evict h b) is = Runs _ _ _ (calls_keep_shape.of_evict w.machine h.0 b.0 is.sound (record { hart = is.there.0; block = is.there.1 })) refl
outcome_is w (events.ChanRead chan) is = Runs _ _ _ (calls_keep_shape.of_chan_read w.machine chan.0) refl
outcome_is w (events.ChanWrite chan) is = Runs _ _ _ (calls_keep_shape.of_chan_write w.machine chan.0 is.sound is.there) refl
