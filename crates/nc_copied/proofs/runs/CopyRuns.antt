-- A run in which each copy that is answered is done, where flat memory stands behind each run.
use Rattle.std.specs.Prelude.{Some, Bool, true, false, All, slice_get, ◌||◌, ◌/◌, ◌%◌, ◌^◌, ◌==◌, if◌then◌else◌, is_some}
use Rattle.std.proofs.Common.{◌≡◌, ℕ, ◌+◌, ◌<◌, List, [], ◌∷◌, ◌++◌, length, refl, sym, ap, ◌∙◌, subst, inl, inr, arith, append_assoc, append-nil}
use Rattle.std.proofs.lemmas.Bool.{false≢true}
use Rattle.std.proofs.lemmas.List.Elements.{All-head}
use Rattle.nc_num.specs.Memory.{byte}
use Rattle.nc_num.specs.declared.names.HartNo.{HartNo}
use Rattle.nc_plan.specs.declared.ops.HartOp.TheVariants as hart_ops
use Rattle.nc_plan.specs.declared.ops.IoTarget.TheVariants as io
use Rattle.nc_model.specs.Flat.{flat, deeds}
use Rattle.nc_model.specs.declared.owners.Owner.{Owner}
use Rattle.nc_own.specs.Books.{owner_in}
use Rattle.nc_ops.specs.declared.ops.Op.{Op}
use Rattle.nc_scen.specs.Accepted.{IsAccepted}
use Rattle.nc_scen.specs.Events.{IsThere}
use Rattle.nc_scen.specs.declared.events.Event.{Event}
use Rattle.nc_scen.specs.declared.scenario.Scenario.{Scenario}
use Rattle.nc_rules.specs.declared.answers.Answer.{Answer}
use Rattle.nc_rules.specs.declared.answers.Answer.TheVariants as answers
use Rattle.nc_rules.specs.declared.lots.Lot.{Lot}
use Rattle.nc_rules.specs.declared.steps.Act.{Act}
use Rattle.nc_rules.specs.declared.steps.Act.TheVariants as acts
use Rattle.nc_rules.specs.declared.steps.Phase.TheVariants.{Steps, Work}
use Rattle.nc_rules.specs.declared.steps.Seen.TheVariants as seen
use Rattle.nc_rules.specs.declared.steps.Step.{Step}
use Rattle.nc_rules.specs.Copies.{copied}
use Rattle.nc_rules.specs.Driver.{DriverState, in_hand, done}
use Rattle.nc_rules.specs.Events.{enabled}
use Rattle.nc_rules.specs.Flat.{AreThere, event_trace, flat_after}
use Rattle.nc_rules.specs.Lots.{DriverConfig}
use Rattle.nc_rules.specs.Next.{next, after_outcome, counted}
use Rattle.nc_rules.specs.Outcomes.{Outcome, outcome}
use Rattle.nc_rules.specs.Plans.{control_step}
use Rattle.nc_rules.specs.Run.{after}
use Rattle.nc_rules.specs.Start.{first_driver, hart_spec}
use Rattle.nc_rules.specs.View.{view}
use Rattle.nc_rules.specs.EventTouches.{owner_of}
use Rattle.nc_rules.specs.World.{WorldState, driver_of, start, hart, owners_moved}
use Rattle.nc_scripts.specs.Drivers.{IsEndName}
use Rattle.nc_scripts.proofs.Lists.{all_left, all_right}
use Rattle.nc_holds.specs.Holds.{DriverHolds}
use Rattle.nc_holds.proofs.events.Holds.{next_is}
use Rattle.nc_flatness.specs.Copying.{CopyOp, copy_op, is_poll, polls, IsItsOwn}
use Rattle.nc_flatness.specs.Flatness.{Flatness}
use Rattle.nc_flatness.specs.Plans.{PlanGoes}
use Rattle.nc_flatness.specs.Steps.{OfChannel, kind_of_act}
use Rattle.nc_flatness.proofs.worlds.Worlds.{driver_start}
use Rattle.nc_flat_scripts.proofs.copies.TransferDrivers.{at_work}
use Rattle.nc_flat_scripts.proofs.copies.TransferEvents.{channel_step}
use Rattle.nc_refusals.proofs.EarlierLaws.{maker_there}
use Rattle.nc_refusals.proofs.EndLaws.{answers_leave_no_ends}
use Rattle.nc_copied.specs.Copied.{op_at, place_in, IsDone, TellsCopied, IsEachCopied}
use Rattle.nc_copied.proofs.polls.BehindPoll.{IsLeftBy, extend, each_left, IsAtRun, now_of, target_on, Stands, InPlan, IsAtEvent, stands_next, to_place}
use Rattle.nc_copied.proofs.polls.LastAnswers.{IsLastStep, last_step, saw_old}
use Rattle.nc_copied.proofs.polls.LastOwners.{last_moves, goes_owners, shows_own}
use Rattle.nc_copied.proofs.polls.LastSteps.{tells}
use Rattle.nc_copied.proofs.polls.PlanTurns.{TurnsEnds}
use Rattle.nc_copied.proofs.runs.RunEnds.{after_end, flat_end, IsFine, fine_front, last_untouched, RunsAreFlat}
use Rattle.nc_copied.proofs.events.Told.{IsTold, told}

-- ---- along a run

first_phase : (sc : Scenario) (h : HartNo) → (first_driver sc h).phase ≡ Steps 0
unfolding first_driver
first_phase sc h = refl

started : (sc : Scenario) (h : HartNo) → h.0 < length sc.harts → Stands sc [] (after (start sc) []) (flat_after sc []) h
unfolding after
started sc h lt k hand phase =
    let first : (driver_of (start sc) h.0).phase ≡ Steps 0 = ap (λ (d : DriverState). d.phase) (driver_start sc h.0 lt) ∙ first_phase sc (hart h.0) in
    let no : Steps 0 ≡ Work = sym first ∙ phase in
    absurd cc

abbrev StandsAt : Scenario → List Event → HartNo → Type 0
StandsAt sc es h = Stands sc es (after (start sc) es) (flat_after sc es) h

flat_front : (sc : Scenario) (es : List Event) → RunsAreFlat → IsAccepted sc → IsFine sc es → Flatness sc (flat_after sc es) (after (start sc) es)
flat_front sc es law a fine = law sc es a fine.there fine.untouched

last_there : (sc : Scenario) (es : List Event) (e : Event) → IsFine sc (es ++ e ∷ []) → IsThere (length sc.harts) sc.block_size sc.ram e
last_there sc es e fine = All-head (IsThere (length sc.harts) sc.block_size sc.ram) e [] (all_right (IsThere (length sc.harts) sc.block_size sc.ram) es (e ∷ []) fine.there)

at_event : (sc : Scenario) (es : List Event) (e : Event) (h : HartNo) → RunsAreFlat → IsAccepted sc → IsFine sc (es ++ e ∷ []) → h.0 < length sc.harts → IsAtEvent sc es e h
at_event sc es e h law a fine lt = record {
  accepted = a;
  flat = flat_front sc es law a (fine_front sc es (e ∷ []) fine);
  there = last_there sc es e fine;
  untouched = last_untouched sc es e fine;
  lt = lt;
}

along : (sc : Scenario) (prefix es : List Event) (h : HartNo) → RunsAreFlat → IsAccepted sc → IsFine sc (prefix ++ es) → h.0 < length sc.harts → StandsAt sc prefix h → StandsAt sc (prefix ++ es) h
along sc prefix [] h law a fine lt old = subst (λ (xs : List Event). StandsAt sc xs h) (sym (append-nil prefix)) old
along sc prefix (e ∷ es) h law a fine lt old =
    let same : (prefix ++ e ∷ []) ++ es ≡ prefix ++ e ∷ es = append_assoc prefix (e ∷ []) es in
    let more : IsFine sc ((prefix ++ e ∷ []) ++ es) = subst (IsFine sc) (sym same) fine in
    subst (λ (xs : List Event). StandsAt sc xs h) same
    (along sc (prefix ++ e ∷ []) es h law a more lt (stands_next sc prefix e h (at_event sc prefix e h law a (fine_front sc (prefix ++ e ∷ []) es more) lt) old))

stands : (sc : Scenario) (es : List Event) (h : HartNo) → RunsAreFlat → IsAccepted sc → IsFine sc es → h.0 < length sc.harts → StandsAt sc es h
stands sc es h law a fine lt = along sc [] es h law a fine lt (started sc h lt)

-- ---- the last step

no_poll : {A : Type 0} (a : Act) (chan off width value : _) → a ≡ acts.Op (hart_ops.IoStore (io.Reg chan off width value)) → is_poll a ≡ true → A
no_poll a chan off width value is poll = absurd (false≢true (ap is_poll (sym is) ∙ poll))

poll_channel : (a : Act) → is_poll a ≡ true → kind_of_act a ≡ OfChannel
poll_channel (acts.Poll chan) is = refl
poll_channel (acts.Op op) is = absurd (false≢true is)
poll_channel (acts.Claim chan) is = absurd (false≢true is)
poll_channel (acts.Take buf) is = absurd (false≢true is)

-- it is no poll
not_poll : (f : DriverConfig) (lots : List Lot) (s : Step) (t : Bool) → is_poll s.act ≡ t → PlanGoes f lots (s ∷ []) → t ≡ false
not_poll f lots s false is goes = refl
not_poll f lots s true is goes = elim (channel_step f lots s [] (poll_channel s.act is) goes.0) [
  | inl r ↦ no_poll s.act r.chan r.off r.width r.value (ap (λ (t : Step). t.act) r.step) is
  | inr p ↦ let no : [] ≡ control_step p.chan 0 ∷ p.more = p.release in absurd cc
]

-- a copy that is answered, at its last step
record IsAtLast (sc : Scenario) (es : List Event) (e : Event) (h : HartNo) (k : CopyOp) : Type 0 where
  at : IsAtEvent sc es e h
  last : IsLastStep (after (start sc) es) h (outcome (after (start sc) es) e)
  hand : in_hand (driver_of (after (start sc) es) h.0) ≡ Some (copy_op k)
  plan : InPlan sc es (after (start sc) es) (flat_after sc es) h k

run_of : (sc : Scenario) (es : List Event) (e : Event) (h : HartNo) (k : CopyOp) → IsAtLast sc es e h k → IsAtRun sc (flat_after sc es) (after (start sc) es) e h k
run_of sc es e h k l = record { accepted = l.at.accepted; flat = l.at.flat; there = l.at.there; untouched = l.at.untouched; lt = l.at.lt; hand = l.hand; phase = l.last.last.phase }

last_not : (sc : Scenario) (es : List Event) (e : Event) (h : HartNo) (k : CopyOp) → (l : IsAtLast sc es e h k) → is_poll l.last.last.step.act ≡ false
last_not sc es e h k l =
    let d = driver_of (after (start sc) es) h.0 in
    let plan = at_work d (copy_op k) (l.at.flat.bytes.drives h.0 l.at.lt) l.hand refl l.last.last.phase in
    not_poll d.fixed d.lots l.last.last.step (is_poll l.last.last.step.act) refl (subst (λ (r : List Step). PlanGoes d.fixed d.lots r) l.last.last.rest plan.goes)

polls_none : (sc : Scenario) (es : List Event) (e : Event) (h : HartNo) (k : CopyOp) → (l : IsAtLast sc es e h k) → polls (driver_of (after (start sc) es) h.0).rest ≡ false
polls_none sc es e h k l = ap polls l.last.last.rest ∙ ap (λ (t : Bool). t || false) (last_not sc es e h k l)

copied_by : (control : ℕ) (t : Bool) → (control / 2 ^ 31 % 2 == 1) ≡ t → t ≡ false → (if t then answers.CopyFailed control else answers.CopyDone) ≡ answers.CopyDone
copied_by control false is off = refl
copied_by control true is off = absurd (false≢true (sym off))

copied_done : (control : ℕ) → (control / 2 ^ 31 % 2 == 1) ≡ false → copied control ≡ answers.CopyDone
copied_done control off = copied_by control (control / 2 ^ 31 % 2 == 1) refl off

-- it is done
last_done : (sc : Scenario) (es : List Event) (e : Event) (h : HartNo) (k : CopyOp) → (l : IsAtLast sc es e h k) → (outcome (after (start sc) es) e).moves.answer ≡ Some answers.CopyDone
last_done sc es e h k l =
    let w = after (start sc) es in
    let control = l.last.last.control in
    let saw : (driver_of w h.0).saw ≡ seen.Control control = saw_old w h (outcome w e) l.last (last_not sc es e h k l) in
    let polled = (now_of sc (flat_after sc es) w e h k (run_of sc es e h k l)).polled l.last.last.phase (polls_none sc es e h k l) in
    let both : seen.Control polled.control ≡ seen.Control control = sym polled.saw_is ∙ saw in
    let same : polled.control ≡ control = cc in
    l.last.last.answer ∙ ap Some (copied_done control (ap (λ (c : ℕ). c / 2 ^ 31 % 2 == 1) (sym same) ∙ polled.no_error))

-- the owners of its destination behind it
last_owned : (sc : Scenario) (es : List Event) (e : Event) (h : HartNo) (k : CopyOp) (i : ℕ) → (l : IsAtLast sc es e h k) → enabled (after (start sc) es) e ≡ true → i < k.len → IsItsOwn h.0 (owner_of (next (after (start sc) es) e) (to_place sc k + i))
last_owned sc es e h k i l may lt =
    let w = after (start sc) es in
    let d = driver_of w h.0 in
    let x = to_place sc k + i in
    let run = run_of sc es e h k l in
    let there : h.0 < length w.machine.harts = omega (arith, l.at.lt, l.at.flat.world.of_scenario.harts) in
    let holds = l.at.flat.world.holds.each h.0 there in
    let by = l.last.by in
    let before = (now_of sc (flat_after sc es) w e h k run).owned x (inr (target_on sc (flat_after sc es) w e h k i run lt)) in
    let ends : TurnsEnds l.last.last.step = All-head TurnsEnds l.last.last.step [] (subst (All TurnsEnds) l.last.last.rest l.plan.turns) in
    let moved = last_moves (length w.machine.cache.ram) d (copy_op k) by.saw l.last.last.step h.0 w.owners x l.last.last.control l.hand l.last.last.phase l.last.last.rest l.last.last.saw_is holds.me holds.driver.lots ends before in
    let owners : (next w e).owners ≡ owners_moved w.owners (done d by.saw).moves.transfers =
    ap (λ (v : WorldState). v.owners) (next_is w e may) ∙ ap (λ (o : Outcome). (counted (after_outcome w o)).owners) by.is ∙ goes_owners w h by.machine (done d by.saw) w.slots by.touch by.records in
    subst (λ (ws : List Owner). IsItsOwn h.0 (owner_in ws x)) (sym owners) moved

-- ---- what is told

-- in a run with this last event
record IsToldAt (sc : Scenario) (es : List Event) (e : Event) (h : HartNo) (n : ℕ) (a : Answer) : Type 0 where
  law : RunsAreFlat
  accepted : IsAccepted sc
  fine : IsFine sc (es ++ e ∷ [])
  is : IsTold (after (start sc) es) e h n a
  lt : h.0 < length sc.harts

holds_at : (sc : Scenario) (es : List Event) (e : Event) (h : HartNo) → IsAtEvent sc es e h → DriverHolds (after (start sc) es) h.0
holds_at sc es e h at = at.flat.world.holds.each h.0 (omega (arith, at.lt, at.flat.world.of_scenario.harts))

at_last : (sc : Scenario) (es : List Event) (e : Event) (h : HartNo) (n : ℕ) (a : Answer) (k : CopyOp) → (t : IsToldAt sc es e h n a) → (l : IsLastStep (after (start sc) es) h (outcome (after (start sc) es) e)) → in_hand (driver_of (after (start sc) es) h.0) ≡ Some (copy_op k) → IsAtLast sc es e h k
at_last sc es e h n a k t l hand = record {
  at = at_event sc es e h t.law t.accepted t.fine t.lt;
  last = l;
  hand = hand;
  plan = stands sc es h t.law t.accepted (fine_front sc es (e ∷ []) t.fine) t.lt k hand l.last.phase;
}

step_at : (sc : Scenario) (es : List Event) (e : Event) (h : HartNo) (n : ℕ) (a : Answer) → IsToldAt sc es e h n a → tells (Some a) ≡ true → IsLastStep (after (start sc) es) h (outcome (after (start sc) es) e)
step_at sc es e h n a t is = last_step (after (start sc) es) e h (holds_at sc es e h (at_event sc es e h t.law t.accepted t.fine t.lt)) t.is.is.by_is (ap tells t.is.is.answer ∙ is)

-- it did not fail
failed_not : (sc : Scenario) (es : List Event) (e : Event) (h : HartNo) (n control : ℕ) → IsToldAt sc es e h n (answers.CopyFailed control) → ⊥
failed_not sc es e h n control t =
    let l = step_at sc es e h n (answers.CopyFailed control) t refl in
    let k = l.last.copy in
    let both : Some (answers.CopyFailed control) ≡ Some answers.CopyDone = sym t.is.is.answer ∙ last_done sc es e h k (at_last sc es e h n (answers.CopyFailed control) k t l l.last.hand) in
    absurd cc

is_done : (sc : Scenario) (es : List Event) (e : Event) (h : HartNo) (n : ℕ) (k : CopyOp) → (t : IsToldAt sc es e h n answers.CopyDone) → IsAtLast sc es e h k → IsDone sc (es ++ e ∷ []) h n k.chan k.len (place_in sc k.src k.src_off) (place_in sc k.dst k.dst_off)
is_done sc es e h n k t l =
    let w = after (start sc) es in
    let f = flat_after sc es in
    let run = es ++ e ∷ [] in
    let at = run_of sc es e h k l in
    let number : (driver_of w h.0).op ≡ n = t.is.is.op in
    let left : IsLeftBy sc run (flat_after sc run) h n k =
    subst (λ (g : List ℕ). IsLeftBy sc run g h n k) (sym (flat_end sc es e))
    (subst (λ (m : ℕ). IsLeftBy sc run (flat f (deeds (event_trace w e))) h m k) number (extend sc es w f e h (driver_of w h.0).op k refl (each_left sc f w e h k at) (l.plan.left (polls_none sc es e h k l)))) in
    let flat_now = flat_front sc run t.law t.accepted t.fine in
    let none = answers_leave_no_ends sc es e h t.accepted t.fine.there t.is.is.by_is t.is.may (ap is_some t.is.is.answer) in
    let here : after (start sc) run ≡ next w e = after_end (start sc) es e in
    let seen : (i : ℕ) → i < k.len → view (after (start sc) run).machine h.0 (to_place sc k + i) ≡ byte (flat_after sc run) (to_place sc k + i) =
    λ i lt.
    shows_own sc (flat_after sc run) (after (start sc) run) h.0 (to_place sc k + i) flat_now
    (subst (λ (v : WorldState). All (λ (lot : Lot). IsEndName lot.id → ⊥) (driver_of v h.0).lots) (sym here) none)
    (subst (λ (v : WorldState). IsItsOwn h.0 (owner_of v (to_place sc k + i))) (sym here) (last_owned sc es e h k i l t.is.may lt)) in
    record {
      prefix = left.prefix;
      behind = left.behind;
      is = left.is;
      polled = left.polled;
      left = left.left;
      seen = seen;
      stays = λ quiet. record { seen = seen; same = left.stays quiet };
    }

-- the operation of this number is the one in hand
hand_of : (sc : Scenario) (es : List Event) (e : Event) (h : HartNo) (n : ℕ) (o : Op) → IsAtEvent sc es e h → (driver_of (after (start sc) es) h.0).op ≡ n → op_at sc h n ≡ Some o → in_hand (driver_of (after (start sc) es) h.0) ≡ Some o
hand_of sc es e h n o at number is =
    let d = driver_of (after (start sc) es) h.0 in
    ap (λ (f : DriverConfig). slice_get f.script d.op) (at.flat.world.fixed h.0 at.lt) ∙ ap (slice_get (hart_spec sc h.0).script) number ∙ is

done_of : (sc : Scenario) (es : List Event) (e : Event) (h : HartNo) (n : ℕ) → IsToldAt sc es e h n answers.CopyDone → TellsCopied sc (es ++ e ∷ []) h n answers.CopyDone
done_of sc es e h n t chan src src_off dst dst_off len cfg is =
    let k : CopyOp = record { chan = chan; src = src; src_off = src_off; dst = dst; dst_off = dst_off; len = len; config = cfg } in
    let hand = hand_of sc es e h n (copy_op k) (at_event sc es e h t.law t.accepted t.fine t.lt) t.is.is.op is in
    is_done sc es e h n k t (at_last sc es e h n answers.CopyDone k t (step_at sc es e h n answers.CopyDone t refl) hand)

tells_by : (sc : Scenario) (es : List Event) (e : Event) (h : HartNo) (n : ℕ) (a : Answer) → IsToldAt sc es e h n a → TellsCopied sc (es ++ e ∷ []) h n a
tells_by sc es e h n answers.CopyDone t = done_of sc es e h n t
tells_by sc es e h n (answers.CopyFailed control) t = failed_not sc es e h n control t
tells_by sc es e h n _ t = tt

-- ---- the law

pub copied_of : RunsAreFlat → (sc : Scenario) → IsAccepted sc → (es : List Event) → AreThere sc es → IsEachCopied sc es
copied_of law sc a es there before behind e h n answer is untouched here =
    let all : es ≡ (before ++ e ∷ []) ++ behind = is ∙ sym (append_assoc before (e ∷ []) behind) in
    let fine : IsFine sc (before ++ e ∷ []) = record {
      there = all_left (IsThere (length sc.harts) sc.block_size sc.ram) (before ++ e ∷ []) behind (subst (AreThere sc) all there);
      untouched = untouched;
    } in
    let told_so = told (after (start sc) before) e h n answer here in
    tells_by sc before e h n answer (record { law = law; accepted = a; fine = fine; is = told_so; lt = maker_there sc e h told_so.is.by_is (last_there sc before e fine) })
