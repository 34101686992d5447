-- A fence of all kinds on both sides is issued only where no write and no output is queued, and puts no entry.
use Rattle.std.proofs.Common.{◌≡◌, ℕ, ◌<◌, ◌≤◌, Bool, true, false, List, length, refl, sym, ap, ◌∙◌, subst, arith, inl, inr, Option, Some, None}
use Rattle.std.specs.Prelude.{◌⊎◌, ◌&&◌, ◌||◌, not, slice_set}
use Rattle.std.proofs.lemmas.Bool.{false≢true, and_parts, cases_lt}
use Rattle.std.proofs.lemmas.List.{get_or-set_same, length-set, get_or_past}
use Rattle.nc_num.specs.declared.names.HartNo.{HartNo}
use Rattle.nc_model.specs.declared.touches.Touch.{Touch}
use Rattle.nc_queue.specs.declared.entry.Entry.{Entry}
use Rattle.nc_queue.specs.Entries.{is_w, is_o, in_set}
use Rattle.nc_queue.specs.Rules.{any_in}
use Rattle.nc_hart.specs.HartState.{HartState}
use Rattle.nc_hart.specs.Issue.{can_issue, has_room, fence_clear, load_clear, issued}
use Rattle.nc_plan.specs.declared.ops.HartOp.{HartOp}
use Rattle.nc_plan.specs.declared.ops.HartOp.TheVariants as hart
use Rattle.nc_scen.specs.declared.events.Event.TheVariants as events
use Rattle.nc_scripts.proofs.Lists.{all_to, none_any}
use Rattle.nc_rules.specs.declared.steps.Next.{Next}
use Rattle.nc_rules.specs.declared.steps.Next.TheVariants as nexts
use Rattle.nc_rules.specs.Machine.{MachineState, no_hart, hart_of, queue_of, with_hart}
use Rattle.nc_rules.specs.Calls.{may_issue, issue_next}
use Rattle.nc_rules.specs.Driver.{next_of, waits_for}
use Rattle.nc_rules.specs.Events.{enabled, may_go_on, is_out}
use Rattle.nc_rules.specs.Next.{touched_by, after_outcome, counted, next}
use Rattle.nc_rules.specs.Outcomes.{Outcome, outcome, step_outcome, op_outcome}
use Rattle.nc_rules.specs.World.{WorldState, driver_of}
use Rattle.nc_holds.proofs.events.Holds.{next_is}
use Rattle.nc_refusals.specs.Refused.{HasNoneOfWO}
use Rattle.nc_refusals.specs.Laws.{FencesEmptyQueues}

abbrev full : HartOp
full = hart.Fence 15 15

-- ---- before it

neither : (e : Entry) → in_set e 15 ≡ false → (is_w e ≡ false) × (is_o e ≡ false)
neither e off = by (is_w e) (is_o e) off
  where
    by : (a b : Bool) → ((a && true) || (b && true)) ≡ false → (a ≡ false) × (b ≡ false)
    by true b h = absurd (false≢true (sym h))
    by false true h = absurd (false≢true (sym h))
    by false false h = (refl, refl)

not_off : (t : Bool) → not t ≡ true → t ≡ false
not_off true h = absurd (false≢true h)
not_off false h = refl

none_in : (q : List Entry) → fence_clear q full ≡ true → HasNoneOfWO q
none_in q clear =
    all_to (λ (e : Entry). in_set e 15 ≡ false) (λ (e : Entry). (is_w e ≡ false) × (is_o e ≡ false)) q
    (none_any (λ (e : Entry). in_set e 15) q (not_off (any_in q 15) clear)) (λ e off. neither e off)

clear_of : (s : HartState) → can_issue s full ≡ true → fence_clear s.queue.entries full ≡ true
unfolding can_issue
clear_of s may =
    (and_parts (has_room s.queue.entries full) (fence_clear s.queue.entries full)
    (and_parts (has_room s.queue.entries full && fence_clear s.queue.entries full) (load_clear s.queue.entries full) may).0).1

-- ---- behind it

issued_same : (s : HartState) → (issued s full).queue.entries ≡ s.queue.entries
unfolding issued
issued_same s = refl

queue_here : (m : MachineState) (h : ℕ) (s : HartState) → h < length m.harts → s.queue.entries ≡ queue_of m h → queue_of (with_hart m h s) h ≡ queue_of m h
queue_here m h s lt same = ap (λ (x : HartState). x.queue.entries) (get_or-set_same m.harts h s no_hart lt) ∙ same

queue_past : (m : MachineState) (h : ℕ) (s : HartState) → length m.harts ≤ h → queue_of (with_hart m h s) h ≡ queue_of m h
queue_past m h s le =
    ap (λ (x : HartState). x.queue.entries) (get_or_past (slice_set m.harts h s) h no_hart (omega (arith, le, length-set m.harts h s)))
    ∙ sym (ap (λ (x : HartState). x.queue.entries) (get_or_past m.harts h no_hart le))

queue_by : (m : MachineState) (h : ℕ) (s : HartState) → s.queue.entries ≡ queue_of m h → (h < length m.harts) ⊎ (length m.harts ≤ h) → queue_of (with_hart m h s) h ≡ queue_of m h
queue_by m h s same (inl lt) = queue_here m h s lt same
queue_by m h s same (inr le) = queue_past m h s le

queue_same : (m : MachineState) (h : ℕ) → queue_of (issue_next m h full) h ≡ queue_of m h
unfolding issue_next
queue_same m h = queue_by m h (issued (hart_of m h) full) (issued_same (hart_of m h)) (cases_lt h (length m.harts))

touched_queue : (w : WorldState) (t : Option Touch) (h : ℕ) → queue_of (counted (touched_by w t)).machine h ≡ queue_of w.machine h
touched_queue w None h = refl
touched_queue w (Some t) h = refl

outcome_queue : (w : WorldState) (o : Outcome) (h : ℕ) → queue_of (counted (after_outcome w o)).machine h ≡ queue_of o.machine h
outcome_queue w o h = touched_queue _ o.touch h

op_machine : (w : WorldState) (h : HartNo) → (op_outcome w h full).machine ≡ issue_next w.machine h.0 full
unfolding op_outcome
op_machine w h = refl

step_machine : (w : WorldState) (h : HartNo) → (step_outcome w h (nexts.Op full)).machine ≡ issue_next w.machine h.0 full
unfolding step_outcome
step_machine w h = op_machine w h

outcome_machine : (w : WorldState) (h : HartNo) → next_of (driver_of w h.0) ≡ nexts.Op full → (outcome w (events.Issue h)).machine ≡ issue_next w.machine h.0 full
unfolding outcome
outcome_machine w h e = ap (λ (n : Next). (step_outcome w h n).machine) e ∙ step_machine w h

behind : (w : WorldState) (h : HartNo) → enabled w (events.Issue h) ≡ true → next_of (driver_of w h.0) ≡ nexts.Op full → queue_of (next w (events.Issue h)).machine h.0 ≡ queue_of w.machine h.0
behind w h may e =
    ap (λ (v : WorldState). queue_of v.machine h.0) (next_is w (events.Issue h) may)
    ∙ outcome_queue w (outcome w (events.Issue h)) h.0
    ∙ ap (λ (m : MachineState). queue_of m h.0) (outcome_machine w h e)
    ∙ queue_same w.machine h.0

-- ---- the law

may_of : (w : WorldState) (h : HartNo) → enabled w (events.Issue h) ≡ true → next_of (driver_of w h.0) ≡ nexts.Op full → may_issue w.machine h.0 full ≡ true
unfolding enabled
may_of w h may e =
    subst (λ (n : Next). may_go_on w h n ≡ true) e
    (and_parts (is_out w.machine h (waits_for (driver_of w h.0))) (may_go_on w h (next_of (driver_of w h.0))) may).1

pub fences_empty_queues : FencesEmptyQueues
fences_empty_queues w h may e =
    subst (λ (q : List Entry). HasNoneOfWO q) (sym (behind w h may e)) (none_in (queue_of w.machine h.0) (clear_of (hart_of w.machine h.0) (may_of w h may e)))
