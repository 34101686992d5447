-- No event changes the machine's sizes.
use Rattle.std.proofs.Common.{◌≡◌, ℕ, Bool, true, false, length, ◌<◌, Option, Some, None, refl, sym, subst, List}
use Rattle.std.specs.Prelude.{if◌then◌else◌, Result, Ok, Err, OnOk}
use Rattle.nc_num.specs.declared.names.HartNo.{HartNo}
use Rattle.nc_model.specs.declared.touches.Touch.{Touch}
use Rattle.nc_queue.specs.declared.entry.Entry.{Entry}
use Rattle.nc_scen.specs.Events.{IsThere}
use Rattle.nc_scen.specs.declared.events.Event.{Event}
use Rattle.nc_scen.specs.declared.events.Event.TheVariants as events
use Rattle.nc_rules.specs.declared.steps.Next.{Next}
use Rattle.nc_rules.specs.declared.steps.Next.TheVariants as nexts
use Rattle.nc_calls.proofs.SoundWith.{shape_same}
use Rattle.nc_calls.proofs.SoundIssue.{shape_issue}
use Rattle.nc_calls.proofs.SoundDrain.{shape_drain}
use Rattle.nc_calls.proofs.SoundSteps.{shape_fill, shape_evict, shape_chan_read, shape_chan_write, shape_claim, shape_take}
use Rattle.nc_rules.specs.Calls.{leaving, drain_next}
use Rattle.nc_rules.specs.Driver.{next_of, searching}
use Rattle.nc_rules.specs.Events.{enabled}
use Rattle.nc_rules.specs.Machine.{MachineState}
use Rattle.nc_calls.specs.MachineLaws.{SameShape}
use Rattle.nc_rules.specs.declared.records.Record.{Record}
use Rattle.nc_queue.specs.declared.entry.Entry.TheVariants as entries
use Rattle.nc_rules.specs.Next.{touched_by, after_outcome, performed, counted, next}
use Rattle.nc_rules.specs.Outcomes.{Outcome, leaves, at_word, outcome, step_outcome, start_outcome, op_outcome, claim_outcome, poll_outcome, take_outcome, try_outcome, told_outcome, drain_outcome}
use Rattle.nc_rules.specs.Sound.{IsMachine}
use Rattle.nc_rules.specs.World.{WorldState, driver_of, with_moves}
use Rattle.nc_scripts.specs.Drivers.{EachStaysDriver}
use Rattle.nc_holds.specs.Holds.{Holds}
use Rattle.nc_world.specs.Steps.{NextFits}
use Rattle.nc_world.proofs.Fits.{next_fits}

touched_machine : (w : WorldState) (t : Option Touch) → (touched_by w t).machine ≡ w.machine
touched_machine w None = refl
touched_machine w (Some t) = refl

after_machine : (w : WorldState) (o : Outcome) → (after_outcome w o).machine ≡ o.machine
after_machine w o = touched_machine (with_moves (record w { machine = o.machine; drivers = o.drivers; slots = o.slots }) o.moves) o.touch

shape_step : (w : WorldState) (h : HartNo) (n : Next) → IsMachine w.machine → h.0 < length w.machine.harts → NextFits w.machine h.0 n → SameShape w.machine (step_outcome w h n).machine
unfolding step_outcome start_outcome op_outcome claim_outcome poll_outcome take_outcome
shape_step w h (nexts.Op op) is lt fits = shape_issue w.machine h.0 op is lt fits
shape_step w h (nexts.Claim chan) is lt fits = shape_claim w.machine h chan.0
shape_step w h (nexts.Take buf) is lt fits = shape_take w.machine h.0 buf
shape_step w h (nexts.Poll chan) is lt fits = shape_same w.machine
shape_step w h nexts.End is lt fits = shape_same w.machine
shape_step w h nexts.Start is lt fits = shape_same w.machine
shape_step w h (nexts.Search k) is lt fits = shape_same w.machine

shape_word : (w : WorldState) (f : ℕ → Outcome) (o : Option ℕ) → ((k : ℕ) → (f k).machine ≡ w.machine) → SameShape w.machine (at_word w f o).machine
shape_word w f None same = shape_same w.machine
shape_word w f (Some k) same = subst (SameShape w.machine) (sym (same k)) (shape_same w.machine)

try_machine : (w : WorldState) (h : HartNo) (k : ℕ) → (try_outcome w h k).machine ≡ w.machine
unfolding try_outcome
try_machine w h k = refl

told_machine : (w : WorldState) (h : HartNo) (got : Bool) (k : ℕ) → (told_outcome w h got k).machine ≡ w.machine
unfolding told_outcome
told_machine w h got k = refl

shape_leaves : (w : WorldState) (h : HartNo) (m : MachineState) (t : Option Touch) (rs : List Record) (e : Entry) → SameShape w.machine m → SameShape w.machine (leaves w h m t rs e).machine
shape_leaves w h m t rs (entries.Lend label first count) same = same
shape_leaves w h m t rs (entries.Store span bytes kind) same = same
shape_leaves w h m t rs (entries.Cbo block op) same = same
shape_leaves w h m t rs (entries.Reg chan off width value) same = same
shape_leaves w h m t rs (entries.Mail buf to) same = same
shape_leaves w h m t rs (entries.Mark pred succ) same = same

shape_drained : (w : WorldState) (h : HartNo) (i : ℕ) (o : Option Entry) → IsMachine w.machine → h.0 < length w.machine.harts → SameShape w.machine (drain_outcome w h i o).machine
unfolding drain_outcome
shape_drained w h i None is lt = shape_same w.machine
shape_drained w h i (Some e) is lt = shape_leaves w h (drain_next w.machine h.0 i) _ _ e (shape_drain w.machine h.0 i is lt)

shape_outcome : (w : WorldState) (e : Event) → EachStaysDriver → IsMachine w.machine → Holds w
    → IsThere (length w.machine.harts) w.machine.size (length w.machine.cache.ram) e → SameShape w.machine (outcome w e).machine
unfolding outcome
shape_outcome w (events.Issue h) law is world there = shape_step w h (next_of (driver_of w h.0)) is there (next_fits w h.0 law world there)
shape_outcome w (events.Try h) law is world there = shape_word w (try_outcome w h) (searching (driver_of w h.0)) (try_machine w h)
shape_outcome w (events.Told h got) law is world there = shape_word w (told_outcome w h got) (searching (driver_of w h.0)) (told_machine w h got)
shape_outcome w (events.Drain h i) law is world there = shape_drained w h i (leaving w.machine h.0 i) is there
shape_outcome w (events.Fill h b) law is world there = shape_fill w.machine h.0 b.0 is there.0 there.1
shape_outcome w (events.Evict h b) law is world there = shape_evict w.machine h.0 b.0 is there.0 there.1
shape_outcome w (events.ChanRead c) law is world there = shape_chan_read w.machine c.0
shape_outcome w (events.ChanWrite c) law is world there = shape_chan_write w.machine c.0 is there

performed_shape : (w : WorldState) (e : Event) → EachStaysDriver → IsMachine w.machine → Holds w
    → IsThere (length w.machine.harts) w.machine.size (length w.machine.cache.ram) e → SameShape w.machine (performed w e).machine
unfolding performed
performed_shape w e law is world there = subst (SameShape w.machine) (sym (after_machine w (outcome w e))) (shape_outcome w e law is world there)

shape_if : (w v : WorldState) (t : Bool) → SameShape w.machine v.machine → SameShape w.machine (if t then counted v else w).machine
shape_if w v true same = same
shape_if w v false same = shape_same w.machine

pub next_shape : (w : WorldState) (e : Event) → EachStaysDriver → IsMachine w.machine → Holds w
    → IsThere (length w.machine.harts) w.machine.size (length w.machine.cache.ram) e → SameShape w.machine (next w e).machine
unfolding next
next_shape w e law is world there = shape_if w (performed w e) (enabled w e) (performed_shape w e law is world there)

-- what follows from a fact of a good answer
pub on_ok : {X E : Type 0} (r : Result X E) (P Q : Type 0) → (P → Q) → OnOk r P → OnOk r Q
on_ok (Ok x) P Q f h = f h
on_ok (Err e) P Q f h = h
