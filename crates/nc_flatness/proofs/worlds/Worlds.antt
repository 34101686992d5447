-- A world of a scenario stays one.
use Rattle.std.proofs.Common.{◌≡◌, ℕ, ◌<◌, Bool, true, false, List, length, refl, sym, ap, ◌∙◌, inl, inr, subst, arith, Option, Some, None}
use Rattle.std.specs.Prelude.{slice_set}
use Rattle.std.proofs.lemmas.Bool.{and_parts, cases_eq}
use Rattle.std.proofs.lemmas.List.{get_or-set_same, get_or-set_other, length-replicate}
use Rattle.std.proofs.lemmas.List.FromFn.{get_or-map-range_with_len}
use Rattle.nc_num.specs.declared.names.HartNo.{HartNo}
use Rattle.nc_queue.specs.declared.entry.Entry.{Entry}
use Rattle.nc_queue.specs.declared.entry.Entry.TheVariants as entries
use Rattle.nc_plan.specs.declared.ops.HartOp.{HartOp}
use Rattle.nc_model.specs.declared.touches.Touch.{Touch}
use Rattle.nc_scen.specs.Accepted.{IsAccepted}
use Rattle.nc_scen.specs.Events.{IsThere}
use Rattle.nc_scen.specs.declared.events.Event.{Event}
use Rattle.nc_scen.specs.declared.events.Event.TheVariants as events
use Rattle.nc_scen.specs.declared.scenario.Scenario.{Scenario}
use Rattle.nc_rules.specs.declared.steps.Next.{Next}
use Rattle.nc_rules.specs.declared.steps.Next.TheVariants as nexts
use Rattle.nc_rules.specs.Machine.{MachineState, fresh_hart}
use Rattle.nc_rules.specs.Calls.{leaving, drain_next}
use Rattle.nc_rules.specs.Driver.{DriverState, next_of, searching, waits_for}
use Rattle.nc_rules.specs.Events.{enabled, may_go_on, is_out}
use Rattle.nc_rules.specs.Next.{touched_by, after_outcome, counted, next}
use Rattle.nc_rules.specs.Outcomes.{Outcome, start_outcome, op_outcome, claim_outcome, poll_outcome, take_outcome, step_outcome, try_outcome, told_outcome, at_word, leaves, drain_outcome, outcome}
use Rattle.nc_rules.specs.Sound.{IsMachine}
use Rattle.nc_rules.specs.Start.{fixed_of, hart_spec, first_driver, first_machine}
use Rattle.nc_rules.specs.EventTouches.{drain_touch}
use Rattle.nc_rules.specs.Records.{drain_records}
use Rattle.nc_rules.specs.World.{WorldState, no_driver, driver_of, with_moves, hart, start}
use Rattle.nc_calls.specs.MachineLaws.{SameShape}
use Rattle.nc_calls.proofs.SoundLaws.{machine_stays_sound}
use Rattle.nc_calls.proofs.SoundStart.{length-memory}
use Rattle.nc_scripts.specs.Drivers.{NextIsThere, StaysDriver}
use Rattle.nc_scripts.proofs.EveryDriver.{drivers_stay, op_there}
use Rattle.nc_holds.specs.Holds.{Holds, mover}
use Rattle.nc_holds.proofs.events.Given.{IsEvent}
use Rattle.nc_holds.proofs.events.Steps.{OutcomeIs, Runs, Goes, outcome_is}
use Rattle.nc_holds.proofs.events.Holds.{next_is, next_same, next_holds}
use Rattle.nc_holds.proofs.events.Last.{event_laws}
use Rattle.nc_holds.proofs.owners.Given.{owner_laws}
use Rattle.nc_holds.proofs.starts.Holds.{start_holds}
use Rattle.nc_flatness.specs.Flatness.{IsOf, IsWorldOf}
use Rattle.nc_flatness.specs.Steps.{WorldsStart, WorldsStay}

-- ---- the machine

abbrev IsAfter : Outcome → Type 0
IsAfter o = IsMachine o.machine

stays_of : (w : WorldState) (h : HartNo) → Holds w → h.0 < length w.machine.harts → StaysDriver (length w.machine.cache.ram) (length w.machine.harts) (driver_of w h.0)
stays_of w h k lt = drivers_stay (length w.machine.cache.ram) (length w.machine.harts) (driver_of w h.0) (k.each h.0 lt).driver

op_sound : (w : WorldState) (h : HartNo) (op : HartOp) → IsMachine w.machine → Holds w → h.0 < length w.machine.harts → next_of (driver_of w h.0) ≡ nexts.Op op → may_go_on w h (nexts.Op op) ≡ true → IsAfter (op_outcome w h op)
unfolding op_outcome
op_sound w h op sound k lt e may =
    let d = k.each h.0 lt in
    let there = op_there (length w.machine.cache.ram) (length w.machine.harts) (driver_of w h.0) op w.machine h.0 d.driver e (record { memory = refl; block = d.setting.block; processors = refl; boxes = d.setting.boxes }) d.loads in
    machine_stays_sound.of_issue w.machine h.0 op sound (record { hart = lt; there = there; may = may })

claim_sound : (w : WorldState) (h : HartNo) (next : Next) → IsMachine w.machine → h.0 < length w.machine.harts → NextIsThere (length w.machine.cache.ram) (length w.machine.harts) (driver_of w h.0).fixed next → may_go_on w h next ≡ true → next_of (driver_of w h.0) ≡ next
    → Holds w → IsAfter (step_outcome w h next)
unfolding step_outcome start_outcome claim_outcome poll_outcome take_outcome
claim_sound w h nexts.End sound lt there may e k = sound
claim_sound w h nexts.Start sound lt there may e k = sound
claim_sound w h (nexts.Search n) sound lt there may e k = sound
claim_sound w h (nexts.Op op) sound lt there may e k = op_sound w h op sound k lt e may
claim_sound w h (nexts.Claim chan) sound lt there may e k = machine_stays_sound.of_claim w.machine h chan.0 sound lt there
claim_sound w h (nexts.Poll chan) sound lt there may e k = sound
claim_sound w h (nexts.Take buf) sound lt there may e k = machine_stays_sound.of_take w.machine h.0 buf sound

word_sound : (w : WorldState) (f : ℕ → Outcome) (o : Option ℕ) → IsMachine w.machine → ((k : ℕ) → IsAfter (f k)) → IsAfter (at_word w f o)
word_sound w f None sound each = sound
word_sound w f (Some k) sound each = each k

leaves_sound : (w : WorldState) (h : HartNo) (i : ℕ) (e : Entry) → IsMachine (drain_next w.machine h.0 i) → IsAfter (leaves w h (drain_next w.machine h.0 i) (drain_touch w h e) (drain_records w.machine h e) e)
leaves_sound w h i (entries.Lend label first count) sound = sound
leaves_sound w h i (entries.Store span bytes kind) sound = sound
leaves_sound w h i (entries.Cbo block op) sound = sound
leaves_sound w h i (entries.Reg chan off width value) sound = sound
leaves_sound w h i (entries.Mail buf to) sound = sound
leaves_sound w h i (entries.Mark pred succ) sound = sound

drain_sound : (w : WorldState) (h : HartNo) (i : ℕ) (o : Option Entry) → IsMachine w.machine → IsMachine (drain_next w.machine h.0 i) → IsAfter (drain_outcome w h i o)
unfolding drain_outcome
drain_sound w h i None sound after = sound
drain_sound w h i (Some e) sound after = leaves_sound w h i e after

outcome_sound : (w : WorldState) (e : Event) → IsEvent w e → IsAfter (outcome w e)
unfolding outcome enabled try_outcome told_outcome
outcome_sound w (events.Issue h) is =
    let next = next_of (driver_of w h.0) in
    claim_sound w h next is.sound is.there (stays_of w h is.holds is.there).next_there (and_parts (is_out w.machine h (waits_for (driver_of w h.0))) (may_go_on w h next) is.may).1 refl is.holds
outcome_sound w (events.Try h) is = word_sound w (try_outcome w h) (searching (driver_of w h.0)) is.sound (λ k. is.sound)
outcome_sound w (events.Told h got) is = word_sound w (told_outcome w h got) (searching (driver_of w h.0)) is.sound (λ k. is.sound)
outcome_sound w (events.Drain h i) is = drain_sound w h i (leaving w.machine h.0 i) is.sound (machine_stays_sound.of_drain w.machine h.0 i is.sound is.there)
outcome_sound w (events.Fill h b) is = machine_stays_sound.of_fill w.machine h.0 b.0 is.sound (record { hart = is.there.0; block = is.there.1 })
outcome_sound w (events.Evict h b) is = machine_stays_sound.of_evict w.machine h.0 b.0 is.sound (record { hart = is.there.0; block = is.there.1 })
outcome_sound w (events.ChanRead chan) is = machine_stays_sound.of_chan_read w.machine chan.0 is.sound is.there
outcome_sound w (events.ChanWrite chan) is = machine_stays_sound.of_chan_write w.machine chan.0 is.sound is.there

-- ---- the whole

of_after : (sc : Scenario) (m n : MachineState) → SameShape m n → IsOf sc m → IsOf sc n
of_after sc m n s of = record {
  size = s.size ∙ of.size;
  pool = s.pool ∙ of.pool;
  ram = s.ram ∙ of.ram;
  harts = s.harts ∙ of.harts;
  boxes = s.boxes ∙ of.boxes;
}

machine_after : (w : WorldState) (o : Outcome) → (counted (after_outcome w o)).machine ≡ o.machine
machine_after w o = touched (with_moves (record w { machine = o.machine; drivers = o.drivers; slots = o.slots }) o.moves) o.touch
  where
    touched : (v : WorldState) (t : Option Touch) → (counted (touched_by v t)).machine ≡ v.machine
    touched v None = refl
    touched v (Some t) = refl

drivers_after : (w : WorldState) (o : Outcome) → (counted (after_outcome w o)).drivers ≡ o.drivers
drivers_after w o = touched (with_moves (record w { machine = o.machine; drivers = o.drivers; slots = o.slots }) o.moves) o.touch
  where
    touched : (v : WorldState) (t : Option Touch) → (counted (touched_by v t)).drivers ≡ v.drivers
    touched v None = refl
    touched v (Some t) = refl

shape_is : (w : WorldState) (by : Option HartNo) (o : Outcome) → OutcomeIs w by o → SameShape w.machine o.machine
shape_is w by o (Runs machine touch records s e) = subst (λ (x : Outcome). SameShape w.machine x.machine) (sym e) s
shape_is w by o (Goes h machine went now touch records is go e) = subst (λ (x : Outcome). SameShape w.machine x.machine) (sym e) go.shape

fixed_set : (w : WorldState) (h g : ℕ) (d : DriverState) → h < length w.drivers → d.fixed ≡ (driver_of w h).fixed → (driver_of (record w { drivers = slice_set w.drivers h d }) g).fixed ≡ (driver_of w g).fixed
fixed_set w h g d lt same = elim (cases_eq g h) [
  | inl e ↦ subst (λ (k : ℕ). (driver_of (record w { drivers = slice_set w.drivers h d }) k).fixed ≡ (driver_of w k).fixed) (sym e) (ap (λ (d : DriverState). d.fixed) (get_or-set_same w.drivers h d no_driver lt) ∙ same)
  | inr ne ↦ ap (λ (d : DriverState). d.fixed) (get_or-set_other w.drivers h g d no_driver ne)
]

fixed_is : (w : WorldState) (by : Option HartNo) (o : Outcome) (g : ℕ) → length w.drivers ≡ length w.machine.harts → OutcomeIs w by o → (driver_of (record w { drivers = o.drivers }) g).fixed ≡ (driver_of w g).fixed
fixed_is w by o g count (Runs machine touch records s e) = ap (λ (x : Outcome). (driver_of (record w { drivers = x.drivers }) g).fixed) e
fixed_is w by o g count (Goes h machine went now touch records is go e) =
    ap (λ (x : Outcome). (driver_of (record w { drivers = x.drivers }) g).fixed) e ∙ fixed_set w h.0 g went.driver (omega (arith, count, go.there)) go.fixed

stay_on : (sc : Scenario) (w : WorldState) (e : Event) → IsWorldOf sc w → IsEvent w e → IsWorldOf sc (next w e)
stay_on sc w e is at =
    let o = outcome_is w e at in
    let n = next_is w e at.may in
    let machine : (next w e).machine ≡ (outcome w e).machine = ap (λ (v : WorldState). v.machine) n ∙ machine_after w (outcome w e) in
    let drivers : (next w e).drivers ≡ (outcome w e).drivers = ap (λ (v : WorldState). v.drivers) n ∙ drivers_after w (outcome w e) in
    record {
      machine = subst (λ (m : MachineState). IsMachine m) (sym machine) (outcome_sound w e at);
      of_scenario = subst (λ (m : MachineState). IsOf sc m) (sym machine) (of_after sc w.machine (outcome w e).machine (shape_is w (mover e) (outcome w e) o) is.of_scenario);
      holds = next_holds owner_laws event_laws w e at.sound at.holds at.there;
      fixed = λ h lt. ap (λ (ds : List DriverState). (driver_of (record w { drivers = ds }) h).fixed) drivers ∙ fixed_is w (mover e) (outcome w e) h is.holds.drivers o ∙ is.fixed h lt;
    }

there_now : (sc : Scenario) (w : WorldState) (e : Event) → IsWorldOf sc w → IsThere (length sc.harts) sc.block_size sc.ram e → IsThere (length w.machine.harts) w.machine.size (length w.machine.cache.ram) e
there_now sc w e is there = rw (is.of_scenario.harts, is.of_scenario.size, is.of_scenario.ram) there

-- what an event is of that may happen
pub event_now : (sc : Scenario) (w : WorldState) (e : Event) → IsWorldOf sc w → IsThere (length sc.harts) sc.block_size sc.ram e → enabled w e ≡ true → IsEvent w e
event_now sc w e is there may = record { sound = is.machine; holds = is.holds; there = there_now sc w e is there; may = may }

stay_if : (sc : Scenario) (w : WorldState) (e : Event) (t : Bool) → enabled w e ≡ t → IsWorldOf sc w → IsThere (length sc.harts) sc.block_size sc.ram e → IsWorldOf sc (next w e)
stay_if sc w e true may is there = stay_on sc w e is (event_now sc w e is there may)
stay_if sc w e false off is there = subst (λ (v : WorldState). IsWorldOf sc v) (sym (next_same w e off)) is

pub worlds_stay : WorldsStay
worlds_stay sc w e is there = stay_if sc w e (enabled w e) refl is there

-- ---- the start

of_start : (sc : Scenario) → IsAccepted sc → IsOf sc (first_machine sc)
unfolding first_machine
of_start sc a = record {
  size = refl;
  pool = refl;
  ram = length-memory sc a;
  harts = length-replicate (length sc.harts) (fresh_hart sc.block_size);
  boxes = length-replicate {A = Option HartNo} (length sc.buffers) None;
}

fixed_first : (sc : Scenario) (me : HartNo) → (first_driver sc me).fixed ≡ fixed_of sc me (hart_spec sc me.0)
unfolding first_driver
fixed_first sc me = refl

pub driver_start : (sc : Scenario) (h : ℕ) → h < length sc.harts → driver_of (start sc) h ≡ first_driver sc (hart h)
unfolding start
driver_start sc h lt = get_or-map-range_with_len (λ (h : ℕ). first_driver sc (hart h)) 0 (length sc.harts) h h no_driver lt (omega arith)

pub machine_start : (sc : Scenario) → (start sc).machine ≡ first_machine sc
unfolding start
machine_start sc = refl

pub worlds_start : WorldsStart
worlds_start sc a = record {
  machine = subst (λ (m : MachineState). IsMachine m) (sym (machine_start sc)) (machine_stays_sound.at_first sc a);
  of_scenario = subst (λ (m : MachineState). IsOf sc m) (sym (machine_start sc)) (of_start sc a);
  holds = start_holds sc a;
  fixed = λ h lt. ap (λ (d : DriverState). d.fixed) (driver_start sc h lt) ∙ fixed_first sc (hart h);
}
