-- Before a refusal each event of its hart leaves all as it was, or makes one step of an operation by number.
use Rattle.std.proofs.Common.{◌≡◌, ℕ, ◌<◌, ◌≤◌, Bool, true, false, List, [], ◌∷◌, length, refl, sym, ap, ◌∙◌, subst, arith, inl, inr, Option, Some, None}
use Rattle.std.specs.Prelude.{◌⊎◌, slice_set}
use Rattle.std.proofs.lemmas.List.Elements.{All-head, All-tail}
use Rattle.nc_num.specs.declared.names.HartNo.{HartNo}
use Rattle.nc_model.specs.declared.touches.Touch.{Touch}
use Rattle.nc_scen.specs.Events.{IsThere}
use Rattle.nc_scen.specs.declared.events.Event.{Event}
use Rattle.nc_scen.specs.declared.events.Event.TheVariants as events
use Rattle.nc_scen.specs.declared.scenario.Scenario.{Scenario}
use Rattle.nc_rules.specs.declared.records.Record.{Record}
use Rattle.nc_rules.specs.declared.steps.Act.{Act}
use Rattle.nc_rules.specs.declared.steps.Act.TheVariants as acts
use Rattle.nc_rules.specs.declared.steps.Next.{Next}
use Rattle.nc_rules.specs.declared.steps.Next.TheVariants as nexts
use Rattle.nc_rules.specs.declared.steps.Seen.{Seen}
use Rattle.nc_rules.specs.declared.steps.Seen.TheVariants as seen
use Rattle.nc_rules.specs.Machine.{MachineState}
use Rattle.nc_rules.specs.Turns.{Moved, moved}
use Rattle.nc_rules.specs.Calls.{issue_next, claim_next, take_next}
use Rattle.nc_rules.specs.Driver.{DriverState, Went, next_of, next_act, started, told, done}
use Rattle.nc_rules.specs.Events.{enabled}
use Rattle.nc_rules.specs.Flat.{AreThere}
use Rattle.nc_rules.specs.Next.{touched_by, after_outcome, counted, next}
use Rattle.nc_rules.specs.Outcomes.{Outcome, goes, outcome}
use Rattle.nc_rules.specs.Run.{after}
use Rattle.nc_rules.specs.World.{WorldState, driver_of, with_driver, with_machine, with_moves, start}
use Rattle.nc_scripts.specs.Drivers.{IsPhase}
use Rattle.nc_scripts.proofs.Lists.{all_left, all_right}
use Rattle.nc_holds.proofs.events.Holds.{next_is, next_same}
use Rattle.nc_flatness.specs.Flatness.{IsWorldOf}
use Rattle.nc_flatness.proofs.worlds.Worlds.{worlds_start, worlds_stay}
use Rattle.nc_refusals.specs.Refused.{refuses, maker, acted, Refuses, TakesOneWord, IsLeftButWord, IsOneStep}
use Rattle.nc_refusals.specs.Laws.{EarlierEventsLeaveAll}
use Rattle.nc_refusals.proofs.Calls.{done_up}
use Rattle.nc_refusals.proofs.Outcomes.{Words, Free, Missed, SeesSo, Made, Starts, Hears, Acts, made}
use Rattle.nc_refusals.proofs.Quiet.{IsOpen, IsNumberDone, start_open, search_open, claim_open, start_quiet, told_quiet, done_quiet}
use Rattle.nc_refusals.proofs.Behind.{mine, driver_now, behind, grows, open_back}

-- ---- runs

pub along : (sc : Scenario) (w : WorldState) (es : List Event) → IsWorldOf sc w → AreThere sc es → IsWorldOf sc (after w es)
unfolding after
along sc w [] is there = is
along sc w (e ∷ es) is there =
    along sc (next w e) es (worlds_stay sc w e is (All-head (IsThere (length sc.harts) sc.block_size sc.ram) e es there)) (All-tail (IsThere (length sc.harts) sc.block_size sc.ram) e es there)

pub drivers_long : (sc : Scenario) (w : WorldState) (h : ℕ) → IsWorldOf sc w → h < length sc.harts → h < length w.drivers
drivers_long sc w h is lt = omega (arith, lt, is.holds.drivers, is.of_scenario.harts)

pub phase_of : (sc : Scenario) (w : WorldState) (h : ℕ) → IsWorldOf sc w → h < length sc.harts → IsPhase (driver_of w h) (driver_of w h).phase
phase_of sc w h is lt = (is.holds.each h (omega (arith, lt, is.of_scenario.harts))).driver.phase

pub grows_along : (sc : Scenario) (w : WorldState) (es : List Event) (h : HartNo) → IsWorldOf sc w → AreThere sc es → h.0 < length sc.harts → (driver_of w h.0).op ≤ (driver_of (after w es) h.0).op
unfolding after
grows_along sc w [] h is there lt = omega arith
grows_along sc w (e ∷ es) h is there lt =
    let e_there = All-head (IsThere (length sc.harts) sc.block_size sc.ram) e es there in
    let one = grows w (next w e) h (behind sc w e h is e_there (drivers_long sc w h.0 is lt)) in
    let more = grows_along sc (next w e) es h (worlds_stay sc w e is e_there) (All-tail (IsThere (length sc.harts) sc.block_size sc.ram) e es there) lt in
    omega (arith, one, more)

-- ---- an operation that is refused may be

claims_at : (m : MachineState) (h : HartNo) (act : Act) (saw : Seen) (g : HartNo) → saw ≡ seen.Busy g → SeesSo m h act saw → (chan : _) × (act ≡ acts.Claim chan)
claims_at m h act saw g e sees = (subst (λ (s : Seen). SeesSo m h act s) e sees).0

made_open : (w : WorldState) (h : HartNo) (o : Outcome) → IsPhase (driver_of w h.0) (driver_of w h.0).phase → refuses o.moves.answer ≡ true → Made w h o → IsOpen (driver_of w h.0)
made_open w h o phase a (Starts touch records at e) = start_open (driver_of w h.0) phase at
made_open w h o phase a (Hears k got now records at words e) = search_open (driver_of w h.0) k at
made_open w h o phase a (Acts act saw touch records at sees e) =
    let up = done_up (driver_of w h.0) saw (subst (λ (x : Outcome). refuses x.moves.answer ≡ true) e a) in
    let c = claims_at w.machine h act saw up.other up.saw_busy sees in
    claim_open (driver_of w h.0) c.0 (at ∙ ap next_act c.1)

pub refused_open : (w : WorldState) (e : Event) (h : HartNo) → IsPhase (driver_of w h.0) (driver_of w h.0).phase → Refuses w e h → IsOpen (driver_of w h.0)
refused_open w e h phase r = made_open w h (outcome w e) phase r.answer (made w e h r.by r.may)

-- so it may be at each earlier moment
pub open_along : (sc : Scenario) (w : WorldState) (es : List Event) (f : Event) (h : HartNo) → IsWorldOf sc w → AreThere sc es → h.0 < length sc.harts → (driver_of (after w es) h.0).op ≡ (driver_of w h.0).op → Refuses (after w es) f h → IsOpen (driver_of w h.0)
unfolding after
open_along sc w [] f h is there lt same r = refused_open w f h (phase_of sc w h.0 is lt) r
open_along sc w (e ∷ es) f h is there lt same r =
    let e_there = All-head (IsThere (length sc.harts) sc.block_size sc.ram) e es there in
    let es_there = All-tail (IsThere (length sc.harts) sc.block_size sc.ram) e es there in
    let now = worlds_stay sc w e is e_there in
    let b = behind sc w e h is e_there (drivers_long sc w h.0 is lt) in
    let one = grows w (next w e) h b in
    let more = grows_along sc (next w e) es h now es_there lt in
    let here : (driver_of (next w e) h.0).op ≡ (driver_of w h.0).op = omega (arith, one, more, same) in
    open_back w (next w e) h b (phase_of sc w h.0 is lt) here (open_along sc (next w e) es f h now es_there lt (same ∙ sym here) r)

-- ---- what one event leaves

-- the world behind a call that moves nothing
record Behaves (w v : WorldState) (machine : MachineState) (now : List (Option HartNo)) : Type 0 where
  machine_is : v.machine ≡ machine
  owners : v.owners ≡ w.owners
  grants : v.grants ≡ w.grants
  slots : v.slots ≡ now
  pages : v.pages ≡ w.pages

touched_behaves : (w v : WorldState) (machine : MachineState) (now : List (Option HartNo)) (t : Option Touch) → Behaves w v machine now → Behaves w (counted (touched_by v t)) machine now
touched_behaves w v machine now None k = record { machine_is = k.machine_is; owners = k.owners; grants = k.grants; slots = k.slots; pages = k.pages }
touched_behaves w v machine now (Some t) k = record { machine_is = k.machine_is; owners = k.owners; grants = k.grants; slots = k.slots; pages = k.pages }

goes_behaves : (w : WorldState) (h : HartNo) (machine : MachineState) (went : Went) (now : List (Option HartNo)) (touch : Option Touch) (records : List Record) → went.moves ≡ moved [] None
    → Behaves w (counted (after_outcome w (goes w h machine went now touch records))) machine now
goes_behaves w h machine went now touch records none =
    touched_behaves w (with_moves (record (with_driver (with_machine w machine) h.0 went.driver) { slots = now }) went.moves) machine now touch
    (subst (λ (m : Moved). Behaves w (with_moves (record (with_driver (with_machine w machine) h.0 went.driver) { slots = now }) m) machine now) (sym none)
    (record { machine_is = refl; owners = refl; grants = refl; slots = refl; pages = refl }))

left_if : (w v : WorldState) (h : HartNo) → Behaves w v w.machine w.slots → IsLeftButWord w v h
left_if w v h k = record { left = record { machine = k.machine_is; owners = k.owners; grants = k.grants; pages = k.pages }; words = inl k.slots }

words_by : (w v : WorldState) (h : HartNo) (k : ℕ) (got : Bool) (now : List (Option HartNo)) → Words w h k got now → v.slots ≡ now → TakesOneWord w v h
words_by w v h k got now (Free free on e) is = inr (k, free, is ∙ e)
words_by w v h k got now (Missed off e) is = inl (is ∙ e)

-- the machine behind an act, by what comes next
abbrev acted_next : MachineState → HartNo → Next → MachineState
acted_next m h nexts.End = m
acted_next m h nexts.Start = m
acted_next m h (nexts.Search k) = m
acted_next m h (nexts.Op op) = issue_next m h.0 op
acted_next m h (nexts.Claim chan) = claim_next m h chan.0
acted_next m h (nexts.Poll chan) = m
acted_next m h (nexts.Take buf) = take_next m h.0 buf

acted_so : (m : MachineState) (h : HartNo) (a : Act) → acted m h a ≡ acted_next m h (next_act a)
acted_so m h (acts.Op op) = refl
acted_so m h (acts.Claim chan) = refl
acted_so m h (acts.Poll chan) = refl
acted_so m h (acts.Take buf) = refl

abbrev Leaves : WorldState → HartNo → WorldState → Type 0
Leaves w h v = IsLeftButWord w v h ⊎ IsOneStep w v h

step_of : (w v : WorldState) (h : HartNo) (act : Act) (went : Went) → IsNumberDone (driver_of w h.0) (next_act act) went → driver_of v h.0 ≡ went.driver → Behaves w v (acted w.machine h act) w.slots → IsOneStep w v h
step_of w v h act went n d k = record {
  op = n.op;
  n = n.n;
  step = n.step;
  in_hand = n.here;
  by_number = n.by_number;
  before = n.before;
  is = n.is;
  after = ap (λ (x : DriverState). x.phase) d ∙ n.after;
  machine = k.machine_is ∙ acted_so w.machine h act ∙ ap (acted_next w.machine h) n.next_is ∙ sym (acted_so w.machine h n.step.act);
  owners = k.owners;
  grants = k.grants;
  slots = k.slots;
  pages = k.pages;
}

-- the driver behind a call of its hart
pub call_driver : (w : WorldState) (h : HartNo) (machine : MachineState) (went : Went) (now : List (Option HartNo)) (touch : Option Touch) (records : List Record) → h.0 < length w.drivers → driver_of (counted (after_outcome w (goes w h machine went now touch records))) h.0 ≡ went.driver
call_driver w h machine went now touch records lt = driver_now w (goes w h machine went now touch records) h.0 ∙ mine w h.0 went.driver lt

abbrev LeavesIf : WorldState → HartNo → WorldState → Type 0
LeavesIf w h v = (driver_of v h.0).op ≡ (driver_of w h.0).op → IsOpen (driver_of v h.0) → Leaves w h v

start_leaves : (w : WorldState) (h : HartNo) (touch : Option Touch) (records : List Record) → h.0 < length w.drivers → LeavesIf w h (counted (after_outcome w (goes w h w.machine (started (driver_of w h.0) w.owners w.pages) w.slots touch records)))
start_leaves w h touch records lt same can =
    let went = started (driver_of w h.0) w.owners w.pages in
    let d = call_driver w h w.machine went w.slots touch records lt in
    let none = start_quiet (driver_of w h.0) w.owners w.pages (sym (ap (λ (x : DriverState). x.op) d) ∙ same) (subst (λ (x : DriverState). IsOpen x) d can) in
    inl (left_if w (counted (after_outcome w (goes w h w.machine went w.slots touch records))) h (goes_behaves w h w.machine went w.slots touch records none))

hears_leaves : (w : WorldState) (h : HartNo) (k : ℕ) (got : Bool) (now : List (Option HartNo)) (records : List Record) → h.0 < length w.drivers → Words w h k got now → LeavesIf w h (counted (after_outcome w (goes w h w.machine (told (driver_of w h.0) got) now None records)))
hears_leaves w h k got now records lt words same can =
    let went = told (driver_of w h.0) got in
    let v = counted (after_outcome w (goes w h w.machine went now None records)) in
    let d = call_driver w h w.machine went now None records lt in
    let none = told_quiet (driver_of w h.0) got (sym (ap (λ (x : DriverState). x.op) d) ∙ same) (subst (λ (x : DriverState). IsOpen x) d can) in
    let b = goes_behaves w h w.machine went now None records none in
    inl (record { left = record { machine = b.machine_is; owners = b.owners; grants = b.grants; pages = b.pages }; words = words_by w v h k got now words b.slots })

acts_leaves : (w : WorldState) (h : HartNo) (act : Act) (saw : Seen) (touch : Option Touch) (records : List Record) → h.0 < length w.drivers → IsPhase (driver_of w h.0) (driver_of w h.0).phase → next_of (driver_of w h.0) ≡ next_act act
    → LeavesIf w h (counted (after_outcome w (goes w h (acted w.machine h act) (done (driver_of w h.0) saw) w.slots touch records)))
acts_leaves w h act saw touch records lt phase at same can =
    let went = done (driver_of w h.0) saw in
    let v = counted (after_outcome w (goes w h (acted w.machine h act) went w.slots touch records)) in
    let d = call_driver w h (acted w.machine h act) went w.slots touch records lt in
    let n = done_quiet (driver_of w h.0) saw act phase at (sym (ap (λ (x : DriverState). x.op) d) ∙ same) (subst (λ (x : DriverState). IsOpen x) d can) in
    inr (step_of w v h act went n d (goes_behaves w h (acted w.machine h act) went w.slots touch records n.moves))

made_leaves : (w : WorldState) (h : HartNo) (o : Outcome) → h.0 < length w.drivers → IsPhase (driver_of w h.0) (driver_of w h.0).phase → Made w h o → LeavesIf w h (counted (after_outcome w o))
made_leaves w h o lt phase (Starts touch records at e) = subst (λ (x : Outcome). LeavesIf w h (counted (after_outcome w x))) (sym e) (start_leaves w h touch records lt)
made_leaves w h o lt phase (Hears k got now records at words e) = subst (λ (x : Outcome). LeavesIf w h (counted (after_outcome w x))) (sym e) (hears_leaves w h k got now records lt words)
made_leaves w h o lt phase (Acts act saw touch records at sees e) = subst (λ (x : Outcome). LeavesIf w h (counted (after_outcome w x))) (sym e) (acts_leaves w h act saw touch records lt phase at)

event_if : (w : WorldState) (e : Event) (h : HartNo) (t : Bool) → enabled w e ≡ t → h.0 < length w.drivers → IsPhase (driver_of w h.0) (driver_of w h.0).phase → maker e ≡ Some h → LeavesIf w h (next w e)
event_if w e h true may lt phase by = subst (λ (v : WorldState). LeavesIf w h v) (sym (next_is w e may)) (made_leaves w h (outcome w e) lt phase (made w e h by may))
event_if w e h false off lt phase by =
    subst (λ (v : WorldState). LeavesIf w h v) (sym (next_same w e off))
    (λ same can. inl (record { left = record { machine = refl; owners = refl; grants = refl; pages = refl }; words = inl refl }))

-- ---- the law

pub maker_there : (sc : Scenario) (e : Event) (h : HartNo) → maker e ≡ Some h → IsThere (length sc.harts) sc.block_size sc.ram e → h.0 < length sc.harts
maker_there sc (events.Issue g) h e there = let same : g ≡ h = cc in subst (λ (x : HartNo). x.0 < length sc.harts) same there
maker_there sc (events.Try g) h e there = let same : g ≡ h = cc in subst (λ (x : HartNo). x.0 < length sc.harts) same there
maker_there sc (events.Told g got) h e there = let same : g ≡ h = cc in subst (λ (x : HartNo). x.0 < length sc.harts) same there
maker_there sc (events.Drain g i) h e there = absurd (cc)
maker_there sc (events.Fill g b) h e there = absurd (cc)
maker_there sc (events.Evict g b) h e there = absurd (cc)
maker_there sc (events.ChanRead c) h e there = absurd (cc)
maker_there sc (events.ChanWrite c) h e there = absurd (cc)

earlier : (sc : Scenario) (w : WorldState) (between : List Event) (e f : Event) (h : HartNo) → IsWorldOf sc w → AreThere sc (e ∷ between) → maker e ≡ Some h → (driver_of (after (next w e) between) h.0).op ≡ (driver_of w h.0).op → Refuses (after (next w e) between) f h
    → Leaves w h (next w e)
earlier sc w between e f h is there by same r =
    let e_there = All-head (IsThere (length sc.harts) sc.block_size sc.ram) e between there in
    let es_there = All-tail (IsThere (length sc.harts) sc.block_size sc.ram) e between there in
    let lt = maker_there sc e h by e_there in
    let now = worlds_stay sc w e is e_there in
    let one = grows w (next w e) h (behind sc w e h is e_there (drivers_long sc w h.0 is lt)) in
    let more = grows_along sc (next w e) between h now es_there lt in
    let here : (driver_of (next w e) h.0).op ≡ (driver_of w h.0).op = omega (arith, one, more, same) in
    event_if w e h (enabled w e) refl (drivers_long sc w h.0 is lt) (phase_of sc w h.0 is lt) by here (open_along sc (next w e) between f h now es_there lt (same ∙ sym here) r)

pub earlier_events_leave_all : EarlierEventsLeaveAll
earlier_events_leave_all sc before between e f h a is =
    let first = all_left (IsThere (length sc.harts) sc.block_size sc.ram) before (e ∷ between) is.there in
    let rest = all_right (IsThere (length sc.harts) sc.block_size sc.ram) before (e ∷ between) is.there in
    earlier sc (after (start sc) before) between e f h (along sc (start sc) before (worlds_start sc a) first) rest is.by is.same is.refused
