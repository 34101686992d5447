-- A refusing event leaves all as it was, but that slots are given back.
use Rattle.std.proofs.Common.{◌≡◌, ℕ, Bool, true, false, List, refl, sym, ◌∙◌, subst, Option, Some, None}
use Rattle.std.specs.Prelude.{slice_set}
use Rattle.std.proofs.lemmas.Bool.{false≢true}
use Rattle.nc_num.specs.declared.names.HartNo.{HartNo}
use Rattle.nc_model.specs.declared.touches.Touch.{Touch}
use Rattle.nc_rules.specs.declared.records.Record.{Record}
use Rattle.nc_rules.specs.declared.steps.Act.{Act}
use Rattle.nc_rules.specs.declared.steps.Seen.{Seen}
use Rattle.nc_rules.specs.declared.steps.Seen.TheVariants as seen
use Rattle.nc_rules.specs.Machine.{MachineState}
use Rattle.nc_rules.specs.Driver.{Went, give_up, started, told, done}
use Rattle.nc_rules.specs.Next.{touched_by, after_outcome, counted}
use Rattle.nc_rules.specs.Outcomes.{Outcome, goes, outcome}
use Rattle.nc_rules.specs.World.{WorldState, driver_of, with_driver, with_machine, with_moves}
use Rattle.nc_holds.proofs.events.Holds.{next_is}
use Rattle.nc_refusals.specs.Refused.{refuses, acted}
use Rattle.nc_refusals.specs.Laws.{LeavesAll, RefusalsLeaveAll}
use Rattle.nc_refusals.proofs.Calls.{GivesUp, start_up, told_up, done_up}
use Rattle.nc_refusals.proofs.Outcomes.{Words, Free, Missed, SeesSo, Made, Starts, Hears, Acts, made}

leaves_touched : (w v : WorldState) (t : Option Touch) (h : HartNo) → LeavesAll w v h → LeavesAll w (counted (touched_by v t)) h
leaves_touched w v None h k = record { left = record { machine = k.left.machine; owners = k.left.owners; grants = k.left.grants; pages = k.left.pages }; slots = k.slots; drivers = k.drivers }
leaves_touched w v (Some t) h k = record { left = record { machine = k.left.machine; owners = k.left.owners; grants = k.left.grants; pages = k.left.pages }; slots = k.slots; drivers = k.drivers }

-- the call gives up, the machine and the slot words are as before
leaves_by : (w : WorldState) (h : HartNo) (machine : MachineState) (went : Went) (now : List (Option HartNo)) (touch : Option Touch) (records : List Record) → GivesUp (driver_of w h.0) went → machine ≡ w.machine → now ≡ w.slots
    → LeavesAll w (counted (after_outcome w (goes w h machine went now touch records))) h
leaves_by w h machine went now touch records up m s =
    leaves_touched w (with_moves (record (with_driver (with_machine w machine) h.0 went.driver) { slots = now }) went.moves) touch h
    (subst (λ (x : Went). LeavesAll w (with_moves (record w { machine = machine; drivers = slice_set w.drivers h.0 x.driver; slots = now }) x.moves) h) (sym up.is)
    (subst (λ (ws : List (Option HartNo)). LeavesAll w (with_moves (record w { machine = machine; drivers = slice_set w.drivers h.0 (give_up (driver_of w h.0) up.op up.why).driver; slots = ws }) (give_up (driver_of w h.0) up.op up.why).moves) h) (sym s)
    (record { left = record { machine = m; owners = refl; grants = refl; pages = refl }; slots = refl; drivers = refl })))

made_answer : (w : WorldState) (h : HartNo) (o : Outcome) (machine : MachineState) (went : Went) (now : List (Option HartNo)) (touch : Option Touch) (records : List Record) → o ≡ goes w h machine went now touch records → refuses o.moves.answer ≡ true → refuses went.moves.answer ≡ true
made_answer w h o machine went now touch records e a = subst (λ (x : Outcome). refuses x.moves.answer ≡ true) e a

left_busy : (m : MachineState) (h : HartNo) (act : Act) (saw : Seen) (g : HartNo) → saw ≡ seen.Busy g → SeesSo m h act saw → acted m h act ≡ m
left_busy m h act saw g e sees = (subst (λ (s : Seen). SeesSo m h act s) e sees).1

missed_words : (w : WorldState) (h : HartNo) (k : ℕ) (got : Bool) (now : List (Option HartNo)) → got ≡ false → Words w h k got now → now ≡ w.slots
missed_words w h k got now off (Free free on e) = absurd (false≢true (sym off ∙ on))
missed_words w h k got now off (Missed missed e) = e

made_leaves : (w : WorldState) (h : HartNo) (o : Outcome) → refuses o.moves.answer ≡ true → Made w h o → LeavesAll w (counted (after_outcome w o)) h
made_leaves w h o a (Starts touch records at e) =
    let went = started (driver_of w h.0) w.owners w.pages in
    subst (λ (x : Outcome). LeavesAll w (counted (after_outcome w x)) h) (sym e)
    (leaves_by w h w.machine went w.slots touch records (start_up (driver_of w h.0) w.owners w.pages (made_answer w h o w.machine went w.slots touch records e a)) refl refl)
made_leaves w h o a (Hears k got now records at words e) =
    let went = told (driver_of w h.0) got in
    let up = told_up (driver_of w h.0) got (made_answer w h o w.machine went now None records e a) in
    subst (λ (x : Outcome). LeavesAll w (counted (after_outcome w x)) h) (sym e)
    (leaves_by w h w.machine went now None records up.up refl (missed_words w h k got now up.missed words))
made_leaves w h o a (Acts act saw touch records at sees e) =
    let went = done (driver_of w h.0) saw in
    let up = done_up (driver_of w h.0) saw (made_answer w h o (acted w.machine h act) went w.slots touch records e a) in
    subst (λ (x : Outcome). LeavesAll w (counted (after_outcome w x)) h) (sym e)
    (leaves_by w h (acted w.machine h act) went w.slots touch records up.up (left_busy w.machine h act saw up.other up.saw_busy sees) refl)

pub refusals_leave_all : RefusalsLeaveAll
refusals_leave_all w e h r = subst (λ (v : WorldState). LeavesAll w v h) (sym (next_is w e r.may)) (made_leaves w h (outcome w e) r.answer (made w e h r.by r.may))
