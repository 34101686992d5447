-- What the text of a report tells of its run.
use Rattle.std.specs.Prelude.{ℕ, ◌≡◌, ◌/◌, List, map, length, Option, Some}
use Rattle.nc_scen.specs.Accepted.{IsAccepted}
use Rattle.nc_scen.specs.declared.events.Event.{Event}
use Rattle.nc_scen.specs.declared.scenario.Scenario.{Scenario}
use Rattle.nc_rules.specs.Flat.{AreThere}
use Rattle.nc_rules.specs.Lines.{report, status}
use Rattle.nc_rules.specs.Schedule.{sched}
use Rattle.nc_sched.specs.Replay.{done_of, scheduled}
use Rattle.nc_replay.specs.Texts.{events_in}

-- what a text tells, read for this scenario's machine
abbrev pub told_in : Scenario → List ℕ → List (Option Event)
told_in sc text = events_in (length sc.harts) (sc.ram / sc.block_size) text

-- the report of any events that name what is there tells exactly those of them that are done, in order, and each can be read
abbrev pub EachReportTells : Type 0
EachReportTells = (sc : Scenario) (es : List Event) → IsAccepted sc → AreThere sc es → told_in sc (report sc es) ≡ map Some (done_of sc es)

-- the report of a scenario's own schedule tells these events, and the scenario that lists them, with no finishing rounds,
-- is accepted and gives the same report and status
pub record GivesAgain (sc : Scenario) (ds : List Event) : Type 0 where
  pub told : told_in sc (report sc (sched sc)) ≡ map Some ds
  pub accepted : IsAccepted (scheduled sc ds)
  pub text : report (scheduled sc ds) (sched (scheduled sc ds)) ≡ report sc (sched sc)
  pub answer : status (scheduled sc ds) (sched (scheduled sc ds)) ≡ status sc (sched sc)

abbrev pub EachReportReplays : Type 0
EachReportReplays = (sc : Scenario) → IsAccepted sc → (ds : List Event) × GivesAgain sc ds
