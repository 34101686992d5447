-- A run made again from the events that it did alone.
use Rattle.std.specs.Prelude.{◌≡◌, false, if◌then◌else◌, List, [], ◌∷◌}
use Rattle.nc_scen.specs.declared.events.Event.{Event}
use Rattle.nc_scen.specs.declared.scenario.Plan.TheVariants as plans
use Rattle.nc_scen.specs.declared.scenario.Scenario.{Scenario}
use Rattle.nc_rules.specs.World.{WorldState, start}
use Rattle.nc_rules.specs.Events.{enabled}
use Rattle.nc_rules.specs.Next.{next}
use Rattle.nc_rules.specs.Schedule.{sched}
use Rattle.nc_rules.specs.Lines.{report, status}

-- the events of a run that are done
unfoldable pub done_events : WorldState → List Event → List Event
done_events w [] = []
done_events w (e ∷ es) = if enabled w e then e ∷ done_events (next w e) es else done_events w es

abbrev pub done_of : Scenario → List Event → List Event
done_of sc es = done_events (start sc) es

-- the scenario with these events as its schedule, and no finishing rounds
abbrev pub scheduled : Scenario → List Event → Scenario
scheduled sc es = record sc { plan = plans.List es; finish = false }

-- the scenario that a report's event lines give again
abbrev pub replayed : Scenario → Scenario
replayed sc = scheduled sc (done_of sc (sched sc))

-- the done events of any run give its report and status, also under a scenario that schedules them; and the scenario
-- with the done events of its own schedule runs to the same report and status
pub record Replays (sc : Scenario) : Type 0 where
  pub text : (es : List Event) → report (scheduled sc (done_of sc es)) (done_of sc es) ≡ report sc es
  pub answer : (es : List Event) → status (scheduled sc (done_of sc es)) (done_of sc es) ≡ status sc es
  pub own_text : report (replayed sc) (sched (replayed sc)) ≡ report sc (sched sc)
  pub own_answer : status (replayed sc) (sched (replayed sc)) ≡ status sc (sched sc)

abbrev pub EachReplays : Type 0
EachReplays = (sc : Scenario) → Replays sc
