-- A history of threads with the finishing rounds behind it, and the text that is due for it. This project's own.
use Rattle.std.specs.Prelude.{◌≡◌, true, List, [], ◌∷◌, ◌++◌, ℕ, length, codes, decimal}
use Rattle.std.specs.List.{flat_map}
use Rattle.nc_scen.specs.declared.events.Event.{Event}
use Rattle.nc_scen.specs.declared.scenario.Plan.TheVariants as plans
use Rattle.nc_scen.specs.declared.scenario.Scenario.{Scenario}
use Rattle.nc_rules.specs.Lines.{words, token, report}
use Rattle.nc_rules.specs.Schedule.{sched}
use Rattle.nc_turns.specs.Threads.{IsThreaded, AreThrough}

-- the scenario that schedules these events, with finishing rounds behind them
abbrev pub finished : Scenario → List Event → Scenario
finished sc es = record sc { plan = plans.List es; finish = true }

-- the turns of threads that are through, then finishing rounds
pub record IsLiveRun (sc : Scenario) (es : List Event) : Type 0 where
  pub turns : List Event
  pub threaded : IsThreaded sc turns
  pub through : AreThrough sc turns
  pub rounds : es ≡ sched (finished sc turns)

-- ---- what is written

abbrev pub token_line : Event → List ℕ
token_line e = words (token e ∷ [])

-- the number of the events, and a line for each
abbrev pub history_lines : List Event → List ℕ
history_lines es = words (codes "history" ∷ decimal (length es) ∷ []) ++ flat_map token_line es

-- the history, and the report of its run
unfoldable pub live_text : Scenario → List Event → List ℕ
live_text sc es = history_lines es ++ report sc es
