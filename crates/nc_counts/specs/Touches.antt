-- What the status of a run tells of its touches. This project's own.
use Rattle.std.specs.Prelude.{ℕ, ◌≡◌, ◌≢◌, ◌↔◌, true, List}
use Rattle.std.specs.List.{list_any}
use Rattle.nc_model.specs.Flat.{Untouched}
use Rattle.nc_scen.specs.declared.events.Event.{Event}
use Rattle.nc_scen.specs.declared.scenario.Scenario.{Scenario}
use Rattle.nc_rules.specs.Flat.{run_trace}
use Rattle.nc_rules.specs.Lines.{status}
use Rattle.nc_rules.specs.World.{start}
use Rattle.nc_rules.specs.Run as run
use Rattle.nc_counts.specs.Counts.{is_touch}

-- a status is 1 exactly where a record of the run is a touch, and with each other status the laws of flat memory speak of
-- the whole run
pub record TellsTouches (n : ℕ) (sc : Scenario) (es : List Event) : Type 0 where
  pub line : (n ≡ 1) ↔ (list_any is_touch (run.records (start sc) es) ≡ true)
  pub touched : n ≡ 1 → Untouched (run_trace (start sc) es) → ⊥
  pub untouched : n ≢ 1 → Untouched (run_trace (start sc) es)

abbrev pub EachStatusTells : Type 0
EachStatusTells = (sc : Scenario) (es : List Event) → TellsTouches (status sc es) sc es
