-- What a world is to contracts.
use Rattle.std.specs.Prelude.{List, if◌then◌else◌}
use Rattle.nc_scen.specs.declared.events.Event.{Event}
use Rattle.nc_rules.specs.declared.records.Record.{Record}
use Rattle.nc_rules.specs.World.{WorldState}
use Rattle.nc_rules.specs.Events.{enabled}
use Rattle.nc_world.specs.declared.world.Stepped.{Stepped}
use Rattle.nc_world.specs.declared.world.Stepped.TheVariants.{Done, Skipped}

-- the state, and the records since they were last taken
pub record WorldView : Type 0 where
  pub state : WorldState
  pub records : List Record

-- an event is answered Done exactly where it may happen
abbrev pub answer : WorldState → Event → Stepped
answer w e = if enabled w e then Done else Skipped
