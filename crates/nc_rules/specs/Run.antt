-- A run: the state after some events, and the records of them all.
use Rattle.std.specs.Prelude.{List, [], ◌∷◌, ◌++◌}
use Rattle.nc_scen.specs.declared.events.Event.{Event}
use Rattle.nc_rules.specs.declared.records.Record.{Record}
use Rattle.nc_rules.specs.World.{WorldState}
use Rattle.nc_rules.specs.Next.{next, event_records}

unfoldable pub after : WorldState → List Event → WorldState
after w [] = w
after w (e ∷ es) = after (next w e) es

unfoldable pub records : WorldState → List Event → List Record
records w [] = []
records w (e ∷ es) = event_records w e ++ records (next w e) es
