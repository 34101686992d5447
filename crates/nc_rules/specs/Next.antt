-- The state after an event, and what it records. This project's own.
use Rattle.std.specs.Prelude.{if◌then◌else◌, List, [], ◌∷◌, Option, Some, None}
use Rattle.nc_model.specs.declared.touches.Touch.{Touch}
use Rattle.nc_scen.specs.declared.events.Event.{Event}
use Rattle.nc_rules.specs.declared.records.Record.{Record}
use Rattle.nc_rules.specs.declared.records.Record.TheVariants as records
use Rattle.nc_rules.specs.World.{WorldState, with_moves, one_more}
use Rattle.nc_rules.specs.Events.{enabled}
use Rattle.nc_rules.specs.Outcomes.{Outcome, outcome}

-- one more touch, where there is one
abbrev pub touched_by : WorldState → Option Touch → WorldState
touched_by w None = w
touched_by w (Some t) = record w { touches = one_more w.touches }

-- the world after an outcome: what it moves is moved last
abbrev pub after_outcome : WorldState → Outcome → WorldState
after_outcome w o = touched_by (with_moves (record w { machine = o.machine; drivers = o.drivers; slots = o.slots }) o.moves) o.touch

-- what an event does that may happen
unfoldable pub performed : WorldState → Event → WorldState
performed w e = after_outcome w (outcome w e)

-- one more event was done
abbrev pub counted : WorldState → WorldState
counted w = record w { events = one_more w.events }

-- an event that may not happen changes nothing
unfoldable pub next : WorldState → Event → WorldState
next w e = if enabled w e then counted (performed w e) else w

-- and records nothing
unfoldable pub event_records : WorldState → Event → List Record
event_records w e = if enabled w e then records.Event e ∷ (outcome w e).records else []
