-- How a thread goes on, by the history so far. This project's own.
use Rattle.std.specs.Prelude.{ℕ, ◌<◌, ◌&&◌, Bool, not, nat_lt, List, Option, None, if◌then◌else◌}
use Rattle.nc_num.specs.declared.names.HartNo.{HartNo}
use Rattle.nc_scen.specs.declared.events.Event.{Event}
use Rattle.nc_scen.specs.declared.scenario.Scenario.{Scenario}
use Rattle.nc_world.specs.Looks.{is_ended}
use Rattle.nc_turns.specs.declared.threads.Turner.{Turner}
use Rattle.nc_turns.specs.declared.threads.Turner.TheVariants.{Driver}
use Rattle.nc_turns.specs.Threads.{world_of, search_of, made_by, most, is_even}
use Rattle.nc_live.specs.declared.turns.Ahead.{Ahead}
use Rattle.nc_live.specs.declared.turns.Ahead.TheVariants as ahead

-- the run is not at its end, and the thread has made fewer events than its most
abbrev pub goes_on : Scenario → List Event → Turner → Bool
goes_on sc es t = not (is_ended (world_of sc es)) && nat_lt (made_by t es) (most sc)

-- the slot word to which a driver's next event is an answer
abbrev pub aim_of : Scenario → List Event → HartNo → Option ℕ
aim_of sc es h = if is_even (made_by (Driver h) es) then search_of sc es h else None

-- a slot word that is tried next is one of so many
abbrev pub SlotFits : ℕ → Ahead → Type 0
SlotFits slots ahead.Nothing = Unit {0}
SlotFits slots ahead.Event = Unit {0}
SlotFits slots (ahead.Slot k) = k < slots
