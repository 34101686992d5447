-- The world that its parts make, and what the parts are after an event.
use Rattle.std.specs.Prelude.{ℕ, ◌≡◌, ◌++◌, Result, IfOk, OnOk, OnErr}
use Rattle.nc_num.specs.declared.names.HartNo.{HartNo}
use Rattle.nc_num.specs.declared.names.NoMemory.{NoMemory}
use Rattle.nc_scen.specs.declared.events.Event.{Event}
use Rattle.nc_rules.specs.Next.{next, event_records, counted}
use Rattle.nc_rules.specs.Records.{moves_records}
use Rattle.nc_rules.specs.Turns.{Moved}
use Rattle.nc_rules.specs.World.{WorldState, with_moves}
use Rattle.nc_world.specs.declared.parts.Parts.{Parts}
use Rattle.nc_world.specs.declared.world.Stepped.{Stepped}
use Rattle.nc_world.specs.WorldView.{WorldView, answer}
use Rattle.nc_world.specs.State.{WorldInvariant}

abbrev pub state_of : Parts → WorldState
state_of p = record {
  machine = p.machine.machine;
  drivers = p.drivers.items;
  owners = p.book.owners;
  grants = p.book.grants;
  slots = p.slots;
  pages = p.pages;
  events = p.events;
  touches = p.touches;
}

abbrev pub shown : Parts → WorldView
shown p = record { state = state_of p; records = p.log.records }

abbrev pub IsSound : Parts → Type 0
IsSound p = WorldInvariant (state_of p) p.size p.pool

-- an event was made or skipped, or it was not, since memory ran out
pub record IsStepped (p q : Parts) (e : Event) (r : Result Stepped NoMemory) : Type 0 where
  pub answer : IfOk r (λ s. s ≡ answer (state_of p) e)
  pub next : OnOk r (state_of q ≡ next (state_of p) e)
  pub records : OnOk r (q.log.records ≡ p.log.records ++ event_records (state_of p) e)
  pub err : OnErr r (shown q ≡ shown p)
  pub size : q.size ≡ p.size
  pub pool : q.pool ≡ p.pool

-- what hart h's driver moves is moved and recorded, with the answer of operation n, and the event is counted
pub record IsCarried (p q : Parts) (h : HartNo) (n : ℕ) (m : Moved) : Type 0 where
  pub state : state_of q ≡ counted (with_moves (state_of p) m)
  pub records : q.log.records ≡ p.log.records ++ moves_records h n m
  pub size : q.size ≡ p.size
  pub pool : q.pool ≡ p.pool
