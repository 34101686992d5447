-- The sizes of a world at its start.
use Rattle.std.proofs.Common.{◌≡◌, length, refl}
use Rattle.std.proofs.lemmas.List.{length-replicate}
use Rattle.nc_scen.specs.declared.scenario.Scenario.{Scenario}
use Rattle.nc_scen.specs.Accepted.{IsAccepted}
use Rattle.nc_rules.specs.Machine.{fresh_hart}
use Rattle.nc_rules.specs.Start.{first_machine}
use Rattle.nc_rules.specs.World.{start}
use Rattle.nc_calls.proofs.SoundStart.{length-memory}

pub start_harts : (sc : Scenario) → length (start sc).machine.harts ≡ length sc.harts
unfolding start first_machine
start_harts sc = length-replicate (length sc.harts) (fresh_hart sc.block_size)

pub start_size : (sc : Scenario) → (start sc).machine.size ≡ sc.block_size
unfolding start first_machine
start_size sc = refl

pub start_ram : (sc : Scenario) → IsAccepted sc → length (start sc).machine.cache.ram ≡ sc.ram
unfolding start first_machine
start_ram sc accepted = length-memory sc accepted
