use Rattle.std.proofs.Common.{◌≡◌, map}
use Rattle.std.specs.List.{range_with_len}
use Rattle.nc_rules.specs.Start.{first_driver}
use Rattle.nc_rules.specs.World.{hart}
use Rattle.nc_world.proofs.setup.drivers_of.Given as goal

abbrev pub invariant-loop-h : goal.invariant-loop-h
invariant-loop-h l = l.drivers.items ≡ map (λ h. first_driver l.sc (hart h)) (range_with_len 0 l.h)
