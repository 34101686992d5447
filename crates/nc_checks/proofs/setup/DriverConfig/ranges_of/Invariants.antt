use Rattle.std.proofs.Common.{◌≡◌, ◌++◌, drop}
use Rattle.nc_rules.specs.Refusals.{ranges_of}
use Rattle.nc_checks.specs.Due.{ok_as, AreParts}
use Rattle.nc_checks.proofs.setup.DriverConfig.ranges_of.Given as goal

abbrev pub invariant-loop-entry : goal.invariant-loop-entry
invariant-loop-entry l = (ok_as (ranges_of l.self (drop l.entry-index l.entries)) (λ rs. l.ranges.items ++ rs) ≡ ranges_of l.self l.entries) × AreParts l.self l.entry-index l.ranges.items
