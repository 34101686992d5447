use Rattle.std.proofs.Common.{◌≡◌, ◌<◌, take, drop}
use Rattle.std.specs.Prelude.{All}
use Rattle.nc_rules.specs.Refusals.{all_some}
use Rattle.nc_checks.proofs.ranges.all_some.Given as goal

abbrev pub invariant-loop-entry : goal.invariant-loop-entry
invariant-loop-entry l = (all_some (drop l.entry-index l.entries) ≡ all_some l.entries) × All (λ e. 0 < e.len) (take l.entry-index l.entries)
