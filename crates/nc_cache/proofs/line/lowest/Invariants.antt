use Rattle.std.proofs.Common.{◌≡◌, ◌+◌, drop}
use Rattle.nc_cache.specs.Harts.{lowest as lowest_of}
use Rattle.nc_cache.proofs.line.lowest.Given as goal

abbrev pub invariant-loop-g : goal.invariant-loop-g
invariant-loop-g l = lowest_of l.by ≡ l.g + lowest_of (drop l.g l.by)
