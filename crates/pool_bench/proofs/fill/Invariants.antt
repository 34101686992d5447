use Rattle.std.proofs.Common.{◌≤◌}
use Rattle.nc_dmapool.specs.Pieces.{HasTaken}
use Rattle.pool_bench.proofs.fill.Given as goal

abbrev pub invariant-loop : goal.invariant-loop
invariant-loop l = HasTaken l.both.pages l.both.pool × (l.given ≤ l.counter)
