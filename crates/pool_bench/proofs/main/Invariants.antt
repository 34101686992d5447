use Rattle.nc_dmapool.specs.Pieces.{HasTaken}
use Rattle.pool_bench.proofs.main.Given as goal

abbrev pub invariant-loop : goal.invariant-loop
invariant-loop l = HasTaken l.both.pages l.both.pool
