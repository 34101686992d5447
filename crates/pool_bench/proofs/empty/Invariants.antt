use Rattle.std.proofs.Common.{◌≤◌}
use Rattle.nc_dmapool.specs.Pieces.{HasTaken}
use Rattle.pool_bench.proofs.empty.Given as goal

abbrev pub invariant-loop-piece : goal.invariant-loop-piece
invariant-loop-piece l = HasTaken l.both.pages l.both.pool × (l.taken ≤ l.piece)
