use Rattle.std.proofs.Common.{◌≡◌}
use Rattle.nc_live.proofs.live.with_pool.Given as goal

abbrev pub invariant-loop-worker : goal.invariant-loop-worker
invariant-loop-worker g l = l.root.pool ≡ g.P.PoolName.pool
