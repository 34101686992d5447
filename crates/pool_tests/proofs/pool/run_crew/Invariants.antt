use Rattle.std.proofs.Common.{◌≡◌}
use Rattle.pool_tests.proofs.pool.run_crew.Given as goal

abbrev pub invariant-loop : goal.invariant-loop
invariant-loop g l = l.root.pool ≡ g.P.PoolName.pool

abbrev pub invariant-loop-member : goal.invariant-loop-member
invariant-loop-member g l = l.root.pool ≡ g.P.PoolName.pool
