use Rattle.std.proofs.Common.{◌≡◌, true, vec_len}
use Rattle.nc_pool.specs.Views.{is_distinct}
use Rattle.nc_live.proofs.crew.Worker.give_all.Given as goal

abbrev pub invariant-loop-k : goal.invariant-loop-k
invariant-loop-k g l = record { named : l.seat.pool ≡ g.P.PoolName.pool; same : l.seat.held ≡ l.mine.items; distinct : is_distinct l.mine.items ≡ true }

abbrev pub decreases-loop-k : goal.decreases-loop-k
decreases-loop-k g l = vec_len l.mine
