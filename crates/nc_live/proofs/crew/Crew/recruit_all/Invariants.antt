use Rattle.std.proofs.Common.{◌≡◌, ℕ, ◌<◌, get_or, vec_len}
use Rattle.nc_live.proofs.crew.Crew.recruit_all.Given as goal

abbrev pub invariant-loop-h : goal.invariant-loop-h
invariant-loop-h g l = record {
  pool : l.root.pool ≡ g.P.PoolName.pool;
  next : l.root.next ≡ l.h;
  all : vec_len l.workers ≡ l.h;
  seated : (k : ℕ) (w : _) → k < l.h → (get_or l.workers.items k w).me.0 ≡ k;
}
