use Rattle.std.proofs.Common.{◌≡◌, ℕ, ◌++◌, List}
use Rattle.nc_pool.specs.Answers.{AreMisses}
use Rattle.nc_pool.proofs.pool.Pool.search.Given as goal

abbrev pub invariant-loop-k : goal.invariant-loop-k
invariant-loop-k l =
    (l.seat.pool ≡ l.initial.seat.pool) × (l.seat.number ≡ l.initial.seat.number) × (l.seat.held ≡ l.initial.seat.held)
    × ((ts : List (ℕ × ℕ)) × AreMisses l.k ts × (l.seat.log ≡ l.initial.seat.log ++ ts))
