use Rattle.std.proofs.Common.{◌≡◌, ◌++◌, ◌+◌, ◌-◌, take, drop, vec_len, vec_capacity}
use Rattle.nc_own.proofs.intervals.remove_from.Given as goal

abbrev pub invariant-loop : goal.invariant-loop
invariant-loop l =
    (l.intervals.items ≡ take l.first l.fn.intervals.items ++ drop l.counter l.fn.intervals.items) × (vec_len l.intervals + (l.counter - l.first) ≡ vec_len l.fn.intervals)
    × (vec_capacity l.intervals ≡ vec_capacity l.fn.intervals)
