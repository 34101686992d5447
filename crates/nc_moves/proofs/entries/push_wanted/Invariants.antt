use Rattle.std.proofs.Common.{◌≡◌, ◌++◌, drop}
use Rattle.nc_rules.specs.Turns.{slots_wanted}
use Rattle.nc_moves.proofs.entries.push_wanted.Given as goal

abbrev pub invariant-loop-lot : goal.invariant-loop-lot
invariant-loop-lot l = l.backs ++ slots_wanted (drop l.lot-index l.lots) ≡ l.fn.backs ++ slots_wanted l.lots
