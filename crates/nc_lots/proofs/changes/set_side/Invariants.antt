use Rattle.std.proofs.Common.{◌≡◌, ◌++◌, map, take, drop}
use Rattle.nc_rules.specs.Turns.{with_side}
use Rattle.nc_lots.proofs.changes.set_side.Given as goal

abbrev pub invariant-loop-i : goal.invariant-loop-i
invariant-loop-i l = l.lots.items ≡ map (with_side l.side l.id) (take l.i l.fn.lots.items) ++ drop l.i l.fn.lots.items
