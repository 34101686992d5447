use Rattle.std.proofs.Common.{◌≡◌, ◌++◌, map, take, drop}
use Rattle.nc_sg.specs.Lists.{forgotten}
use Rattle.nc_sg.proofs.list.forget.Given as goal

abbrev pub invariant-loop-i : goal.invariant-loop-i
invariant-loop-i l = l.entries.items ≡ map forgotten (take l.i l.fn.entries.items) ++ drop l.i l.fn.entries.items
