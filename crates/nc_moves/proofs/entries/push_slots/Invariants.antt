use Rattle.std.proofs.Common.{◌≡◌, ◌++◌, drop}
use Rattle.nc_sg.specs.Lists.{held}
use Rattle.nc_rules.specs.Lots.{slots_held}
use Rattle.nc_moves.proofs.entries.push_slots.Given as goal

abbrev pub invariant-loop-entry : goal.invariant-loop-entry
invariant-loop-entry l = l.backs ++ held (drop l.entry-index l.entries) ≡ l.fn.backs ++ slots_held l.lot
