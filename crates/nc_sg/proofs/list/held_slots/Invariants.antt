use Rattle.std.proofs.Common.{◌≡◌, ◌++◌, drop}
use Rattle.nc_sg.specs.Lists.{held}
use Rattle.nc_sg.proofs.list.held_slots.Given as goal

abbrev pub invariant-loop-entry : goal.invariant-loop-entry
invariant-loop-entry l = l.slots.items ++ held (drop l.entry-index l.entries) ≡ held l.entries
