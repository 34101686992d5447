use Rattle.std.proofs.Common.{◌≡◌, ◌++◌, map, drop}
use Rattle.nc_sg.specs.Lists.{part_of}
use Rattle.nc_sg.proofs.list.parts_of.Given as goal

abbrev pub invariant-loop-entry : goal.invariant-loop-entry
invariant-loop-entry l = l.parts.items ++ map (part_of l.dir l.slots_at) (drop l.entry-index l.entries) ≡ map (part_of l.dir l.slots_at) l.entries
