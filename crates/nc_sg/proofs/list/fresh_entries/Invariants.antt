use Rattle.std.proofs.Common.{◌≡◌, ◌++◌, map, drop}
use Rattle.nc_sg.specs.Lists.{fresh}
use Rattle.nc_sg.proofs.list.fresh_entries.Given as goal

abbrev pub invariant-loop-span : goal.invariant-loop-span
invariant-loop-span l = l.entries.items ++ map (fresh l.dir l.block_size l.reach) (drop l.span-index l.spans) ≡ map (fresh l.dir l.block_size l.reach) l.spans
