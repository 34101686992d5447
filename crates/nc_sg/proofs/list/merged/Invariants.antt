use Rattle.std.proofs.Common.{◌≡◌, ◌≤◌, ◌+◌, ◌*◌, ◌++◌, take, drop, length}
use Rattle.nc_sg.specs.Lists.{IsEntry, run_on, segments}
use Rattle.nc_sg.proofs.list.merged.Given as goal

abbrev pub invariant-loop-entry : goal.invariant-loop-entry
invariant-loop-entry l = record {
  few : l.done ≤ l.entry-index;
  whole : length l.cells ≡ 16;
  last : IsEntry l.run.last;
  len : l.run.segment.len ≤ 1048576 * (l.entry-index + 1);
  all : take l.done l.cells ++ run_on l.slots_at l.run.segment l.run.last (drop l.entry-index l.rest) ≡ segments l.slots_at l.entries;
}
