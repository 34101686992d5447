use Rattle.std.proofs.Common.{◌≡◌, ◌≤◌, take, length}
use Rattle.nc_queue.specs.Ring.{listed}
use Rattle.nc_queue.specs.Rules.{newest}
use Rattle.nc_queue.proofs.rules.newest.Given as goal

abbrev pub invariant-loop-i : goal.invariant-loop-i
invariant-loop-i l = record {
  within : l.i ≤ length (listed l.entries);
  later : newest l.size (take l.i (listed l.entries)) l.x ≡ newest l.size (listed l.entries) l.x;
}

abbrev pub decreases-loop-i : goal.decreases-loop-i
decreases-loop-i l = l.i
