use Rattle.std.proofs.Common.{◌≡◌, take, false}
use Rattle.nc_queue.specs.Ring.{listed}
use Rattle.nc_queue.specs.Rules.{held_back}
use Rattle.nc_queue.proofs.rules.held_back.Given as goal

abbrev pub invariant-loop-j : goal.invariant-loop-j
invariant-loop-j l = held_back (take l.j (listed l.before)) l.e ≡ false
