use Rattle.std.proofs.Common.{◌≡◌, ◌+◌, ◌++◌, drop, take, length}
use Rattle.nc_machine.specs.Loads.{overlaid}
use Rattle.nc_machine.proofs.harts.overlaid.Given as goal

abbrev pub invariant-loop-i : goal.invariant-loop-i
invariant-loop-i l = (take l.i l.cells ++ overlaid l.size l.queue.entries (l.at + l.i) (drop l.i l.below) ≡ overlaid l.size l.queue.entries l.at l.below) × (length l.cells ≡ 8)
