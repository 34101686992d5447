use Rattle.nc_queue.proofs.Rings.{Moved}
use Rattle.nc_queue.proofs.ring.close_gap.Given as goal

abbrev pub invariant-loop-k : goal.invariant-loop-k
invariant-loop-k l = Moved l.start l.i l.k l.fn.cells l.cells
