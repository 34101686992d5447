use Rattle.nc_dmapool.specs.Marks.{Finds}
use Rattle.nc_dmapool.proofs.spots.lowest.Given as goal

abbrev pub invariant-loop-i : goal.invariant-loop-i
invariant-loop-i l = Finds l.layout l.used l.pages l.i l.best
