use Rattle.nc_top.proofs.Counted.{Counts}
use Rattle.nc_top.proofs.generated.run_counted.Given as goal

abbrev pub invariant-running : goal.invariant-running
invariant-running l = Counts l.sc l.w l.sched l.last l.tally

abbrev pub decreases-running : goal.decreases-running
decreases-running l = l.sched.left
