use Rattle.std.proofs.Common.{◌≤◌}
use Rattle.nc_top.proofs.SoFar.{Goes}
use Rattle.nc_top.proofs.run.run_out.Given as goal

abbrev pub invariant-running : goal.invariant-running
invariant-running g l =
    let held = g.K.Sink.held in
    let faults = g.K.Sink.faults in
    Goes (held l.fn.out) (held l.out) l.sc l.w l.sched l.last × (faults l.fn.out ≤ faults l.out)

abbrev pub decreases-running : goal.decreases-running
decreases-running g l = l.sched.left
