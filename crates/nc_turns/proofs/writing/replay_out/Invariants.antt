use Rattle.std.proofs.Common.{◌≤◌, drop}
use Rattle.nc_turns.proofs.Replays.{Replaying}
use Rattle.nc_turns.proofs.writing.replay_out.Given as goal

abbrev pub invariant-loop-e : goal.invariant-loop-e
invariant-loop-e g l =
    let held = g.K.Sink.held in
    let faults = g.K.Sink.faults in
    Replaying (held l.fn.out) (held l.out) l.sc l.w l.history (drop l.e-index l.history) × (faults l.fn.out ≤ faults l.out)
