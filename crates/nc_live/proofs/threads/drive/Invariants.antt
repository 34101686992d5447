use Rattle.std.proofs.Common.{◌≡◌}
use Rattle.nc_live.specs.Turns.{SlotFits}
use Rattle.nc_live.proofs.threads.drive.Given as goal

abbrev pub invariant-loop-turn : goal.invariant-loop-turn
invariant-loop-turn g l = record { slot : SlotFits g.N.SceneName.scene.slots l.ahead; hart : l.worker.me ≡ l.initial.worker.me }
