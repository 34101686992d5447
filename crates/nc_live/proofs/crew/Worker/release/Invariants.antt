use Rattle.std.proofs.Common.{◌≡◌}
use Rattle.nc_live.specs.Names.{is_held_by}
use Rattle.nc_live.proofs.Held.{Sifted}
use Rattle.nc_live.proofs.crew.Worker.release.Given as goal

abbrev pub invariant-loop-k : goal.invariant-loop-k
invariant-loop-k g l = record { hart : l.self.me ≡ l.initial.self.me; slots : Sifted l.k (λ j. is_held_by l.world.state.slots j l.initial.self.me) l.initial.self.mine.items l.self.mine.items }
