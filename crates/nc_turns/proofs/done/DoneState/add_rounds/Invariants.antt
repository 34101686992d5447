use Rattle.std.proofs.Common.{◌≡◌}
use Rattle.nc_turns.proofs.Rounds.{Adding}
use Rattle.nc_turns.proofs.done.DoneState.add_rounds.Given as goal

abbrev pub invariant-adding : goal.invariant-adding
invariant-adding g l = Adding g.N.SceneName.scene l.fn.self.events l.self.events l.rounds l.last × (l.self.turns ≡ l.fn.self.turns)

abbrev pub decreases-adding : goal.decreases-adding
decreases-adding g l = l.rounds.left
