use Rattle.std.proofs.Common.{◌≡◌, drop}
use Rattle.nc_moves.specs.MovesView.{moves_view}
use Rattle.nc_moves.specs.Turned.{joined, of_lots}
use Rattle.nc_moves.proofs.moves.push_lots.Given as goal

abbrev pub invariant-loop-lot : goal.invariant-loop-lot
invariant-loop-lot l = joined (moves_view l.moves) (of_lots l.me l.slots_at l.first l.turn (drop l.lot-index l.lots)) ≡ joined (moves_view l.fn.moves) (of_lots l.me l.slots_at l.first l.turn l.lots)
