use Rattle.std.proofs.Common.{◌≡◌, ◌++◌, drop}
use Rattle.nc_rules.specs.Lots.{each_from}
use Rattle.nc_rules.specs.Turns.{ids}
use Rattle.nc_moves.proofs.entries.push_ids.Given as goal

abbrev pub invariant-loop-i : goal.invariant-loop-i
invariant-loop-i l = l.ended ++ each_from l.me l.lot.id l.i (λ id e. id) (drop l.i l.lot.list.entries) ≡ l.fn.ended ++ ids l.me l.lot
