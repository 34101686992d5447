use Rattle.std.proofs.Common.{◌≡◌, ◌++◌, drop}
use Rattle.nc_rules.specs.Lots.{each_from, owner_of_side}
use Rattle.nc_rules.specs.Turns.{to_side}
use Rattle.nc_moves.proofs.entries.push_side.Given as goal

abbrev pub invariant-loop-i : goal.invariant-loop-i
invariant-loop-i l = l.transfers ++ each_from l.me l.lot.id l.i (λ id e. (e.span, owner_of_side id l.side)) (drop l.i l.entries) ≡ l.fn.transfers ++ to_side l.me l.side l.lot
