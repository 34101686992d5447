use Rattle.std.proofs.Common.{◌≡◌, ◌++◌, map, drop}
use Rattle.nc_rules.specs.Turns.{to_end}
use Rattle.nc_moves.proofs.entries.push_end.Given as goal

abbrev pub invariant-loop-entry : goal.invariant-loop-entry
invariant-loop-entry l = l.transfers ++ map (λ e. (e.span, l.owner)) (drop l.entry-index l.entries) ≡ l.fn.transfers ++ to_end l.fn.me l.lot
