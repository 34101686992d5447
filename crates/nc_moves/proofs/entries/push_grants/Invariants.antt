use Rattle.std.proofs.Common.{◌≡◌, ◌++◌, drop}
use Rattle.nc_rules.specs.Lots.{each_from, each_entry, grant_of}
use Rattle.nc_moves.proofs.entries.push_grants.Given as goal

abbrev pub invariant-loop-i : goal.invariant-loop-i
invariant-loop-i l = l.grants ++ each_from l.me l.lot.id l.i (grant_of l.slots_at l.lot) (drop l.i l.entries) ≡ l.fn.grants ++ each_entry l.me l.lot (grant_of l.slots_at l.lot)
