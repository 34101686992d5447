use Rattle.std.proofs.Common.{◌≡◌, take, drop}
use Rattle.nc_rules.specs.Refusals.{owned_from}
use Rattle.nc_checks.specs.Owned.{lent_all}
use Rattle.nc_checks.proofs.refusals.owned_from.Given as goal

abbrev pub invariant-loop-i : goal.invariant-loop-i
invariant-loop-i l =
    owned_from l.me l.id l.i (lent_all l.me l.id 0 l.book.owners (take l.i l.ranges)) (drop l.i l.ranges) ≡ owned_from l.me l.id 0 l.book.owners l.ranges
