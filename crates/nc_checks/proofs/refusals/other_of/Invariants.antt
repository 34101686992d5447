use Rattle.std.proofs.Common.{take}
use Rattle.nc_checks.specs.Owned.{lent_all, IsOther}
use Rattle.nc_checks.proofs.refusals.other_of.Given as goal

abbrev pub invariant-loop-i : goal.invariant-loop-i
invariant-loop-i l = IsOther l.me (lent_all l.me l.id 0 l.book.owners (take l.i l.lent)) l.range l.found
