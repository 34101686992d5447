use Rattle.std.proofs.Common.{take, get_or}
use Rattle.nc_checks.proofs.Others.{owned_on}
use Rattle.nc_checks.specs.Owned.{lent_all}
use Rattle.nc_checks.proofs.refusals.owned_from.Goals as goal

pub loop-i-preserved : goal.loop-i-preserved
loop-i-preserved c =
    owned_on c.args.me c.args.id c.args.book.now.owners c.args.ranges.now c.loop-i.i (record { at = 0; len = 0 }) c.in_ok-told.field-0 _ c.loop-i-test.true
    (c.in_ok-told.ensures c.args.me (lent_all c.args.me c.args.id 0 c.args.book.now.owners (take c.loop-i.i c.args.ranges.now)) (get_or c.args.ranges.now c.loop-i.i (record { at = 0; len = 0 })) c.other_of.ensures)
    c.loop-i.invariant
