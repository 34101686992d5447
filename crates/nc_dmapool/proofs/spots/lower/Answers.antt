use Rattle.std.proofs.Common.{◌+◌, arith}
use Rattle.nc_dmapool.proofs.Lowest.{lower_keeps, lower_takes, lower_than, none_yet}
use Rattle.nc_dmapool.proofs.spots.lower.Goals as goal

pub returns-in-Some-best : goal.returns-in-Some-best
returns-in-Some-best c =
    lower_keeps _ _ _ _ _ c.in-Some.number (c.at.result + c.offset.result) _ c.requires.layout c.in-Some.ensures (omega (arith, c.at.ensures, c.offset.ensures.value)) c.in-Some-best.is c.if-spot-at.true

pub returns-in_default-best : goal.returns-in_default-best
returns-in_default-best c =
    lower_takes _ _ _ _ _ _ _ c.requires.layout c.in-Some.ensures (omega (arith, c.at.ensures, c.offset.ensures.value)) (lower_than _ _ _ c.in-Some-best.is c.if-spot-at.false)

pub returns-in_default-best-2 : goal.returns-in_default-best-2
returns-in_default-best-2 c =
    lower_takes _ _ _ _ _ _ _ c.requires.layout c.in-Some.ensures (omega (arith, c.at.ensures, c.offset.ensures.value)) (none_yet _ _ c.in_default-best.is)
