use Rattle.std.proofs.Common.{rules, arith}
use Rattle.nc_report.proofs.HexDigits.{more_digits}
use Rattle.nc_report.proofs.put.six.Goals as goal

pub returns-then-n-lt268435456 : goal.returns-then-n-lt268435456
returns-then-n-lt268435456 c =
    rw (more_digits 6 6 c.args.n (omega (arith, c.if-n-lt16777216.false)) (omega (arith, c.if-n-lt268435456.true)) (omega arith) (omega arith)) (search rules)

pub returns : goal.returns
returns c = rw (more_digits 6 7 c.args.n (omega (arith, c.if-n-lt268435456.false)) (omega (arith, c.ranges.n.fits)) (omega arith) (omega arith)) (search rules)
