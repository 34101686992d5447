use Rattle.std.proofs.Common.{rules, arith}
use Rattle.nc_report.proofs.HexDigits.{more_digits}
use Rattle.nc_report.proofs.put.three.Goals as goal

pub returns : goal.returns
returns c = rw (more_digits 3 3 c.args.n (omega (arith, c.if-n-lt4096.false)) (omega (arith, c.ranges.n.fits)) (omega arith) (omega arith)) (search rules)
