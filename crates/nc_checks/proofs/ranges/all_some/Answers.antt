use Rattle.std.proofs.Common.{arith}
use Rattle.nc_checks.proofs.RangeLaws.{some_on, some_all}
use Rattle.nc_checks.proofs.ranges.all_some.Goals as goal

pub loop-entry-preserved : goal.loop-entry-preserved
loop-entry-preserved c =
    some_on c.args.entries.now c.loop-entry.entry-index (record { buf = 0; off = 0; len = 0 }) c.in_ok-some_bytes.field-0 _ c.loop-entry-test.true c.in_ok-some_bytes.ensures c.loop-entry.invariant

pub returns-clause-some : goal.returns-clause-some
returns-clause-some c = some_all c.args.entries.now c.loop-entry.entry-index (omega (arith, c.loop-entry-test.false)) c.loop-entry.invariant.1
