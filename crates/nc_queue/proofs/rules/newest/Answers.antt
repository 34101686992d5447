use Rattle.std.proofs.Common.{arith}
use Rattle.nc_queue.specs.Ring.{listed}
use Rattle.nc_queue.proofs.Newest.{newest_at, newest_on, newest_end}
use Rattle.nc_queue.proofs.rules.newest.Goals as goal

pub returns-then-gives_byte-clause-value : goal.returns-then-gives_byte-clause-value
returns-then-gives_byte-clause-value c =
    newest_at c.args.size (listed c.args.entries) c.loop-i.i c.get.result.now c.args.x c.gives_byte.result c.loop-i-test.true c.loop-i.invariant.within c.loop-i.invariant.later c.get.ensures c.gives_byte.ensures c.if-gives_byte.true

pub loop-i-preserved : goal.loop-i-preserved
loop-i-preserved c = record {
  within = omega (arith, c.loop-i.invariant.within);
  later = newest_on c.args.size (listed c.args.entries) c.loop-i.i c.get.result.now c.args.x c.gives_byte.result c.loop-i-test.true c.loop-i.invariant.within c.loop-i.invariant.later c.get.ensures c.gives_byte.ensures c.if-gives_byte.false;
}

pub returns-clause-value : goal.returns-clause-value
returns-clause-value c = newest_end c.args.size (listed c.args.entries) c.loop-i.i c.args.x c.loop-i-test.false c.loop-i.invariant.later
