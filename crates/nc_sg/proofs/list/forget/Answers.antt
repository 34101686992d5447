use Rattle.std.proofs.Common.{arith}
use Rattle.nc_sg.proofs.ListLaws.{forgets_at}
use Rattle.nc_sg.proofs.list.forget.Goals as goal

pub loop-i-preserved : goal.loop-i-preserved
loop-i-preserved c = forgets_at c.args.entries.now.items c.loop-i.entries.items c.loop-i.i c.index_mut.result.now c.loop-i.invariant (omega (arith, c.loop-i-test.true, c.len-i-end.ensures)) c.index_mut.ensures.value
