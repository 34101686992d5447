use Rattle.std.proofs.Common.{arith}
use Rattle.nc_rules.specs.Turns.{with_side}
use Rattle.nc_lots.proofs.LotLaws.{changes_at}
use Rattle.nc_lots.proofs.changes.set_side.Goals as goal

pub loop-i-preserved : goal.loop-i-preserved
loop-i-preserved c =
    changes_at (with_side c.args.side c.args.id) c.args.lots.now.items c.loop-i.lots.items c.loop-i.i c.index_mut.result.now c.to_side.new.lot
    c.loop-i.invariant (omega (arith, c.loop-i-test.true, c.len-i-end.ensures)) c.index_mut.ensures.value c.to_side.ensures
