use Rattle.std.proofs.Common.{arith}
use Rattle.nc_plan.specs.Plans.{cbo}
use Rattle.nc_plan.proofs.PieceLaws.{pushed_block}
use Rattle.nc_plan.proofs.plans.push_cbos.Goals as goal

pub loop-block-preserved : goal.loop-block-preserved
loop-block-preserved c = pushed_block c.loop-block.ops.items _ _ (cbo c.args.op) c.loop-block.block _ (omega arith) c.in_ok-push.ensures c.loop-block.invariant
