use Rattle.std.proofs.Common.{◌≡◌, ◌-◌, ◌++◌, map}
use Rattle.std.specs.List.{range_with_len}
use Rattle.nc_plan.specs.Plans.{cbos, cbo}
use Rattle.nc_plan.proofs.plans.push_cbos.Given as goal

abbrev pub invariant-loop-block : goal.invariant-loop-block
invariant-loop-block l = l.ops.items ++ map (cbo l.op) (range_with_len l.block (l.block-end - l.block)) ≡ l.fn.ops.items ++ cbos l.op l.block_size l.fn.span
