use Rattle.std.proofs.Common.{◌≡◌, ◌++◌, drop}
use Rattle.nc_rules.specs.Plans.{op_steps}
use Rattle.nc_planned.proofs.steps.push_ops.Given as goal

abbrev pub invariant-loop-op : goal.invariant-loop-op
invariant-loop-op l = l.steps.items ++ op_steps (drop l.op-index l.ops) ≡ l.fn.steps.items ++ op_steps l.ops
