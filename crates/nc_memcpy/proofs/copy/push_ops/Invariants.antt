use Rattle.std.proofs.Common.{◌≡◌, ◌++◌, drop}
use Rattle.nc_memcpy.specs.Copy.{ops}
use Rattle.nc_memcpy.proofs.copy.push_ops.Given as goal

abbrev pub invariant-loop-op : goal.invariant-loop-op
invariant-loop-op l = l.steps.items ++ ops (drop l.op-index l.plan) ≡ l.fn.steps.items ++ ops l.plan
