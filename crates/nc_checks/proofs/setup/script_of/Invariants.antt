use Rattle.std.proofs.Common.{◌≡◌, take}
use Rattle.nc_checks.proofs.setup.script_of.Given as goal

abbrev pub invariant-loop-op : goal.invariant-loop-op
invariant-loop-op l = l.ops.items ≡ take l.op-index l.script
