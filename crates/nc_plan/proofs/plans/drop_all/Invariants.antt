use Rattle.std.proofs.Common.{◌≡◌, ◌++◌, flat_map, drop}
use Rattle.nc_plan.specs.Plans.{dropped}
use Rattle.nc_plan.proofs.plans.drop_all.Given as goal

abbrev pub invariant-loop-part : goal.invariant-loop-part
invariant-loop-part l = l.ops.items ++ flat_map (dropped l.e l.block_size) (drop l.part-index l.parts) ≡ l.fn.ops.items ++ flat_map (dropped l.e l.block_size) l.parts
