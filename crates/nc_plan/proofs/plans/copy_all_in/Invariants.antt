use Rattle.std.proofs.Common.{◌≡◌, ◌++◌, flat_map, drop}
use Rattle.nc_plan.specs.Plans.{copied_in}
use Rattle.nc_plan.proofs.plans.copy_all_in.Given as goal

abbrev pub invariant-loop-part : goal.invariant-loop-part
invariant-loop-part l = l.ops.items ++ flat_map copied_in (drop l.part-index l.parts) ≡ l.fn.ops.items ++ flat_map copied_in l.parts
