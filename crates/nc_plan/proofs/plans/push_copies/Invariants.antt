use Rattle.std.proofs.Common.{◌≡◌, ◌+◌, ◌≤◌, ◌++◌, flat_map}
use Rattle.nc_num.specs.Places.{pieces}
use Rattle.nc_plan.specs.Plans.{copy_piece, copies}
use Rattle.nc_plan.proofs.plans.push_copies.Given as goal

abbrev pub invariant-loop-left : goal.invariant-loop-left
invariant-loop-left l = record {
  starts : l.from.at ≤ l.left.at;
  ends : l.left.at + l.left.len ≡ l.from.at + l.from.len;
  left : l.ops.items ++ flat_map (copy_piece l.from.at l.to.at) (pieces l.left) ≡ l.fn.ops.items ++ copies l.from l.to;
}

abbrev pub decreases-loop-left : goal.decreases-loop-left
decreases-loop-left l = l.left.len
