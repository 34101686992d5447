use Rattle.nc_plan.proofs.PlanLaws.{in_its_slot}
use Rattle.nc_plan.proofs.parts.device_range_is_in_slot.Goals as goal

pub returns : goal.returns
returns c = in_its_slot
