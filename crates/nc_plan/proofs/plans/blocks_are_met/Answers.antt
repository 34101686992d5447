use Rattle.nc_plan.proofs.PlanLaws.{blocks_are_met as law}
use Rattle.nc_plan.proofs.plans.blocks_are_met.Goals as goal

pub returns : goal.returns
returns c = law
