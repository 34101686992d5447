use Rattle.nc_plan.proofs.PlanLaws.{plans_are_fenced as law}
use Rattle.nc_plan.proofs.plans.plans_are_fenced.Goals as goal

pub returns : goal.returns
returns c = law
