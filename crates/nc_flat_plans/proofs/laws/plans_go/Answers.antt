use Rattle.nc_flat_plans.proofs.drivers.PlanEvents.{plans_go}
use Rattle.nc_flat_plans.proofs.laws.plans_go.Goals as goal

pub returns : goal.returns
returns c = plans_go
