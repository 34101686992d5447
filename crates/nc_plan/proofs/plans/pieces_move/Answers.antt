use Rattle.nc_plan.proofs.PlanLaws.{pieces_move as law}
use Rattle.nc_plan.proofs.plans.pieces_move.Goals as goal

pub returns : goal.returns
returns c = law
