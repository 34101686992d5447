use Rattle.nc_steps.proofs.StepLaws.{steps_stop as law}
use Rattle.nc_steps.proofs.laws.steps_stop.Goals as goal

pub returns : goal.returns
returns c = law
