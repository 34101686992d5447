use Rattle.nc_steps.proofs.StepLaws.{loads_are_pieces as law}
use Rattle.nc_steps.proofs.laws.loads_are_pieces.Goals as goal

pub returns : goal.returns
returns c = law
