use Rattle.nc_steps.proofs.StepLaws.{stores_are_pieces as law}
use Rattle.nc_steps.proofs.laws.stores_are_pieces.Goals as goal

pub returns : goal.returns
returns c = law
