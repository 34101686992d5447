use Rattle.nc_steps.proofs.StepLaws.{tables_serve as law}
use Rattle.nc_steps.proofs.laws.tables_serve.Goals as goal

pub returns : goal.returns
returns c = law
