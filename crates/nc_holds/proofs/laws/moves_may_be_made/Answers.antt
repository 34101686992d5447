use Rattle.nc_holds.proofs.events.Holds.{moves_may}
use Rattle.nc_holds.proofs.owners.Given.{owner_laws}
use Rattle.nc_holds.proofs.laws.moves_may_be_made.Goals as goal

pub returns : goal.returns
returns c = moves_may owner_laws
