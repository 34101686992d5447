use Rattle.nc_holds.proofs.events.Holds.{next_holds}
use Rattle.nc_holds.proofs.events.Last.{event_laws}
use Rattle.nc_holds.proofs.owners.Given.{owner_laws}
use Rattle.nc_holds.proofs.laws.events_keep_holding.Goals as goal

pub returns : goal.returns
returns c = next_holds owner_laws event_laws
