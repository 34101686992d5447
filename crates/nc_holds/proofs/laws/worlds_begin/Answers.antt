use Rattle.nc_holds.proofs.starts.Holds.{start_holds}
use Rattle.nc_holds.proofs.laws.worlds_begin.Goals as goal

pub returns : goal.returns
returns c = start_holds
