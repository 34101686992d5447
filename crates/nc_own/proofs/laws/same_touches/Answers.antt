use Rattle.nc_own.proofs.Alike.{alike}
use Rattle.nc_own.proofs.laws.same_touches.Goals as goal

pub returns : goal.returns
returns c = alike
