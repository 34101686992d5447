use Rattle.nc_scripts.proofs.FreeLots.{new_lots_are_free}
use Rattle.nc_scripts.proofs.drivers.new_lots_are_free.Goals as goal

pub returns : goal.returns
returns c = new_lots_are_free
