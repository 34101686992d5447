use Rattle.nc_scripts.proofs.EveryDriver.{first_drivers}
use Rattle.nc_scripts.proofs.drivers.every_driver_begins.Goals as goal

pub returns : goal.returns
returns c = first_drivers
