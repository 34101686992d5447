use Rattle.nc_scripts.proofs.EveryDriver.{drivers_stay}
use Rattle.nc_scripts.proofs.drivers.every_driver_stays.Goals as goal

pub returns : goal.returns
returns c = drivers_stay
