use Rattle.nc_pool.proofs.Owned.{each_is_owned}
use Rattle.nc_pool.proofs.view.each_slot_is_owned_once.Goals as goal

pub returns : goal.returns
returns c = each_is_owned
