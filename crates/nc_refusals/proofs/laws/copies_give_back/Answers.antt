use Rattle.nc_refusals.proofs.Returned.{copies_give_back}
use Rattle.nc_refusals.proofs.laws.copies_give_back.Goals as goal

pub returns : goal.returns
returns c = copies_give_back
