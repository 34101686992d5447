use Rattle.nc_own.proofs.Follows.{follows}
use Rattle.nc_own.proofs.laws.book_is_transfers.Goals as goal

pub returns : goal.returns
returns c = follows
