use Rattle.nc_model.proofs.FlatLaws.{spliced}
use Rattle.nc_model.proofs.laws.piece_is_spliced.Goals as goal

pub returns : goal.returns
returns c = spliced
