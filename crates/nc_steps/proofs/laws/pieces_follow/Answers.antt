use Rattle.nc_steps.proofs.PieceLaws.{pieces_follow as law}
use Rattle.nc_steps.proofs.laws.pieces_follow.Goals as goal

pub returns : goal.returns
returns c = law
