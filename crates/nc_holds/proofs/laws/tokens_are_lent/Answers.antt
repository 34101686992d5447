use Rattle.nc_holds.proofs.tokens.GoesOn as tokens
use Rattle.nc_holds.proofs.laws.tokens_are_lent.Goals as goal

pub returns : goal.returns
returns c = tokens.tokens_are_lent
