use Rattle.nc_refusals.proofs.WordLaws.{words_are_given_back}
use Rattle.nc_refusals.proofs.laws.words_are_given_back.Goals as goal

pub returns : goal.returns
returns c = words_are_given_back
