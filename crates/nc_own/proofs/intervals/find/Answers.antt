use Rattle.nc_own.proofs.Tilings.{kth_found}
use Rattle.nc_own.proofs.intervals.find.Goals as goal

pub returns : goal.returns
returns c = kth_found _ _ _ _ c.requires.tile c.index_of-number.ensures.inside c.index_of-number.ensures.has
