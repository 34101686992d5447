use Rattle.nc_coherent.proofs.Runs.{lowest_is_lowest}
use Rattle.nc_coherent.proofs.pages.lowest_run_is_lowest.Goals as goal

pub returns : goal.returns
returns c = lowest_is_lowest
