use Rattle.nc_flat_scripts.proofs.laws.steps_go.Goals as goal
use Rattle.nc_flat_scripts.proofs.accesses.IssueEvents.{steps_go}

pub returns : goal.returns
returns c = steps_go
