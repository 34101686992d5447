use Rattle.nc_flat_scripts.proofs.laws.transfers_go.Goals as goal
use Rattle.nc_flat_scripts.proofs.copies.TransferEvents.{transfers_go}

pub returns : goal.returns
returns c = transfers_go
