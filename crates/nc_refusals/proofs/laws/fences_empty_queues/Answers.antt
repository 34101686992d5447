use Rattle.nc_refusals.proofs.FenceLaws.{fences_empty_queues}
use Rattle.nc_refusals.proofs.laws.fences_empty_queues.Goals as goal

pub returns : goal.returns
returns c = fences_empty_queues
