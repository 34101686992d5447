use Rattle.std.proofs.Common.{refl}
use Rattle.nc_queue.specs.Ring.{window}
use Rattle.nc_queue.proofs.Fit.{kept-none}
use Rattle.nc_queue.proofs.queue.Queue.new.Goals as goal

pub invariant_of-result : goal.invariant_of-result
invariant_of-result c = kept-none _ _ refl c.requires

pub returns : goal.returns
unfolding window
returns c = refl
