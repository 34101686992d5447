use Rattle.nc_queue.proofs.Rings.{take_both}
use Rattle.nc_queue.proofs.ring.Entries.first.Goals as goal

pub returns : goal.returns
returns c = rw c.min-split.ensures (take_both _ _ _)
