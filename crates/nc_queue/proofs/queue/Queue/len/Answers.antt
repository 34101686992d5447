use Rattle.std.proofs.Common.{sym}
use Rattle.nc_queue.proofs.Fit.{kept-length}
use Rattle.nc_queue.proofs.queue.Queue.len.Goals as goal

pub returns-clause-value : goal.returns-clause-value
returns-clause-value c = rw (← c.self.view_is) (sym (kept-length _ _ _ _ c.self.invariant))
