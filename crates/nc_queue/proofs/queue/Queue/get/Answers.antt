use Rattle.std.proofs.Common.{sym}
use Rattle.nc_queue.proofs.Fit.{kept-get, kept-fits, kept-past}
use Rattle.nc_queue.proofs.queue.Queue.get.Goals as goal

pub returns-then-i-self-clause-entry : goal.returns-then-i-self-clause-entry
returns-then-i-self-clause-entry c = rw (← c.self.view_is) (sym (kept-get _ _ _ _ _ _ _ c.self.invariant c.if-i-self.true c.place.ensures.place))

pub returns-then-i-self-clause-fits : goal.returns-then-i-self-clause-fits
returns-then-i-self-clause-fits c = rw (← c.self.view_is) (kept-fits _ _ _ _ _ _ _ c.self.invariant c.if-i-self.true c.place.ensures.place)

pub returns-else-i-self-clause-entry : goal.returns-else-i-self-clause-entry
returns-else-i-self-clause-entry c = rw (← c.self.view_is) (kept-past _ _ _ _ _ c.self.invariant c.if-i-self.false)
