use Rattle.std.proofs.Common.{refl}
use Rattle.nc_queue.specs.Ring.{listed}
use Rattle.nc_queue.proofs.Held.{orders-mark, orders_none}
use Rattle.nc_queue.proofs.rules.holds_back.Goals as goal

pub returns-else-in_set : goal.returns-else-in_set
returns-else-in_set c = rw (c.in-Mark.is, orders-mark (listed c.args.earlier) c.in-Mark.pred c.in-Mark.succ c.args.e.now, ← c.in_set.ensures, c.if-in_set.false) refl

pub returns-in_default : goal.returns-in_default
returns-in_default c = orders_none (listed c.args.earlier) c.args.m.now c.args.e.now c.in_default.not-Mark
