use Rattle.std.proofs.Common.{◌*◌, length, ap, arith}
use Rattle.nc_scen.proofs.schedule.read_plan.Goals as goal

pub returns-then-is_some-clause-fits : goal.returns-then-is_some-clause-fits
returns-then-is_some-clause-fits c = λ size. c.read_seeded.ensures.fits c.args.harts size (size * c.args.blocks)

pub returns-clause-fits : goal.returns-clause-fits
returns-clause-fits c = λ size. rw c.new.ensures (omega (arith, c.in_ok-events.ensures.same, ap length c.deref.ensures.value, c.in_ok-items.ensures.most), c.in_ok-events.ensures.there size)
