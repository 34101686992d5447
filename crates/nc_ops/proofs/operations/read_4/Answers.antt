use Rattle.nc_ops.proofs.operations.read_4.Goals as goal

pub returns-in_ok-read_regw-in-regw-clause-fits : goal.returns-in_ok-read_regw-in-regw-clause-fits
returns-in_ok-read_regw-in-regw-clause-fits c = c.in_ok-read_regw-in-regw.ensures.fits c.args.counts.harts c.args.counts.buffers
