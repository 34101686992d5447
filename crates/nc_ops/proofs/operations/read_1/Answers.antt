use Rattle.nc_ops.proofs.operations.read_1.Goals as goal

pub returns-in_default-clause-fits : goal.returns-in_default-clause-fits
returns-in_default-clause-fits c = c.read_on_label.ensures.fits c.args.counts.harts c.args.counts.buffers
