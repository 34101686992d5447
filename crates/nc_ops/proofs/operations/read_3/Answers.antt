use Rattle.nc_ops.proofs.operations.read_3.Goals as goal

pub returns-in_ok-read_calloc-in-calloc-clause-fits :
    goal.returns-in_ok-read_calloc-in-calloc-clause-fits
returns-in_ok-read_calloc-in-calloc-clause-fits c = c.in_ok-read_calloc-in-calloc.ensures.fits c.args.counts.harts c.args.counts.buffers

pub returns-in_ok-read_regr-in-regr-clause-fits : goal.returns-in_ok-read_regr-in-regr-clause-fits
returns-in_ok-read_regr-in-regr-clause-fits c = c.in_ok-read_regr-in-regr.ensures.fits c.args.counts.harts c.args.counts.buffers
