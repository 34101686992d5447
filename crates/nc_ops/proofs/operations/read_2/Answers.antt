use Rattle.nc_ops.proofs.operations.read_2.Goals as goal

pub returns-in-fence-clause-fits : goal.returns-in-fence-clause-fits
returns-in-fence-clause-fits c = c.read_fence.ensures.fits c.args.counts.harts c.args.counts.buffers

pub returns-in-unmap_sg-clause-fits : goal.returns-in-unmap_sg-clause-fits
returns-in-unmap_sg-clause-fits c = c.read_unmap_sg.ensures.fits c.args.counts.harts c.args.counts.buffers
