use Rattle.nc_gen.specs.Generator.{scenario}
use Rattle.nc_gen.proofs.Accepting.{accepted}
use Rattle.nc_gen.proofs.generator.scenario.Goals as goal

pub returns-clause-accepted : goal.returns-clause-accepted
unfolding scenario
returns-clause-accepted c = rw (c.new.ensures, c.new-3.ensures, c.new-4.ensures, c.in_ok-hart_list.ensures, c.in_ok-buffers.ensures, c.new-2.ensures.items, c.harts_of-harts.ensures.value) (accepted c.args.n c.ranges.n.fits)
