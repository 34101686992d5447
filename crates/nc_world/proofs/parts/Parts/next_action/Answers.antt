use Rattle.std.proofs.Common.{sym, subst}
use Rattle.nc_world.specs.Inside.{state_of}
use Rattle.nc_world.specs.Steps.{NextFits}
use Rattle.nc_world.proofs.Fits.{next_fits}
use Rattle.nc_world.proofs.parts.Parts.next_action.Goals as goal

pub returns-clause-there : goal.returns-clause-there
returns-clause-there c =
    let w = state_of c.args.self.now in
    subst (NextFits w.machine c.args.h.0) (sym c.next_of.ensures) (next_fits w c.args.h.0 c.every_driver_stays.ensures c.requires.sound.holds c.requires.hart)
