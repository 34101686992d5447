use Rattle.std.proofs.Common.{◌≡◌, refl}
use Rattle.nc_machine.specs.Inside.{machine_of}
use Rattle.nc_machine.proofs.machine.Machine.chan_read.Goals as goal
use Rattle.nc_rules.specs.Calls.{chan_read_next}
use Rattle.nc_calls.proofs.SoundSteps.{sound_chan_read, shape_chan_read}
use Rattle.nc_machine.proofs.Keeps.{kept}

pub invariant_of-self : goal.invariant_of-self
unfolding chan_read_next
invariant_of-self c =
    let a = c.self.inside in
    let m = machine_of a in
    let next : record m { channels = c.read_step.new.channels.items } ≡ chan_read_next m c.args.c.0 = rw c.read_step.ensures.state refl in
    kept m _ (chan_read_next m c.args.c.0) a.domain a.domain c.self.invariant next (sound_chan_read m c.args.c.0 c.self.invariant.machine c.requires) (shape_chan_read m c.args.c.0) refl refl
