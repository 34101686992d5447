use Rattle.std.proofs.Common.{◌≡◌, refl}
use Rattle.nc_machine.specs.Inside.{machine_of}
use Rattle.nc_machine.proofs.machine.Machine.chan_write.Goals as goal
use Rattle.nc_rules.specs.Calls.{chan_write_next}
use Rattle.nc_calls.proofs.SoundSteps.{sound_chan_write, shape_chan_write}
use Rattle.nc_machine.proofs.Keeps.{kept}

pub invariant_of-self : goal.invariant_of-self
unfolding chan_write_next
invariant_of-self c =
    let a = c.self.inside in
    let m = machine_of a in
    let e = c.write_step.ensures in
    let next : record m { cache = record { ram = c.write_step.new.ram; lines = m.cache.lines }; channels = c.write_step.new.channels.items } ≡ chan_write_next m c.args.c.0 = rw (e.state, e.memory) refl in
    kept m _ (chan_write_next m c.args.c.0) a.domain a.domain c.self.invariant next (sound_chan_write m c.args.c.0 c.self.invariant.machine c.requires) (shape_chan_write m c.args.c.0 c.self.invariant.machine c.requires) refl refl
