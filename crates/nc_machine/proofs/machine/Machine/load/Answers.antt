use Rattle.std.proofs.Common.{◌≡◌, ◌<◌, ap, length, ◌∙◌, arith}
use Rattle.nc_rules.specs.Machine.{MachineState, hart_of}
use Rattle.nc_machine.specs.Inside.{machine_of}
use Rattle.nc_machine.specs.State.{MachineView}
use Rattle.nc_machine.proofs.machine.Machine.load.Goals as goal
use Rattle.nc_rules.specs.Calls.{has_loaded}
use Rattle.nc_calls.proofs.SoundWith.{sound_hart}
use Rattle.nc_machine.proofs.Keeps.{kept_harts}

pub invariant_of-self : goal.invariant_of-self
invariant_of-self c =
    let m = machine_of c.self.inside in
    let h = c.args.h.0 in
    let same : m ≡ c.bring-bus.new.self.machine = ap (λ (s : MachineView). s.machine) c.self.view_is in
    let harts : length m.harts ≡ length c.args.self.now.machine.harts = ap (λ (t : MachineState). length t.harts) (same ∙ c.bring-bus.ensures.state) in
    let lt : h < length m.harts = omega (arith, harts, c.requires.hart) in
    let is = c.self.invariant.machine in
    let s = has_loaded (hart_of m h) c.seen-bytes.result in
    kept_harts m c.self.inside.domain h s c.give.new.harts.items c.self.invariant c.give.ensures (sound_hart m h s is lt (is.queues h lt))
