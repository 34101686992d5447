use Rattle.std.proofs.Common.{◌≡◌, ◌<◌, ap, sym, subst, length, refl}
use Rattle.nc_rules.specs.Machine.{MachineState}
use Rattle.nc_machine.specs.Inside.{machine_of}
use Rattle.nc_machine.specs.State.{MachineView}
use Rattle.nc_machine.proofs.machine.Machine.store_register.Goals as goal
use Rattle.nc_queue.specs.declared.entry.Entry.{Entry}
use Rattle.nc_queue.specs.declared.entry.Entry.TheVariants.{Reg}
use Rattle.nc_rules.specs.Calls.{performed}
use Rattle.nc_calls.proofs.SoundDrain.{sound_performed, shape_performed}
use Rattle.nc_machine.proofs.Keeps.{kept}

pub invariant_of-self : goal.invariant_of-self
unfolding performed
invariant_of-self c =
    let d = c.self.inside.domain in
    let m = machine_of c.self.inside in
    let h = c.args.h.0 in
    let is = c.self.invariant.machine in
    let same : c.args.self.now.machine ≡ m = ap (λ (s : MachineView). s.machine) (sym c.self.view_is) in
    let lt = subst (λ (t : MachineState). h < length t.harts) same c.requires.hart in
    let e : Entry = Reg c.args.chan c.args.off c.args.width c.args.value in
    let next : record m { channels = c.store.new.channels.items; grantees = c.store.new.grantees } ≡ performed m h e = rw (c.store.ensures.channels, c.store.ensures.grantees) refl in
    kept m _ (performed m h e) d d c.self.invariant next (sound_performed m h e is lt tt c.requires.there) (shape_performed m h e is lt tt c.requires.there) refl refl
