use Rattle.std.proofs.Common.{◌≡◌, ◌<◌, ap, sym, subst, length, ◌∙◌}
use Rattle.nc_rules.specs.Machine.{MachineState, queue_of}
use Rattle.nc_machine.specs.Inside.{machine_of}
use Rattle.nc_machine.specs.State.{MachineView}
use Rattle.nc_machine.proofs.machine.Machine.leave.Goals as goal
use Rattle.nc_queue.specs.Rules.{drained}
use Rattle.nc_rules.specs.Calls.{leaving}
use Rattle.nc_machine.proofs.Keeps.{kept_left, left_there}

pub invariant_of-self : goal.invariant_of-self
invariant_of-self c =
    let m = machine_of c.self.inside in
    let same : c.args.self.now.machine ≡ m = ap (λ (s : MachineView). s.machine) (sym c.self.view_is) in
    let lt = subst (λ (t : MachineState). c.args.h.0 < length t.harts) same c.requires.hart in
    let e = c.leave.ensures in
    kept_left m c.self.inside.domain c.args.h.0 c.args.i c.leave.result c.leave.new.harts.items c.self.invariant lt e.none e.some

pub returns-clause-there : goal.returns-clause-there
returns-clause-there c =
    let m = machine_of c.self.inside in
    let same : c.args.self.now.machine ≡ m = ap (λ (s : MachineView). s.machine) (sym c.self.view_is) in
    let lt = subst (λ (t : MachineState). c.args.h.0 < length t.harts) same c.requires.hart in
    let e = c.leave.ensures in
    let size = (c.self.invariant.machine.queues c.args.h.0 lt).size in
    let out : leaving m c.args.h.0 c.args.i ≡ c.leave.result = ap (λ s. drained s (queue_of m c.args.h.0) c.args.i) (sym size) ∙ sym e.entry in
    left_there m c.args.h.0 c.args.i c.leave.result c.leave.new.harts.items c.self.invariant.machine lt out e.some
