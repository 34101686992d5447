use Rattle.std.proofs.Common.{◌≡◌, ◌<◌, ◌∙◌, ap, sym, subst, length, arith}
use Rattle.nc_rules.specs.Machine.{MachineState}
use Rattle.nc_rules.specs.Calls.{issue_next}
use Rattle.nc_calls.specs.MachineLaws.{SameShape}
use Rattle.nc_rules.specs.Sound.{IsMachine}
use Rattle.nc_calls.proofs.SoundIssue.{shape_issue}
use Rattle.machine_tests.proofs.machine.Bench.issue.Goals as goal

pub invariant_of-self : goal.invariant_of-self
invariant_of-self g c =
    let old = c.args.self.now in
    let m = old.machine.machine in
    let h = c.args.h.0 in
    let op = c.args.op in
    let same = c.reserve.ensures.same in
    let is = subst IsMachine same c.can_issue.ensures.sound in
    let next : c.issue.new.self.machine ≡ issue_next m h op = c.issue.ensures.state ∙ ap (λ (t : MachineState). issue_next t h op) same in
    let lt : h < length m.harts = omega (arith, old.harts, c.requires.hart) in
    let shape = subst (SameShape m) (sym next) (shape_issue m h op is lt c.requires.there) in
    record { size = shape.size ∙ old.size; ram = shape.ram ∙ old.ram; harts = shape.harts ∙ old.harts; boxes = shape.boxes ∙ old.boxes }
