use Rattle.std.proofs.Common.{◌∙◌, sym, subst}
use Rattle.nc_calls.specs.MachineLaws.{SameShape}
use Rattle.nc_calls.proofs.SoundSteps.{shape_take}
use Rattle.machine_tests.proofs.machine.Bench.take.Goals as goal

pub invariant_of-self : goal.invariant_of-self
invariant_of-self c =
    let old = c.args.self.now in
    let m = old.machine.machine in
    let shape = subst (SameShape m) (sym c.take.ensures.state) (shape_take m c.args.h.0 0) in
    record { size = shape.size ∙ old.size; ram = shape.ram ∙ old.ram; harts = shape.harts ∙ old.harts; boxes = shape.boxes ∙ old.boxes }
