use Rattle.std.proofs.Common.{◌∙◌, sym, subst}
use Rattle.nc_calls.specs.MachineLaws.{SameShape}
use Rattle.nc_calls.proofs.SoundSteps.{shape_claim}
use Rattle.machine_tests.proofs.machine.Bench.claim.Goals as goal

pub invariant_of-self : goal.invariant_of-self
invariant_of-self c =
    let old = c.args.self.now in
    let m = old.machine.machine in
    let shape = subst (SameShape m) (sym c.claim.ensures.state) (shape_claim m c.args.h 0) in
    record { size = shape.size ∙ old.size; ram = shape.ram ∙ old.ram; harts = shape.harts ∙ old.harts; boxes = shape.boxes ∙ old.boxes }
