use Rattle.std.proofs.Common.{◌∙◌, sym, subst}
use Rattle.nc_calls.specs.MachineLaws.{SameShape}
use Rattle.nc_calls.proofs.SoundSteps.{shape_chan_read}
use Rattle.machine_tests.proofs.machine.Bench.chan_read.Goals as goal

pub invariant_of-self : goal.invariant_of-self
invariant_of-self c =
    let old = c.args.self.now in
    let m = old.machine.machine in
    let shape = subst (SameShape m) (sym c.chan_read.ensures.state) (shape_chan_read m 0) in
    record { size = shape.size ∙ old.size; ram = shape.ram ∙ old.ram; harts = shape.harts ∙ old.harts; boxes = shape.boxes ∙ old.boxes }
