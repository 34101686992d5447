use Rattle.std.proofs.Common.{◌<◌, ◌∙◌, sym, subst, arith}
use Rattle.nc_calls.specs.MachineLaws.{SameShape}
use Rattle.nc_calls.proofs.SoundSteps.{shape_chan_write}
use Rattle.machine_tests.proofs.machine.Bench.chan_write.Goals as goal

pub invariant_of-self : goal.invariant_of-self
invariant_of-self c =
    let old = c.args.self.now in
    let m = old.machine.machine in
    let first : 0 < 4 = omega arith in
    let shape = subst (SameShape m) (sym c.chan_write.ensures.state) (shape_chan_write m 0 c.control.ensures.sound first) in
    record { size = shape.size ∙ old.size; ram = shape.ram ∙ old.ram; harts = shape.harts ∙ old.harts; boxes = shape.boxes ∙ old.boxes }
