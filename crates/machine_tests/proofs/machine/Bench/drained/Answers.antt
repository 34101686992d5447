use Rattle.std.proofs.Common.{◌<◌, ◌∙◌, sym, subst, length, arith}
use Rattle.nc_calls.specs.MachineLaws.{SameShape}
use Rattle.nc_calls.proofs.SoundDrain.{shape_drain}
use Rattle.machine_tests.proofs.machine.Bench.drained.Goals as goal

pub invariant_of-self : goal.invariant_of-self
invariant_of-self c =
    let old = c.args.self.now in
    let m = old.machine.machine in
    let lt : c.args.h.0 < length m.harts = omega (arith, old.harts, c.requires.hart) in
    let shape = subst (SameShape m) (sym c.drain.ensures.state) (shape_drain m c.args.h.0 c.args.i c.queued.ensures.sound lt) in
    record { size = shape.size ∙ old.size; ram = shape.ram ∙ old.ram; harts = shape.harts ∙ old.harts; boxes = shape.boxes ∙ old.boxes }
