use Rattle.std.proofs.Common.{◌<◌, ◌∙◌, sym, subst, length, arith}
use Rattle.nc_calls.specs.MachineLaws.{SameShape}
use Rattle.nc_rules.specs.Sound.{IsBlockIn}
use Rattle.nc_calls.proofs.SoundSteps.{shape_evict}
use Rattle.machine_tests.proofs.machine.Bench.evict.Goals as goal

pub invariant_of-self : goal.invariant_of-self
invariant_of-self c =
    let old = c.args.self.now in
    let m = old.machine.machine in
    let lt : c.args.h.0 < length m.harts = omega (arith, old.harts, c.requires.hart) in
    let there : IsBlockIn m.size (length m.cache.ram) c.args.b.0 = rw (old.size, old.ram) (omega (arith, c.requires.there)) in
    let shape = subst (SameShape m) (sym c.evict.ensures.state) (shape_evict m c.args.h.0 c.args.b.0 c.queued.ensures.sound lt there) in
    record { size = shape.size ∙ old.size; ram = shape.ram ∙ old.ram; harts = shape.harts ∙ old.harts; boxes = shape.boxes ∙ old.boxes }
