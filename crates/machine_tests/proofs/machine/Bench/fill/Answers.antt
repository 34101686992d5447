use Rattle.std.proofs.Common.{◌≡◌, ◌<◌, ◌∙◌, ap, sym, subst, length, arith}
use Rattle.nc_rules.specs.Machine.{MachineState}
use Rattle.nc_rules.specs.Calls.{fill_next}
use Rattle.nc_calls.specs.MachineLaws.{SameShape}
use Rattle.nc_rules.specs.Sound.{IsBlockIn, IsMachine}
use Rattle.nc_calls.proofs.SoundSteps.{shape_fill}
use Rattle.machine_tests.proofs.machine.Bench.fill.Goals as goal

pub invariant_of-self : goal.invariant_of-self
invariant_of-self g c =
    let old = c.args.self.now in
    let m = old.machine.machine in
    let h = c.args.h.0 in
    let b = c.args.b.0 in
    let same = c.reserve.ensures.same in
    let is = subst IsMachine same c.queued.ensures.sound in
    let lt : h < length m.harts = omega (arith, old.harts, c.requires.hart) in
    let there : IsBlockIn m.size (length m.cache.ram) b = rw (old.size, old.ram) (omega (arith, c.requires.there)) in
    let next : c.fill.new.self.machine ≡ fill_next m h b = c.fill.ensures.state ∙ ap (λ (t : MachineState). fill_next t h b) same in
    let shape = subst (SameShape m) (sym next) (shape_fill m h b is lt there) in
    record { size = shape.size ∙ old.size; ram = shape.ram ∙ old.ram; harts = shape.harts ∙ old.harts; boxes = shape.boxes ∙ old.boxes }
