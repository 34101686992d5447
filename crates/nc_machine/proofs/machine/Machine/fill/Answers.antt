use Rattle.std.proofs.Common.{◌≡◌, ◌<◌, ap, sym, subst, length}
use Rattle.nc_rules.specs.Machine.{MachineState}
use Rattle.nc_rules.specs.Sound.{IsBlockIn}
use Rattle.nc_machine.specs.Inside.{machine_of}
use Rattle.nc_machine.specs.State.{MachineView}
use Rattle.nc_machine.proofs.machine.Machine.fill.Goals as goal
use Rattle.nc_cache.specs.Cache.{load}
use Rattle.nc_cache.proofs.Wholes.{whole_load}
use Rattle.nc_machine.proofs.Keeps.{kept_cache}

pub invariant_of-self : goal.invariant_of-self
invariant_of-self c =
    let a = c.self.inside in
    let m = machine_of a in
    let same : c.args.self.now.machine ≡ m = ap (λ (s : MachineView). s.machine) (sym c.self.view_is) in
    let lt = subst (λ (t : MachineState). c.args.h.0 < length t.harts) same c.requires.hart in
    let there = subst (λ (t : MachineState). IsBlockIn t.size (length t.cache.ram) c.args.b.0) same c.requires.block in
    let whole = whole_load m.size (length m.harts) (length m.cache.ram) m.cache c.args.h.0 c.args.b.0 c.self.invariant.machine.cache lt there in
    let e = c.load.ensures in
    kept_cache m a.domain c.load.new.self c.load.new.ram (λ s. load s m.cache c.args.h.0 c.args.b.0) c.self.invariant whole e.state e.size e.harts
