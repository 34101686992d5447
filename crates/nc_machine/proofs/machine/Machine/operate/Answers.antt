use Rattle.std.proofs.Common.{◌≡◌, ◌<◌, ap, sym, subst, length}
use Rattle.nc_rules.specs.Machine.{MachineState}
use Rattle.nc_rules.specs.Sound.{IsBlockIn}
use Rattle.nc_machine.specs.Inside.{machine_of}
use Rattle.nc_machine.specs.State.{MachineView}
use Rattle.nc_machine.proofs.machine.Machine.operate.Goals as goal
use Rattle.nc_cache.specs.Cache.{clean, flush, inval, zero_block}
use Rattle.nc_cache.proofs.Wholes.{whole_clean, whole_flush, whole_inval, whole_zero}
use Rattle.nc_machine.proofs.Keeps.{kept_cache}

pub invariant_of-self : goal.invariant_of-self
invariant_of-self c =
    let m = machine_of c.self.inside in
    let same : c.args.self.now.machine ≡ m = ap (λ (s : MachineView). s.machine) (sym c.self.view_is) in
    let there = subst (λ (t : MachineState). IsBlockIn t.size (length t.cache.ram) c.args.block.0) same c.requires.there in
    let whole = whole_clean m.size (length m.harts) (length m.cache.ram) m.cache c.args.block.0 c.self.invariant.machine.cache there in
    let e = c.clean.ensures in
    kept_cache m c.self.inside.domain c.clean.new.self c.clean.new.ram (λ s. clean s m.cache c.args.block.0) c.self.invariant whole e.state e.size e.harts

pub invariant_of-self-in-Flush : goal.invariant_of-self-in-Flush
invariant_of-self-in-Flush c =
    let m = machine_of c.self.inside in
    let same : c.args.self.now.machine ≡ m = ap (λ (s : MachineView). s.machine) (sym c.self.view_is) in
    let there = subst (λ (t : MachineState). IsBlockIn t.size (length t.cache.ram) c.args.block.0) same c.requires.there in
    let whole = whole_flush m.size (length m.harts) (length m.cache.ram) m.cache c.args.block.0 c.self.invariant.machine.cache there in
    let e = c.flush.ensures in
    kept_cache m c.self.inside.domain c.flush.new.self c.flush.new.ram (λ s. flush s m.cache c.args.block.0) c.self.invariant whole e.state e.size e.harts

pub invariant_of-self-in-Inval : goal.invariant_of-self-in-Inval
invariant_of-self-in-Inval c =
    let m = machine_of c.self.inside in
    let whole = whole_inval m.size (length m.harts) (length m.cache.ram) m.cache c.args.block.0 c.self.invariant.machine.cache in
    let e = c.inval.ensures in
    kept_cache m c.self.inside.domain c.inval.new.self m.cache.ram (λ s. inval m.cache c.args.block.0) c.self.invariant whole (e.state m.cache.ram) e.size e.harts

pub invariant_of-self-in-Zero : goal.invariant_of-self-in-Zero
invariant_of-self-in-Zero c =
    let m = machine_of c.self.inside in
    let same : c.args.self.now.machine ≡ m = ap (λ (s : MachineView). s.machine) (sym c.self.view_is) in
    let lt = subst (λ (t : MachineState). c.args.h.0 < length t.harts) same c.requires.hart in
    let whole = whole_zero m.size (length m.harts) (length m.cache.ram) m.cache c.args.h.0 c.args.block.0 c.self.invariant.machine.cache lt in
    let e = c.zero.ensures in
    kept_cache m c.self.inside.domain c.zero.new.self c.zero.new.ram (λ s. zero_block s m.cache c.args.h.0 c.args.block.0) c.self.invariant whole e.state e.size e.harts
