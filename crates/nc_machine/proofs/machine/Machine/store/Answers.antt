use Rattle.std.proofs.Common.{◌≡◌, ◌<◌, ◌≤◌, ◌+◌, ap, sym, subst, length, ◌∙◌}
use Rattle.nc_rules.specs.Machine.{MachineState}
use Rattle.nc_machine.specs.Inside.{machine_of}
use Rattle.nc_machine.specs.State.{MachineView}
use Rattle.nc_machine.proofs.machine.Machine.store.Goals as goal
use Rattle.nc_num.specs.declared.names.MemType.TheVariants.{Pma}
use Rattle.nc_cache.specs.Cache.{store}
use Rattle.nc_cache.specs.Facts.{Whole}
use Rattle.nc_queue.specs.Entries.{StoreFits}
use Rattle.nc_queue.specs.declared.entry.Entry.TheVariants as entries
use Rattle.nc_rules.specs.Calls.{performed}
use Rattle.nc_calls.proofs.SoundDrain.{whole_performed}
use Rattle.nc_machine.proofs.Keeps.{kept_cache}

pub invariant_of-self : goal.invariant_of-self
unfolding performed
invariant_of-self c =
    let m = machine_of c.self.inside in
    let same : c.args.self.now.machine ≡ m = ap (λ (s : MachineView). s.machine) (sym c.self.view_is) in
    let lt = subst (λ (t : MachineState). c.args.h.0 < length t.harts) same c.requires.hart in
    let fits = subst (λ (t : MachineState). StoreFits t.size c.args.span c.args.bytes.now) same c.requires.fits in
    let there = subst (λ (t : MachineState). c.args.span.at + c.args.span.len ≤ length t.cache.ram) same c.requires.there in
    let whole : Whole m.size (length m.harts) (length m.cache.ram) (store m.size m.cache c.args.h.0 c.args.span.at c.args.bytes.now) = whole_performed m c.args.h.0 (entries.Store c.args.span c.args.bytes.now Pma) c.self.invariant.machine lt fits there in
    let e = c.store.ensures in
    let state = e.state ∙ ap (store c.self.inside.domain.size m.cache c.args.h.0 c.args.span.at) c.as_slice.ensures.value in
    kept_cache m c.self.inside.domain c.store.new.self c.store.new.ram (λ s. store s m.cache c.args.h.0 c.args.span.at c.args.bytes.now) c.self.invariant whole state e.size e.harts
