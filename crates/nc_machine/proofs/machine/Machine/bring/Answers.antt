use Rattle.std.proofs.Common.{◌≡◌, ◌<◌, ap, sym, subst, length, ◌∙◌}
use Rattle.nc_rules.specs.Machine.{MachineState}
use Rattle.nc_machine.specs.Inside.{machine_of}
use Rattle.nc_machine.specs.State.{MachineView}
use Rattle.nc_machine.proofs.machine.Machine.bring.Goals as goal
use Rattle.nc_num.specs.Places.{block_at}
use Rattle.nc_cache.specs.Cache.{load}
use Rattle.nc_cache.proofs.Wholes.{whole_load}
use Rattle.nc_rules.specs.Sound.{IsPieceIn}
use Rattle.nc_machine.proofs.Keeps.{kept_cache}
use Rattle.nc_calls.proofs.SoundIssue.{piece_block}

pub invariant_of-self : goal.invariant_of-self
invariant_of-self c =
    let m = machine_of c.self.inside in
    let h = c.args.h.0 in
    let b = block_at c.args.span.at m.size in
    let same : c.args.self.now.machine ≡ m = ap (λ (s : MachineView). s.machine) (sym c.self.view_is) in
    let lt = subst (λ (t : MachineState). h < length t.harts) same c.requires.hart in
    let piece = subst (λ (t : MachineState). IsPieceIn (length t.cache.ram) c.args.span) same c.requires.piece in
    let whole = whole_load m.size (length m.harts) (length m.cache.ram) m.cache h b c.self.invariant.machine.cache lt (piece_block m c.args.span c.self.invariant.machine piece) in
    let e = c.load.ensures in
    let state = e.state ∙ ap (load c.self.inside.domain.size m.cache h) c.block_of-block.ensures in
    kept_cache m c.self.inside.domain c.load.new.self c.load.new.ram (λ s. load s m.cache h b) c.self.invariant whole state e.size e.harts
