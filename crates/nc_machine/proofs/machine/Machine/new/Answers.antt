use Rattle.std.proofs.Common.{◌≡◌, ap, sym, subst, length, refl, ◌∙◌}
use Rattle.nc_machine.proofs.machine.Machine.new.Goals as goal
use Rattle.std.proofs.lemmas.List.{length-replicate}
use Rattle.nc_rules.specs.Machine.{fresh_hart}
use Rattle.nc_rules.specs.Sound.{IsMachine}
use Rattle.nc_rules.specs.Start.{first_machine}
use Rattle.nc_calls.proofs.SoundStart.{sound_start}

pub returns : goal.returns
unfolding first_machine
returns c =
    let d = c.in_ok-new.ensures in
    rw (c.pool.ensures, c.in_ok-memory.ensures, d.lines, c.in_ok-fresh_harts.ensures, c.in_ok-new_channels.ensures, c.in_ok-new-2.ensures, c.as_slice.ensures, c.as_slice-2.ensures) refl

pub invariant_of-result : goal.invariant_of-result
invariant_of-result c =
    let d = c.in_ok-new.ensures in
    let count = length c.as_slice.result.now in
    let harts : length c.in_ok-fresh_harts.field-0.items ≡ count = ap length c.in_ok-fresh_harts.ensures ∙ length-replicate count (fresh_hart c.args.sc.now.block_size) in
    record {
      machine = subst IsMachine (sym (returns c)) (sound_start c.args.sc.now c.requires);
      size = d.size;
      harts = d.harts ∙ sym harts;
    }
