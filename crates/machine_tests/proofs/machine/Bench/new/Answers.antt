use Rattle.std.proofs.Common.{◌∙◌, ap, length}
use Rattle.std.specs.Prelude.{Option, None}
use Rattle.std.proofs.lemmas.List.{length-replicate}
use Rattle.nc_num.specs.declared.names.HartNo.{HartNo}
use Rattle.nc_rules.specs.Machine.{MachineState, fresh_hart}
use Rattle.nc_rules.specs.Start.{first_machine}
use Rattle.nc_calls.proofs.SoundStart.{length-memory}
use Rattle.machine_tests.proofs.machine.Bench.new.Goals as goal

pub invariant_of-result : goal.invariant_of-result
unfolding first_machine
invariant_of-result c =
    let sc = c.in_ok-scenario.field-0 in
    let a = c.in_ok-scenario.ensures in
    let b = c.in_ok-machine.ensures in
    record {
      size = ap (λ (t : MachineState). t.size) b ∙ a.size;
      ram = ap (λ (t : MachineState). length t.cache.ram) b ∙ length-memory sc a.accepted ∙ a.ram;
      harts = ap (λ (t : MachineState). length t.harts) b ∙ length-replicate (length sc.harts) (fresh_hart sc.block_size) ∙ a.harts;
      boxes = ap (λ (t : MachineState). length t.boxes) b ∙ length-replicate {A = Option HartNo} (length sc.buffers) None ∙ a.buffers;
    }
