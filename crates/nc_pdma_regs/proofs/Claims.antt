-- Claims, and that only a claimed channel runs.
use Rattle.std.proofs.Common.{◌≡◌, ℕ, ◌-◌, ◌^◌, ◌<◌, ◌==◌, Bool, true, false, refl, ap, ◌∙◌, arith}
use Rattle.std.specs.Prelude.{◌&&◌, ◌||◌, not, if◌then◌else◌, Option, Some, None}
use Rattle.nc_pdma_regs.specs.declared.table.Register.{Register}
use Rattle.nc_pdma_regs.specs.declared.table.Register.TheVariants.{Control, NextConfig, NextBytes, NextDestination, NextSource, ExecConfig, ExecBytes, ExecDestination, ExecSource}
use Rattle.nc_pdma_regs.specs.Control.{ControlBits, bit, number_of}
use Rattle.nc_pdma_regs.specs.declared.config.Transfer.{Transfer}
use Rattle.nc_pdma_regs.specs.Table.{register_at}
use Rattle.nc_pdma_regs.specs.Registers.{Registers}
use Rattle.nc_pdma_regs.specs.Writes.{control_write, is_empty, low, next_written, written_at}
use Rattle.nc_pdma_regs.specs.Moves.{bytes_written, finished, starts_again, written_on}
use Rattle.nc_pdma_regs.specs.Laws.{claimed, IsClaimedWhileItRuns, IsClaimByControl, RunsAreClaimed}
use Rattle.nc_pdma_regs.proofs.Bits.{number_of-lt, claim_is, run_is, done_ie_is, error_ie_is, done_is, error_is}

and_same : (b : Bool) → (b && b) ≡ b
and_same true = refl
and_same false = refl

or_false : (b : Bool) → (b || false) ≡ b
or_false true = refl
or_false false = refl

-- a channel that nobody has claimed does not run
pub idle_is : (run claim : Bool) → (run ≡ true → claim ≡ true) → claim ≡ false → run ≡ false
idle_is true claim h free = absurd (cc (h refl, free))
idle_is false claim h free = refl

claim_write : (r : Registers) (v : ℕ) → r.control.claim ≡ false → r.control.run ≡ false
    → bit v 0 ≡ true → bit v 1 ≡ r.control.run → bit v 14 ≡ r.control.done_ie → bit v 15 ≡ r.control.error_ie → bit v 30 ≡ r.control.done
    → bit v 31 ≡ r.control.error → control_write r v ≡ claimed r
unfolding control_write
claim_write r v free idle h0 h1 h14 h15 h30 h31 =
    rw (h0, h1, h14, h15, h30, h31, idle, free, and_same r.control.done, or_false r.control.done, and_same r.control.error) refl

low_is : (v : ℕ) → v < 2 ^ 32 → low v ≡ v
low_is v lt = omega arith

pub claim_by_control : IsClaimByControl
claim_by_control r h free =
    let c : ControlBits = record r.control { claim = true } in
    let idle = idle_is r.control.run r.control.claim h free in
    ap (control_write r) (low_is (number_of c) (number_of-lt c))
    ∙ claim_write r (number_of c) free idle (claim_is c) (run_is c) (done_ie_is c) (error_ie_is c) (done_is c) (error_is c)

-- a write to Control
run_needs : (run claim b0 b1 empty : Bool) → (run ≡ true → claim ≡ true)
    → (if not run && b1 && claim && (if run then claim else b0) then not empty else run && b1) ≡ true → (if run then claim else b0) ≡ true
run_needs true claim b0 b1 empty h is = h refl
run_needs false claim true b1 empty h is = refl
run_needs false claim false false empty h is = absurd (cc)
run_needs false true false true empty h is = absurd (cc)
run_needs false false false true empty h is = absurd (cc)

control_keeps : (r : Registers) (v : ℕ) → IsClaimedWhileItRuns r → IsClaimedWhileItRuns (control_write r v)
unfolding control_write
control_keeps r v h is = run_needs r.control.run r.control.claim (bit v 0) (bit v 1) (is_empty r.next) h is

next_keeps : (r : Registers) (t : Transfer) (b : Bool) → IsClaimedWhileItRuns r → IsClaimedWhileItRuns (if b then record r { next = t } else r)
next_keeps r t true h = h
next_keeps r t false h = h

write_keeps : (r : Registers) (o : Option Register) (v : ℕ) → IsClaimedWhileItRuns r → IsClaimedWhileItRuns (written_at r o v)
write_keeps r None v h = h
write_keeps r (Some Control) v h = control_keeps r (low v) h
write_keeps r (Some NextConfig) v h = next_keeps r (next_written r.next NextConfig v) r.control.claim h
write_keeps r (Some NextBytes) v h = next_keeps r (next_written r.next NextBytes v) r.control.claim h
write_keeps r (Some NextDestination) v h = next_keeps r (next_written r.next NextDestination v) r.control.claim h
write_keeps r (Some NextSource) v h = next_keeps r (next_written r.next NextSource v) r.control.claim h
write_keeps r (Some ExecConfig) v h = next_keeps r r.next r.control.claim h
write_keeps r (Some ExecBytes) v h = next_keeps r r.next r.control.claim h
write_keeps r (Some ExecDestination) v h = next_keeps r r.next r.control.claim h
write_keeps r (Some ExecSource) v h = next_keeps r r.next r.control.claim h

-- the end of a transfer
again_needs : (again run claim : Bool) → (run ≡ true → claim ≡ true) → (again && run) ≡ true → claim ≡ true
again_needs true run claim h is = h is
again_needs false run claim h is = absurd (cc)

written_keeps : (r : Registers) (n : ℕ) (b : Bool) → IsClaimedWhileItRuns r
    → IsClaimedWhileItRuns (if b then finished (bytes_written r n) else bytes_written r n)
written_keeps r n true h = again_needs (starts_again (bytes_written r n)) r.control.run r.control.claim h
written_keeps r n false h = h

written_on_keeps : (r : Registers) (n : ℕ) → IsClaimedWhileItRuns r → IsClaimedWhileItRuns (written_on r n)
unfolding written_on
written_on_keeps r n h = written_keeps r n (r.exec.bytes - n == 0) h

pub stays_claimed : RunsAreClaimed
stays_claimed = record {
  at_first = λ is. absurd (cc);
  write = λ r off width v h. write_keeps r (register_at off width) v h;
  error = λ r h is. absurd (cc);
  read = λ r n h. h;
  written = λ r n h. written_on_keeps r n h;
}
