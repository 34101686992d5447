-- A write to Control of its own value with bit 0 set is the claim.
use Rattle.std.proofs.Common.{◌≡◌, ℕ, Bool, true, false, List, [], refl, sym}
use Rattle.std.specs.Prelude.{if◌then◌else◌}
use Rattle.nc_pdma_regs.specs.Writes.{empties_fifo, low}
use Rattle.nc_pdma_regs.specs.Laws.{claim_value}
use Rattle.nc_pdma_regs.proofs.Claims.{idle_is, claim_by_control as regs_claim}
use Rattle.nc_pdma.specs.Laws.{ClaimByControl}

empty_anyway : (e : Bool) (fifo : List ℕ) → fifo ≡ [] → (if e then [] else fifo) ≡ fifo
empty_anyway true fifo none = sym none
empty_anyway false fifo none = refl

pub claim_by_control : ClaimByControl
claim_by_control c h free =
    let regs = regs_claim c.regs h.claimed free in
    let none : c.fifo ≡ [] = h.idle (idle_is c.regs.control.run c.regs.control.claim h.claimed free) in
    let fifo = empty_anyway (empties_fifo c.regs.control (low (claim_value c.regs))) c.fifo none in
    λ i. record { regs = regs i; fifo = fifo i }
