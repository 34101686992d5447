-- Claims (this project's own).
use Rattle.std.specs.Prelude.{ℕ, ◌≡◌, true, false}
use Rattle.nc_pdma_regs.specs.Control.{number_of}
use Rattle.nc_pdma_regs.specs.Config.{no_transfer}
use Rattle.nc_pdma_regs.specs.Registers.{Registers, no_registers}
use Rattle.nc_pdma_regs.specs.Writes.{write_of}
use Rattle.nc_pdma_regs.specs.Moves.{failed, bytes_read, written_on}

-- a claim sets the claim bit, clears the Next registers, and changes nothing else
abbrev pub claimed : Registers → Registers
claimed r = record { control = record r.control { claim = true }; next = no_transfer; exec = r.exec }

-- the value that claims: Control's own, with bit 0 set
abbrev pub claim_value : Registers → ℕ
claim_value r = number_of (record r.control { claim = true })

-- only a claimed channel runs
abbrev pub IsClaimedWhileItRuns : Registers → Type 0
IsClaimedWhileItRuns r = r.control.run ≡ true → r.control.claim ≡ true

-- a write of that value to Control, by offset and width, is the claim
abbrev pub IsClaimByControl : Type 0
IsClaimByControl = (r : Registers) → IsClaimedWhileItRuns r → r.control.claim ≡ false → write_of r 0 4 (claim_value r) ≡ claimed r

-- no access and no move ends that
pub record RunsAreClaimed : Type 0 where
  pub at_first : IsClaimedWhileItRuns no_registers
  pub write : (r : Registers) (off width v : ℕ) → IsClaimedWhileItRuns r → IsClaimedWhileItRuns (write_of r off width v)
  pub error : (r : Registers) → IsClaimedWhileItRuns r → IsClaimedWhileItRuns (failed r)
  pub read : (r : Registers) (n : ℕ) → IsClaimedWhileItRuns r → IsClaimedWhileItRuns (bytes_read r n)
  pub written : (r : Registers) (n : ℕ) → IsClaimedWhileItRuns r → IsClaimedWhileItRuns (written_on r n)
