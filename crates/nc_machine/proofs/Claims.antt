-- Control as a number, and its claim bit.
use Rattle.std.specs.Prelude.{bit_and, bit_or, nat_eq}
use Rattle.std.proofs.Common.{◌≡◌, ℕ, ◌+◌, ◌%◌, false, ◌∙◌, arith}
use Rattle.nc_pdma_regs.specs.Control.{ControlBits, number_of, bit}
use Rattle.nc_pdma_regs.specs.Registers.{Registers}
use Rattle.nc_pdma_regs.specs.Laws.{claim_value}
use Rattle.nc_pdma_regs.proofs.Bits.{number_of-lt, claim_is, contains_pow, or_pow}

-- Control with bit 0 set
pub claim_set : (r : Registers) → r.control.claim ≡ false → bit_or (number_of r.control) 1 ≡ claim_value r
unfolding number_of
claim_set r free =
    let even : number_of r.control % 2 ≡ 0 = rw free (omega arith) in
    let set = or_pow (number_of r.control) 0 in
    let next : claim_value r ≡ number_of r.control + 1 = rw free (omega arith) in
    omega (arith, even, set, next)

claim_test : (n : ℕ) → nat_eq (bit_and n 1) 1 ≡ bit n 0
claim_test n = contains_pow n 0

-- the test of the claim bit
pub claim_bit : (c : ControlBits) → nat_eq (bit_and (number_of c) 1) 1 ≡ c.claim
claim_bit c = claim_test (number_of c) ∙ claim_is c

pub ruleset control_rules = (number_of-lt, claim_bit)
