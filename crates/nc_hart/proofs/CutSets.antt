-- A set cut to its bits 1 and 4.
use Rattle.std.specs.Prelude.{bit_and}
use Rattle.std.proofs.Common.{◌≡◌, ℕ, zero, suc, ◌+◌, ◌*◌, ◌/◌, ◌%◌, ◌<◌, refl, sym, ◌∙◌, arith}
use Rattle.std.proofs.lemmas.Nat.{and_mod, and_le_r}
use Rattle.nc_hart.specs.Issue.{cut}

low : (m : ℕ) → m < 8 → bit_and m 5 ≡ m % 2 + m / 4 % 2 * 4
low zero lt = refl
low (suc zero) lt = refl
low (suc (suc zero)) lt = refl
low (suc (suc (suc zero))) lt = refl
low (suc (suc (suc (suc zero)))) lt = refl
low (suc (suc (suc (suc (suc zero))))) lt = refl
low (suc (suc (suc (suc (suc (suc zero)))))) lt = refl
low (suc (suc (suc (suc (suc (suc (suc zero))))))) lt = refl
low (suc (suc (suc (suc (suc (suc (suc (suc m)))))))) lt = absurd (omega arith)

pub and_five : (n : ℕ) → bit_and n 5 ≡ cut n
and_five n =
    let short : bit_and n 5 % 8 ≡ bit_and n 5 = omega (arith, and_le_r n 5) in
    let split : bit_and n 5 % 8 ≡ bit_and (n % 8) 5 = and_mod n 5 3 in
    sym short ∙ split ∙ low (n % 8) (omega arith) ∙ omega arith

pub ruleset cut_rules = (and_five)
