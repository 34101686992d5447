-- What Config keeps of a value.
use Rattle.std.proofs.Common.{◌≡◌, ℕ, ◌+◌, ◌*◌, ◌/◌, ◌%◌, ◌^◌, ◌==◌, ap, arith}
use Rattle.nc_pdma_regs.specs.Config.{config_kept, repeat_of}
use Rattle.nc_pdma_regs.specs.Writes.{low}

-- all that is kept is among the low 32 bits
pub kept-low : (v : ℕ) → config_kept (low v) ≡ config_kept v
kept-low v =
    let high : v % 2 ^ 32 / 2 ^ 24 % 2 ^ 8 ≡ v / 2 ^ 24 % 2 ^ 8 = omega arith in
    let few : v % 2 ^ 32 / 2 ^ 2 % 2 ^ 2 ≡ v / 2 ^ 2 % 2 ^ 2 = omega arith in
    λ i. few i * 2 ^ 2 + high i * 2 ^ 24

-- the repeat bit is kept as it is
pub repeat_of-kept : (v : ℕ) → repeat_of (config_kept v) ≡ repeat_of v
repeat_of-kept v =
    let a : ℕ = v / 2 ^ 2 % 2 ^ 2 in
    let b : ℕ = v / 2 ^ 24 % 2 ^ 8 in
    let same : (a * 2 ^ 2 + b * 2 ^ 24) / 2 ^ 2 % 2 ≡ v / 2 ^ 2 % 2 = omega arith in
    ap (λ n. n == 1) same
