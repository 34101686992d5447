-- The places of a block of s bytes.
use Rattle.std.proofs.Common.{◌≡◌, ◌≢◌, ◌⊎◌, ℕ, ◌+◌, ◌*◌, ◌/◌, ◌%◌, ◌<◌, ◌≤◌, inl, inr, sym, arith, subst}
use Rattle.nc_num.specs.Sizes.{IsBlockSize}

-- where x lies in its block b
pub record Inside (s b x : ℕ) : Type 0 where
  pub low : s * b ≤ x
  pub high : x < s * b + s
  pub at : s * b + x % s ≡ x
  pub short : x % s < s

pub inside : {s : ℕ} (x b : ℕ) → IsBlockSize s → x / s ≡ b → Inside s b x
inside x b z e = grind arith

pub outside : {s : ℕ} (x b : ℕ) → IsBlockSize s → x / s ≢ b → (x < s * b) ⊎ (s * b + s ≤ x)
outside x b z ne = grind arith

pub block_is : {s : ℕ} (x b : ℕ) → IsBlockSize s → s * b ≤ x → x < s * b + s → x / s ≡ b
block_is x b z le lt = grind arith

-- a place of a range that lies in one block
pub record Within (s at x : ℕ) : Type 0 where
  pub block : x / s ≡ at / s
  pub offset : x % s + at ≡ at % s + x

pub within_block : {s : ℕ} (at n x : ℕ) → IsBlockSize s → at % s + n ≤ s → at ≤ x → x < at + n → Within s at x
within_block at n x z fits le lt = grind arith

-- memory of whole blocks has the whole block of each of its places
pub whole_block : {s : ℕ} (n x : ℕ) → IsBlockSize s → n % s ≡ 0 → x < n → s * (x / s) + s ≤ n
whole_block n x z w lt = grind arith

pub start_of_block : {s : ℕ} (b : ℕ) → IsBlockSize s → (s * b / s ≡ b) × (s * b % s ≡ 0)
start_of_block b z = grind arith

pub aligned : {s : ℕ} (a : ℕ) → IsBlockSize s → a % s ≡ 0 → s * (a / s) ≡ a
aligned a z w = grind arith

pub blocks_apart : {s : ℕ} (a b : ℕ) → IsBlockSize s → a < b → s * a + s ≤ s * b
blocks_apart a b z lt = grind arith

pub block_of-le : {s : ℕ} (x y : ℕ) → IsBlockSize s → x ≤ y → x / s ≤ y / s
block_of-le x y z le = grind arith

pub piece_in_block : {s : ℕ} (at n : ℕ) → IsBlockSize s → (n ≡ 8) ⊎ (n ≡ 4) ⊎ (n ≡ 2) ⊎ (n ≡ 1) → at % n ≡ 0 → at % s + n ≤ s
piece_in_block at n z is e = grind arith

pub page_whole : {s : ℕ} (a : ℕ) → IsBlockSize s → (a % 4096 ≡ 0) ⊎ (a % 2048 ≡ 0) → a % s ≡ 0
page_whole a z e = grind arith

-- a larger size is whole blocks, and block i of a zeroed range
pub zeroed : {s z : ℕ} → IsBlockSize s → IsBlockSize z → s ≤ z → s * (z / s) ≡ z
zeroed size zone le = grind arith

-- what holds at 32, 64 and 128, where grind has no way in
pub each_size : (P : ℕ → Type 0) (s : ℕ) → IsBlockSize s → P 32 → P 64 → P 128 → P s
each_size P s size a b c = elim size.one_of [ inl e ↦ subst P (sym e) a | inr more ↦ elim more [ inl e ↦ subst P (sym e) b | inr e ↦ subst P (sym e) c ] ]
