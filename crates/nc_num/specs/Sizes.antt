-- The sizes that a cache block, or a zeroed range, can have.
use Rattle.std.specs.Prelude.{ℕ, ◌≡◌, ◌⊎◌}

-- 32, 64 or 128 bytes (CMO 1.0 leaves the size to the system; these three are this project's own)
pub record IsBlockSize (s : ℕ) : Type 0 where
  pub one_of : (s ≡ 32) ⊎ (s ≡ 64) ⊎ (s ≡ 128)
