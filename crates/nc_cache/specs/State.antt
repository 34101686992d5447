-- What a domain is seen as.
use Rattle.std.specs.Prelude.{ℕ, ◌≡◌, ◌≤◌, true, Option, refl}
use Rattle.std.specs.Ordering.{nat_cmp}
use Rattle.std.specs.FinMap.{FinMap}
use Rattle.std.specs.FinMap as map
use Rattle.std.specs.Coded.{Coded, code_by, coded×, coded_ℕ}
use Rattle.nc_num.specs.Sizes.{IsBlockSize}
use Rattle.nc_cache.specs.declared.line.Line.{Line}
use Rattle.nc_cache.specs.Cache.{held_by}
use Rattle.nc_cache.specs.Facts.{IsLineOf}

-- the block size, the number of harts, the blocks that some hart holds, and for how many more there is room
pub record DomainState : Type 0 where
  pub size : ℕ
  pub harts : ℕ
  pub lines : FinMap nat_cmp Line
  pub spare : ℕ

-- how a proof tells the states apart
abbrev pub state_code : Coded Line → Coded DomainState
state_code line = code_by (FinMap nat_cmp Line × (ℕ × (ℕ × ℕ))) (coded× (map.code coded_ℕ line) (coded× coded_ℕ (coded× coded_ℕ coded_ℕ))) (λ d. (d.lines, (d.size, (d.harts, d.spare)))) (λ p. record { lines = p.0; size = p.1.0; harts = p.1.1.0; spare = p.1.1.1 }) (λ _. refl)

-- one to four harts, and each line a whole block with a holder among them
pub record IsDomain (d : DomainState) : Type 0 where
  pub block_size : IsBlockSize d.size
  pub some : 1 ≤ d.harts
  pub few : d.harts ≤ 4
  pub lines : (b : ℕ) → IsLineOf d.size d.harts (map.get d.lines b)

-- whoever holds the new line holds the old one
pub record Stays (old new : Option Line) : Type 0 where
  pub holder : (g : ℕ) → held_by new g ≡ true → held_by old g ≡ true
