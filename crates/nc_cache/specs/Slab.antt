-- The cells of lines.
use Rattle.std.specs.Prelude.{ℕ, ◌≡◌, List, [], ◌∷◌, ◌++◌, length, slice_set}

-- the bytes of each cell, the free cells, the one freed last at the end, and for how many more lines there is room
pub record SlabState : Type 0 where
  pub cells : List (List ℕ)
  pub free : List ℕ
  pub room : ℕ

-- the cell that was freed last is taken for these bytes
pub record Reused (s t : SlabState) (cell : ℕ) (bytes : List ℕ) : Type 0 where
  pub free : s.free ≡ t.free ++ cell ∷ []
  pub cells : t.cells ≡ slice_set s.cells cell bytes

-- no cell was free, and there is one more, with these bytes
pub record Grown (s t : SlabState) (cell : ℕ) (bytes : List ℕ) : Type 0 where
  pub none : s.free ≡ []
  pub free : t.free ≡ []
  pub last : cell ≡ length s.cells
  pub cells : t.cells ≡ s.cells ++ bytes ∷ []
