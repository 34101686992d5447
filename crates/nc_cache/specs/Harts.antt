-- Sets of four harts, by number.
use Rattle.std.specs.Prelude.{ℕ, ◌+◌, Bool, true, false, List, [], ◌∷◌, slice_set}

-- hart h alone
abbrev pub only : ℕ → List Bool
only h = slice_set (false ∷ false ∷ false ∷ false ∷ []) h true

-- the lowest of these
abbrev pub lowest : List Bool → ℕ
lowest [] = 0
lowest (true ∷ by) = 0
lowest (false ∷ by) = lowest by + 1
