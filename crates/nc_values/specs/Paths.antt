-- Paths into a scenario: keys and positions, joined by points.
use Rattle.std.specs.Prelude.{ℕ, List, [], ◌∷◌, ◌++◌, decimal}

-- the path of a key under a path; the whole has the empty path
abbrev pub under : List ℕ → List ℕ → List ℕ
under [] key = key
under (b ∷ bs) key = (b ∷ bs) ++ 46 ∷ key

-- the path of a position under a path
abbrev pub at_position : List ℕ → ℕ → List ℕ
at_position path i = under path (decimal i)

-- how a path is told: the whole is one point
abbrev pub told : List ℕ → List ℕ
told [] = 46 ∷ []
told (b ∷ bs) = b ∷ bs
