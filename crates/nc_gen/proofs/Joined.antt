-- A line that is written in two parts.
use Rattle.std.proofs.Common.{◌≡◌, ℕ, List, [], ◌∷◌, ◌++◌, append_assoc}
use Rattle.nc_rules.specs.Lines.{phrase, words}

pub joined : (a b c d e f g h i j k l : List ℕ)
    → phrase (a ∷ b ∷ c ∷ d ∷ e ∷ f ∷ []) ++ 32 ∷ words (g ∷ h ∷ i ∷ j ∷ k ∷ l ∷ []) ≡ words (a ∷ b ∷ c ∷ d ∷ e ∷ f ∷ g ∷ h ∷ i ∷ j ∷ k ∷ l ∷ [])
joined a b c d e f g h i j k l = simp append_assoc
