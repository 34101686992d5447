-- Lists of JSON values that have the wrong length.
use Rattle.std.proofs.Common.{◌≡◌, ◌≢◌, ℕ, List, [], ◌∷◌, length, Err, refl}
use Rattle.std.specs.Prelude.{codes}
use Rattle.serde_json.specs.View.{items_view}
use Rattle.serde_json.specs.declared.value.Value.{Value}
use Rattle.nc_values.specs.declared.refused.Refused.TheVariants as refusals
use Rattle.nc_scen.specs.Parts.{reach_items}

pub reach_items-not_four : (least ram : ℕ) (vs : List Value) → length vs ≢ 4 → reach_items least ram (items_view vs) ≡ Err (refusals.Shape (codes "reach"))
reach_items-not_four least ram [] n = refl
reach_items-not_four least ram (a ∷ []) n = refl
reach_items-not_four least ram (a ∷ b ∷ []) n = refl
reach_items-not_four least ram (a ∷ b ∷ c ∷ []) n = refl
reach_items-not_four least ram (a ∷ b ∷ c ∷ d ∷ []) n = absurd (n refl)
reach_items-not_four least ram (a ∷ b ∷ c ∷ d ∷ e ∷ vs) n = refl
