-- Lists of JSON values that are no operation.
use Rattle.std.proofs.Common.{◌≡◌, ◌≢◌, List, [], ◌∷◌, length, Result, Ok, Err, refl, ap, ◌∙◌}
use Rattle.serde_json.specs.Data.{Data, Items}
use Rattle.serde_json.specs.View.{items_view}
use Rattle.serde_json.specs.declared.value.Value.{Value}
use Rattle.nc_values.specs.declared.wrong.Wrong.{Wrong}
use Rattle.nc_values.specs.declared.wrong.Wrong.TheVariants.{Shape}
use Rattle.nc_values.specs.Outcomes.{◌>>=◌}
use Rattle.nc_values.specs.Values.{list_of}
use Rattle.nc_pieces.specs.Reading.{op_items, op_of}

not_two : (vs : List Value) → length vs ≢ 2 → op_items (items_view vs) ≡ Err Shape
not_two [] n = refl
not_two (a ∷ []) n = refl
not_two (a ∷ b ∷ []) n = absurd (n refl)
not_two (a ∷ b ∷ c ∷ vs) n = refl

pub op_not_two : (d : Data) (vs : List Value) → list_of d ≡ Ok (items_view vs) → length vs ≢ 2 → op_of d ≡ Err Shape
op_not_two d vs e n = ap (λ (o : Result Items Wrong). o >>= op_items) e ∙ not_two vs n
