-- Lists of JSON values that have the wrong length.
use Rattle.std.proofs.Common.{◌≡◌, ◌≢◌, ◌≤◌, ℕ, List, [], ◌∷◌, length, get_or, Result, Ok, Err, refl, ap, ◌∙◌, arith}
use Rattle.serde_json.specs.Data.{Data, Items}
use Rattle.serde_json.specs.View.{view, items_view}
use Rattle.serde_json.specs.declared.value.Value.{Value}
use Rattle.nc_values.specs.declared.wrong.Wrong.{Wrong}
use Rattle.nc_values.specs.declared.wrong.Wrong.TheVariants.{Shape}
use Rattle.nc_values.specs.Outcomes.{◌>>=◌}
use Rattle.nc_values.specs.Values.{list_of}
use Rattle.nc_ops.specs.declared.arguments.Counts.{Counts}
use Rattle.nc_ops.specs.Operations.{entry_items, entry_numbers, op_named, op_6, op_7}

entry_items-not_three : (vs : List Value) → length vs ≢ 3 → entry_items (items_view vs) ≡ Err Shape
entry_items-not_three [] n = refl
entry_items-not_three (a ∷ []) n = refl
entry_items-not_three (a ∷ b ∷ []) n = refl
entry_items-not_three (a ∷ b ∷ c ∷ []) n = absurd (n refl)
entry_items-not_three (a ∷ b ∷ c ∷ d ∷ vs) n = refl

pub entry_numbers-not_three : (d : Data) (vs : List Value) → list_of d ≡ Ok (items_view vs) → length vs ≢ 3 → entry_numbers d ≡ Err Shape
unfolding entry_numbers
entry_numbers-not_three d vs e n = ap (λ (o : Result Items Wrong). o >>= entry_items) e ∙ entry_items-not_three vs n

pub op_named-none : (counts : Counts) (name : List ℕ) (vs : List Value) → length vs ≤ 0 → op_named counts name (items_view vs) ≡ Err Shape
op_named-none counts name [] h = refl
op_named-none counts name (a ∷ vs) h = absurd (omega (arith, h))

pub op_named-many : (counts : Counts) (name : List ℕ) (vs : List Value) → 8 ≤ length vs → op_named counts name (items_view vs) ≡ Err Shape
op_named-many counts name [] h = absurd (omega (arith, h))
op_named-many counts name (a ∷ []) h = absurd (omega (arith, h))
op_named-many counts name (a ∷ b ∷ []) h = absurd (omega (arith, h))
op_named-many counts name (a ∷ b ∷ c ∷ []) h = absurd (omega (arith, h))
op_named-many counts name (a ∷ b ∷ c ∷ d ∷ []) h = absurd (omega (arith, h))
op_named-many counts name (a ∷ b ∷ c ∷ d ∷ e ∷ []) h = absurd (omega (arith, h))
op_named-many counts name (a ∷ b ∷ c ∷ d ∷ e ∷ f ∷ []) h = absurd (omega (arith, h))
op_named-many counts name (a ∷ b ∷ c ∷ d ∷ e ∷ f ∷ g ∷ []) h = absurd (omega (arith, h))
op_named-many counts name (a ∷ b ∷ c ∷ d ∷ e ∷ f ∷ g ∷ k ∷ vs) h = refl

pub op_named-six : (counts : Counts) (name : List ℕ) (vs : List Value) (a b c d e f : Value) → length vs ≡ 6 → a ≡ get_or vs 0 a → b ≡ get_or vs 1 b → c ≡ get_or vs 2 c → d ≡ get_or vs 3 d → e ≡ get_or vs 4 e → f ≡ get_or vs 5 f
    → op_named counts name (items_view vs) ≡ op_6 counts name (view a) (view b) (view c) (view d) (view e) (view f)
op_named-six counts name [] a b c d e f h ha hb hc hd he hf = absurd (omega (arith, h))
op_named-six counts name (p ∷ []) a b c d e f h ha hb hc hd he hf = absurd (omega (arith, h))
op_named-six counts name (p ∷ q ∷ []) a b c d e f h ha hb hc hd he hf = absurd (omega (arith, h))
op_named-six counts name (p ∷ q ∷ r ∷ []) a b c d e f h ha hb hc hd he hf = absurd (omega (arith, h))
op_named-six counts name (p ∷ q ∷ r ∷ s ∷ []) a b c d e f h ha hb hc hd he hf = absurd (omega (arith, h))
op_named-six counts name (p ∷ q ∷ r ∷ s ∷ t ∷ []) a b c d e f h ha hb hc hd he hf = absurd (omega (arith, h))
op_named-six counts name (p ∷ q ∷ r ∷ s ∷ t ∷ u ∷ []) a b c d e f h ha hb hc hd he hf = rw (ha, hb, hc, hd, he, hf) refl
op_named-six counts name (p ∷ q ∷ r ∷ s ∷ t ∷ u ∷ w ∷ vs) a b c d e f h ha hb hc hd he hf = absurd (omega (arith, h))

pub op_named-seven : (counts : Counts) (name : List ℕ) (vs : List Value) (a b c d e f g : Value) → length vs ≡ 7 → a ≡ get_or vs 0 a → b ≡ get_or vs 1 b → c ≡ get_or vs 2 c → d ≡ get_or vs 3 d → e ≡ get_or vs 4 e → f ≡ get_or vs 5 f → g ≡ get_or vs 6 g
    → op_named counts name (items_view vs) ≡ op_7 counts name (view a) (view b) (view c) (view d) (view e) (view f) (view g)
op_named-seven counts name [] a b c d e f g h ha hb hc hd he hf hg = absurd (omega (arith, h))
op_named-seven counts name (p ∷ []) a b c d e f g h ha hb hc hd he hf hg = absurd (omega (arith, h))
op_named-seven counts name (p ∷ q ∷ []) a b c d e f g h ha hb hc hd he hf hg = absurd (omega (arith, h))
op_named-seven counts name (p ∷ q ∷ r ∷ []) a b c d e f g h ha hb hc hd he hf hg = absurd (omega (arith, h))
op_named-seven counts name (p ∷ q ∷ r ∷ s ∷ []) a b c d e f g h ha hb hc hd he hf hg = absurd (omega (arith, h))
op_named-seven counts name (p ∷ q ∷ r ∷ s ∷ t ∷ []) a b c d e f g h ha hb hc hd he hf hg = absurd (omega (arith, h))
op_named-seven counts name (p ∷ q ∷ r ∷ s ∷ t ∷ u ∷ []) a b c d e f g h ha hb hc hd he hf hg = absurd (omega (arith, h))
op_named-seven counts name (p ∷ q ∷ r ∷ s ∷ t ∷ u ∷ v ∷ []) a b c d e f g h ha hb hc hd he hf hg = rw (ha, hb, hc, hd, he, hf, hg) refl
op_named-seven counts name (p ∷ q ∷ r ∷ s ∷ t ∷ u ∷ v ∷ w ∷ vs) a b c d e f g h ha hb hc hd he hf hg = absurd (omega (arith, h))
