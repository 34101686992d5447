-- Reading a list one item after another, as a loop does.
use Rattle.std.proofs.Common.{◌≡◌, ℕ, ◌+◌, ◌≤◌, ◌<◌, List, [], ◌∷◌, ◌++◌, length, get_or, drop, Result, Ok, Err, refl, sym, ap, ◌∙◌, append_assoc, arith, length-append}
use Rattle.std.specs.Bool.{⊤}
use Rattle.std.proofs.lemmas.List.{append-nil, at_drop_more, at_drop_all}
use Rattle.serde_json.specs.Data.{Data}
use Rattle.serde_json.specs.View.{view, items_view}
use Rattle.serde_json.specs.declared.value.Value.{Value}
use Rattle.nc_values.specs.declared.refused.Refused.{Refused}
use Rattle.nc_values.specs.declared.refused.ScenFault.{ScenFault}
use Rattle.nc_values.specs.declared.refused.ScenFault.TheVariants as faults
use Rattle.nc_values.specs.Outcomes.{◌>>=◌, Fails, each, check_each}

-- ---- lists of which each value is kept

module _ {X E : Type 0} (f : ℕ → Data → Result X E) where
  -- what was read before, and what is still read
  abbrev pub with_front : List X → Result (List X) E → Result (List X) E
  with_front front read = read >>= λ xs. Ok (front ++ xs)

  regroup : (front : List X) (x : X) (read : Result (List X) E) → with_front front (read >>= λ xs. Ok (x ∷ xs)) ≡ with_front (front ++ x ∷ []) read
  regroup front x (Ok xs) = ap (λ (ys : List X). Ok ys) (simp append_assoc)
  regroup front x (Err e) = refl

  pub goes_on : (front : List X) (vs : List Value) (i : ℕ) (v : Value) (x : X) (total : Result (List X) E) → i < length vs → v ≡ get_or vs i v → f i (view v) ≡ Ok x
      → with_front front (each f i (items_view (drop i vs))) ≡ total → with_front (front ++ x ∷ []) (each f (i + 1) (items_view (drop (i + 1) vs))) ≡ total
  unfolding each
  goes_on front vs i v x total lt at h so_far =
      let rest = drop (i + 1) vs in
      let here : drop i vs ≡ v ∷ rest = at_drop_more (λ (ws : List Value). ws) vs i v lt ∙ ap (λ w. w ∷ rest) (sym at) in
      let one : with_front front (each f i (items_view (drop i vs))) ≡ with_front (front ++ x ∷ []) (each f (i + 1) (items_view rest)) = rw (here, h) (regroup front x (each f (i + 1) (items_view rest))) in
      sym one ∙ so_far

  pub ends : (e : E) (front : List X) (vs : List Value) (i : ℕ) (v : Value) (total : Result (List X) E) → i < length vs → v ≡ get_or vs i v → f i (view v) ≡ Err e
      → with_front front (each f i (items_view (drop i vs))) ≡ total → total ≡ Err e
  unfolding each
  ends e front vs i v total lt at h so_far =
      let rest = drop (i + 1) vs in
      let here : drop i vs ≡ v ∷ rest = at_drop_more (λ (ws : List Value). ws) vs i v lt ∙ ap (λ w. w ∷ rest) (sym at) in
      let one : with_front front (each f i (items_view (drop i vs))) ≡ Err e = rw (here, h) refl in
      sym so_far ∙ one

  pub is_done : (front : List X) (vs : List Value) (i : ℕ) (total : Result (List X) E) → length vs ≤ i → with_front front (each f i (items_view (drop i vs))) ≡ total → total ≡ Ok front
  unfolding each
  is_done front vs i total le so_far =
      let one : with_front front (each f i (items_view (drop i vs))) ≡ Ok front = at_drop_all (λ ws. with_front front (each f i (items_view ws))) vs i le ∙ ap (λ (xs : List X). Ok xs) (append-nil front) in
      sym so_far ∙ one

module _ {X : Type 0} (f : ℕ → Data → Result X Refused) where
  pub fails : (e : ScenFault) (front : List X) (vs : List Value) (i : ℕ) (v : Value) (total : Result (List X) Refused) → i < length vs → v ≡ get_or vs i v → Fails e (f i (view v))
      → with_front f front (each f i (items_view (drop i vs))) ≡ total → Fails e total
  fails faults.NoMemory front vs i v total lt at h so_far = tt
  fails (faults.Refused r) front vs i v total lt at h so_far = ends f r front vs i v total lt at h so_far

-- ---- lists of which each value is only looked at

module _ {X E : Type 0} (f : ℕ → Data → Result X E) where
  pub check_goes_on : (vs : List Value) (i : ℕ) (v : Value) (x : X) (total : Result ⊤ E) → i < length vs → v ≡ get_or vs i v → f i (view v) ≡ Ok x
      → check_each f i (items_view (drop i vs)) ≡ total → check_each f (i + 1) (items_view (drop (i + 1) vs)) ≡ total
  unfolding check_each
  check_goes_on vs i v x total lt at h so_far =
      let rest = drop (i + 1) vs in
      let here : drop i vs ≡ v ∷ rest = at_drop_more (λ (ws : List Value). ws) vs i v lt ∙ ap (λ w. w ∷ rest) (sym at) in
      let one : check_each f i (items_view (drop i vs)) ≡ check_each f (i + 1) (items_view rest) = rw (here, h) refl in
      sym one ∙ so_far

  pub check_ends : (e : E) (vs : List Value) (i : ℕ) (v : Value) (total : Result ⊤ E) → i < length vs → v ≡ get_or vs i v → f i (view v) ≡ Err e
      → check_each f i (items_view (drop i vs)) ≡ total → total ≡ Err e
  unfolding check_each
  check_ends e vs i v total lt at h so_far =
      let rest = drop (i + 1) vs in
      let here : drop i vs ≡ v ∷ rest = at_drop_more (λ (ws : List Value). ws) vs i v lt ∙ ap (λ w. w ∷ rest) (sym at) in
      let one : check_each f i (items_view (drop i vs)) ≡ Err e = rw (here, h) refl in
      sym so_far ∙ one

  pub check_done : (vs : List Value) (i : ℕ) (total : Result ⊤ E) → length vs ≤ i → check_each f i (items_view (drop i vs)) ≡ total → total ≡ Ok tt
  unfolding check_each
  check_done vs i total le so_far =
      let one : check_each f i (items_view (drop i vs)) ≡ Ok tt = at_drop_all (λ ws. check_each f i (items_view ws)) vs i le in
      sym so_far ∙ one

module _ {X : Type 0} (f : ℕ → Data → Result X Refused) where
  pub check_fails : (e : ScenFault) (vs : List Value) (i : ℕ) (v : Value) (total : Result ⊤ Refused) → i < length vs → v ≡ get_or vs i v → Fails e (f i (view v))
      → check_each f i (items_view (drop i vs)) ≡ total → Fails e total
  check_fails faults.NoMemory vs i v total lt at h so_far = tt
  check_fails (faults.Refused r) vs i v total lt at h so_far = check_ends f r vs i v total lt at h so_far

pub length_push : {X : Type 0} → (xs : List X) (x : X) (n : ℕ) → length xs ≡ n → length (xs ++ x ∷ []) ≡ n + 1
length_push xs x n h = omega (arith, length-append xs (x ∷ []), h)
