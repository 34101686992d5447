-- Where no pair of regions meets, no two share a byte.
use Rattle.std.proofs.Common.{◌≡◌, ◌<◌, ◌+◌, ℕ, zero, suc, List, [], ◌∷◌, ◌++◌, map, length, get_or, Bool, true, false, Option, Some, None, refl, sym, ap, ◌∙◌, arith, rules, tests}
use Rattle.std.specs.Prelude.{All}
use Rattle.std.proofs.lemmas.Bool.{false≢true}
use Rattle.nc_num.specs.declared.places.Span.{Span}
use Rattle.nc_scen.specs.declared.scenario.BufferSpec.{BufferSpec}
use Rattle.nc_scen.specs.Regions.{IsIn, AreApart, HasBuffersApart, meet, first_meeting, overlap_or, first_overlap, regions}

meets : (a b : Span) (x : ℕ) → IsIn a x → IsIn b x → meet a b ≡ true
meets a b x p q =
    let some_a : 0 < a.len = omega (arith, p.from, p.before) in
    let some_b : 0 < b.len = omega (arith, q.from, q.before) in
    let a_first : a.at < b.at + b.len = omega (arith, p.from, q.before) in
    let b_first : b.at < a.at + a.len = omega (arith, q.from, p.before) in
    search (rules, tests)

pub apart_where : (a b : Span) → meet a b ≡ false → AreApart a b
apart_where a b h x p q = false≢true (sym h ∙ meets a b x p q)

is_some_of : {X : Type 0} → Option X → Bool
is_some_of (Some x) = true
is_some_of None = false

some_is_not : {X : Type 0} (x : X) → Some x ≡ None → ⊥
unfolding is_some_of
some_is_not x h = false≢true (sym (ap is_some_of h))

none_here : (r s : Span) (j : ℕ) (rs : List Span) (m : Bool) → meet r s ≡ m → first_meeting r j (s ∷ rs) ≡ None → (m ≡ false) × (first_meeting r (j + 1) rs ≡ None)
none_here r s j rs true e h = absurd (some_is_not j (rw e at h))
none_here r s j rs false e h = (refl, rw e at h)

none_meets : (r : Span) (j : ℕ) (rs : List Span) → first_meeting r j rs ≡ None → (k : ℕ) (d : Span) → k < length rs → AreApart r (get_or rs k d)
none_meets r j [] h k d lt = absurd (omega (arith, lt))
none_meets r j (s ∷ rs) h zero d lt = apart_where r s ((none_here r s j rs (meet r s) refl h).0)
none_meets r j (s ∷ rs) h (suc k) d lt = none_meets r (j + 1) rs ((none_here r s j rs (meet r s) refl h).1) k d (omega (arith, lt))

none_first : (i : ℕ) (m : Option ℕ) (later : Option (ℕ × ℕ)) → overlap_or i m later ≡ None → (m ≡ None) × (later ≡ None)
none_first i None later h = (refl, h)
none_first i (Some j) later h = absurd (some_is_not (i, j) h)

pub none_overlap : (i : ℕ) (rs : List Span) → first_overlap i rs ≡ None → (a b : ℕ) (d e : Span) → a < b → b < length rs → AreApart (get_or rs a d) (get_or rs b e)
none_overlap i [] h a b d e lt in_list = absurd (omega (arith, in_list))
none_overlap i (r ∷ rs) h a zero d e lt in_list = absurd (omega (arith, lt))
none_overlap i (r ∷ rs) h zero (suc b) d e lt in_list = none_meets r (i + 1) rs ((none_first i (first_meeting r (i + 1) rs) (first_overlap (i + 1) rs) h).0) b e (omega (arith, in_list))
none_overlap i (r ∷ rs) h (suc a) (suc b) d e lt in_list = none_overlap (i + 1) rs ((none_first i (first_meeting r (i + 1) rs) (first_overlap (i + 1) rs) h).1) a b d e (omega (arith, lt)) (omega (arith, in_list))

-- ---- the regions by their numbers

abbrev span_of : BufferSpec → Span
span_of b = b.span

at_buffer : (bs : List BufferSpec) (rest : List Span) (i : ℕ) (d : Span) (e : BufferSpec) → i < length bs → get_or (map span_of bs ++ rest) i d ≡ (get_or bs i e).span
at_buffer [] rest i d e lt = absurd (omega (arith, lt))
at_buffer (b ∷ bs) rest zero d e lt = refl
at_buffer (b ∷ bs) rest (suc i) d e lt = at_buffer bs rest i d e (omega (arith, lt))

at_rest : (bs : List BufferSpec) (rest : List Span) (i j : ℕ) (d : Span) → j ≡ length bs + i → get_or (map span_of bs ++ rest) j d ≡ get_or rest i d
at_rest [] rest i j d h = ap (λ n. get_or rest n d) (omega (arith, h))
at_rest (b ∷ bs) rest i zero d h = absurd (omega (arith, h))
at_rest (b ∷ bs) rest i (suc j) d h = at_rest bs rest i j d (omega (arith, h))

count_regions : (bs : List BufferSpec) (s p : Span) → length (regions bs s p) ≡ length bs + 2
count_regions [] s p = refl
count_regions (b ∷ bs) s p = ap suc (count_regions bs s p) ∙ omega arith

module _ (bs : List BufferSpec) (s p : Span) (none : first_overlap 0 (regions bs s p) ≡ None) where
  pair : (a b : ℕ) (d e : Span) → a < b → b < length bs + 2 → AreApart (get_or (regions bs s p) a d) (get_or (regions bs s p) b e)
  pair a b d e lt in_list = none_overlap 0 (regions bs s p) none a b d e lt (omega (arith, count_regions bs s p, in_list))

  pub buffers_apart : HasBuffersApart bs
  buffers_apart i j d e lt in_list =
      rw (← at_buffer bs (s ∷ p ∷ []) i s d (omega (arith, lt, in_list)), ← at_buffer bs (s ∷ p ∷ []) j s e in_list) (pair i j s s lt (omega (arith, in_list)))

  pub off_slots : All (λ (b : BufferSpec). AreApart b.span s) bs
  off_slots i d lt =
      let far : get_or (regions bs s p) (length bs) s ≡ s = at_rest bs (s ∷ p ∷ []) 0 (length bs) s (omega arith) in
      let two : AreApart (get_or (regions bs s p) i s) (get_or (regions bs s p) (length bs) s) = pair i (length bs) s s lt (omega arith) in
      let near : get_or (regions bs s p) i s ≡ (get_or bs i d).span = at_buffer bs (s ∷ p ∷ []) i s d lt in
      rw (near, far) at two

  pub off_pool : All (λ (b : BufferSpec). AreApart b.span p) bs
  off_pool i d lt =
      let far : get_or (regions bs s p) (length bs + 1) s ≡ p = at_rest bs (s ∷ p ∷ []) 1 (length bs + 1) s (omega arith) in
      let two : AreApart (get_or (regions bs s p) i s) (get_or (regions bs s p) (length bs + 1) s) = pair i (length bs + 1) s s (omega (arith, lt)) (omega arith) in
      let near : get_or (regions bs s p) i s ≡ (get_or bs i d).span = at_buffer bs (s ∷ p ∷ []) i s d lt in
      rw (near, far) at two

  pub slots_off_pool : AreApart s p
  slots_off_pool =
      let first : get_or (regions bs s p) (length bs) s ≡ s = at_rest bs (s ∷ p ∷ []) 0 (length bs) s (omega arith) in
      let second : get_or (regions bs s p) (length bs + 1) s ≡ p = at_rest bs (s ∷ p ∷ []) 1 (length bs + 1) s (omega arith) in
      let two : AreApart (get_or (regions bs s p) (length bs) s) (get_or (regions bs s p) (length bs + 1) s) = pair (length bs) (length bs + 1) s s (omega arith) (omega arith) in
      rw (first, second) at two
