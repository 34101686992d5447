-- Lists: what stands in them behind a push and a removal, and filters of which one or none passes.
use Rattle.std.specs.Prelude.{All, Some, filter, remove, slice_get, ◌⊎◌}
use Rattle.std.specs.List.{list_any}
use Rattle.std.proofs.Common.{◌≡◌, ℕ, zero, suc, Bool, true, false, List, [], ◌∷◌, ◌++◌, refl, sym, ap, ◌∙◌, inl, inr, subst, cond}
use Rattle.std.proofs.lemmas.Bool.{cases_Bool, both_ways, cond-true, cond-false, or_parts}
use Rattle.std.proofs.lemmas.List.Elements.{All-head, All-tail, filter-append}
use Rattle.nc_plan.specs.Plans.{In}

pub in_pushed : {X : Type 0} (e x : X) (q : List X) → In e (q ++ x ∷ []) → In e q ⊎ (x ≡ e)
in_pushed e x [] (inl same) = inr same
in_pushed e x [] (inr k) = elim k [ ]
in_pushed e x (y ∷ q) (inl same) = inl (inl same)
in_pushed e x (y ∷ q) (inr k) = elim (in_pushed e x q k) [ inl before ↦ inl (inr before) | inr last ↦ inr last ]

pub in_removed : {X : Type 0} (e : X) (q : List X) (i : ℕ) → In e (remove q i) → In e q
in_removed e [] zero k = k
in_removed e [] (suc i) k = k
in_removed e (y ∷ q) zero k = inr k
in_removed e (y ∷ q) (suc i) (inl same) = inl same
in_removed e (y ∷ q) (suc i) (inr k) = inr (in_removed e q i k)

pub in_got : {X : Type 0} (e : X) (q : List X) (i : ℕ) → slice_get q i ≡ Some e → In e q
in_got e [] i is = absurd cc
in_got e (y ∷ q) zero is = let same : y ≡ e = cc in inl same
in_got e (y ∷ q) (suc i) is = inr (in_got e q i is)

-- none of them passes
pub in_none : {X : Type 0} (p : X → Bool) (e : X) (q : List X) → list_any p q ≡ false → In e q → p e ≡ false
in_none p e [] none k = elim k [ ]
in_none p e (y ∷ q) none (inl same) = subst (λ z. p z ≡ false) same (or_parts (p y) (list_any p q) none).0
in_none p e (y ∷ q) none (inr k) = in_none p e q (or_parts (p y) (list_any p q) none).1 k

-- ---- filters

pub nothing_behind : {X : Type 0} (q : List X) → q ++ [] ≡ q
nothing_behind [] = refl
nothing_behind (e ∷ q) = ap (λ r. e ∷ r) (nothing_behind q)

pub first_kept : {X : Type 0} (p : X → Bool) (a : X) (q : List X) → p a ≡ true → filter p (a ∷ q) ≡ a ∷ filter p q
first_kept p a q is = cond-true (p a) (a ∷ filter p q) (filter p q) is

pub first_gone : {X : Type 0} (p : X → Bool) (a : X) (q : List X) → p a ≡ false → filter p (a ∷ q) ≡ filter p q
first_gone p a q is = cond-false (p a) (a ∷ filter p q) (filter p q) is

pub none_kept : {X : Type 0} (p : X → Bool) (q : List X) → All (λ a. p a ≡ false) q → filter p q ≡ []
none_kept p [] all = refl
none_kept p (a ∷ q) all = first_gone p a q (All-head (λ a. p a ≡ false) a q all) ∙ none_kept p q (All-tail (λ a. p a ≡ false) a q all)

pub last_gone : {X : Type 0} (p : X → Bool) (q : List X) (e : X) → p e ≡ false → filter p (q ++ e ∷ []) ≡ filter p q
last_gone p q e is = filter-append p q (e ∷ []) ∙ ap (λ r. filter p q ++ r) (first_gone p e [] is) ∙ nothing_behind (filter p q)

pub last_kept : {X : Type 0} (p : X → Bool) (q : List X) (e : X) → p e ≡ true → filter p (q ++ e ∷ []) ≡ filter p q ++ e ∷ []
last_kept p q e is = filter-append p q (e ∷ []) ∙ ap (λ r. filter p q ++ r) (first_kept p e [] is)

pub none_here : {X : Type 0} (p : X → Bool) (q : List X) (i : ℕ) (e : X) → filter p q ≡ [] → slice_get q i ≡ Some e → p e ≡ true → ⊥
none_here p [] i e is at pe = absurd cc
none_here p (a ∷ q) i e is at pe = elim (cases_Bool (p a)) [
  | inl pa ↦ let no : a ∷ filter p q ≡ [] = sym (first_kept p a q pa) ∙ is in absurd cc
  | inr other ↦ elim i as (λ k. slice_get (a ∷ q) k ≡ Some e → ⊥) [
    | zero ↦ λ here. let same : a ≡ e = cc in both_ways (p e) (subst (λ b. p b ≡ false) same other) pe
    | suc k ↦ λ there. none_here p q k e (sym (first_gone p a q other) ∙ is) there pe
  ] at
]

pub other_removed : {X : Type 0} (p : X → Bool) (q : List X) (i : ℕ) (e : X) → slice_get q i ≡ Some e → p e ≡ false → filter p (remove q i) ≡ filter p q
other_removed p [] i e at off = absurd cc
other_removed p (a ∷ q) zero e at off =
    let same : a ≡ e = cc in sym (first_gone p a q (subst (λ b. p b ≡ false) (sym same) off))
other_removed p (a ∷ q) (suc i) e at off = ap (λ r. cond (p a) (a ∷ r) r) (other_removed p q i e at off)

-- the only one that passes goes
pub one_removed : {X : Type 0} (p : X → Bool) (q : List X) (i : ℕ) (e a : X) → filter p q ≡ a ∷ [] → slice_get q i ≡ Some e → p e ≡ true → (e ≡ a) × (filter p (remove q i) ≡ [])
one_removed p [] i e a is at pe = absurd cc
one_removed p (c ∷ q) zero e a is at pe =
    let same : c ≡ e = cc in
    let pc : p c ≡ true = subst (λ b. p b ≡ true) (sym same) pe in
    let whole : c ∷ filter p q ≡ a ∷ [] = sym (first_kept p c q pc) ∙ is in
    let first : c ≡ a = cc in
    let rest : filter p q ≡ [] = cc in
    (sym same ∙ first, rest)
one_removed p (c ∷ q) (suc i) e a is at pe = elim (cases_Bool (p c)) [
  | inl pc ↦
      let whole : c ∷ filter p q ≡ a ∷ [] = sym (first_kept p c q pc) ∙ is in
      let rest : filter p q ≡ [] = cc in
      absurd (none_here p q i e rest at pe)
  | inr other ↦
      let later = one_removed p q i e a (sym (first_gone p c q other) ∙ is) at pe in
      (later.0, first_gone p c (remove q i) other ∙ later.1)
]

-- where it stands
pub at_in : {X : Type 0} (e : X) (q : List X) → In e q → (i : ℕ) × (slice_get q i ≡ Some e)
at_in e [] k = elim k [ ]
at_in e (y ∷ q) (inl same) = (0, ap (λ z. Some z) same)
at_in e (y ∷ q) (inr k) = let later = at_in e q k in (suc later.0, later.1)
