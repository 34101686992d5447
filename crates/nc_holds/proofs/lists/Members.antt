-- What stands in a list.
use Rattle.std.proofs.Common.{◌≡◌, ℕ, zero, suc, ◌≤◌, Bool, true, false, List, [], ◌∷◌, ◌++◌, map, flat_map, length, inl, inr, refl, sym, ap, subst, ◌∙◌, arith, cond, Option, Some}
use Rattle.std.specs.Prelude.{◌⊎◌, All, filter, slice_get}
use Rattle.std.specs.List.{list_any}
use Rattle.std.proofs.lemmas.Bool.{false≢true, or_parts, or_from}
use Rattle.std.proofs.lemmas.List.Elements.{All-head, All-tail}
use Rattle.nc_plan.specs.Plans.{In}

-- ---- where something stands

pub of_append : {X : Type 0} (x : X) (xs ys : List X) → In x (xs ++ ys) → In x xs ⊎ In x ys
of_append x [] ys k = inr k
of_append x (z ∷ xs) ys (inl e) = inl (inl e)
of_append x (z ∷ xs) ys (inr k) = elim (of_append x xs ys k) [ inl a ↦ inl (inr a) | inr b ↦ inr b ]

pub of_map : {X Y : Type 0} (f : X → Y) (y : Y) (xs : List X) → In y (map f xs) → (x : X) × In x xs × (f x ≡ y)
of_map f y [] k = elim k [ ]
of_map f y (z ∷ xs) (inl e) = (z, inl refl, e)
of_map f y (z ∷ xs) (inr k) = let r = of_map f y xs k in (r.0, inr r.1, r.2)

pub of_flat_map : {X Y : Type 0} (f : X → List Y) (y : Y) (xs : List X) → In y (flat_map f xs) → (x : X) × In x xs × In y (f x)
of_flat_map f y [] k = elim k [ ]
of_flat_map f y (z ∷ xs) k =
    elim (of_append y (f z) (flat_map f xs) k) [
      | inl a ↦ (z, inl refl, a)
      | inr b ↦ let r = of_flat_map f y xs b in (r.0, inr r.1, r.2)
    ]

filter_of_by : {X : Type 0} (test : X → Bool) (x z : X) (xs : List X) (b : Bool) → test z ≡ b → (In x (filter test xs) → In x xs × (test x ≡ true)) → In x (cond b (z ∷ filter test xs) (filter test xs)) → In x (z ∷ xs) × (test x ≡ true)
filter_of_by {X = X} test x z xs true e more (inl same) = (inl same, subst (λ (w : X). test w ≡ true) same e)
filter_of_by test x z xs true e more (inr k) = let r = more k in (inr r.0, r.1)
filter_of_by test x z xs false e more k = let r = more k in (inr r.0, r.1)

pub of_filter : {X : Type 0} (test : X → Bool) (x : X) (xs : List X) → In x (filter test xs) → In x xs × (test x ≡ true)
of_filter test x [] k = elim k [ ]
of_filter test x (z ∷ xs) k = filter_of_by test x z xs (test z) refl (of_filter test x xs) k

in_filter_by : {X : Type 0} (test : X → Bool) (x z : X) (xs : List X) (b : Bool) → test z ≡ b → test x ≡ true → (In x xs → In x (filter test xs)) → In x (z ∷ xs) → In x (cond b (z ∷ filter test xs) (filter test xs))
in_filter_by test x z xs true e p more (inl same) = inl same
in_filter_by test x z xs true e p more (inr k) = inr (more k)
in_filter_by test x z xs false e p more (inl same) = absurd (false≢true (sym e ∙ ap test same ∙ p))
in_filter_by test x z xs false e p more (inr k) = more k

pub in_filter : {X : Type 0} (test : X → Bool) (x : X) (xs : List X) → In x xs → test x ≡ true → In x (filter test xs)
in_filter test x [] k p = elim k [ ]
in_filter test x (z ∷ xs) k p = in_filter_by test x z xs (test z) refl p (λ m. in_filter test x xs m p) k

-- ---- what holds of all

pub all_at : {X : Type 0} (P : X → Type 0) (xs : List X) (x : X) → All P xs → In x xs → P x
all_at P [] x all k = elim k [ ]
all_at P (y ∷ ys) x all (inl e) = subst P e (All-head P y ys all)
all_at P (y ∷ ys) x all (inr k) = all_at P ys x (All-tail P y ys all) k

pub none_of : {X : Type 0} (p : X → Bool) (xs : List X) → ((x : X) → In x xs → p x ≡ false) → list_any p xs ≡ false
none_of p [] h = refl
none_of p (x ∷ xs) h = or_from (p x) (list_any p xs) (h x (inl refl)) (none_of p xs (λ y k. h y (inr k)))

pub none_at : {X : Type 0} (p : X → Bool) (xs : List X) (x : X) → list_any p xs ≡ false → In x xs → p x ≡ false
none_at p [] x e k = elim k [ ]
none_at {X = X} p (y ∷ ys) x e (inl same) = subst (λ (z : X). p z ≡ false) same (or_parts (p y) (list_any p ys) e).0
none_at p (y ∷ ys) x e (inr k) = none_at p ys x (or_parts (p y) (list_any p ys) e).1 k

-- ---- the i-th

pub at_get : {X : Type 0} (xs : List X) (i : ℕ) (x : X) → slice_get xs i ≡ Some x → In x xs
at_get [] i x e = absurd (cc)
at_get (y ∷ ys) zero x e = inl (cc)
at_get (y ∷ ys) (suc i) x e = inr (at_get ys i x e)

pub get_at : {X : Type 0} (xs : List X) (x : X) → In x xs → (i : ℕ) × (slice_get xs i ≡ Some x)
get_at [] x k = elim k [ ]
get_at (y ∷ ys) x (inl e) = (zero, ap Some e)
get_at (y ∷ ys) x (inr k) = let r = get_at ys x k in (suc r.0, r.1)

pub same_some : {X : Type 0} (x y : X) → ◌≡◌ {A = Option X} (Some x) (Some y) → x ≡ y
same_some x y e = cc

-- ---- one of them passes a test

few_by : {X : Type 0} (x y : X) (xs : List X) (b : Bool) → b ≡ true → length (cond b (x ∷ xs) xs) ≤ 1 → In y xs → ⊥
few_by x y [] true e le k = elim k [ ]
few_by x y (z ∷ zs) true e le k = absurd (omega arith)
few_by x y xs false e le k = absurd (false≢true e)

-- two that pass a test that few pass are one
pub only_one : {X : Type 0} (p : X → Bool) (xs : List X) (x y : X) → length (filter p xs) ≤ 1 → In x xs → In y xs → p x ≡ true → p y ≡ true → x ≡ y
only_one p [] x y le k l px py = elim k [ ]
only_one p (z ∷ zs) x y le (inl e) (inl d) px py = sym e ∙ d
only_one p (z ∷ zs) x y le (inl e) (inr l) px py = absurd (few_by z y (filter p zs) (p z) (ap p e ∙ px) le (in_filter p y zs l py))
only_one p (z ∷ zs) x y le (inr k) (inl d) px py = absurd (few_by z x (filter p zs) (p z) (ap p d ∙ py) le (in_filter p x zs k px))
only_one p (z ∷ zs) x y le (inr k) (inr l) px py = only_one p zs x y (fewer_by z (filter p zs) (p z) le) k l px py
  where
    fewer_by : {X : Type 0} (z : X) (xs : List X) (b : Bool) → length (cond b (z ∷ xs) xs) ≤ 1 → length xs ≤ 1
    fewer_by z xs true le = omega arith
    fewer_by z xs false le = le
