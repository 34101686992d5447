-- What stands in a list, in a set and at its least.
use Rattle.std.proofs.Common.{◌≡◌, ℕ, zero, suc, ◌<◌, ◌≤◌, Bool, true, false, List, [], ◌∷◌, ◌++◌, map, length, get_or, inl, inr, refl, sym, ap, subst, ◌∙◌, arith, Option, Some, None}
use Rattle.std.specs.Prelude.{◌⊎◌, ◌||◌, cond, nat_eq, min}
use Rattle.std.specs.List.{list_any, flat_map, filter, fold}
use Rattle.std.specs.Ordering.{nat_cmp, eq_by_cmp}
use Rattle.std.specs.FinSet as set
use Rattle.std.specs.FinSet.{contains-items, contains-from_list_nat}
use Rattle.std.specs.Cmp.{unsigned_tied, nat_eq_equiv}
use Rattle.std.proofs.Math.Nat.{min-eq_left, min-eq_right, min-le_left, min-le_right}
use Rattle.std.proofs.lemmas.Bool.{eqb-true, cases_lt}
use Rattle.std.proofs.lemmas.Bool.Decides.{nat_tests}
use Rattle.nc_plan.specs.Plans.{In}
use Rattle.nc_dmapool.specs.Pieces.{lowest}

pub of_append : {X : Type 0} (x : X) (xs ys : List X) → In x (xs ++ ys) → In x xs ⊎ In x ys
of_append x [] ys k = inr k
of_append x (z ∷ xs) ys (inl e) = inl (inl e)
of_append x (z ∷ xs) ys (inr k) = elim (of_append x xs ys k) [ inl a ↦ inl (inr a) | inr b ↦ inr b ]

pub of_map : {X Y : Type 0} (f : X → Y) (y : Y) (xs : List X) → In y (map f xs) → (x : X) × In x xs × (f x ≡ y)
of_map f y [] k = elim k [ ]
of_map f y (z ∷ xs) (inl e) = (z, inl refl, e)
of_map f y (z ∷ xs) (inr k) = let r = of_map f y xs k in (r.0, inr r.1, r.2)

pub of_flat_map : {X Y : Type 0} (f : X → List Y) (y : Y) (xs : List X) → In y (flat_map f xs) → (x : X) × In x xs × In y (f x)
of_flat_map f y [] k = elim k [ ]
of_flat_map f y (z ∷ xs) k =
    elim (of_append y (f z) (flat_map f xs) k) [
      | inl a ↦ (z, inl refl, a)
      | inr b ↦ let r = of_flat_map f y xs b in (r.0, inr r.1, r.2)
    ]

pub in_at : {X : Type 0} (xs : List X) (i : ℕ) (d : X) → i < length xs → In (get_or xs i d) xs
in_at [] i d lt = absurd (omega arith)
in_at (x ∷ xs) zero d lt = inl refl
in_at (x ∷ xs) (suc i) d lt = inr (in_at xs i d (omega arith))

pub at_in : {X : Type 0} (x : X) (xs : List X) (d : X) → In x xs → (i : ℕ) × (i < length xs) × (get_or xs i d ≡ x)
at_in x [] d k = elim k [ ]
at_in x (z ∷ xs) d (inl e) = (zero, omega arith, e)
at_in x (z ∷ xs) d (inr k) = let r = at_in x xs d k in (suc r.0, omega (arith, r.1), r.2)

filter_of_by : (test : ℕ → Bool) (x z : ℕ) (xs : List ℕ) (b : Bool) → test z ≡ b → (In x (filter test xs) → In x xs × (test x ≡ true)) → In x (cond b (z ∷ filter test xs) (filter test xs)) → In x (z ∷ xs) × (test x ≡ true)
filter_of_by test x z xs true e more (inl same) = (inl same, subst (λ w. test w ≡ true) same e)
filter_of_by test x z xs true e more (inr k) = let r = more k in (inr r.0, r.1)
filter_of_by test x z xs false e more k = let r = more k in (inr r.0, r.1)

pub of_filter : (test : ℕ → Bool) (x : ℕ) (xs : List ℕ) → In x (filter test xs) → In x xs × (test x ≡ true)
of_filter test x [] k = elim k [ ]
of_filter test x (z ∷ xs) k = filter_of_by test x z xs (test z) refl (of_filter test x xs) k

in_filter_by : (test : ℕ → Bool) (x z : ℕ) (xs : List ℕ) (b : Bool) → test z ≡ b → test x ≡ true → (In x xs → In x (filter test xs)) → In x (z ∷ xs) → In x (cond b (z ∷ filter test xs) (filter test xs))
in_filter_by test x z xs true e p more (inl same) = inl same
in_filter_by test x z xs true e p more (inr k) = inr (more k)
in_filter_by test x z xs false e p more (inl same) = absurd (let no : true ≡ false = sym p ∙ sym (ap test same) ∙ e in cc)
in_filter_by test x z xs false e p more (inr k) = more k

pub in_filter : (test : ℕ → Bool) (x : ℕ) (xs : List ℕ) → In x xs → test x ≡ true → In x (filter test xs)
in_filter test x [] k p = elim k [ ]
in_filter test x (z ∷ xs) k p = in_filter_by test x z xs (test z) refl p (λ m. in_filter test x xs m p) k

-- the least of a list

min_in_by : (a x m : ℕ) (xs : List ℕ) → (a ≤ x) ⊎ (x ≤ a) → In m (min a x ∷ xs) → In m (a ∷ x ∷ xs)
min_in_by a x m xs (inl le) (inl e) = inl (sym (min-eq_left le) ∙ e)
min_in_by a x m xs (inr le) (inl e) = inr (inl (sym (min-eq_right le) ∙ e))
min_in_by a x m xs o (inr k) = inr (inr k)

order : (a x : ℕ) → (a ≤ x) ⊎ (x ≤ a)
order a x = elim (cases_lt a x) [ inl lt ↦ inl (omega arith) | inr le ↦ inr le ]

fold_min_in : (a : ℕ) (xs : List ℕ) → In (fold min a xs) (a ∷ xs)
fold_min_in a [] = inl refl
fold_min_in a (x ∷ xs) = min_in_by a x (fold min (min a x) xs) xs (order a x) (fold_min_in (min a x) xs)

fold_min_le : (a : ℕ) (xs : List ℕ) → fold min a xs ≤ a
fold_min_le a [] = omega arith
fold_min_le a (x ∷ xs) = omega (arith, fold_min_le (min a x) xs, min-le_left a x)

fold_min_each : (a : ℕ) (xs : List ℕ) (y : ℕ) → In y xs → fold min a xs ≤ y
fold_min_each a [] y k = elim k [ ]
fold_min_each a (x ∷ xs) y (inl e) = omega (arith, fold_min_le (min a x) xs, min-le_right a x, e)
fold_min_each a (x ∷ xs) y (inr k) = fold_min_each (min a x) xs y k

some_is : (x y : ℕ) → Some x ≡ Some y → x ≡ y
some_is x y e = cc

pub lowest_in : (xs : List ℕ) (x : ℕ) → lowest xs ≡ Some x → In x xs
unfolding lowest
lowest_in [] x e = absurd cc
lowest_in (z ∷ xs) x e = subst (λ w. In w (z ∷ xs)) (some_is (fold min z xs) x e) (fold_min_in z xs)

pub lowest_le : (xs : List ℕ) (x : ℕ) → lowest xs ≡ Some x → (y : ℕ) → In y xs → x ≤ y
unfolding lowest
lowest_le [] x e y k = elim k [ ]
lowest_le (z ∷ xs) x e y (inl same) = omega (arith, fold_min_le z xs, some_is (fold min z xs) x e, same)
lowest_le (z ∷ xs) x e y (inr k) = omega (arith, fold_min_each z xs y k, some_is (fold min z xs) x e)

pub lowest_none : (xs : List ℕ) → lowest xs ≡ None → (y : ℕ) → In y xs → ⊥
unfolding lowest
lowest_none [] e y k = elim k [ ]
lowest_none (z ∷ xs) e y k = cc

pub lowest_no : (xs : List ℕ) → ((y : ℕ) → In y xs → ⊥) → lowest xs ≡ None
unfolding lowest
lowest_no [] none = refl
lowest_no (z ∷ xs) none = absurd (none z (inl refl))

lowest_some_by : (xs : List ℕ) (x : ℕ) → In x xs → ((y : ℕ) → In y xs → x ≤ y) → (o : Option ℕ) → lowest xs ≡ o → lowest xs ≡ Some x
lowest_some_by xs x k low None e = absurd (lowest_none xs e x k)
lowest_some_by xs x k low (Some y) e =
    let le : y ≤ x = lowest_le xs y e x k in
    let ge : x ≤ y = low y (lowest_in xs y e) in
    let same : y ≡ x = omega arith in
    e ∙ ap (λ w. Some w) same

pub lowest_some : (xs : List ℕ) (x : ℕ) → In x xs → ((y : ℕ) → In y xs → x ≤ y) → lowest xs ≡ Some x
lowest_some xs x k low = lowest_some_by xs x k low (lowest xs) refl

-- what stands in a set

any_in_by : (y q : ℕ) (ys : List ℕ) (b : Bool) → nat_eq y q ≡ b → (list_any (λ z. nat_eq z q) ys ≡ true → In q ys) → (b || list_any (λ z. nat_eq z q) ys) ≡ true → In q (y ∷ ys)
any_in_by y q ys true e more any = inl (eqb-true y q e)
any_in_by y q ys false e more any = inr (more any)

pub any_in : (q : ℕ) (ys : List ℕ) → list_any (λ y. nat_eq y q) ys ≡ true → In q ys
any_in q [] any = absurd cc
any_in q (y ∷ ys) any = any_in_by y q ys (nat_eq y q) refl (any_in q ys) any

or_right : (b c : Bool) → c ≡ true → (b || c) ≡ true
or_right true c e = refl
or_right false c e = e

in_any : (q : ℕ) (ys : List ℕ) → In q ys → list_any (λ y. nat_eq y q) ys ≡ true
in_any q [] k = elim k [ ]
in_any q (y ∷ ys) (inl e) = let t : nat_eq y q ≡ true = grind (arith, nat_tests) in ap (λ b. b || list_any (λ z. nat_eq z q) ys) t
in_any q (y ∷ ys) (inr k) = or_right (nat_eq y q) _ (in_any q ys k)

pub set_in : (q : ℕ) (ys : List ℕ) → set.contains (set.from_list {R = nat_cmp} ys) q ≡ true → In q ys
set_in q ys e = any_in q ys (sym (contains-from_list_nat ys q) ∙ e)

pub in_set : (q : ℕ) (ys : List ℕ) → In q ys → set.contains (set.from_list {R = nat_cmp} ys) q ≡ true
in_set q ys k = contains-from_list_nat ys q ∙ in_any q ys k

tied_any : (q : ℕ) (ys : List ℕ) → list_any (eq_by_cmp nat_cmp q) ys ≡ list_any (λ y. nat_eq y q) ys
tied_any q [] = refl
tied_any q (y ∷ ys) = let t : eq_by_cmp nat_cmp q y ≡ nat_eq y q = unsigned_tied q y ∙ nat_eq_equiv.symm q y in λ i. t i || tied_any q ys i

pub items_in : (q : ℕ) (s : set.FinSet nat_cmp) → set.contains s q ≡ true → In q (set.items s)
items_in q s e = any_in q (set.items s) (sym (tied_any q (set.items s)) ∙ sym (contains-items s q) ∙ e)

pub in_items : (q : ℕ) (s : set.FinSet nat_cmp) → In q (set.items s) → set.contains s q ≡ true
in_items q s k = contains-items s q ∙ tied_any q (set.items s) ∙ in_any q (set.items s) k
