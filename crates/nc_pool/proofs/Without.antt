-- A slot is taken out of the list of those that are held.
use Rattle.std.proofs.Common.{◌≡◌, ◌≢◌, ℕ, ◌==◌, Bool, true, false, not, ◌&&◌, ◌||◌, List, [], ◌∷◌, ◌++◌, refl, sym, ap, ◌∙◌, eq-eqb, ne_eqb, eqb-true, true≢false}
use Rattle.std.specs.Prelude.{if◌then◌else◌, filter}
use native.Mathlib.Decide.{ℕ_discrete}
use Rattle.nc_pool.specs.Views.{has, without, is_distinct}

has_step : (j k x : ℕ) (xs : List ℕ) → j ≢ k → has j (without k xs) ≡ has j xs → (b : Bool) → (x == k) ≡ b → has j (if b then without k xs else x ∷ without k xs) ≡ ((x == j) || has j xs)
has_step j k x xs ne same true e = same ∙ ap (λ t. t || has j xs) (sym (ne_eqb x j (λ here. ne (sym here ∙ eqb-true x k e))))
has_step j k x xs ne same false e = ap (λ t. (x == j) || t) same

-- another slot is among them as before
pub has-without : (j k : ℕ) (xs : List ℕ) → j ≢ k → has j (without k xs) ≡ has j xs
has-without j k [] ne = refl
has-without j k (x ∷ xs) ne = has_step j k x xs ne (has-without j k xs ne) (x == k) refl

gone_step : (k x : ℕ) (xs : List ℕ) → has k (without k xs) ≡ false → (b : Bool) → (x == k) ≡ b → has k (if b then without k xs else x ∷ without k xs) ≡ false
gone_step k x xs gone true e = gone
gone_step k x xs gone false e = ap (λ t. t || has k (without k xs)) e ∙ gone

pub not_has-without : (k : ℕ) (xs : List ℕ) → has k (without k xs) ≡ false
not_has-without k [] = refl
not_has-without k (x ∷ xs) = gone_step k x xs (not_has-without k xs) (x == k) refl

and_parts : (a b : Bool) → (a && b) ≡ true → (a ≡ true) × (b ≡ true)
and_parts true b e = (refl, e)
and_parts false b e = absurd (cc)

both : (a b : Bool) → a ≡ true → b ≡ true → (a && b) ≡ true
both a b p q = ap (λ t. t && b) p ∙ q

distinct_step : (k x : ℕ) (xs : List ℕ) → not (has x xs) ≡ true → is_distinct (without k xs) ≡ true → (b : Bool) → (x == k) ≡ b → is_distinct (if b then without k xs else x ∷ without k xs) ≡ true
distinct_step k x xs once d true e = d
distinct_step k x xs once d false e = both (not (has x (without k xs))) (is_distinct (without k xs)) (ap not (has-without x k xs (λ same. true≢false (sym (eq-eqb x k same) ∙ e))) ∙ once) d

pub distinct-without : (k : ℕ) (xs : List ℕ) → is_distinct xs ≡ true → is_distinct (without k xs) ≡ true
distinct-without k [] d = refl
distinct-without k (x ∷ xs) d = let p = and_parts (not (has x xs)) (is_distinct xs) d in distinct_step k x xs p.0 (distinct-without k xs p.1) (x == k) refl

kept_step : (j k : ℕ) (xs : List ℕ) → has j (without k xs) ≡ true → Dec (j ≡ k) → has j xs ≡ true
kept_step j k xs h (yes same) = absurd (true≢false (sym h ∙ (ap (λ i. has i (without k xs)) same ∙ not_has-without k xs)))
kept_step j k xs h (no apart) = sym (has-without j k xs apart) ∙ h

-- what is left was among them
pub has_of_without : (j k : ℕ) (xs : List ℕ) → has j (without k xs) ≡ true → has j xs ≡ true
has_of_without j k xs h = kept_step j k xs h (ℕ_discrete j k)

not_true : (b : Bool) → not b ≡ true → b ≡ false
not_true true h = absurd (cc)
not_true false h = refl

or_swap : (a b c : Bool) → (a || (b || c)) ≡ (b || (a || c))
or_swap true true c = refl
or_swap true false c = refl
or_swap false true c = refl
or_swap false false c = refl

-- one more at the end
pub has-push : (j k : ℕ) (xs : List ℕ) → has j (xs ++ k ∷ []) ≡ ((k == j) || has j xs)
has-push j k [] = refl
has-push j k (x ∷ xs) = ap (λ t. (x == j) || t) (has-push j k xs) ∙ or_swap (x == j) (k == j) (has j xs)

or_parts : (a b : Bool) → (a || b) ≡ false → (a ≡ false) × (b ≡ false)
or_parts true b e = absurd (cc)
or_parts false b e = (refl, e)

eqb_swap : (a b : ℕ) → (a == b) ≡ false → (b == a) ≡ false
eqb_swap a b e = ne_eqb b a (λ same. true≢false (sym (eq-eqb a b (sym same)) ∙ e))

pub distinct-push : (k : ℕ) (xs : List ℕ) → is_distinct xs ≡ true → has k xs ≡ false → is_distinct (xs ++ k ∷ []) ≡ true
distinct-push k [] d h = refl
distinct-push k (x ∷ xs) d h =
    let p = and_parts (not (has x xs)) (is_distinct xs) d in
    let q = or_parts (x == k) (has k xs) h in
    both (not (has x (xs ++ k ∷ []))) (is_distinct (xs ++ k ∷ [])) (ap not (has-push x k xs ∙ ap (λ t. t || has x xs) (eqb_swap x k q.0)) ∙ p.0) (distinct-push k xs p.1 q.1)

-- of a list without repeats: its last is not among the others
pub distinct-front : (k : ℕ) (xs : List ℕ) → is_distinct (xs ++ k ∷ []) ≡ true → (is_distinct xs ≡ true) × (has k xs ≡ false)
distinct-front k [] d = (refl, refl)
distinct-front k (x ∷ xs) d =
    let p = and_parts (not (has x (xs ++ k ∷ []))) (is_distinct (xs ++ k ∷ [])) d in
    let r = distinct-front k xs p.1 in
    let q = or_parts (k == x) (has x xs) (not_true ((k == x) || has x xs) (ap not (sym (has-push x k xs)) ∙ p.0)) in
    (both (not (has x xs)) (is_distinct xs) (ap not q.1) r.0, ap (λ t. t || has k xs) (eqb_swap k x q.0) ∙ r.1)

pub without-push : (k : ℕ) (xs : List ℕ) → has k xs ≡ false → without k (xs ++ k ∷ []) ≡ xs
without-push k [] h = rw (eq-eqb k k refl) refl
without-push k (x ∷ xs) h = let q = or_parts (x == k) (has k xs) h in rw q.0 (ap (λ ys. x ∷ ys) (without-push k xs q.1))

pub has-last : (k : ℕ) (xs : List ℕ) → has k (xs ++ k ∷ []) ≡ true
has-last k xs = has-push k k xs ∙ ap (λ t. t || has k xs) (eq-eqb k k refl)

filter_step : (k x : ℕ) (xs : List ℕ) (b : Bool) → (x == k) ≡ b → without k xs ≡ filter (λ y. not (y == k)) xs → (if b then without k xs else x ∷ without k xs) ≡ (if not b then x ∷ filter (λ y. not (y == k)) xs else filter (λ y. not (y == k)) xs)
filter_step k x xs true e same = same
filter_step k x xs false e same = ap (λ ys. x ∷ ys) same

pub without_is_filter : (k : ℕ) (xs : List ℕ) → without k xs ≡ filter (λ y. not (y == k)) xs
without_is_filter k [] = refl
without_is_filter k (x ∷ xs) = filter_step k x xs (x == k) refl (without_is_filter k xs)
