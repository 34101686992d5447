-- Lists: what holds of each element behind a filter, a join or a search.
use Rattle.std.proofs.Common.{◌≡◌, ℕ, ◌*◌, ◌≤◌, Bool, true, false, List, [], ◌∷◌, ◌++◌, length, flat_map, refl, ◌∙◌, subst, arith, cond, inl, inr, Option, Some, None}
use Rattle.std.specs.Prelude.{All, filter, filter_map, find, position, is_some, nat_lt}
use Rattle.std.specs.List.{list_any, position_or_len, cons_option}
use Rattle.std.proofs.lemmas.Bool.Decides.{nat_tests}
use Rattle.std.proofs.lemmas.Bool.{or_parts}
use Rattle.std.proofs.lemmas.List.{length-append}
use Rattle.std.proofs.lemmas.List.Elements.{All-nil, All-cons, All-head, All-tail, All-append}
use Rattle.nc_plan.specs.Plans.{In}

pub all_to : {X : Type 0} (P Q : X → Type 0) (xs : List X) → All P xs → ((x : X) → P x → Q x) → All Q xs
all_to P Q [] all f = All-nil Q
all_to P Q (x ∷ xs) all f = All-cons Q x xs (f x (All-head P x xs all)) (all_to P Q xs (All-tail P x xs all) f)

pub all_both : {X : Type 0} (P Q R : X → Type 0) (xs : List X) → All P xs → All Q xs → ((x : X) → P x → Q x → R x) → All R xs
all_both P Q R [] a b f = All-nil R
all_both P Q R (x ∷ xs) a b f = All-cons R x xs (f x (All-head P x xs a) (All-head Q x xs b)) (all_both P Q R xs (All-tail P x xs a) (All-tail Q x xs b) f)

pub all_left : {X : Type 0} (P : X → Type 0) (xs ys : List X) → All P (xs ++ ys) → All P xs
all_left P [] ys all = All-nil P
all_left P (x ∷ xs) ys all = All-cons P x xs (All-head P x (xs ++ ys) all) (all_left P xs ys (All-tail P x (xs ++ ys) all))

pub all_right : {X : Type 0} (P : X → Type 0) (xs ys : List X) → All P (xs ++ ys) → All P ys
all_right P [] ys all = all
all_right P (x ∷ xs) ys all = all_right P xs ys (All-tail P x (xs ++ ys) all)

-- what is filtered passes
filtered_by : {X : Type 0} (P Q : X → Type 0) (x : X) (xs : List X) (t : Bool) → P x → (P x → t ≡ true → Q x) → All Q xs → All Q (cond t (x ∷ xs) xs)
filtered_by P Q x xs true h f all = All-cons Q x xs (f h refl) all
filtered_by P Q x xs false h f all = all

pub all_filtered : {X : Type 0} (P Q : X → Type 0) (p : X → Bool) (xs : List X) → All P xs → ((x : X) → P x → p x ≡ true → Q x) → All Q (filter p xs)
all_filtered P Q p [] all f = All-nil Q
all_filtered P Q p (x ∷ xs) all f =
    filtered_by P Q x (filter p xs) (p x) (All-head P x xs all) (f x) (all_filtered P Q p xs (All-tail P x xs all) f)

pub all_joined : {X Y : Type 0} (P : X → Type 0) (Q : Y → Type 0) (f : X → List Y) (xs : List X) → All P xs → ((x : X) → P x → All Q (f x)) → All Q (flat_map f xs)
all_joined P Q f [] all h = All-nil Q
all_joined P Q f (x ∷ xs) all h = All-append Q (f x) (flat_map f xs) (h x (All-head P x xs all)) (all_joined P Q f xs (All-tail P x xs all) h)

pub few_joined : {X Y : Type 0} (P : X → Type 0) (n : ℕ) (f : X → List Y) (xs : List X) → All P xs → ((x : X) → P x → length (f x) ≤ n) → length (flat_map f xs) ≤ n * length xs
few_joined P n f [] all h = omega arith
few_joined P n f (x ∷ xs) all h =
    omega (arith, length-append (f x) (flat_map f xs), h x (All-head P x xs all), few_joined P n f xs (All-tail P x xs all) h)

-- what is found is one of them, and passes
pub record Found {X : Type 0} (P : X → Type 0) (p : X → Bool) (x : X) : Type 0 where
  pub is : P x
  pub passes : p x ≡ true

found_by : {X : Type 0} (P : X → Type 0) (p : X → Bool) (y x : X) (o : Option X) (t : Bool) → P y → p y ≡ t → cond t (Some y) o ≡ Some x → (o ≡ Some x → Found P p x) → Found P p x
found_by P p y x o true h t e more = let same : y ≡ x = cc in subst (Found P p) same (record { is = h; passes = t })
found_by P p y x o false h t e more = more e

pub found : {X : Type 0} (P : X → Type 0) (p : X → Bool) (xs : List X) (x : X) → All P xs → find p xs ≡ Some x → Found P p x
found P p [] x all e = absurd (cc)
found P p (y ∷ ys) x all e = found_by P p y x (find p ys) (p y) (All-head P y ys all) refl e (found P p ys x (All-tail P y ys all))

pub none_any : {X : Type 0} (p : X → Bool) (xs : List X) → list_any p xs ≡ false → All (λ x. p x ≡ false) xs
none_any p [] e = All-nil (λ x. p x ≡ false)
none_any p (x ∷ xs) e = let parts = or_parts (p x) (list_any p xs) e in All-cons (λ y. p y ≡ false) x xs parts.0 (none_any p xs parts.1)

pub all_in : {X : Type 0} (P : X → Type 0) (xs : List X) → ((x : X) → In x xs → P x) → All P xs
all_in P [] h = All-nil P
all_in P (x ∷ xs) h = All-cons P x xs (h x (inl refl)) (all_in P xs (λ y k. h y (inr k)))

-- a first place is found exactly where one passes
some_if : {X : Type 0} (t : Bool) (x : X) → is_some (cond t (Some x) None) ≡ t
some_if true x = refl
some_if false x = refl

place_by : {X : Type 0} (p : X → Bool) (x : X) (xs : List X) (t : Bool) → p x ≡ t → nat_lt (position_or_len p xs) (length xs) ≡ list_any p xs
    → nat_lt (position_or_len p (x ∷ xs)) (length (x ∷ xs)) ≡ list_any p (x ∷ xs)
place_by p x xs true e more = rw e (grind (arith, nat_tests))
place_by p x xs false e more = rw e (grind (arith, nat_tests, more))

place_any : {X : Type 0} (p : X → Bool) (xs : List X) → nat_lt (position_or_len p xs) (length xs) ≡ list_any p xs
place_any p [] = refl
place_any p (x ∷ xs) = place_by p x xs (p x) refl (place_any p xs)

pub position_any : {X : Type 0} (p : X → Bool) (xs : List X) → is_some (position p xs) ≡ list_any p xs
position_any p xs = some_if (nat_lt (position_or_len p xs) (length xs)) (position_or_len p xs) ∙ place_any p xs

few_by : {X Y : Type 0} (x : X) (xs : List X) (o : Option Y) (ys : List Y) → length ys ≤ length xs → length (cons_option o ys) ≤ length (x ∷ xs)
few_by x xs None ys h = omega arith
few_by x xs (Some y) ys h = omega arith

pub few_mapped : {X Y : Type 0} (f : X → Option Y) (xs : List X) → length (filter_map f xs) ≤ length xs
few_mapped f [] = omega arith
few_mapped f (x ∷ xs) = few_by x xs (f x) (filter_map f xs) (few_mapped f xs)

mapped_by : {Y : Type 0} (Q : Y → Type 0) (o : Option Y) (ys : List Y) → ((y : Y) → o ≡ Some y → Q y) → All Q ys → All Q (cons_option o ys)
mapped_by Q None ys h all = all
mapped_by Q (Some y) ys h all = All-cons Q y ys (h y refl) all

pub all_mapped : {X Y : Type 0} (P : X → Type 0) (Q : Y → Type 0) (f : X → Option Y) (xs : List X) → All P xs → ((x : X) (y : Y) → P x → f x ≡ Some y → Q y) → All Q (filter_map f xs)
all_mapped P Q f [] all h = All-nil Q
all_mapped P Q f (x ∷ xs) all h = mapped_by Q (f x) (filter_map f xs) (λ y e. h x y (All-head P x xs all) e) (all_mapped P Q f xs (All-tail P x xs all) h)
