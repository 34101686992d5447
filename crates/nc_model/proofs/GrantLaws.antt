-- Lists of grants.
use Rattle.std.proofs.Common.{◌≡◌, ℕ, ◌+◌, ◌≤◌, Bool, true, false, not, List, [], ◌∷◌, ◌++◌, Option, Some, refl, sym, ap, ◌∙◌, subst, arith, cond}
use Rattle.std.proofs.lemmas.Bool.{and_parts, or_parts, both_ways}
use Rattle.std.proofs.lemmas.Bool.Decides.{nat_tests}
use Rattle.std.proofs.lemmas.List.Filters.{sum_by-filter_both}
use Rattle.std.proofs.lemmas.List.Sums.{sum_by-cons, sum_by_push}
use Rattle.std.specs.List.{list_any, find, filter, count_by}
use Rattle.nc_num.specs.declared.names.ChanNo.{ChanNo}
use Rattle.nc_num.specs.declared.names.MapId.{MapId}
use Rattle.nc_model.specs.Grants.{FitsIn, AllFit, IsGrants, CanAdd, without}
use Rattle.nc_model.specs.Laws.{OneGrant, StayApart}
use Rattle.nc_model.specs.Rights.{same_map, is_of, has_device, serves, served_by, place_through}
use Rattle.nc_model.specs.declared.owners.Grant.{Grant}

count-cons : (p : Grant → Bool) (g : Grant) (grants : List Grant) → count_by p (g ∷ grants) ≡ cond (p g) 1 0 + count_by p grants
count-cons p g grants = sum_by-cons (λ h. cond (p h) 1 0) g grants

-- of a list of grants: what is found passes, and is counted
found_by : (p : Grant → Bool) (h g : Grant) (b : Bool) (o : Option Grant) → p h ≡ b → (o ≡ Some g → p g ≡ true) → cond b (Some h) o ≡ Some g → p g ≡ true
found_by p h g true o e rest k = let same : h ≡ g = cc in subst (λ (x : Grant). p x ≡ true) same e
found_by p h g false o e rest k = rest k

pub found_passes : (p : Grant → Bool) (grants : List Grant) (g : Grant) → find p grants ≡ Some g → p g ≡ true
found_passes p [] g e = cc
found_passes p (h ∷ grants) g e = found_by p h g (p h) (find p grants) refl (found_passes p grants g) e

counted_by : (q : Grant → Bool) (h g : Grant) (b : Bool) (o : Option Grant) (n : ℕ) → q g ≡ true → (o ≡ Some g → 1 ≤ n) → cond b (Some h) o ≡ Some g → 1 ≤ cond (q h) 1 0 + n
counted_by q h g true o n e rest k =
    let same : h ≡ g = cc in
    let here : q h ≡ true = subst (λ (x : Grant). q x ≡ true) (sym same) e in
    rw here (omega arith)
counted_by q h g false o n e rest k = let le : 1 ≤ n = rest k in omega arith

found_counts : (p q : Grant → Bool) (grants : List Grant) (g : Grant) → find p grants ≡ Some g → q g ≡ true → 1 ≤ count_by q grants
found_counts p q [] g e k = cc
found_counts p q (h ∷ grants) g e k = rw (count-cons q h grants) (counted_by q h g (p h) (find p grants) (count_by q grants) k (λ f. found_counts p q grants g f k) e)

-- a grant that one search finds is what another finds, where it alone passes the other's test
only_by : (q : Grant → Bool) (h g : Grant) (b t : Bool) (o r : Option Grant) (n : ℕ) → q h ≡ t → q g ≡ true → cond t 1 0 + n ≤ 1
    → (o ≡ Some g → 1 ≤ n) → (n ≤ 1 → o ≡ Some g → r ≡ Some g) → cond b (Some h) o ≡ Some g → cond t (Some h) r ≡ Some g
only_by q h g true true o r n e k le counts rest f = f
only_by q h g true false o r n e k le counts rest f = let same : h ≡ g = cc in absurd (both_ways (q h) e (subst (λ (x : Grant). q x ≡ true) (sym same) k))
only_by q h g false true o r n e k le counts rest f = let some : 1 ≤ n = counts f in absurd (omega arith)
only_by q h g false false o r n e k le counts rest f = rest (omega arith) f

pub only_found : (p q : Grant → Bool) (grants : List Grant) (g : Grant) → count_by q grants ≤ 1 → q g ≡ true → find p grants ≡ Some g → find q grants ≡ Some g
only_found p q [] g le k e = cc
only_found p q (h ∷ grants) g le k e =
    only_by q h g (p h) (q h) (find p grants) (find q grants) (count_by q grants) refl k (rw (count-cons q h grants) at le)
    (λ f. found_counts p q grants g f k) (λ less f. only_found p q grants g less k f) e

same_map_self : (m : MapId) → same_map m m ≡ true
same_map_self m = grind (arith, nat_tests)

same_maps : (m n k : MapId) → same_map n m ≡ true → same_map k m ≡ true → same_map k n ≡ true
same_maps m n k e f = grind (arith, nat_tests)

-- the grant that serves a place is the only one there, and its mapping's
pub one_grant : (ram : ℕ) (grants : List Grant) (c : ChanNo) (x : ℕ) (g : Grant) → IsGrants ram grants → served_by grants c x ≡ Some g → OneGrant grants x g
one_grant ram grants c x g is e =
    let serving : serves c x g ≡ true = found_passes (serves c x) grants g e in
    let here : find (has_device x) grants ≡ Some g = only_found (serves c x) (has_device x) grants g (is.apart x) (and_parts _ _ serving).1 e in
    record {
      device = here;
      stands = ap (λ o. place_through o x) here;
      mapping = only_found (serves c x) (is_of g.id) grants g (is.ids g.id) (same_map_self g.id) e;
    }

-- one more at the end
count-push : (p : Grant → Bool) (grants : List Grant) (g : Grant) → count_by p (grants ++ g ∷ []) ≡ count_by p grants + cond (p g) 1 0
count-push p grants g = sum_by_push (λ h. cond (p h) 1 0) grants g

none_by : (b c : Bool) (n : ℕ) → (b ≡ true → c ≡ true) → (c ≡ false) → n ≡ 0 → cond b 1 0 + n ≡ 0
none_by true c n i e z = absurd (both_ways c e (i refl))
none_by false c n i e z = omega arith

count_none : (p q : Grant → Bool) (grants : List Grant) → ((h : Grant) → p h ≡ true → q h ≡ true) → list_any q grants ≡ false → count_by p grants ≡ 0
count_none p q [] i e = refl
count_none p q (h ∷ grants) i e =
    let parts = or_parts (q h) (list_any q grants) e in
    count-cons p h grants ∙ none_by (p h) (q h) (count_by p grants) (i h) parts.0 (count_none p q grants i parts.1)

at_most_by : (b : Bool) (n : ℕ) → n ≤ 1 → (b ≡ true → n ≡ 0) → n + cond b 1 0 ≤ 1
at_most_by true n le z = omega (arith, z refl)
at_most_by false n le z = omega arith

fit-push : (ram : ℕ) (grants : List Grant) (g : Grant) → AllFit ram grants → FitsIn ram g → AllFit ram (grants ++ g ∷ [])
fit-push ram [] g all fits = (fits, tt)
fit-push ram (h ∷ grants) g all fits = (all.0, fit-push ram grants g all.1 fits)

pub grants-push : (ram : ℕ) (grants : List Grant) (g : Grant) → IsGrants ram grants → CanAdd ram grants g → IsGrants ram (grants ++ g ∷ [])
grants-push ram grants g is can = record {
  fit = fit-push ram grants g is.fit can.fits;
  apart = λ x. rw (count-push (has_device x) grants g) (at_most_by (has_device x g) (count_by (has_device x) grants) (is.apart x) (λ e. count_none (has_device x) (has_device x) grants (λ h k. k) (can.apart x e)));
  ids = λ m. rw (count-push (is_of m) grants g) (at_most_by (is_of m g) (count_by (is_of m) grants) (is.ids m) (λ e. count_none (is_of m) (is_of g.id) grants (λ h k. same_maps m g.id h.id e k) can.id));
}

-- and without some
fit_by : (ram : ℕ) (g : Grant) (b : Bool) (grants : List Grant) → FitsIn ram g → AllFit ram grants → AllFit ram (cond b (g ∷ grants) grants)
fit_by ram g true grants f all = (f, all)
fit_by ram g false grants f all = all

fit-filter : (ram : ℕ) (p : Grant → Bool) (grants : List Grant) → AllFit ram grants → AllFit ram (filter p grants)
fit-filter ram p [] all = tt
fit-filter ram p (g ∷ grants) all = fit_by ram g (p g) (filter p grants) all.0 (fit-filter ram p grants all.1)

count-filter : (p q : Grant → Bool) (grants : List Grant) → count_by q (filter p grants) ≤ count_by q grants
count-filter p q grants = omega (arith, sum_by-filter_both p (λ g. not (p g)) (λ _. refl) (λ g. cond (q g) 1 0) grants)

pub grants-without : (ram : ℕ) (grants : List Grant) (m : MapId) → IsGrants ram grants → IsGrants ram (without grants m)
grants-without ram grants m is = record {
  fit = fit-filter ram (λ g. not (is_of m g)) grants is.fit;
  apart = λ x. let less = count-filter (λ g. not (is_of m g)) (has_device x) grants in omega (arith, less, is.apart x);
  ids = λ k. let less = count-filter (λ g. not (is_of m g)) (is_of k) grants in omega (arith, less, is.ids k);
}

-- what is found in grants that fit, fits
fits_by : (ram : ℕ) (h g : Grant) (b : Bool) (o : Option Grant) → FitsIn ram h → (o ≡ Some g → FitsIn ram g) → cond b (Some h) o ≡ Some g → FitsIn ram g
fits_by ram h g true o f rest e = let same : h ≡ g = cc in subst (FitsIn ram) same f
fits_by ram h g false o f rest e = rest e

pub found_fits : (ram : ℕ) (p : Grant → Bool) (grants : List Grant) (g : Grant) → AllFit ram grants → find p grants ≡ Some g → FitsIn ram g
found_fits ram p [] g all e = cc
found_fits ram p (h ∷ grants) g all e = fits_by ram h g (p h) (find p grants) all.0 (found_fits ram p grants g all.1) e

pub no_grants : (ram : ℕ) → IsGrants ram []
no_grants ram = record { fit = tt; apart = λ x. omega arith; ids = λ m. omega arith }

pub stay_apart : (ram : ℕ) (grants : List Grant) → IsGrants ram grants → StayApart ram grants
stay_apart ram grants is = record { added = λ g can. grants-push ram grants g is can; removed = λ m. grants-without ram grants m is }
