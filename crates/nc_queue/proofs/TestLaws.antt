-- Which entries a queue has, by a test, after a push, after a drain and in its parts.
use Rattle.std.specs.Prelude.{Some, slice_get, remove, ◌&&◌, filter}
use Rattle.std.specs.List.{list_any}
use Rattle.std.proofs.Common.{◌≡◌, ℕ, zero, suc, Bool, true, false, List, [], ◌∷◌, ◌++◌, take, drop, refl, sym, ap, ◌∙◌, inl, inr, subst, cond}
use Rattle.std.proofs.lemmas.Bool.{or_parts, or_from, or_left, or_right, or_cases, and_from, cases_Bool, both_ways, cond-true, cond-false}
use Rattle.std.proofs.lemmas.List.Folds.{list_any-append}
use Rattle.std.proofs.lemmas.List.Elements.{filter-append}
use Rattle.nc_queue.specs.Entries.{is_w, is_o, in_set, has_w, has_o}
use Rattle.nc_queue.specs.declared.entry.Entry.{Entry}

pub none-push : (p : Entry → Bool) (q : List Entry) (e : Entry) → list_any p q ≡ false → p e ≡ false → list_any p (q ++ e ∷ []) ≡ false
none-push p [] e lacks ne = or_from (p e) false ne refl
none-push p (a ∷ q) e lacks ne = let parts = or_parts (p a) (list_any p q) lacks in or_from (p a) (list_any p (q ++ e ∷ [])) parts.0 (none-push p q e parts.1 ne)

pub none-remove : (p : Entry → Bool) (q : List Entry) (i : ℕ) → list_any p q ≡ false → list_any p (remove q i) ≡ false
none-remove p [] zero lacks = refl
none-remove p [] (suc i) lacks = refl
none-remove p (a ∷ q) zero lacks = (or_parts (p a) (list_any p q) lacks).1
none-remove p (a ∷ q) (suc i) lacks = let parts = or_parts (p a) (list_any p q) lacks in or_from (p a) (list_any p (remove q i)) parts.0 (none-remove p q i parts.1)

pub none_at : (p : Entry → Bool) (q : List Entry) (i : ℕ) (e : Entry) → list_any p q ≡ false → slice_get q i ≡ Some e → p e ≡ false
none_at p [] i e lacks is = absurd cc
none_at p (a ∷ q) zero e lacks is = let same : a ≡ e = cc in subst (λ (b : Entry). p b ≡ false) same (or_parts (p a) (list_any p q) lacks).0
none_at p (a ∷ q) (suc i) e lacks is = none_at p q i e (or_parts (p a) (list_any p q) lacks).1 is

-- none before an entry and none behind it
pub none-sides : (p : Entry → Bool) (q : List Entry) (i : ℕ) → list_any p (take i q) ≡ false → list_any p (drop (suc i) q) ≡ false → list_any p (remove q i) ≡ false
none-sides p q i before behind = list_any-append p (take i q) (drop (suc i) q) ∙ or_from (list_any p (take i q)) (list_any p (drop (suc i) q)) before behind

-- an entry that is not of the test leaves the others there
pub some-remove : (p : Entry → Bool) (q : List Entry) (i : ℕ) (e : Entry) → slice_get q i ≡ Some e → p e ≡ false → list_any p q ≡ true → list_any p (remove q i) ≡ true
some-remove p [] i e is lacks some = absurd cc
some-remove p (a ∷ q) zero e is lacks some =
    let same : a ≡ e = cc in
    elim (or_cases (p a) (list_any p q) some) [ inl here ↦ absurd (both_ways (p a) (subst (λ (b : Entry). p b ≡ false) (sym same) lacks) here) | inr later ↦ later ]
some-remove p (a ∷ q) (suc i) e is lacks some =
    elim (or_cases (p a) (list_any p q) some) [ inl here ↦ or_left (p a) (list_any p (remove q i)) here | inr later ↦ or_right (p a) (list_any p (remove q i)) (some-remove p q i e is lacks later) ]

-- a wider test
pub none_of_class : (p t : Entry → Bool) → ((e : Entry) → p e ≡ true → t e ≡ true) → (q : List Entry) → list_any t q ≡ false → list_any p q ≡ false
none_of_class p t wider [] lacks = refl
none_of_class p t wider (a ∷ q) lacks =
    let parts = or_parts (t a) (list_any t q) lacks in
    let here : p a ≡ false = elim (cases_Bool (p a)) [ inl is ↦ absurd (both_ways (t a) parts.0 (wider a is)) | inr not_so ↦ not_so ] in
    or_from (p a) (list_any p q) here (none_of_class p t wider q parts.1)

pub some_of_class : (p t : Entry → Bool) → ((e : Entry) → p e ≡ true → t e ≡ true) → (q : List Entry) → list_any p q ≡ true → list_any t q ≡ true
some_of_class p t wider [] is = absurd cc
some_of_class p t wider (a ∷ q) is =
    elim (or_cases (p a) (list_any p q) is) [ inl here ↦ or_left (t a) (list_any t q) (wider a here) | inr later ↦ or_right (t a) (list_any t q) (some_of_class p t wider q later) ]

-- the classes of a set
pub in_set-w : (e : Entry) (set : ℕ) → is_w e ≡ true → has_w set ≡ true → in_set e set ≡ true
in_set-w e set w has = or_left (is_w e && has_w set) (is_o e && has_o set) (and_from (is_w e) (has_w set) w has)

pub in_set-o : (e : Entry) (set : ℕ) → is_o e ≡ true → has_o set ≡ true → in_set e set ≡ true
in_set-o e set o has = or_right (is_w e && has_w set) (is_o e && has_o set) (and_from (is_o e) (has_o set) o has)

-- the entries of a test, in order
pub filter-push : (p : Entry → Bool) (q : List Entry) (e : Entry) → p e ≡ true → filter p (q ++ e ∷ []) ≡ filter p q ++ e ∷ []
filter-push p q e is = filter-append p q (e ∷ []) ∙ ap (λ (r : List Entry). filter p q ++ r) (cond-true (p e) (e ∷ []) [] is)

pub filter-push_other : (p : Entry → Bool) (q : List Entry) (e : Entry) → p e ≡ false → filter p (q ++ e ∷ []) ≡ filter p q ++ []
filter-push_other p q e is = filter-append p q (e ∷ []) ∙ ap (λ (r : List Entry). filter p q ++ r) (cond-false (p e) (e ∷ []) [] is)

pub filter-remove_first : (p : Entry → Bool) (q : List Entry) (i : ℕ) (e : Entry) → slice_get q i ≡ Some e → p e ≡ true → list_any p (take i q) ≡ false → filter p q ≡ e ∷ filter p (remove q i)
filter-remove_first p [] i e is pe first = absurd cc
filter-remove_first p (a ∷ q) zero e is pe first =
    let same : a ≡ e = cc in
    cond-true (p a) (a ∷ filter p q) (filter p q) (subst (λ (b : Entry). p b ≡ true) (sym same) pe) ∙ ap (λ (b : Entry). b ∷ filter p q) same
filter-remove_first p (a ∷ q) (suc i) e is pe first =
    let parts = or_parts (p a) (list_any p (take i q)) first in
    cond-false (p a) (a ∷ filter p q) (filter p q) parts.0 ∙ filter-remove_first p q i e is pe parts.1
    ∙ ap (λ (r : List Entry). e ∷ r) (sym (cond-false (p a) (a ∷ filter p (remove q i)) (filter p (remove q i)) parts.0))

pub filter-remove_other : (p : Entry → Bool) (q : List Entry) (i : ℕ) (e : Entry) → slice_get q i ≡ Some e → p e ≡ false → filter p (remove q i) ≡ filter p q
filter-remove_other p [] i e is lacks = absurd cc
filter-remove_other p (a ∷ q) zero e is lacks =
    let same : a ≡ e = cc in sym (cond-false (p a) (a ∷ filter p q) (filter p q) (subst (λ (b : Entry). p b ≡ false) (sym same) lacks))
filter-remove_other p (a ∷ q) (suc i) e is lacks = ap (λ (r : List Entry). cond (p a) (a ∷ r) r) (filter-remove_other p q i e is lacks)
