-- What holds back an entry, one more entry at a time.
use Rattle.std.specs.Prelude.{◌&&◌, ◌||◌}
use Rattle.std.specs.List.{list_any}
use Rattle.std.proofs.Common.{◌≡◌, ℕ, ◌+◌, ◌<◌, Bool, true, false, List, [], ◌∷◌, ◌++◌, length, get_or, take, drop, inl, inr, refl, sym, ap, ◌∙◌, subst}
use Rattle.std.proofs.lemmas.List.{take_more, take-append-drop}
use Rattle.std.proofs.lemmas.Bool.{or_cases}
use Rattle.std.proofs.lemmas.List.Folds.{list_any-append}
use Rattle.nc_queue.specs.Entries.{in_set}
use Rattle.nc_queue.specs.Rules.{any_in, orders, held_back}
use Rattle.nc_queue.specs.declared.entry.Entry.{Entry}
use Rattle.nc_queue.specs.declared.entry.Entry.TheVariants.{Store, Cbo, Reg, Mail, Lend, Mark}

and_or : (a b c : Bool) → (a && c || c && b) ≡ (c && (a || b))
and_or true true true = refl
and_or true true false = refl
and_or true false true = refl
and_or true false false = refl
and_or false true true = refl
and_or false true false = refl
and_or false false true = refl
and_or false false false = refl

and_false : (c : Bool) → false ≡ (c && false)
and_false true = refl
and_false false = refl

or_swap : (a b c d : Bool) → ((a || b) || (c || d)) ≡ ((a || c) || (b || d))
or_swap true b c d = refl
or_swap false true true d = refl
or_swap false true false d = refl
or_swap false false c d = refl

or_false : (a : Bool) → (a || false) ≡ a
or_false true = refl
or_false false = refl

or_true : (a b : Bool) → a ≡ true → (a || b) ≡ true
or_true a b is = ap (λ t. t || b) is

or_more : (a b : Bool) → b ≡ true → (a || b) ≡ true
or_more true b is = refl
or_more false b is = is

-- a marker orders e behind one of these
pub orders-mark : (q : List Entry) (pred succ : ℕ) (e : Entry) → list_any (λ a. orders (Mark pred succ) a e) q ≡ (in_set e succ && any_in q pred)
orders-mark [] pred succ e = and_false (in_set e succ)
orders-mark (a ∷ q) pred succ e = ap (λ t. in_set a pred && in_set e succ || t) (orders-mark q pred succ e) ∙ and_or (in_set a pred) (any_in q pred) (in_set e succ)

-- what is false of each is true of none
pub none_of : (q : List Entry) → list_any (λ a. false) q ≡ false
none_of [] = refl
none_of (a ∷ q) = none_of q

-- no entry but a marker orders e behind another
pub orders_none : (q : List Entry) (m e : Entry) → ((pred succ : ℕ) → m ≡ Mark pred succ → ⊥) → false ≡ list_any (λ a. orders m a e) q
orders_none q (Store span bytes kind) e no_mark = sym (none_of q)
orders_none q (Cbo block op) e no_mark = sym (none_of q)
orders_none q (Reg chan off width value) e no_mark = sym (none_of q)
orders_none q (Mail buf to) e no_mark = sym (none_of q)
orders_none q (Lend label first count) e no_mark = sym (none_of q)
orders_none q (Mark pred succ) e no_mark = absurd (no_mark pred succ refl)

-- one more entry holds back e exactly where it is a marker that orders e behind one of those before it
pub held_back-push : (q : List Entry) (m e : Entry) → held_back (q ++ m ∷ []) e ≡ (held_back q e || list_any (λ a. orders m a e) q)
unfolding held_back
held_back-push [] m e = refl
held_back-push (a ∷ q) m e =
    let more : list_any (λ n. orders n a e) (q ++ m ∷ []) ≡ (list_any (λ n. orders n a e) q || (orders m a e || false)) = list_any-append (λ n. orders n a e) q (m ∷ []) in
    rw (more, held_back-push q m e, or_false (orders m a e)) (or_swap (list_any (λ n. orders n a e) q) (orders m a e) (held_back q e) (list_any (λ b. orders m b e) q))

-- what holds back e does so with more entries behind it
pub held_back-append : (p q : List Entry) (e : Entry) → held_back p e ≡ true → held_back (p ++ q) e ≡ true
unfolding held_back
held_back-append [] q e is = absurd cc
held_back-append (a ∷ p) q e is =
    rw (list_any-append (λ m. orders m a e) p q)
    (elim (or_cases (list_any (λ m. orders m a e) p) (held_back p e) is) [
      | inl here ↦ or_true _ _ (or_true _ _ here)
      | inr later ↦ or_more _ _ (held_back-append p q e later)
    ])

pub held_back_kept : (q : List Entry) (i : ℕ) (e : Entry) → held_back (take i q) e ≡ true → held_back q e ≡ true
held_back_kept q i e is = subst (λ (p : List Entry). held_back p e ≡ true) (take-append-drop i q) (held_back-append (take i q) (drop i q) e is)

held_back_more : (q : List Entry) (j : ℕ) (d e : Entry) → j < length q → held_back (take (j + 1) q) e ≡ (held_back (take j q) e || list_any (λ a. orders (get_or q j d) a e) (take j q))
held_back_more q j d e lt = rw (take_more q j d lt) (held_back-push (take j q) (get_or q j d) e)

by_same : (p : List Entry) (m n e : Entry) (r : Bool) → m ≡ n → r ≡ list_any (λ a. orders m a e) p → r ≡ list_any (λ a. orders n a e) p
by_same p m n e r same by = subst (λ (k : Entry). r ≡ list_any (λ a. orders k a e) p) same by

-- the entry at j holds back e, or does not
pub held_by : (q : List Entry) (j : ℕ) (m e : Entry) (r : Bool) → j < length q → m ≡ get_or q j m → r ≡ list_any (λ a. orders m a e) (take j q) → r ≡ true → true ≡ held_back q e
held_by q j m e r lt at by is =
    let here = by_same (take j q) m (get_or q j m) e r at by in
    sym (held_back_kept q (j + 1) e (held_back_more q j m e lt ∙ or_more _ _ (sym here ∙ is)))

pub not_held_by : (q : List Entry) (j : ℕ) (m e : Entry) (r : Bool) → j < length q → held_back (take j q) e ≡ false → m ≡ get_or q j m → r ≡ list_any (λ a. orders m a e) (take j q) → r ≡ false → held_back (take (j + 1) q) e ≡ false
not_held_by q j m e r lt so_far at by is =
    let here = by_same (take j q) m (get_or q j m) e r at by in
    held_back_more q j m e lt ∙ ap (λ t. t || list_any (λ a. orders (get_or q j m) a e) (take j q)) so_far ∙ (sym here ∙ is)

pub held_none : (e : Entry) → held_back [] e ≡ false
unfolding held_back
held_none e = refl
