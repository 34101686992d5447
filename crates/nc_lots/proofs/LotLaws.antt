-- The laws of lots: one that is changed in its place, and a slot that is given and taken away again.
use Rattle.std.proofs.Common.{◌≡◌, ℕ, zero, suc, ◌+◌, ◌<◌, Bool, true, false, List, [], ◌∷◌, ◌++◌, map, length, take, drop, refl, sym, ap, ◌∙◌, arith, Some, None, position}
use Rattle.std.specs.Prelude.{if◌then◌else◌, slice_set, slice_index_or, not, ◌||◌, ◌&&◌, is_none, Option, cond}
use Rattle.std.specs.List.{position_or_len}
use Rattle.std.proofs.lemmas.Grind.{common_steps}
use Rattle.std.proofs.lemmas.List.Quantifiers.{position-Some}
use Rattle.nc_sg.specs.declared.list.Entry.{Entry}
use Rattle.nc_sg.specs.Lists.{waits, next_waiting, give_slot, slot_taken, forgotten}
use Rattle.nc_rules.specs.declared.lots.Lot.{Lot}
use Rattle.nc_rules.specs.Lots.{lot_waits, some_lot_waits, with_slot, slot_given}
use Rattle.nc_lots.specs.Spots.{entries_at, without_entry, without_at}

-- ---- one more is changed

changes_more : {A : Type 0} (f : A → A) (xs : List A) (i : ℕ) (d : A) → i < length xs
    → slice_set (map f (take i xs) ++ drop i xs) i (f (slice_index_or (map f (take i xs) ++ drop i xs) i d)) ≡ map f (take (suc i) xs) ++ drop (suc i) xs
changes_more f [] i d lt = absurd (omega arith)
changes_more f (x ∷ xs) zero d lt = refl
changes_more f (x ∷ xs) (suc i) d lt = ap (λ ys. f x ∷ ys) (changes_more f xs i d (omega arith))

pub changes_at : {A : Type 0} (f : A → A) (xs now : List A) (i : ℕ) (v w : A) → now ≡ map f (take i xs) ++ drop i xs → i < length xs → v ≡ slice_index_or now i v → w ≡ f v
    → slice_set now i w ≡ map f (take (i + 1) xs) ++ drop (i + 1) xs
changes_at f xs now i v w is lt e to =
    let one : suc i ≡ i + 1 = omega arith in
    ap (λ u. slice_set now i u) (to ∙ ap f e) ∙ ap (λ ys. slice_set ys i (f (slice_index_or ys i v))) is ∙ changes_more f xs i v lt ∙ ap (λ n. map f (take n xs) ++ drop n xs) one

-- ---- a slot that is taken away again

no_slot : (b : Bool) (s : Option ℕ) → (b && is_none s) ≡ true → s ≡ None
no_slot true None h = refl
no_slot true (Some k) h = absurd (cc h)
no_slot false s h = absurd (cc h)

given_entry : (k : ℕ) (e : Entry) → waits e ≡ true → forgotten (record e { slot = Some k }) ≡ e
given_entry k e h = ap (λ (s : Option ℕ). record e { slot = s }) (sym (no_slot e.bounced e.slot h))

taken_given : (k : ℕ) (es : List Entry) (i : ℕ) (d : Entry) → i < length es → waits (slice_index_or es i d) ≡ true → ((j : ℕ) → j < i → waits (slice_index_or es j d) ≡ false)
    → slot_taken i (give_slot k es) ≡ es
taken_given k [] i d lt h before = refl
taken_given k (e ∷ es) zero d lt h before = rw h (ap (λ f. f ∷ es) (given_entry k e h))
taken_given k (e ∷ es) (suc i) d lt h before =
    let first : waits e ≡ false = before zero (omega arith) in
    rw first (ap (λ ys. e ∷ ys) (taken_given k es i d (omega arith) h (λ j lt'. before (suc j) (omega arith))))

given_length : (k : ℕ) (e : Entry) (es : List Entry) (b : Bool) → length (give_slot k es) ≡ length es → length (if b then record e { slot = Some k } ∷ es else e ∷ give_slot k es) ≡ suc (length es)
given_length k e es true h = refl
given_length k e es false h = ap suc h

length-given : (k : ℕ) (es : List Entry) → length (give_slot k es) ≡ length es
length-given k [] = refl
length-given k (e ∷ es) = given_length k e es (waits e) (length-given k es)

-- of the first entry that waits

pub given_back : (k : ℕ) (es : List Entry) (i : ℕ) → next_waiting es ≡ Some i → slot_taken i (give_slot k es) ≡ es
given_back k es i found =
    let d : Entry = record { span = record { at = 0; len = 0 }; bounced = false; slot = None } in
    let p = position-Some waits es i d found in
    taken_given k es i d p.0 p.1 p.2

pub given_there : (k : ℕ) (es : List Entry) (i : ℕ) → next_waiting es ≡ Some i → i < length (give_slot k es)
given_there k es i found =
    let d : Entry = record { span = record { at = 0; len = 0 }; bounced = false; slot = None } in
    let p = position-Some waits es i d found in
    omega (arith, length-given k es, p.0)

-- ---- a lot in its place

pub entries-set : (lots : List Lot) (i : ℕ) (w : Lot) → i < length lots → entries_at i (slice_set lots i w) ≡ w.list.entries
entries-set [] i w lt = absurd (omega arith)
entries-set (lot ∷ lots) zero w lt = refl
entries-set (lot ∷ lots) (suc i) w lt = entries-set lots i w (omega arith)

-- a lot that was read where it stands
pub entries-read : (lots : List Lot) (i : ℕ) (v : Lot) → v ≡ slice_index_or lots i v → i < length lots → entries_at i lots ≡ v.list.entries
entries-read [] i v e lt = absurd (omega arith)
entries-read (lot ∷ lots) zero v e lt = ap (λ (u : Lot). u.list.entries) (sym e)
entries-read (lot ∷ lots) (suc i) v e lt = entries-read lots i v e (omega arith)

-- where a lot has entries there is one
pub spot_within : (lots : List Lot) (i j : ℕ) → j < length (entries_at i lots) → i < length lots
spot_within [] i j lt = absurd (omega arith)
spot_within (lot ∷ lots) zero j lt = omega arith
spot_within (lot ∷ lots) (suc i) j lt = let h = spot_within lots i j lt in omega (arith, h)

pub without-set : (lots : List Lot) (i j : ℕ) (v : Lot) → v ≡ slice_index_or lots i v → i < length lots → slice_set lots i (without_entry j v) ≡ without_at i j lots
without-set [] i j v e lt = absurd (omega arith)
without-set (lot ∷ lots) zero j v e lt = ap (λ u. without_entry j u ∷ lots) e
without-set (lot ∷ lots) (suc i) j v e lt = ap (λ ys. lot ∷ ys) (without-set lots i j v e (omega arith))

pub set-without : (lots : List Lot) (i j : ℕ) (v w : Lot) → v ≡ slice_index_or lots i v → i < length lots → without_entry j w ≡ v → without_at i j (slice_set lots i w) ≡ lots
set-without [] i j v w e lt back = absurd (omega arith)
set-without (lot ∷ lots) zero j v w e lt back = ap (λ u. u ∷ lots) (back ∙ e)
set-without (lot ∷ lots) (suc i) j v w e lt back = ap (λ ys. lot ∷ ys) (set-without lots i j v w e (omega arith) back)

-- ---- the first lot that waits

slot_to : (k : ℕ) (lots : List Lot) (i : ℕ) (v : Lot) → v ≡ slice_index_or lots i v → i < length lots → lot_waits (slice_index_or lots i v) ≡ true
    → ((j : ℕ) → j < i → lot_waits (slice_index_or lots j v) ≡ false) → slice_set lots i (with_slot k v) ≡ slot_given k lots
slot_to k [] i v e lt h before = absurd (omega arith)
slot_to k (lot ∷ lots) zero v e lt h before = rw h (ap (λ u. with_slot k u ∷ lots) e)
slot_to k (lot ∷ lots) (suc i) v e lt h before =
    let first : lot_waits lot ≡ false = before zero (omega arith) in
    rw first (ap (λ ys. lot ∷ ys) (slot_to k lots i v e (omega arith) h (λ j lt'. before (suc j) (omega arith))))

-- it gets the slot
pub gives_at : (k : ℕ) (lots : List Lot) (i : ℕ) (v w : Lot) → position lot_waits lots ≡ Some i → v ≡ slice_index_or lots i v → w ≡ with_slot k v → slice_set lots i w ≡ slot_given k lots
gives_at k lots i v w found e to =
    let p = position-Some lot_waits lots i v found in
    ap (λ u. slice_set lots i u) to ∙ slot_to k lots i v e p.0 p.1 p.2

pub waits_at : (lots : List Lot) (i : ℕ) (v : Lot) → position lot_waits lots ≡ Some i → v ≡ slice_index_or lots i v → lot_waits v ≡ true
waits_at lots i v found e = let p = position-Some lot_waits lots i v found in ap lot_waits e ∙ p.1

pub first_within : (lots : List Lot) (i : ℕ) (d : Lot) → position lot_waits lots ≡ Some i → i < length lots
first_within lots i d found = (position-Some lot_waits lots i d found).0

within_by : (b : Bool) (lots : List Lot) → (some_lot_waits lots ≡ true → position_or_len lot_waits lots < length lots) → (b || some_lot_waits lots) ≡ true
    → cond {A = ℕ} (not b) (1 + position_or_len lot_waits lots) 0 < suc (length lots)
within_by true lots more h = omega arith
within_by false lots more h = let lt : position_or_len lot_waits lots < length lots = more h in omega (arith, lt)

waits_within : (lots : List Lot) → some_lot_waits lots ≡ true → position_or_len lot_waits lots < length lots
waits_within [] h = absurd (cc h)
waits_within (lot ∷ lots) h = within_by (lot_waits lot) lots (waits_within lots) h

-- where some lot waits, one is the first
pub some_waits : (lots : List Lot) → some_lot_waits lots ≡ true → position lot_waits lots ≡ None → ⊥
some_waits lots h none = let lt : position_or_len lot_waits lots < length lots = waits_within lots h in grind (arith, common_steps)
