-- How many times a slot stands in lists, and slot words that are given back one after another.
use Rattle.std.proofs.Common.{◌≡◌, ℕ, suc, ◌+◌, Bool, true, false, List, [], ◌∷◌, ◌++◌, length, flat_map, refl, sym, ◌∙◌, subst, arith, cond, inl, inr, Option, Some, None}
use Rattle.std.specs.Prelude.{count_by, filter, not, is_none, ◌==◌, ◌||◌, ◌≢◌, if◌then◌else◌, slice_set}
use Rattle.std.specs.List.{list_any, cons_option}
use Rattle.std.proofs.lemmas.Bool.{and_parts, cases_eq, false≢true, cases_lt}
use Rattle.std.proofs.lemmas.Bool.Decides.{nat_tests}
use Rattle.std.proofs.lemmas.List.Sums.{sum_by-append, sum_by-cons}
use Rattle.std.proofs.lemmas.List.{get_or-set_same, get_or-set_other, get_or_past, length-set}
use Rattle.nc_num.specs.declared.names.HartNo.{HartNo}
use Rattle.nc_sg.specs.declared.list.Entry.{Entry}
use Rattle.nc_sg.specs.Lists.{waits, give_slot, held}
use Rattle.nc_slots.specs.SlotWords.{holder_of}
use Rattle.nc_rules.specs.declared.lots.Lot.{Lot}
use Rattle.nc_rules.specs.declared.lots.LotId.{LotId}
use Rattle.nc_rules.specs.declared.lots.Side.{Side}
use Rattle.nc_rules.specs.Lots.{is_lot, lot_waits, some_lot_waits, with_slot, slot_given, slots_held}
use Rattle.nc_rules.specs.Turns.{set_side}
use Rattle.nc_rules.specs.World.{slots_back}
use Rattle.nc_scripts.proofs.Lists.{position_any}
use Rattle.nc_holds.specs.Held.{times_held, is_holder}
use Rattle.nc_holds.specs.Holds.{AreBack}

-- ---- counts

abbrev pub times : ℕ → List ℕ → ℕ
times w ks = count_by (λ k. k == w) ks

pub times-append : (w : ℕ) (xs ys : List ℕ) → times w (xs ++ ys) ≡ times w xs + times w ys
times-append w xs ys = sum_by-append (λ k. cond (k == w) 1 0) xs ys

pub times-cons : (w k : ℕ) (ks : List ℕ) → times w (k ∷ ks) ≡ cond (k == w) 1 0 + times w ks
times-cons w k ks = sum_by-cons (λ k. cond (k == w) 1 0) k ks

pub times_join : (w : ℕ) (lots more : List Lot) → times_held w (lots ++ more) ≡ times_held w lots + times_held w more
times_join w [] more = omega arith
times_join w (lot ∷ lots) more =
    omega (arith, times_join w lots more, times-append w (slots_held lot) (flat_map slots_held (lots ++ more)), times-append w (slots_held lot) (flat_map slots_held lots))

split_by : (w : ℕ) (lot : Lot) (t : Bool) (passing others lots : List Lot) → times_held w lots ≡ times_held w passing + times_held w others
    → times_held w (lot ∷ lots) ≡ times_held w (cond t (lot ∷ passing) passing) + times_held w (cond (not t) (lot ∷ others) others)
split_by w lot true passing others lots e = omega (arith, e, times-append w (slots_held lot) (flat_map slots_held lots), times-append w (slots_held lot) (flat_map slots_held passing))
split_by w lot false passing others lots e = omega (arith, e, times-append w (slots_held lot) (flat_map slots_held lots), times-append w (slots_held lot) (flat_map slots_held others))

-- those that pass a test, and those that do not
pub times_split : (w : ℕ) (p : Lot → Bool) (lots : List Lot) → times_held w lots ≡ times_held w (filter p lots) + times_held w (filter (λ lot. not (p lot)) lots)
times_split w p [] = omega arith
times_split w p (lot ∷ lots) = split_by w lot (p lot) (filter p lots) (filter (λ l. not (p l)) lots) lots (times_split w p lots)

side_by : (side : Side) (lot : Lot) (t : Bool) → slots_held (if t then record lot { side = side } else lot) ≡ slots_held lot
side_by side lot true = refl
side_by side lot false = refl

-- a side changes no slot
pub slots_sided : (side : Side) (id : LotId) (lots : List Lot) → flat_map slots_held (set_side side id lots) ≡ flat_map slots_held lots
slots_sided side id [] = refl
slots_sided side id (lot ∷ lots) = λ i. side_by side lot (is_lot id lot) i ++ slots_sided side id lots i

-- ---- a slot that is given

abbrev one_of : ℕ → ℕ → ℕ
one_of k w = cond (k == w) 1 0

times_option : (w : ℕ) (o : Option ℕ) (ks ls : List ℕ) (n : ℕ) → times w ks ≡ times w ls + n → times w (cons_option o ks) ≡ times w (cons_option o ls) + n
times_option w None ks ls n e = e
times_option w (Some k) ks ls n e = omega (arith, e, times-cons w k ks, times-cons w k ls)

no_slot : (w : ℕ) (o : Option ℕ) (ks : List ℕ) → is_none o ≡ true → times w (cons_option o ks) ≡ times w ks
no_slot w None ks e = refl
no_slot w (Some k) ks e = absurd (false≢true e)

or_right : (a b : Bool) → a ≡ false → (a || b) ≡ true → b ≡ true
or_right true b e h = absurd (false≢true (sym e))
or_right false b e h = h

give_by : (w k : ℕ) (e : Entry) (es : List Entry) (t : Bool) → waits e ≡ t → (t ≡ false → times w (held (give_slot k es)) ≡ times w (held es) + one_of k w)
    → times w (held (if t then record e { slot = Some k } ∷ es else e ∷ give_slot k es)) ≡ times w (held (e ∷ es)) + one_of k w
give_by w k e es true is more = omega (arith, times-cons w k (held es), no_slot w e.slot (held es) (and_parts e.bounced (is_none e.slot) is).1)
give_by w k e es false is more = times_option w e.slot (held (give_slot k es)) (held es) (one_of k w) (more refl)

times_give : (w k : ℕ) (es : List Entry) → list_any waits es ≡ true → times w (held (give_slot k es)) ≡ times w (held es) + one_of k w
times_give w k [] any = absurd (false≢true any)
times_give w k (e ∷ es) any = give_by w k e es (waits e) refl (λ off. times_give w k es (or_right (waits e) (list_any waits es) off any))

given_by : (w k : ℕ) (lot : Lot) (lots : List Lot) (t : Bool) → lot_waits lot ≡ t → (t ≡ false → times_held w (slot_given k lots) ≡ times_held w lots + one_of k w)
    → times_held w (if t then with_slot k lot ∷ lots else lot ∷ slot_given k lots) ≡ times_held w (lot ∷ lots) + one_of k w
given_by w k lot lots true is more =
    omega (arith, times_give w k lot.list.entries (sym (position_any waits lot.list.entries) ∙ is), times-append w (slots_held (with_slot k lot)) (flat_map slots_held lots), times-append w (slots_held lot) (flat_map slots_held lots))
given_by w k lot lots false is more =
    omega (arith, more refl, times-append w (slots_held lot) (flat_map slots_held (slot_given k lots)), times-append w (slots_held lot) (flat_map slots_held lots))

pub times_given : (w k : ℕ) (lots : List Lot) → some_lot_waits lots ≡ true → times_held w (slot_given k lots) ≡ times_held w lots + cond (k == w) 1 0
times_given w k [] any = absurd (false≢true any)
times_given w k (lot ∷ lots) any = given_by w k lot lots (lot_waits lot) refl (λ off. times_given w k lots (or_right (lot_waits lot) (some_lot_waits lots) off any))

-- ---- words

-- 1 where the word is the hart's
abbrev pub counted : HartNo → List (Option HartNo) → ℕ → ℕ
counted h slots w = if is_holder h (holder_of slots w) then 1 else 0

pub same_hart : (h : HartNo) (o : Option HartNo) → is_holder h o ≡ true → o ≡ Some h
same_hart h None e = absurd (false≢true e)
same_hart h (Some g) e = let n : g.0 ≡ h.0 = grind (arith, nat_tests) in λ i. Some (record { 0 = n i })

pub own_hart : (h : HartNo) → is_holder h (Some h) ≡ true
own_hart h = grind (arith, nat_tests)

pub other_hart : (g h : HartNo) → g.0 ≢ h.0 → is_holder g (Some h) ≡ false
other_hart g h ne = grind (arith, nat_tests)

pub self : (k : ℕ) → (k == k) ≡ true
self k = grind (arith, nat_tests)

pub differs : (k w : ℕ) → w ≢ k → (k == w) ≡ false
differs k w ne = grind (arith, nat_tests)

pub freed : (slots : List (Option HartNo)) (k : ℕ) → holder_of (slice_set slots k None) k ≡ None
freed slots k = elim (cases_lt k (length slots)) [
  | inl lt ↦ get_or-set_same slots k None None lt
  | inr past ↦ get_or_past (slice_set slots k None) k None (omega (arith, length-set slots k None, past))
]

pub kept : (slots : List (Option HartNo)) (k w : ℕ) (o : Option HartNo) → w ≢ k → holder_of (slice_set slots k o) w ≡ holder_of slots w
kept slots k w o ne = get_or-set_other slots k w o None ne

holds_by : (t : Bool) (m n : ℕ) → suc m + n ≡ (if t then 1 else 0) → (t ≡ true) × (m + n ≡ 0)
holds_by true m n e = (refl, omega (arith, e))
holds_by false m n e = absurd (omega (arith, e))

-- what a hart's words say where slots that are given back stand once
abbrev pub Counts : HartNo → List (Option HartNo) → List ℕ → (ℕ → ℕ) → Type 0
Counts h slots ks rest = (w : ℕ) → times w ks + rest w ≡ counted h slots w

first_held : (h : HartNo) (slots : List (Option HartNo)) (k : ℕ) (ks : List ℕ) (rest : ℕ → ℕ) → Counts h slots (k ∷ ks) rest → (is_holder h (holder_of slots k) ≡ true) × (times k ks + rest k ≡ 0)
first_held h slots k ks rest all =
    let one : times k (k ∷ ks) ≡ suc (times k ks) = times-cons k k ks ∙ rw (self k) (omega arith) in
    let here = all k in
    holds_by (is_holder h (holder_of slots k)) (times k ks) (rest k) (subst (λ n. n + rest k ≡ counted h slots k) one here)

-- the word is free then, and each other stays
less_by : (h : HartNo) (slots : List (Option HartNo)) (k : ℕ) (ks : List ℕ) (rest : ℕ → ℕ) → Counts h slots (k ∷ ks) rest → Counts h (slice_set slots k None) ks rest
less_by h slots k ks rest all w = elim (cases_eq w k) [
  | inl same ↦ subst (λ v. times v ks + rest v ≡ counted h (slice_set slots k None) v) (sym same) (rw (freed slots k) (first_held h slots k ks rest all).1)
  | inr ne ↦
      let none : times w (k ∷ ks) ≡ times w ks = times-cons w k ks ∙ rw (differs k w ne) (omega arith) in
      rw (kept slots k w None ne) (subst (λ n. n + rest w ≡ counted h slots w) none (all w))
]

pub backs_are : (h : HartNo) (slots : List (Option HartNo)) (ks : List ℕ) (rest : ℕ → ℕ) → Counts h slots ks rest → AreBack h slots ks × ((w : ℕ) → rest w ≡ counted h (slots_back slots ks) w)
backs_are h slots [] rest all = (tt, (λ w. omega (arith, all w)))
backs_are h slots (k ∷ ks) rest all =
    let more = backs_are h (slice_set slots k None) ks rest (less_by h slots k ks rest all) in
    ((same_hart h (holder_of slots k) (first_held h slots k ks rest all).0, more.0), more.1)

-- another hart's words stay
other_by : (g h : HartNo) (slots : List (Option HartNo)) (k w : ℕ) → g.0 ≢ h.0 → holder_of slots k ≡ Some h → is_holder g (holder_of (slice_set slots k None) w) ≡ is_holder g (holder_of slots w)
other_by g h slots k w ne is = elim (cases_eq w k) [
  | inl same ↦ subst (λ v. is_holder g (holder_of (slice_set slots k None) v) ≡ is_holder g (holder_of slots v)) (sym same) (rw (freed slots k, is) (sym (other_hart g h ne)))
  | inr off ↦ rw (kept slots k w None off) refl
]

pub others_stay : (g h : HartNo) (slots : List (Option HartNo)) (ks : List ℕ) (w : ℕ) → g.0 ≢ h.0 → AreBack h slots ks → is_holder g (holder_of (slots_back slots ks) w) ≡ is_holder g (holder_of slots w)
others_stay g h slots [] w ne back = refl
others_stay g h slots (k ∷ ks) w ne back = others_stay g h (slice_set slots k None) ks w ne back.1 ∙ other_by g h slots k w ne back.0

pub length-back : (slots : List (Option HartNo)) (ks : List ℕ) → length (slots_back slots ks) ≡ length slots
length-back slots [] = refl
length-back slots (k ∷ ks) = length-back (slice_set slots k None) ks ∙ length-set slots k None

pub back_join : (h : HartNo) (slots : List (Option HartNo)) (xs ys : List ℕ) → AreBack h slots xs → AreBack h (slots_back slots xs) ys → AreBack h slots (xs ++ ys)
back_join h slots [] ys a b = b
back_join h slots (x ∷ xs) ys a b = (a.0, back_join h (slice_set slots x None) xs ys a.1 b)
