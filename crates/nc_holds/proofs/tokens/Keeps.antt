-- Lots that stay lent where an operation makes others, gets a slot, or gives up.
use Rattle.std.specs.Prelude.{filter, not, ◌||◌, ◌≤◌, if◌then◌else◌}
use Rattle.std.specs.List.{list_any}
use Rattle.std.proofs.Common.{◌≡◌, ℕ, Bool, true, false, List, [], ◌∷◌, ◌++◌, length, refl, sym, ap, ◌∙◌, inl, inr, cond, arith}
use Rattle.std.proofs.lemmas.Bool.{cases_Bool, false≢true, or_cases, or_left, or_right}
use Rattle.std.proofs.lemmas.List.Folds.{list_any-append}
use Rattle.std.proofs.lemmas.List.Elements.{All-cons, All-head, All-tail, All-append}
use Rattle.nc_rules.specs.declared.lots.Lot.{Lot}
use Rattle.nc_rules.specs.declared.lots.LotId.{LotId}
use Rattle.nc_rules.specs.Lots.{is_lot, is_wanted, lot_waits, with_slot, slot_given}
use Rattle.nc_rules.specs.Turns.{without_wanted}
use Rattle.nc_scripts.specs.Drivers.{AreApart}
use Rattle.nc_scripts.proofs.Lists.{all_filtered}
use Rattle.nc_scripts.proofs.NewLots.{length-filter-join}
use Rattle.nc_holds.specs.Held.{AreLent}
use Rattle.nc_holds.specs.Tokens.{HasLent}
use Rattle.nc_holds.proofs.tokens.Lots.{IsLentSo, none_lent}

-- ---- giving up

left_by : (i : LotId) (lot : Lot) (lots nows : List Lot) (t : Bool) → is_wanted lot.side ≡ t → IsLentSo i lot → (list_any (is_lot i) lots ≡ true → list_any (is_lot i) nows ≡ true)
    → list_any (is_lot i) (lot ∷ lots) ≡ true → list_any (is_lot i) (cond (not t) (lot ∷ nows) nows) ≡ true
left_by i lot lots nows true e lent more has = elim (or_cases (is_lot i lot) (list_any (is_lot i) lots) has) [
  | inl here ↦ absurd (false≢true (sym (lent here) ∙ e))
  | inr later ↦ more later
]
left_by i lot lots nows false e lent more has = elim (or_cases (is_lot i lot) (list_any (is_lot i) lots) has) [
  | inl here ↦ or_left (is_lot i lot) (list_any (is_lot i) nows) here
  | inr later ↦ or_right (is_lot i lot) (list_any (is_lot i) nows) (more later)
]

left_there : (i : LotId) (lots : List Lot) → AreLent lots i → list_any (is_lot i) lots ≡ true → list_any (is_lot i) (without_wanted lots) ≡ true
left_there i [] all has = has
left_there i (lot ∷ lots) all has =
    left_by i lot lots (without_wanted lots) (is_wanted lot.side) refl (All-head (IsLentSo i) lot lots all) (left_there i lots (All-tail (IsLentSo i) lot lots all)) has

pub left_has : (lots : List Lot) (i : LotId) → HasLent lots i → HasLent (without_wanted lots) i
left_has lots i h = record {
  there = left_there i lots h.lent h.there;
  lent = all_filtered (IsLentSo i) (IsLentSo i) (λ (lot : Lot). not (is_wanted lot.side)) lots h.lent (λ lot is e. is);
}

-- ---- new lots

some_by : (p : Lot → Bool) (lot : Lot) (ys : List Lot) (b t : Bool) → (b || t) ≡ true → (t ≡ true → 1 ≤ length ys) → 1 ≤ length (cond b (lot ∷ ys) ys)
some_by p lot ys true t e h = omega arith
some_by p lot ys false t e h = h e

some_passes : (p : Lot → Bool) (lots : List Lot) → list_any p lots ≡ true → 1 ≤ length (filter p lots)
some_passes p [] e = absurd (false≢true e)
some_passes p (lot ∷ lots) e = some_by p lot (filter p lots) (p lot) (list_any p lots) e (some_passes p lots)

pub made_has : (lots new : List Lot) (i : LotId) → AreApart (lots ++ new) → HasLent lots i → HasLent (lots ++ new) i
made_has lots new i apart h =
    let none : list_any (is_lot i) new ≡ false = elim (cases_Bool (list_any (is_lot i) new)) [
      | inl more ↦ absurd (omega (arith, apart i, length-filter-join (is_lot i) lots new, some_passes (is_lot i) lots h.there, some_passes (is_lot i) new more))
      | inr none ↦ none
    ] in
    record {
      there = list_any-append (is_lot i) lots new ∙ or_left (list_any (is_lot i) lots) (list_any (is_lot i) new) h.there;
      lent = All-append (IsLentSo i) lots new h.lent (none_lent i new none);
    }

-- ---- a slot

there_by : (i : LotId) (k : ℕ) (lot : Lot) (lots : List Lot) (t : Bool) → list_any (is_lot i) (slot_given k lots) ≡ list_any (is_lot i) lots
    → list_any (is_lot i) (if t then with_slot k lot ∷ lots else lot ∷ slot_given k lots) ≡ list_any (is_lot i) (lot ∷ lots)
there_by i k lot lots true e = refl
there_by i k lot lots false e = ap (λ (b : Bool). is_lot i lot || b) e

given_there : (i : LotId) (k : ℕ) (lots : List Lot) → list_any (is_lot i) (slot_given k lots) ≡ list_any (is_lot i) lots
given_there i k [] = refl
given_there i k (lot ∷ lots) = there_by i k lot lots (lot_waits lot) (given_there i k lots)

lent_by : (i : LotId) (k : ℕ) (lot : Lot) (lots : List Lot) (t : Bool) → IsLentSo i lot → AreLent lots i → AreLent (slot_given k lots) i → AreLent (if t then with_slot k lot ∷ lots else lot ∷ slot_given k lots) i
lent_by i k lot lots true h all more = All-cons (IsLentSo i) (with_slot k lot) lots h all
lent_by i k lot lots false h all more = All-cons (IsLentSo i) lot (slot_given k lots) h more

given_lent : (i : LotId) (k : ℕ) (lots : List Lot) → AreLent lots i → AreLent (slot_given k lots) i
given_lent i k [] all = all
given_lent i k (lot ∷ lots) all =
    lent_by i k lot lots (lot_waits lot) (All-head (IsLentSo i) lot lots all) (All-tail (IsLentSo i) lot lots all) (given_lent i k lots (All-tail (IsLentSo i) lot lots all))

pub given_has : (k : ℕ) (lots : List Lot) (i : LotId) → HasLent lots i → HasLent (slot_given k lots) i
given_has k lots i h = record { there = given_there i k lots ∙ h.there; lent = given_lent i k lots h.lent }
