-- A slot that is given to the first entry that waits.
use Rattle.std.proofs.Common.{◌≡◌, ℕ, suc, ◌<◌, Bool, true, false, List, [], ◌∷◌, ◌++◌, length, map, refl, sym, ap, ◌∙◌, arith, cond, Option, Some}
use Rattle.std.specs.Prelude.{All, is_none, if◌then◌else◌}
use Rattle.std.proofs.lemmas.Bool.{and_parts, false≢true}
use Rattle.std.proofs.lemmas.List.Elements.{All-cons, All-head, All-tail}
use Rattle.nc_sg.specs.declared.list.Entry.{Entry}
use Rattle.nc_sg.specs.Lists.{waits, give_slot}
use Rattle.nc_sg.proofs.ListLaws.{length-give_slot}
use Rattle.nc_num.specs.declared.places.Span.{Span}
use Rattle.nc_ops.specs.declared.ops.Op.{Op}
use Rattle.nc_rules.specs.declared.lots.Kind.{Kind}
use Rattle.nc_rules.specs.declared.lots.Kind.TheVariants as kinds
use Rattle.nc_rules.specs.declared.lots.Lot.{Lot}
use Rattle.nc_rules.specs.declared.lots.LotId.{LotId}
use Rattle.nc_rules.specs.Lots.{DriverConfig, is_lot, is_wanted, lot_waits, with_slot, slot_given}
use Rattle.nc_rules.specs.Turns.{those}
use Rattle.nc_scripts.specs.Drivers.{IsSlotOf, IsEntryIn, IsInPool, BouncesSo, FitsKind, IsLotIn, AreApart, IsSettled, AreMade}

-- ---- entries

given_by : (P : Entry → Type 0) (k : ℕ) (e : Entry) (es : List Entry) (t : Bool) → P e → All P es → (t ≡ true → P (record e { slot = Some k })) → All P (give_slot k es) → All P (if t then record e { slot = Some k } ∷ es else e ∷ give_slot k es)
given_by P k e es true h all f more = All-cons P (record e { slot = Some k }) es (f refl) all
given_by P k e es false h all f more = All-cons P e (give_slot k es) h more

all_given : (P : Entry → Type 0) (k : ℕ) (es : List Entry) → All P es → ((e : Entry) → P e → waits e ≡ true → P (record e { slot = Some k })) → All P (give_slot k es)
all_given P k [] all f = all
all_given P k (e ∷ es) all f = given_by P k e es (waits e) (All-head P e es all) (All-tail P e es all) (f e (All-head P e es all)) (all_given P k es (All-tail P e es all) f)

same_slot : (slots k j : ℕ) (e : Entry) → k < slots → e.bounced ≡ true → ◌≡◌ {A = Option ℕ} (Some k) (Some j) → IsSlotOf slots (record e { slot = Some k }) j
same_slot slots k j e lt b is = let same : k ≡ j = cc in record { few = rw same at lt; bounced = b }

entry_given : (ram slots k : ℕ) (e : Entry) → k < slots → IsEntryIn ram slots e → waits e ≡ true → IsEntryIn ram slots (record e { slot = Some k })
entry_given ram slots k e lt h w =
    let b = (and_parts e.bounced (is_none e.slot) w).0 in
    record { range = h.range; slot = λ j is. same_slot slots k j e lt b is; small = h.small }

kind_given : (pool : Span) (k : ℕ) (kind : Kind) (id : LotId) (es : List Entry) → FitsKind pool kind id es → FitsKind pool kind id (give_slot k es)
kind_given pool k kinds.Single id es h = (h.0, length-give_slot k es ∙ h.1)
kind_given pool k kinds.List id es h = (h.0, omega (arith, length-give_slot k es, h.1))
kind_given pool k kinds.Area id es h = (h.0, length-give_slot k es ∙ h.1, all_given (λ (e : Entry). IsInPool pool e.span) k es h.2 (λ e is w. is))
kind_given pool k kinds.Copy id es h = (h.0, length-give_slot k es ∙ h.1)

-- ---- lots

lot_given : (ram : ℕ) (f : DriverConfig) (k : ℕ) (lot : Lot) → k < f.slots → IsLotIn ram f lot → IsLotIn ram f (with_slot k lot)
lot_given ram f k lot lt h = record {
  few = omega (arith, length-give_slot k lot.list.entries, h.few);
  entries = all_given (IsEntryIn ram f.slots) k lot.list.entries h.entries (λ e is w. entry_given ram f.slots k e lt is w);
  bounce = all_given (BouncesSo f lot.kind lot.list.dir lot.chan) k lot.list.entries h.bounce (λ e is w. is);
  channel = h.channel;
  kind = kind_given f.pool k lot.kind lot.id lot.list.entries h.kind;
}

first_by : (P : Lot → Type 0) (k : ℕ) (lot : Lot) (lots : List Lot) (t : Bool) → P lot → P (with_slot k lot) → All P lots → All P (slot_given k lots) → All P (if t then with_slot k lot ∷ lots else lot ∷ slot_given k lots)
first_by P k lot lots true h g all more = All-cons P (with_slot k lot) lots g all
first_by P k lot lots false h g all more = All-cons P lot (slot_given k lots) h more

all_first : (P : Lot → Type 0) (k : ℕ) (lots : List Lot) → All P lots → ((lot : Lot) → P lot → P (with_slot k lot)) → All P (slot_given k lots)
all_first P k [] all f = all
all_first P k (lot ∷ lots) all f = first_by P k lot lots (lot_waits lot) (All-head P lot lots all) (f lot (All-head P lot lots all)) (All-tail P lot lots all) (all_first P k lots (All-tail P lot lots all) f)

pub lots_given : (ram : ℕ) (f : DriverConfig) (k : ℕ) (lots : List Lot) → k < f.slots → All (IsLotIn ram f) lots → All (IsLotIn ram f) (slot_given k lots)
lots_given ram f k lots lt all = all_first (IsLotIn ram f) k lots all (λ lot h. lot_given ram f k lot lt h)

names_by : (k : ℕ) (lot : Lot) (lots : List Lot) (t : Bool) → map (λ (l : Lot). l.id) (slot_given k lots) ≡ map (λ (l : Lot). l.id) lots
    → map (λ (l : Lot). l.id) (if t then with_slot k lot ∷ lots else lot ∷ slot_given k lots) ≡ map (λ (l : Lot). l.id) (lot ∷ lots)
names_by k lot lots true e = refl
names_by k lot lots false e = ap (λ (ids : List LotId). lot.id ∷ ids) e

pub names_given : (k : ℕ) (lots : List Lot) → map (λ (l : Lot). l.id) (slot_given k lots) ≡ map (λ (l : Lot). l.id) lots
names_given k [] = refl
names_given k (lot ∷ lots) = names_by k lot lots (lot_waits lot) (names_given k lots)

count_by_name : (id : LotId) (k : ℕ) (lot : Lot) (lots : List Lot) (t : Bool) → length (those id (slot_given k lots)) ≡ length (those id lots)
    → length (those id (if t then with_slot k lot ∷ lots else lot ∷ slot_given k lots)) ≡ length (those id (lot ∷ lots))
count_by_name id k lot lots true e = same_by (is_lot id lot) lot (with_slot k lot) (those id lots) (those id lots) refl
  where
    same_by : (t : Bool) (l m : Lot) (xs ys : List Lot) → length xs ≡ length ys → length (cond t (m ∷ xs) xs) ≡ length (cond t (l ∷ ys) ys)
    same_by true l m xs ys e = ap suc e
    same_by false l m xs ys e = e
count_by_name id k lot lots false e = same_by (is_lot id lot) lot lot (those id (slot_given k lots)) (those id lots) e
  where
    same_by : (t : Bool) (l m : Lot) (xs ys : List Lot) → length xs ≡ length ys → length (cond t (m ∷ xs) xs) ≡ length (cond t (l ∷ ys) ys)
    same_by true l m xs ys e = ap suc e
    same_by false l m xs ys e = e

count_given : (id : LotId) (k : ℕ) (lots : List Lot) → length (those id (slot_given k lots)) ≡ length (those id lots)
count_given id k [] = refl
count_given id k (lot ∷ lots) = count_by_name id k lot lots (lot_waits lot) (count_given id k lots)

pub apart_given : (k : ℕ) (lots : List Lot) → AreApart lots → AreApart (slot_given k lots)
apart_given k lots h id = omega (arith, count_given id k lots, h id)

passed_over : (k : ℕ) (old new : List Lot) → All IsSettled old → slot_given k (old ++ new) ≡ old ++ slot_given k new
passed_over k [] new all = refl
passed_over k (lot ∷ old) new all =
    passes_by (lot_waits lot) k lot (old ++ new) (old ++ slot_given k new) (All-head IsSettled lot old all).placed (passed_over k old new (All-tail IsSettled lot old all))
  where
    passes_by : (t : Bool) (k : ℕ) (lot : Lot) (lots nows : List Lot) → t ≡ false → slot_given k lots ≡ nows → (if t then with_slot k lot ∷ lots else lot ∷ slot_given k lots) ≡ lot ∷ nows
    passes_by true k lot lots nows e h = absurd (false≢true (sym e))
    passes_by false k lot lots nows e h = ap (λ (ls : List Lot). lot ∷ ls) h

pub made_given : (k : ℕ) (o : Op) (lots : List Lot) → AreMade o lots → AreMade o (slot_given k lots)
made_given k o lots h = record {
  old = h.old;
  new = slot_given k h.new;
  all = ap (slot_given k) h.all ∙ passed_over k h.old h.new h.settled;
  settled = h.settled;
  names = names_given k h.new ∙ h.names;
  wanted = all_first (λ (lot : Lot). is_wanted lot.side ≡ true) k h.new h.wanted (λ lot w. w);
}
