-- The lots of a hart before and behind a turn of one of them: what each mapping is.
use Rattle.std.specs.Prelude.{Option, Some, None, All, ◌==◌, ◌&&◌, ◌+◌, ◌-◌, not, nat_le, nat_lt, Bool, true, false, if◌then◌else◌, option_map, slice_get, slice_index_or}
use Rattle.std.specs.List.{find}
use Rattle.std.proofs.Common.{◌≡◌, ◌⊎◌, ℕ, ◌<◌, ◌≤◌, List, [], ◌∷◌, ◌++◌, length, refl, sym, ap, ◌∙◌, inl, inr, arith}
use Rattle.std.proofs.lemmas.Bool.{and_parts, and_from, and_left, and_right, cases_Bool, cond-true, cond-false, both_ways, eqb-true, eq-eqb, le-leb, lt-ltb}
use Rattle.std.proofs.lemmas.Bool.Decides.{nat_tests}
use Rattle.std.proofs.lemmas.Option.{slice_get_within, get_or_from_slice_get}
use Rattle.std.proofs.lemmas.List.Elements.{All-head, All-tail}
use Rattle.nc_num.specs.declared.names.HartNo.{HartNo}
use Rattle.nc_num.specs.declared.names.MapId.{MapId}
use Rattle.nc_num.specs.declared.places.Span.{Span}
use Rattle.nc_plan.specs.Plans.{In}
use Rattle.nc_sg.specs.declared.list.Entry.{Entry}
use Rattle.nc_rules.specs.declared.lots.Kind.{Kind}
use Rattle.nc_rules.specs.declared.lots.Kind.TheVariants as kinds
use Rattle.nc_rules.specs.declared.lots.Lot.{Lot}
use Rattle.nc_rules.specs.declared.lots.LotId.{LotId}
use Rattle.nc_rules.specs.declared.lots.Side.{Side}
use Rattle.nc_rules.specs.Lots.{DriverConfig, is_lot, is_wanted, map_id, grant_of, no_entry, lot_waits, with_slot, slot_given}
use Rattle.nc_rules.specs.Turns.{is_area, with_side, set_side, without_wanted}
use Rattle.nc_scripts.specs.Drivers.{IsNamed, IsEnd, FitsKind, IsLotIn, AreApart}
use Rattle.nc_holds.specs.Changes.{WaitsUnlent}
use Rattle.nc_holds.specs.Held.{IsEntryOf}
use Rattle.nc_holds.proofs.lists.Members.{all_at}
use Rattle.nc_holds.proofs.owners.Lots.{same_lot}
use Rattle.nc_rows.specs.Rows.{Loan}
use Rattle.nc_flatness.specs.Books.{is_entry_of, loan_by}
use Rattle.nc_flat_starts.proofs.turning.Sides.{without_lot}

-- what mapping n is, of these lots
abbrev pub loan_in : DriverConfig → List Lot → MapId → Option Loan
loan_in f lots n = option_map (loan_by f n) (find (is_entry_of n) lots)

-- ---- the one of a name

find_here : {X : Type 0} (p : X → Bool) (x : X) (xs : List X) → p x ≡ true → find p (x ∷ xs) ≡ Some x
find_here p x xs is = cond-true (p x) (Some x) (find p xs) is

find_later : {X : Type 0} (p : X → Bool) (x : X) (xs : List X) → p x ≡ false → find p (x ∷ xs) ≡ find p xs
find_later p x xs is = cond-false (p x) (Some x) (find p xs) is

pub find_only : {X : Type 0} (p : X → Bool) (xs : List X) (x : X) → In x xs → p x ≡ true → ((y : X) → In y xs → p y ≡ true → y ≡ x) → find p xs ≡ Some x
find_only p [] x here is only = absurd here
find_only p (y ∷ ys) x here is only = elim (cases_Bool (p y)) [
  | inl holds ↦ find_here p y ys holds ∙ ap (λ z. Some z) (only y (inl refl) holds)
  | inr fails ↦
      let later : In x ys = elim here [ inl same ↦ absurd (both_ways (p y) fails (ap p same ∙ is)) | inr there ↦ there ] in
      find_later p y ys fails ∙ find_only p ys x later is (λ z there holds. only z (inr there) holds)
]

-- ---- the lot of a mapping, lent or not

-- its label and number are those of one of these entries
abbrev pub numbers : MapId → LotId → List Entry → Bool
numbers n id es = id.label.0 == n.label.0 && (nat_le id.first n.entry && nat_lt n.entry (id.first + length es))

abbrev pub names_entry : MapId → Lot → Bool
names_entry n lot = numbers n lot.id lot.list.entries

pub entry_named : (n : MapId) (lot : Lot) → is_entry_of n lot ≡ true → names_entry n lot ≡ true
entry_named n lot is = (and_parts (not (is_wanted lot.side)) (names_entry n lot) is).1

pub own_entry : (me : HartNo) (lot : Lot) (i : ℕ) (e : Entry) → slice_get lot.list.entries i ≡ Some e → names_entry (map_id me lot.id i) lot ≡ true
own_entry me lot i e there =
    let n = map_id me lot.id i in
    let lt = slice_get_within lot.list.entries i e there in
    and_from (lot.id.label.0 == n.label.0) _ (eq-eqb lot.id.label.0 n.label.0 refl)
    (and_from (nat_le lot.id.first n.entry) (nat_lt n.entry (lot.id.first + length lot.list.entries)) (le-leb lot.id.first n.entry (omega arith)) (lt-ltb n.entry (lot.id.first + length lot.list.entries) (omega (arith, lt))))

record IsNumbered (n : MapId) (lot : Lot) : Type 0 where
  label : lot.id.label.0 ≡ n.label.0
  above : lot.id.first ≤ n.entry
  below : n.entry < lot.id.first + length lot.list.entries

numbered : (n : MapId) (lot : Lot) → names_entry n lot ≡ true → IsNumbered n lot
numbered n lot is =
    let a = and_parts (lot.id.label.0 == n.label.0) (nat_le lot.id.first n.entry && nat_lt n.entry (lot.id.first + length lot.list.entries)) is in
    let b = and_parts (nat_le lot.id.first n.entry) (nat_lt n.entry (lot.id.first + length lot.list.entries)) a.1 in
    let above : lot.id.first ≤ n.entry = let t = b.0 in grind (arith, nat_tests) in
    let below : n.entry < lot.id.first + length lot.list.entries = let t = b.1 in grind (arith, nat_tests) in
    record { label = eqb-true lot.id.label.0 n.label.0 a.0; above = above; below = below }

-- a lot has a script's name, or it is an end of a copy and has one entry
abbrev HasName : LotId → List Entry → Type 0
HasName id es = IsNamed id ⊎ (IsEnd id × (length es ≡ 1))

has_name : (pool : Span) (kind : Kind) (id : LotId) (es : List Entry) → FitsKind pool kind id es → HasName id es
has_name pool kinds.Single id es fits = inl fits.0
has_name pool kinds.List id es fits = inl fits.0
has_name pool kinds.Area id es fits = inl fits.0
has_name pool kinds.Copy id es fits = inr fits

first_one : (n : MapId) (a b : Lot) → IsNumbered n a → IsNumbered n b → HasName a.id a.list.entries → HasName b.id b.list.entries → a.id.first ≡ b.id.first
first_one n a b x y (inl p) (inl q) = p.first ∙ sym q.first
first_one n a b x y (inl p) (inr q) = absurd (omega (arith, p.label, q.0.label, x.label, y.label))
first_one n a b x y (inr p) (inl q) = absurd (omega (arith, q.label, p.0.label, x.label, y.label))
first_one n a b x y (inr p) (inr q) = omega (arith, p.1, q.1, x.above, x.below, y.above, y.below)

-- two lots of a hart that have one mapping are one
pub entry_one : (ram : ℕ) (f : DriverConfig) (lots : List Lot) (a b : Lot) (n : MapId) → All (IsLotIn ram f) lots → AreApart lots → In a lots → In b lots → names_entry n a ≡ true → names_entry n b ≡ true → a ≡ b
entry_one ram f lots a b n all apart here there is too =
    let x = numbered n a is in
    let y = numbered n b too in
    let name : (l : Lot) → In l lots → HasName l.id l.list.entries = λ l k. has_name f.pool l.kind l.id l.list.entries (all_at (IsLotIn ram f) lots l all k).kind in
    let label = x.label ∙ sym y.label in
    let first = first_one n a b x y (name a here) (name b there) in
    same_lot lots a b apart here there (λ i. record { label = record { 0 = label i }; first = first i })

-- ---- mappings of other lots

-- no lot of the name has the mapping
abbrev pub FarFrom : MapId → LotId → List Lot → Type 0
FarFrom n id lots = (lot : Lot) → In lot lots → is_lot id lot ≡ true → names_entry n lot ≡ false

pub not_entry : (n : MapId) (lot : Lot) → names_entry n lot ≡ false → is_entry_of n lot ≡ false
not_entry n lot far = and_right (not (is_wanted lot.side)) (names_entry n lot) far

wanted_none : (n : MapId) (lot : Lot) → is_wanted lot.side ≡ true → is_entry_of n lot ≡ false
wanted_none n lot is = and_left (not (is_wanted lot.side)) _ (ap not is)

sided : (side : Side) (id : LotId) (lot : Lot) → is_lot id lot ≡ true → with_side side id lot ≡ record lot { side = side }
sided side id lot is = cond-true (is_lot id lot) (record lot { side = side }) lot is

unsided : (side : Side) (id : LotId) (lot : Lot) → is_lot id lot ≡ false → with_side side id lot ≡ lot
unsided side id lot other = cond-false (is_lot id lot) (record lot { side = side }) lot other

-- the first of two lists that is found is found in both
find_both : (p : Lot → Bool) (a : Lot) (xs ys : List Lot) → find p xs ≡ find p ys → find p (a ∷ xs) ≡ find p (a ∷ ys)
find_both p a xs ys same = ap (λ (o : Option Lot). if p a then Some a else o) same

pub other_set : (side : Side) (id : LotId) (n : MapId) (lots : List Lot) → FarFrom n id lots → find (is_entry_of n) (set_side side id lots) ≡ find (is_entry_of n) lots
other_set side id n [] other = refl
other_set side id n (lot ∷ lots) other = elim (cases_Bool (is_lot id lot)) [
  | inl is ↦
      let far = other lot (inl refl) is in
      let now = record lot { side = side } in
      ap (λ (k : Lot). find (is_entry_of n) (k ∷ set_side side id lots)) (sided side id lot is) ∙ find_later (is_entry_of n) now (set_side side id lots) (not_entry n now far)
      ∙ other_set side id n lots (λ l there. other l (inr there)) ∙ sym (find_later (is_entry_of n) lot lots (not_entry n lot far))
  | inr fails ↦
      ap (λ (k : Lot). find (is_entry_of n) (k ∷ set_side side id lots)) (unsided side id lot fails) ∙ find_both (is_entry_of n) lot (set_side side id lots) lots (other_set side id n lots (λ l there. other l (inr there)))
]

pub other_without : (id : LotId) (n : MapId) (lots : List Lot) → FarFrom n id lots → find (is_entry_of n) (without_lot id lots) ≡ find (is_entry_of n) lots
other_without id n [] other = refl
other_without id n (lot ∷ lots) other =
    let kept = without_lot id lots in
    elim (cases_Bool (is_lot id lot)) [
      | inl is ↦
          let far = other lot (inl refl) is in
          ap (find (is_entry_of n)) (cond-false (not (is_lot id lot)) (lot ∷ kept) kept (ap not is)) ∙ other_without id n lots (λ l there. other l (inr there)) ∙ sym (find_later (is_entry_of n) lot lots (not_entry n lot far))
      | inr fails ↦ ap (find (is_entry_of n)) (cond-true (not (is_lot id lot)) (lot ∷ kept) kept (ap not fails)) ∙ find_both (is_entry_of n) lot kept lots (other_without id n lots (λ l there. other l (inr there)))
    ]

-- lots that are not lent yet are no mappings
pub more_wanted : (n : MapId) (lots new : List Lot) → All (λ lot. is_wanted lot.side ≡ true) new → find (is_entry_of n) (lots ++ new) ≡ find (is_entry_of n) lots
more_wanted n [] new all = none_new n new all
  where
    none_new : (n : MapId) (new : List Lot) → All (λ lot. is_wanted lot.side ≡ true) new → find (is_entry_of n) new ≡ None
    none_new n [] all = refl
    none_new n (lot ∷ new) all = find_later (is_entry_of n) lot new (wanted_none n lot (All-head (λ (l : Lot). is_wanted l.side ≡ true) lot new all)) ∙ none_new n new (All-tail (λ (l : Lot). is_wanted l.side ≡ true) lot new all)
more_wanted n (lot ∷ lots) new all = find_both (is_entry_of n) lot (lots ++ new) lots (more_wanted n lots new all)

-- nor do they become ones with a slot
given_by : (k : ℕ) (n : MapId) (lot : Lot) (lots : List Lot) (t : Bool) → lot_waits lot ≡ t → (lot_waits lot ≡ true → is_wanted lot.side ≡ true) → find (is_entry_of n) (slot_given k lots) ≡ find (is_entry_of n) lots
    → find (is_entry_of n) (if t then with_slot k lot ∷ lots else lot ∷ slot_given k lots) ≡ find (is_entry_of n) (lot ∷ lots)
given_by k n lot lots true waits unlent more =
    let wanted = unlent waits in
    find_later (is_entry_of n) (with_slot k lot) lots (wanted_none n (with_slot k lot) wanted) ∙ sym (find_later (is_entry_of n) lot lots (wanted_none n lot wanted))
given_by k n lot lots false waits unlent more = find_both (is_entry_of n) lot (slot_given k lots) lots more

pub slot_loans : (k : ℕ) (n : MapId) (lots : List Lot) → WaitsUnlent lots → find (is_entry_of n) (slot_given k lots) ≡ find (is_entry_of n) lots
slot_loans k n [] all = refl
slot_loans k n (lot ∷ lots) all =
    let P : Lot → Type 0 = λ (l : Lot). lot_waits l ≡ true → is_wanted l.side ≡ true in
    given_by k n lot lots (lot_waits lot) refl (All-head P lot lots all) (slot_loans k n lots (All-tail P lot lots all))

pub kept_loans : (n : MapId) (lots : List Lot) → find (is_entry_of n) (without_wanted lots) ≡ find (is_entry_of n) lots
kept_loans n [] = refl
kept_loans n (lot ∷ lots) = elim (cases_Bool (is_wanted lot.side)) [
  | inl is ↦ ap (find (is_entry_of n)) (cond-false (not (is_wanted lot.side)) (lot ∷ without_wanted lots) (without_wanted lots) (ap not is)) ∙ kept_loans n lots ∙ sym (find_later (is_entry_of n) lot lots (wanted_none n lot is))
  | inr off ↦ ap (find (is_entry_of n)) (cond-true (not (is_wanted lot.side)) (lot ∷ without_wanted lots) (without_wanted lots) (ap not off)) ∙ find_both (is_entry_of n) lot (without_wanted lots) lots (kept_loans n lots)
]

-- ---- the mapping of an entry

abbrev pub loan_for : DriverConfig → HartNo → Lot → ℕ → Entry → Loan
loan_for f me lot i e = record { grant = grant_of f.slots_at lot (map_id me lot.id i) e; lot = lot.id; area = is_area lot.kind }

entry_yes : (me : HartNo) (lot : Lot) (i : ℕ) (e : Entry) → slice_get lot.list.entries i ≡ Some e → is_wanted lot.side ≡ false → is_entry_of (map_id me lot.id i) lot ≡ true
entry_yes me lot i e there lent = and_from (not (is_wanted lot.side)) (names_entry (map_id me lot.id i) lot) (ap not lent) (own_entry me lot i e there)

loan_is : (f : DriverConfig) (me : HartNo) (lot : Lot) (i : ℕ) (e : Entry) → slice_get lot.list.entries i ≡ Some e → loan_by f (map_id me lot.id i) lot ≡ loan_for f me lot i e
loan_is f me lot i e there =
    let n = map_id me lot.id i in
    let at : n.entry - lot.id.first ≡ i = omega arith in
    let it : slice_index_or lot.list.entries (n.entry - lot.id.first) no_entry ≡ e = ap (λ k. slice_index_or lot.list.entries k no_entry) at ∙ get_or_from_slice_get lot.list.entries i e no_entry there in
    ap (λ (k : Entry). record { grant = grant_of f.slots_at lot n k; lot = lot.id; area = is_area lot.kind }) it

pub loan_here : (f : DriverConfig) (me : HartNo) (lots : List Lot) (lot : Lot) (i : ℕ) (e : Entry) → IsEntryOf lots lot i e → is_wanted lot.side ≡ false → ((other : Lot) → In other lots → names_entry (map_id me lot.id i) other ≡ true → other ≡ lot)
    → loan_in f lots (map_id me lot.id i) ≡ Some (loan_for f me lot i e)
loan_here f me lots lot i e here lent alone =
    let n = map_id me lot.id i in
    ap (option_map (loan_by f n)) (find_only (is_entry_of n) lots lot here.lot_in (entry_yes me lot i e here.entry lent) (λ other there is. alone other there (entry_named n other is)))
    ∙ ap (λ (l : Loan). Some l) (loan_is f me lot i e here.entry)
