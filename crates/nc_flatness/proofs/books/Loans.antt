-- What a mapping of a book is: an entry of a lot of its hart.
use Rattle.std.proofs.Common.{◌≡◌, ℕ, ◌+◌, ◌<◌, ◌≤◌, cond, Bool, true, false, List, [], ◌∷◌, length, refl, sym, ap, ◌∙◌, inl, inr, subst, arith, Option, Some, None}
use Rattle.std.specs.Prelude.{◌-◌, ◌⊎◌, ◌==◌, ◌&&◌, nat_le, nat_lt, not, find, option_map, slice_get, slice_index_or}
use Rattle.std.proofs.lemmas.Bool.{and_parts, and_from, cases_lt, false_from_ne_true, false≢true}
use Rattle.std.proofs.lemmas.Bool.Decides.{nat_tests}
use Rattle.std.proofs.lemmas.List.{get_or_past}
use Rattle.std.proofs.lemmas.Option.{get_or_from_slice_get, slice_get-get_or, slice_get_past}
use Rattle.nc_num.specs.declared.names.MapId.{MapId}
use Rattle.nc_num.specs.declared.places.Span.{Span}
use Rattle.nc_plan.specs.Plans.{In}
use Rattle.nc_sg.specs.Lists as sg
use Rattle.nc_sg.specs.declared.list.Entry.{Entry}
use Rattle.nc_scen.specs.declared.scenario.Scenario.{Scenario}
use Rattle.nc_rules.specs.declared.lots.Kind.{Kind}
use Rattle.nc_rules.specs.declared.lots.Kind.TheVariants as kinds
use Rattle.nc_rules.specs.declared.lots.Lot.{Lot}
use Rattle.nc_rules.specs.declared.lots.LotId.{LotId}
use Rattle.nc_rules.specs.Driver.{DriverState}
use Rattle.nc_rules.specs.Lots.{DriverConfig, is_lot, is_wanted, map_id, grant_of, no_entry}
use Rattle.nc_rules.specs.Turns.{is_area}
use Rattle.nc_rules.specs.World.{WorldState, no_driver, driver_of, hart}
use Rattle.nc_rules.specs.World as worlds
use Rattle.nc_scripts.specs.Drivers.{FitsKind, IsNamed, IsEnd, IsLotIn}
use Rattle.nc_scripts.proofs.Lists.{found, all_in}
use Rattle.nc_scripts.proofs.LotLaws.{its_name}
use Rattle.nc_holds.specs.Held.{IsEntryOf}
use Rattle.nc_holds.specs.Holds.{Holds}
use Rattle.nc_holds.proofs.lists.Members.{all_at}
use Rattle.nc_holds.proofs.owners.Lots.{same_named}
use Rattle.nc_holds.proofs.owners.Lots as lots
use Rattle.nc_rows.specs.Rows.{Loan}
use Rattle.nc_flatness.specs.Books.{is_entry_of, loan_by, book_of}
use Rattle.nc_flatness.specs.Flatness.{is_mapping, IsMapping, Flatness}

-- ---- the lots of a driver

-- a driver that exists
lots_past : (w : WorldState) (h : ℕ) → length w.drivers ≤ h → (driver_of w h).lots ≡ []
lots_past w h past = ap (λ (d : DriverState). d.lots) (get_or_past w.drivers h no_driver past)

pub hart_of_lot : (w : WorldState) (h : ℕ) (lot : Lot) → Holds w → In lot (driver_of w h).lots → h < length w.machine.harts
hart_of_lot w h lot k here = elim (cases_lt h (length w.machine.harts)) [
  | inl lt ↦ lt
  | inr past ↦ elim (subst (λ (lots : List Lot). In lot lots) (lots_past w h (omega (arith, k.drivers, past))) here) [ ]
]

-- what is known of each lot
pub lot_in : (sc : Scenario) (f : List ℕ) (w : WorldState) (h : ℕ) (lot : Lot) → Flatness sc f w → In lot (driver_of w h).lots → IsLotIn (length w.machine.cache.ram) (driver_of w h).fixed lot
lot_in sc f w h lot flat here =
    let lt = hart_of_lot w h lot flat.world.holds here in
    all_at (IsLotIn (length w.machine.cache.ram) (driver_of w h).fixed) (driver_of w h).lots lot (flat.world.holds.each h lt).driver.lots here

pub lot_of : (sc : Scenario) (f : List ℕ) (w : WorldState) (h : ℕ) (lot : Lot) → Flatness sc f w → In lot (driver_of w h).lots → IsMapping lot
lot_of sc f w h lot flat here =
    let lt = hart_of_lot w h lot flat.world.holds here in
    let drives = flat.bytes.drives h (subst (λ k. h < k) flat.world.of_scenario.harts lt) in
    all_at IsMapping (driver_of w h).lots lot drives.lots here

-- two lots of one driver with one name are one
pub one_lot : (sc : Scenario) (f : List ℕ) (w : WorldState) (h : ℕ) (a b : Lot) → Flatness sc f w → In a (driver_of w h).lots → In b (driver_of w h).lots → a.id ≡ b.id → a ≡ b
one_lot sc f w h a b flat here there same =
    let lt = hart_of_lot w h a flat.world.holds here in
    same_named (driver_of w h).lots b.id a b (flat.world.holds.each h lt).driver.apart here there (its_name a b.id same) (its_name b b.id refl)

-- a lot has a script's name, or it is an end of a copy and has one entry
abbrev HasName : LotId → List Entry → Type 0
HasName id es = IsNamed id ⊎ (IsEnd id × (length es ≡ 1))

kind_named : (pool : Span) (k : Kind) (id : LotId) (es : List Entry) → FitsKind pool k id es → HasName id es
kind_named pool kinds.Single id es fits = inl fits.0
kind_named pool kinds.List id es fits = inl fits.0
kind_named pool kinds.Area id es fits = inl fits.0
kind_named pool kinds.Copy id es fits = inr fits

-- the label and the number of a mapping tell its lot's name
record IsNamedSo (n : MapId) (lot : Lot) : Type 0 where
  pub lent : is_wanted lot.side ≡ false
  pub label : lot.id.label.0 ≡ n.label.0
  pub above : lot.id.first ≤ n.entry
  pub below : n.entry < lot.id.first + length lot.list.entries

not_true : (b : Bool) → not b ≡ true → b ≡ false
not_true true e = absurd (false≢true e)
not_true false e = refl

named_by : (n : MapId) (lot : Lot) → is_entry_of n lot ≡ true → IsNamedSo n lot
named_by n lot e =
    let a = and_parts (not (is_wanted lot.side)) (lot.id.label.0 == n.label.0 && (nat_le lot.id.first n.entry && nat_lt n.entry (lot.id.first + length lot.list.entries))) e in
    let b = and_parts (lot.id.label.0 == n.label.0) (nat_le lot.id.first n.entry && nat_lt n.entry (lot.id.first + length lot.list.entries)) a.1 in
    let c = and_parts (nat_le lot.id.first n.entry) (nat_lt n.entry (lot.id.first + length lot.list.entries)) b.1 in
    let label : lot.id.label.0 ≡ n.label.0 = let t = b.0 in grind (arith, nat_tests) in
    let above : lot.id.first ≤ n.entry = let t = c.0 in grind (arith, nat_tests) in
    let below : n.entry < lot.id.first + length lot.list.entries = let t = c.1 in grind (arith, nat_tests) in
    record { lent = not_true (is_wanted lot.side) a.0; label = label; above = above; below = below }

first_one : (n : MapId) (a b : Lot) → IsNamedSo n a → IsNamedSo n b → HasName a.id a.list.entries → HasName b.id b.list.entries → a.id.first ≡ b.id.first
first_one n a b x y (inl p) (inl q) = p.first ∙ sym q.first
first_one n a b x y (inl p) (inr q) = absurd (omega (arith, p.label, q.0.label, x.label, y.label))
first_one n a b x y (inr p) (inl q) = absurd (omega (arith, q.label, p.0.label, x.label, y.label))
first_one n a b x y (inr p) (inr q) = omega (arith, p.1, q.1, x.above, x.below, y.above, y.below)

has_name : (sc : Scenario) (f : List ℕ) (w : WorldState) (h : ℕ) (lot : Lot) → Flatness sc f w → In lot (driver_of w h).lots → HasName lot.id lot.list.entries
has_name sc f w h lot flat here = kind_named (driver_of w h).fixed.pool lot.kind lot.id lot.list.entries (lot_in sc f w h lot flat here).kind

-- the lot of a mapping is one
pub one_of : (sc : Scenario) (f : List ℕ) (w : WorldState) (h : ℕ) (n : MapId) (a b : Lot) → Flatness sc f w → In a (driver_of w h).lots → In b (driver_of w h).lots → is_entry_of n a ≡ true → is_entry_of n b ≡ true → a ≡ b
one_of sc f w h n a b flat here there is too =
    let x = named_by n a is in
    let y = named_by n b too in
    let label = x.label ∙ sym y.label in
    let first = first_one n a b x y (has_name sc f w h a flat here) (has_name sc f w h b flat there) in
    one_lot sc f w h a b flat here there (λ i. record { label = record { 0 = label i }; first = first i })

-- so one of another lot is none of this one
pub apart_lots : (sc : Scenario) (f : List ℕ) (w : WorldState) (h : ℕ) (n : MapId) (a b : Lot) → Flatness sc f w → In a (driver_of w h).lots → In b (driver_of w h).lots → is_lot a.id b ≡ false → is_entry_of n b ≡ true → is_entry_of n a ≡ false
apart_lots sc f w h n a b flat here there off is =
    false_from_ne_true (is_entry_of n a) (λ too. false≢true (sym off ∙ its_name b a.id (ap (λ (l : Lot). l.id) (one_of sc f w h n b a flat there here is too))))

-- an area never bounces
pub area_direct : (sc : Scenario) (f : List ℕ) (w : WorldState) (h : ℕ) (lot : Lot) (i : ℕ) (e : Entry) → Flatness sc f w → IsEntryOf (driver_of w h).lots lot i e → is_area lot.kind ≡ true → e.bounced ≡ false
area_direct sc f w h lot i e flat here area = lots.area_direct (length w.machine.cache.ram) (driver_of w h).fixed lot i e (lot_in sc f w h lot flat here.lot_in) area here.entry

-- ---- a mapping of the book

-- mapping n is entry i of this lot
pub record IsLoan (w : WorldState) (n : MapId) (l : Loan) : Type 0 where
  pub hart : n.hart.0 < length w.machine.harts
  pub lot : Lot
  pub i : ℕ
  pub entry : Entry
  pub here : IsEntryOf (driver_of w n.hart.0).lots lot i entry
  pub kind : is_mapping lot.kind ≡ true
  pub label : lot.id.label.0 ≡ n.label.0
  pub number : n.entry ≡ lot.id.first + i
  pub entry_of : is_entry_of n lot ≡ true
  pub name : n ≡ map_id (worlds.hart n.hart.0) lot.id i
  pub lent : is_wanted lot.side ≡ false
  pub loan : l ≡ loan_by (driver_of w n.hart.0).fixed n lot
  pub lot_is : l.lot ≡ lot.id
  pub area : l.area ≡ is_area lot.kind
  pub buffer : l.grant.buffer ≡ entry.span
  pub device : l.grant.device ≡ sg.device (driver_of w n.hart.0).fixed.slots_at entry
  pub dir : l.grant.dir ≡ lot.list.dir
  pub chan : l.grant.chan ≡ lot.chan

some_by : (f : DriverConfig) (n : MapId) (o : Option Lot) (l : Loan) → option_map (loan_by f n) o ≡ Some l → (lot : Lot) × (o ≡ Some lot) × (l ≡ loan_by f n lot)
some_by f n None l e = absurd (cc)
some_by f n (Some lot) l e = let same : loan_by f n lot ≡ l = cc in (lot, refl, sym same)

pub loan_is : (sc : Scenario) (f : List ℕ) (w : WorldState) (n : MapId) (l : Loan) → Flatness sc f w → (book_of w).loan n ≡ Some l → IsLoan w n l
loan_is sc f w n l flat e =
    let d = driver_of w n.hart.0 in
    let some = some_by d.fixed n (find (is_entry_of n) d.lots) l e in
    let lot = some.0 in
    let it = found (λ (x : Lot). In x d.lots) (is_entry_of n) d.lots lot (all_in (λ (x : Lot). In x d.lots) d.lots (λ x k. k)) some.1 in
    let named = named_by n lot it.passes in
    let kind = (lot_of sc f w n.hart.0 lot flat it.is).kind in
    let i = n.entry - lot.id.first in
    let number : n.entry ≡ lot.id.first + i = omega (arith, named.above) in
    let less : i < length lot.list.entries = omega (arith, named.above, named.below) in
    let entry = slice_index_or lot.list.entries i no_entry in
    record {
      hart = hart_of_lot w n.hart.0 lot flat.world.holds it.is;
      lot = lot;
      i = i;
      entry = entry;
      here = record { lot_in = it.is; entry = slice_get-get_or lot.list.entries i no_entry less };
      kind = kind;
      label = named.label;
      number = number;
      entry_of = it.passes;
      name = let label = sym named.label in λ j. record { hart = n.hart; label = record { 0 = label j }; entry = number j };
      lent = named.lent;
      loan = some.2;
      lot_is = ap (λ (k : Loan). k.lot) some.2;
      area = ap (λ (k : Loan). k.area) some.2;
      buffer = ap (λ (k : Loan). k.grant.buffer) some.2;
      device = ap (λ (k : Loan). k.grant.device) some.2;
      dir = ap (λ (k : Loan). k.grant.dir) some.2;
      chan = ap (λ (k : Loan). k.grant.chan) some.2;
    }

-- ---- the mapping that an entry is

unwanted : (b : Bool) → b ≡ false → not b ≡ true
unwanted true e = absurd (false≢true (sym e))
unwanted false e = refl

pub own_entry : (h : ℕ) (lot : Lot) (i : ℕ) → i < length lot.list.entries → is_wanted lot.side ≡ false → is_entry_of (map_id (hart h) lot.id i) lot ≡ true
own_entry h lot i lt lent =
    let label : (lot.id.label.0 == lot.id.label.0) ≡ true = grind (arith, nat_tests) in
    let low : nat_le lot.id.first (lot.id.first + i) ≡ true = grind (arith, nat_tests) in
    let high : nat_lt (lot.id.first + i) (lot.id.first + length lot.list.entries) ≡ true = grind (arith, nat_tests) in
    and_from (not (is_wanted lot.side)) (lot.id.label.0 == lot.id.label.0 && (nat_le lot.id.first (lot.id.first + i) && nat_lt (lot.id.first + i) (lot.id.first + length lot.list.entries))) (unwanted (is_wanted lot.side) lent)
    (and_from (lot.id.label.0 == lot.id.label.0) (nat_le lot.id.first (lot.id.first + i) && nat_lt (lot.id.first + i) (lot.id.first + length lot.list.entries)) label
    (and_from (nat_le lot.id.first (lot.id.first + i)) (nat_lt (lot.id.first + i) (lot.id.first + length lot.list.entries)) low high))

find_by : (p : Lot → Bool) (lot x : Lot) (o : Option Lot) (t : Bool) → p x ≡ t → (p x ≡ true → x ≡ lot) → (p x ≡ false → o ≡ Some lot) → cond t (Some x) o ≡ Some lot
find_by p lot x o true e same more = ap Some (same e)
find_by p lot x o false e same more = more e

find_only : (p : Lot → Bool) (lots : List Lot) (lot : Lot) → In lot lots → p lot ≡ true → ((other : Lot) → In other lots → p other ≡ true → other ≡ lot) → find p lots ≡ Some lot
find_only p [] lot here is alone = elim here [ ]
find_only p (x ∷ lots) lot (inl same) is alone = find_by p lot x (find p lots) (p x) refl (λ e. same) (λ off. absurd (false≢true (sym off ∙ ap p same ∙ is)))
find_only p (x ∷ lots) lot (inr here) is alone =
    find_by p lot x (find p lots) (p x) refl (λ e. alone x (inl refl) e) (λ off. find_only p lots lot here is (λ other k e. alone other (inr k) e))

-- a number of an entry is less than how many there are
pub get_below : {X : Type 0} (xs : List X) (i : ℕ) (x : X) → slice_get xs i ≡ Some x → i < length xs
get_below xs i x e = elim (cases_lt i (length xs)) [
  | inl lt ↦ lt
  | inr past ↦ let none = sym (slice_get_past xs i past) ∙ e in absurd (cc)
]

-- the loan of an entry of a lot that is not wanted
pub entry_loan : (sc : Scenario) (f : List ℕ) (w : WorldState) (h : ℕ) (lot : Lot) (i : ℕ) (e : Entry) → Flatness sc f w → IsEntryOf (driver_of w h).lots lot i e → is_wanted lot.side ≡ false
    → (book_of w).loan (map_id (hart h) lot.id i) ≡ Some (record { grant = grant_of (driver_of w h).fixed.slots_at lot (map_id (hart h) lot.id i) e; lot = lot.id; area = is_area lot.kind })
entry_loan sc f w h lot i e flat here lent =
    let d = driver_of w h in
    let n = map_id (hart h) lot.id i in
    let mine = own_entry h lot i (get_below lot.list.entries i e here.entry) lent in
    let alone : (other : Lot) → In other d.lots → is_entry_of n other ≡ true → other ≡ lot = λ other k t. one_of sc f w h n other lot flat k here.lot_in t mine in
    let one : find (is_entry_of n) d.lots ≡ Some lot = find_only (is_entry_of n) d.lots lot here.lot_in mine alone in
    let number : (lot.id.first + i) - lot.id.first ≡ i = omega arith in
    let entry : slice_index_or lot.list.entries ((lot.id.first + i) - lot.id.first) no_entry ≡ e =
    ap (λ (j : ℕ). slice_index_or lot.list.entries j no_entry) number ∙ get_or_from_slice_get lot.list.entries i e no_entry here.entry in
    ap (option_map (loan_by d.fixed n)) one ∙ ap (λ (c : Entry). Some (loan_with c)) entry
  where
    loan_with : Entry → Loan
    loan_with c = record { grant = grant_of (driver_of w h).fixed.slots_at lot (map_id (hart h) lot.id i) c; lot = lot.id; area = is_area lot.kind }
