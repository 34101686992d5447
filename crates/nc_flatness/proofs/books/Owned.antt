-- The places of mappings: each is of an entry of a lot, whose side says its owner.
use Rattle.std.proofs.Common.{◌≡◌, ℕ, ◌<◌, ◌≤◌, true, List, length, refl, sym, ap, subst, ◌∙◌, inl, inr, arith, Option, Some, None}
use Rattle.std.proofs.lemmas.Bool.{cases_lt}
use Rattle.std.proofs.lemmas.List.{get_or_past}
use Rattle.nc_num.specs.Places.{covers}
use Rattle.nc_num.specs.declared.names.HartNo.{HartNo}
use Rattle.nc_num.specs.declared.names.MapId.{MapId}
use Rattle.nc_num.specs.declared.places.Span.{Span}
use Rattle.nc_model.specs.declared.owners.Owner.{Owner}
use Rattle.nc_model.specs.declared.owners.Owner.TheVariants.{Pool}
use Rattle.nc_own.specs.Books.{owner_in}
use Rattle.nc_sg.specs.declared.list.Entry.{Entry}
use Rattle.nc_scen.specs.declared.scenario.Scenario.{Scenario}
use Rattle.nc_rules.specs.declared.lots.Lot.{Lot}
use Rattle.nc_rules.specs.Lots.{map_id, owner_of_side}
use Rattle.nc_rules.specs.Start.{fixed_of, hart_spec}
use Rattle.nc_rules.specs.EventTouches.{owner_of}
use Rattle.nc_rules.specs.World.{WorldState, driver_of, hart}
use Rattle.nc_plan.specs.Plans.{In}
use Rattle.nc_holds.specs.Held.{IsEntryOf, FitsSide}
use Rattle.nc_holds.specs.Holds.{Holds}
use Rattle.nc_holds.proofs.lists.Members.{all_at}
use Rattle.nc_holds.proofs.owners.Lots.{below}
use Rattle.nc_rows.specs.Rows.{Loan}
use Rattle.nc_flatness.specs.Books.{book_of, mapping_in, LiesIn}
use Rattle.nc_flatness.specs.Flatness.{Flatness}
use Rattle.nc_flatness.proofs.books.Loans.{IsLoan, hart_of_lot, lot_in, loan_is}

-- ---- the places of an entry

pub me_is : (w : WorldState) (h : ℕ) → Holds w → h < length w.machine.harts → (driver_of w h).fixed.me ≡ hart h
me_is w h k lt = let e = (k.each h lt).me in λ i. record { 0 = e i }

pub fixed_is : (sc : Scenario) (f : List ℕ) (w : WorldState) (h : ℕ) → Flatness sc f w → h < length w.machine.harts → (driver_of w h).fixed ≡ fixed_of sc (hart h) (hart_spec sc h)
fixed_is sc f w h flat lt = flat.world.fixed h (omega (arith, lt, flat.world.of_scenario.harts))

-- its bytes have the owner that its lot's side says
pub entry_owned : (sc : Scenario) (f : List ℕ) (w : WorldState) (h : ℕ) (lot : Lot) (i : ℕ) (e : Entry) (x : ℕ) → Flatness sc f w → IsEntryOf (driver_of w h).lots lot i e → covers e.span x ≡ true
    → owner_of w x ≡ owner_of_side (map_id (hart h) lot.id i) lot.side
entry_owned sc f w h lot i e x flat here on =
    let lt = hart_of_lot w h lot flat.world.holds here.lot_in in
    (flat.world.holds.each h lt).agrees.owners lot i e x here on ∙ ap (λ (me : HartNo). owner_of_side (map_id me lot.id i) lot.side) (me_is w h flat.world.holds lt)

-- and are of RAM
pub entry_ram : (sc : Scenario) (f : List ℕ) (w : WorldState) (h : ℕ) (lot : Lot) (i : ℕ) (e : Entry) (x : ℕ) → Flatness sc f w → IsEntryOf (driver_of w h).lots lot i e → covers e.span x ≡ true → x < sc.ram
entry_ram sc f w h lot i e x flat here on =
    let lt = below (length w.machine.cache.ram) (driver_of w h).fixed lot i e x (lot_in sc f w h lot flat here.lot_in) here.entry on in
    omega (arith, lt, flat.world.of_scenario.ram)

-- what its kind says of a lot
pub fits_side : (sc : Scenario) (f : List ℕ) (w : WorldState) (h : ℕ) (lot : Lot) → Flatness sc f w → In lot (driver_of w h).lots → FitsSide (driver_of w h).fixed lot
fits_side sc f w h lot flat here =
    let lt = hart_of_lot w h lot flat.world.holds here in
    all_at (FitsSide (driver_of w h).fixed) (driver_of w h).lots lot (flat.world.holds.each h lt).agrees.sides here

-- ---- the place of a mapping

pub record IsMapped (w : WorldState) (n : MapId) (x : ℕ) : Type 0 where
  pub loan : Loan
  pub known : (book_of w).loan n ≡ Some loan
  pub is : IsLoan w n loan
  pub on : covers loan.grant.buffer x ≡ true
  pub owner : owner_of w x ≡ owner_of_side n is.lot.side

-- a place of the buffer of a mapping is one of its entry
pub of_buffer : (w : WorldState) (n : MapId) (l : Loan) (x : ℕ) → (is : IsLoan w n l) → covers l.grant.buffer x ≡ true → covers is.entry.span x ≡ true
of_buffer w n l x is on = subst (λ (s : Span). covers s x ≡ true) is.buffer on

-- of each place of a mapping's buffer the owner is known
pub loan_mapped : (sc : Scenario) (f : List ℕ) (w : WorldState) (n : MapId) (l : Loan) (x : ℕ) → Flatness sc f w → (book_of w).loan n ≡ Some l → covers l.grant.buffer x ≡ true → IsMapped w n x
loan_mapped sc f w n l x flat known on =
    let is = loan_is sc f w n l flat known in
    record {
      loan = l;
      known = known;
      is = is;
      on = on;
      owner = entry_owned sc f w n.hart.0 is.lot is.i is.entry x flat is.here (of_buffer w n l x is on) ∙ ap (λ (k : MapId). owner_of_side k is.lot.side) (sym is.name);
    }

lies_by : (o : Option Loan) (x : ℕ) → LiesIn o x → (l : Loan) × (o ≡ Some l) × (covers l.grant.buffer x ≡ true)
lies_by None x lies = absurd lies
lies_by (Some l) x lies = (l, refl, lies)

-- the owner says it
pub mapped : (sc : Scenario) (f : List ℕ) (w : WorldState) (n : MapId) (x : ℕ) → Flatness sc f w → x < sc.ram → mapping_in (owner_of w x) ≡ Some n → IsMapped w n x
mapped sc f w n x flat lt e = let lies = lies_by ((book_of w).loan n) x (flat.bytes.placed x n lt e) in loan_mapped sc f w n lies.0 x flat lies.1 lies.2

past_pool : (os : List Owner) (x : ℕ) → length os ≤ x → owner_in os x ≡ Pool
unfolding owner_in
past_pool os x past = get_or_past os x Pool past

-- beside RAM nothing is owned
pub owner_past : (sc : Scenario) (f : List ℕ) (w : WorldState) (x : ℕ) → Flatness sc f w → sc.ram ≤ x → owner_of w x ≡ Pool
owner_past sc f w x flat past = past_pool w.owners x (omega (arith, past, flat.world.holds.owners, flat.world.of_scenario.ram))

-- so a mapping's place is one of RAM
pub owned_ram : (sc : Scenario) (f : List ℕ) (w : WorldState) (x : ℕ) (n : MapId) → Flatness sc f w → mapping_in (owner_of w x) ≡ Some n → x < sc.ram
owned_ram sc f w x n flat e = elim (cases_lt x sc.ram) [
  | inl lt ↦ lt
  | inr past ↦ let none : mapping_in (owner_of w x) ≡ None = ap mapping_in (owner_past sc f w x flat past) in let both = sym none ∙ e in absurd (cc)
]
