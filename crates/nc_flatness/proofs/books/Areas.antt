-- The coherent pool: a place of it is nobody's, or one of an area, and no other mapping has one.
use Rattle.std.proofs.Common.{◌≡◌, ℕ, ◌<◌, true, false, List, length, sym, ap, ◌∙◌, inl, inr, subst}
use Rattle.std.proofs.lemmas.Bool.{cases_Bool}
use Rattle.nc_num.specs.Places.{covers}
use Rattle.nc_num.specs.declared.names.MapId.{MapId}
use Rattle.nc_num.specs.declared.places.Span.{Span}
use Rattle.nc_sg.specs.declared.list.Entry.{Entry}
use Rattle.nc_scen.specs.Regions.{pool_of}
use Rattle.nc_scen.specs.declared.scenario.Scenario.{Scenario}
use Rattle.nc_rules.specs.declared.lots.Lot.{Lot}
use Rattle.nc_rules.specs.Lots.{DriverConfig}
use Rattle.nc_rules.specs.Turns.{is_area}
use Rattle.nc_rules.specs.World.{WorldState, driver_of}
use Rattle.nc_holds.specs.Held.{LiesInBuffer, FitsSide, IsEntryOf}
use Rattle.nc_holds.proofs.lists.Members.{all_at, at_get}
use Rattle.nc_holds.proofs.owners.Lots.{area_covers}
use Rattle.nc_flatness.specs.Flatness.{Flatness}
use Rattle.nc_flatness.proofs.books.Loans.{hart_of_lot, lot_in}
use Rattle.nc_flatness.proofs.books.Owned.{fixed_is, IsMapped, of_buffer}

-- ---- the pool

pub pool_is : (sc : Scenario) (f : List ℕ) (w : WorldState) (h : ℕ) → Flatness sc f w → h < length w.machine.harts → (driver_of w h).fixed.pool ≡ pool_of sc
pool_is sc f w h flat lt = ap (λ (k : DriverConfig). k.pool) (fixed_is sc f w h flat lt)

-- ---- the places of an entry

pub entry_pooled : (sc : Scenario) (f : List ℕ) (w : WorldState) (h : ℕ) (lot : Lot) (i : ℕ) (e : Entry) (x : ℕ) → Flatness sc f w → IsEntryOf (driver_of w h).lots lot i e → is_area lot.kind ≡ true → covers e.span x ≡ true → covers (pool_of sc) x ≡ true
entry_pooled sc f w h lot i e x flat here area on =
    let lt = hart_of_lot w h lot flat.world.holds here.lot_in in
    let over = area_covers (length w.machine.cache.ram) (driver_of w h).fixed lot i e x (lot_in sc f w h lot flat here.lot_in) area here.entry on in
    subst (λ (s : Span). covers s x ≡ true) (pool_is sc f w h flat lt) over

pub entry_unpooled : (sc : Scenario) (f : List ℕ) (w : WorldState) (h : ℕ) (lot : Lot) (i : ℕ) (e : Entry) (x : ℕ) → Flatness sc f w → IsEntryOf (driver_of w h).lots lot i e → is_area lot.kind ≡ false → covers e.span x ≡ true → covers (pool_of sc) x ≡ false
entry_unpooled sc f w h lot i e x flat here area on =
    let lt = hart_of_lot w h lot flat.world.holds here.lot_in in
    let holds = flat.world.holds.each h lt in
    let fits = all_at (FitsSide (driver_of w h).fixed) (driver_of w h).lots lot holds.agrees.sides here.lot_in in
    let inside = all_at (λ (d : Entry). LiesInBuffer (driver_of w h).fixed d.span) lot.list.entries e (fits.in_buffer area) (at_get lot.list.entries i e here.entry) in
    let span : covers (driver_of w h).fixed.pool x ≡ covers (pool_of sc) x = ap (λ (s : Span). covers s x) (pool_is sc f w h flat lt) in
    elim (cases_Bool (covers (pool_of sc) x)) [
      | inl over ↦ absurd (holds.regions.buffers_off_pool inside.0 x (inside.1 x on) (span ∙ over))
      | inr off ↦ off
    ]

-- ---- the places of a mapping

-- a place of an area, whose owner is known by its lot's side
pub record IsAreaPlace (w : WorldState) (x : ℕ) : Type 0 where
  pub id : MapId
  pub is : IsMapped w id x
  pub area : is.loan.area ≡ true

pub area_pooled : (sc : Scenario) (f : List ℕ) (w : WorldState) (n : MapId) (x : ℕ) → Flatness sc f w → (m : IsMapped w n x) → m.loan.area ≡ true → covers (pool_of sc) x ≡ true
area_pooled sc f w n x flat m area = entry_pooled sc f w n.hart.0 m.is.lot m.is.i m.is.entry x flat m.is.here (sym m.is.area ∙ area) (of_buffer w n m.loan x m.is m.on)
