-- A range that its device may write has the whole block of each of its places, where it does not bounce.
use Rattle.std.specs.Prelude.{◌&&◌, ◌||◌, ◌==◌, ◌/◌, ◌%◌, ◌⊎◌, nat_lt, not, length}
use Rattle.std.proofs.Common.{◌≡◌, ℕ, ◌+◌, ◌<◌, ◌≤◌, Bool, true, false, List, sym, ap, ◌∙◌, inl, inr, subst, arith}
use Rattle.std.proofs.lemmas.Bool.{and_parts, or_parts, not-false, eqb-true, cases_Bool}
use Rattle.nc_num.specs.Sizes.{IsBlockSize}
use Rattle.nc_num.specs.Places.{covers}
use Rattle.nc_num.specs.declared.names.ChanNo.{ChanNo}
use Rattle.nc_num.specs.declared.names.Dir.{Dir}
use Rattle.nc_num.specs.declared.names.MapId.{MapId}
use Rattle.nc_num.specs.declared.places.Span.{Span}
use Rattle.nc_plan.specs.Parts.{comes_back, is_whole, bounces}
use Rattle.nc_model.proofs.Faults.{covers-low, covers-high, covers-from}
use Rattle.nc_sg.specs.declared.list.Entry.{Entry}
use Rattle.nc_scen.specs.declared.scenario.Scenario.{Scenario}
use Rattle.nc_rules.specs.declared.lots.Kind.{Kind}
use Rattle.nc_rules.specs.declared.lots.Lot.{Lot}
use Rattle.nc_rules.specs.Lots.{DriverConfig, reach_of, owner_of_side}
use Rattle.nc_rules.specs.Turns.{is_area}
use Rattle.nc_rules.specs.EventTouches.{owner_of}
use Rattle.nc_rules.specs.World.{WorldState, driver_of}
use Rattle.nc_scripts.specs.Drivers.{BouncesSo}
use Rattle.nc_holds.specs.Held.{IsEntryOf}
use Rattle.nc_holds.proofs.lists.Members.{all_at, at_get}
use Rattle.nc_holds.proofs.owners.Lots.{area_in}
use Rattle.nc_flatness.specs.Flatness.{Flatness}
use Rattle.nc_flatness.proofs.books.Loans.{hart_of_lot, lot_in}
use Rattle.nc_flatness.proofs.books.Owned.{IsMapped, of_buffer, entry_owned}

-- ---- whole blocks

from_there : {s : ℕ} (at x y : ℕ) → IsBlockSize s → at % s ≡ 0 → y / s ≡ x / s → at ≤ x → at ≤ y
from_there {s = s} at x y size low same le = grind arith

before_end : {s : ℕ} (at len x y : ℕ) → IsBlockSize s → at % s ≡ 0 → len % s ≡ 0 → y / s ≡ x / s → x < at + len → y < at + len
before_end {s = s} at len x y size low whole same lt = grind arith

-- whole blocks have each place of a block of which they have one
pub in_whole : {s : ℕ} (range : Span) (x y : ℕ) → IsBlockSize s → range.at % s ≡ 0 → range.len % s ≡ 0 → y / s ≡ x / s → covers range x ≡ true → covers range y ≡ true
in_whole {s = s} range x y size low whole same over =
    covers-from range y (from_there {s = s} range.at x y size low same (covers-low range x over)) (before_end {s = s} range.at range.len x y size low whole same (covers-high range x over))

in_blocks : {s : ℕ} (range : Span) (x y : ℕ) → IsBlockSize s → is_whole s range ≡ true → y / s ≡ x / s → covers range x ≡ true → covers range y ≡ true
in_blocks {s = s} range x y size whole same over =
    let tests = and_parts (range.at % s == 0) (range.len % s == 0) whole in
    in_whole {s = s} range x y size (eqb-true (range.at % s) 0 tests.0) (eqb-true (range.len % s) 0 tests.1) same over

low_by : (s at : ℕ) → (s ≡ 32) ⊎ (s ≡ 64) ⊎ (s ≡ 128) → at % 2048 ≡ 0 → at % s ≡ 0
low_by s at (inl e) low = subst (λ (k : ℕ). at % k ≡ 0) (sym e) (omega (arith, low))
low_by s at (inr (inl e)) low = subst (λ (k : ℕ). at % k ≡ 0) (sym e) (omega (arith, low))
low_by s at (inr (inr e)) low = subst (λ (k : ℕ). at % k ≡ 0) (sym e) (omega (arith, low))

-- multiples of 2,048 are of whole blocks
pub whole_slots : (s at : ℕ) → IsBlockSize s → at % 2048 ≡ 0 → at % s ≡ 0
whole_slots s at size low = low_by s at size.one_of low

-- ---- entries

-- a range that does not bounce is whole blocks, where its device may write
whole_by : (f : DriverConfig) (kind : Kind) (dir : Dir) (chan : ChanNo) (e : Entry) → BouncesSo f kind dir chan e → is_area kind ≡ false → e.bounced ≡ false → comes_back dir ≡ true → is_whole f.size e.span ≡ true
whole_by f kind dir chan e so mapping direct back =
    let none : ((comes_back dir && not (is_whole f.size e.span)) || nat_lt (reach_of f chan) (e.span.at + e.span.len)) ≡ false =
    sym (so ∙ ap (λ (t : Bool). not t && bounces e.span dir f.size (reach_of f chan)) mapping) ∙ direct in
    let both = (or_parts (comes_back dir && not (is_whole f.size e.span)) (nat_lt (reach_of f chan) (e.span.at + e.span.len)) none).0 in
    not-false (is_whole f.size e.span) (sym (ap (λ (t : Bool). t && not (is_whole f.size e.span)) back) ∙ both)

-- the one range of an area is whole blocks
area_block : (sc : Scenario) (f : List ℕ) (w : WorldState) (h : ℕ) (lot : Lot) (i : ℕ) (e : Entry) (x y : ℕ) → Flatness sc f w → IsEntryOf (driver_of w h).lots lot i e → is_area lot.kind ≡ true → y / w.machine.size ≡ x / w.machine.size
    → covers e.span x ≡ true → covers e.span y ≡ true
area_block sc f w h lot i e x y flat here area same over =
    let lt = hart_of_lot w h lot flat.world.holds here.lot_in in
    let size = flat.world.machine.block_size in
    let fixed = (flat.world.holds.each h lt).driver.fixed in
    let p = area_in (length w.machine.cache.ram) (driver_of w h).fixed lot i e (lot_in sc f w h lot flat here.lot_in) area here.entry in
    let low : e.span.at % 2048 ≡ 0 = omega (arith, fixed.pool_whole, p.starts, p.aligned) in
    let long : e.span.len % 2048 ≡ 0 = omega (arith, p.whole) in
    in_whole {s = w.machine.size} e.span x y size (whole_slots w.machine.size e.span.at size low) (whole_slots w.machine.size e.span.len size long) same over

-- an entry that does not bounce has each place of a block of which it has one
pub entry_block : (sc : Scenario) (f : List ℕ) (w : WorldState) (h : ℕ) (lot : Lot) (i : ℕ) (e : Entry) (x y : ℕ) → Flatness sc f w → IsEntryOf (driver_of w h).lots lot i e → e.bounced ≡ false → comes_back lot.list.dir ≡ true
    → y / w.machine.size ≡ x / w.machine.size → covers e.span x ≡ true → covers e.span y ≡ true
entry_block sc f w h lot i e x y flat here direct back same over =
    elim (cases_Bool (is_area lot.kind)) [
      | inl area ↦ area_block sc f w h lot i e x y flat here area same over
      | inr area ↦
          let d = driver_of w h in
          let lt = hart_of_lot w h lot flat.world.holds here.lot_in in
          let fits = lot_in sc f w h lot flat here.lot_in in
          let so = all_at (BouncesSo d.fixed lot.kind lot.list.dir lot.chan) lot.list.entries e fits.bounce (at_get lot.list.entries i e here.entry) in
          let whole : is_whole w.machine.size e.span ≡ true =
          subst (λ (s : ℕ). is_whole s e.span ≡ true) (sym (flat.world.holds.each h lt).setting.block) (whole_by d.fixed lot.kind lot.list.dir lot.chan e so area direct back) in
          in_blocks {s = w.machine.size} e.span x y flat.world.machine.block_size whole same over
    ]

-- a place of the same entry has the owner of its side
same_entry : (sc : Scenario) (f : List ℕ) (w : WorldState) (n : MapId) (x y : ℕ) → Flatness sc f w → (is : IsMapped w n x) → covers is.is.entry.span y ≡ true → (covers is.loan.grant.buffer y ≡ true) × (owner_of w y ≡ owner_of w x)
same_entry sc f w n x y flat is there =
    let l = is.is in
    let owned : owner_of w y ≡ owner_of_side n l.lot.side =
    entry_owned sc f w n.hart.0 l.lot l.i l.entry y flat l.here there ∙ ap (λ (k : MapId). owner_of_side k l.lot.side) (sym l.name) in
    (subst (λ (s : Span). covers s y ≡ true) (sym l.buffer) there, owned ∙ sym is.owner)

-- so has the whole block of a mapping's place
pub mapped_block : (sc : Scenario) (f : List ℕ) (w : WorldState) (n : MapId) (x y : ℕ) → Flatness sc f w → (is : IsMapped w n x) → is.is.entry.bounced ≡ false → comes_back is.loan.grant.dir ≡ true → y / w.machine.size ≡ x / w.machine.size
    → (covers is.loan.grant.buffer y ≡ true) × (owner_of w y ≡ owner_of w x)
mapped_block sc f w n x y flat is direct back same =
    let l = is.is in
    same_entry sc f w n x y flat is
    (entry_block sc f w n.hart.0 l.lot l.i l.entry x y flat l.here direct (subst (λ (k : Dir). comes_back k ≡ true) l.dir back) same (of_buffer w n is.loan x l is.on))

-- and that of an area's
pub area_whole : (sc : Scenario) (f : List ℕ) (w : WorldState) (n : MapId) (x y : ℕ) → Flatness sc f w → (is : IsMapped w n x) → is.loan.area ≡ true → y / w.machine.size ≡ x / w.machine.size
    → (covers is.loan.grant.buffer y ≡ true) × (owner_of w y ≡ owner_of w x)
area_whole sc f w n x y flat is area same =
    let l = is.is in
    same_entry sc f w n x y flat is (area_block sc f w n.hart.0 l.lot l.i l.entry x y flat l.here (sym l.area ∙ area) same (of_buffer w n is.loan x l is.on))
