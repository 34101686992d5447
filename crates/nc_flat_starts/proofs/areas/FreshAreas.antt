-- A new area: its pages are free, so nobody has its bytes, no copy of them is there, and no queue has an entry for them.
use Rattle.std.specs.Prelude.{Option, Some, None, ◌==◌, ◌-◌, ◌/◌, ◌%◌, true, false, All, is_some}
use Rattle.std.specs.List.{list_any}
use Rattle.std.proofs.Common.{◌≡◌, ℕ, ◌<◌, ◌≤◌, List, [], ◌∷◌, length, refl, sym, ap, ◌∙◌, inl, inr, subst, arith}
use Rattle.std.proofs.lemmas.Bool.{cases_Bool, both_ways, or_parts, or_from, eqb-true, false_from_ne_true, cond-true}
use Rattle.std.proofs.lemmas.List.Elements.{All-head, All-tail}
use Rattle.nc_num.specs.Memory.{byte}
use Rattle.nc_num.specs.Places.{block_at, covers}
use Rattle.nc_num.specs.Sizes.{IsBlockSize}
use Rattle.nc_num.specs.declared.names.HartNo.{HartNo}
use Rattle.nc_num.specs.declared.names.MemType.{MemType}
use Rattle.nc_num.specs.declared.names.MemType.TheVariants.{Pma, Nc, Io}
use Rattle.nc_num.specs.declared.places.Span.{Span}
use Rattle.nc_env.specs.declared.CboOp.TheVariants as cbos
use Rattle.nc_queue.specs.declared.entry.Entry.{Entry as QueueEntry}
use Rattle.nc_queue.specs.declared.entry.Entry.TheVariants as entries
use Rattle.nc_lines.specs.Lines.{gives_at}
use Rattle.nc_lines.proofs.LineLaws.{lines_cover}
use Rattle.nc_model.specs.declared.owners.Owner.{Owner}
use Rattle.nc_model.specs.declared.owners.Owner.TheVariants.{Returning, Pool}
use Rattle.nc_scen.specs.Regions.{pool_of, slots_of}
use Rattle.nc_scen.specs.declared.scenario.Scenario.{Scenario}
use Rattle.nc_rules.specs.declared.lots.Lot.{Lot}
use Rattle.nc_rules.specs.Lots.{DriverConfig, only_entry}
use Rattle.nc_rules.specs.Machine.{queue_of}
use Rattle.nc_rules.specs.Turns.{is_area}
use Rattle.nc_rules.specs.EventTouches.{owner_of}
use Rattle.nc_rules.specs.World.{WorldState, driver_of}
use Rattle.nc_calls.specs.PlaceLaws.{NotHeld, may_leave_stale_copy}
use Rattle.nc_scripts.specs.Drivers.{IsFixed, IsLotIn}
use Rattle.nc_holds.specs.Held.{FitsSide, IsTaken}
use Rattle.nc_holds.specs.Holds.{held_of}
use Rattle.nc_holds.proofs.lists.Members.{all_at}
use Rattle.nc_holds.proofs.owners.Areas.{IsNewArea, area_off}
use Rattle.nc_holds.proofs.owners.Lots.{area_in, area_covers}
use Rattle.nc_holds.proofs.owners.Pages.{area_entry}
use Rattle.nc_rows.specs.Places.{PoolRow}
use Rattle.nc_rows.specs.Rows.{Loan, device_place, gives_block, Row}
use Rattle.nc_rows.specs.Parts.{IsDropped, IsQueued, MayBeHeld}
use Rattle.nc_row_plans.specs.Begins.{NoneQueued}
use Rattle.nc_flatness.specs.Books.{book_of, mapping_in, IsOfArea}
use Rattle.nc_flatness.specs.Flatness.{Flatness}
use Rattle.nc_flatness.proofs.books.BookReads.{pool_unheld}
use Rattle.nc_flatness.proofs.books.Loans.{loan_is}
use Rattle.nc_flatness.proofs.books.Owned.{mapped, owned_ram}
use Rattle.nc_flatness.proofs.books.Seen.{place_ways, slot_block}
use Rattle.nc_flatness.proofs.books.WholeBlocks.{in_whole, whole_slots}
use Rattle.nc_flat_starts.proofs.opening.Opens.{area_unslotted}
use Rattle.nc_flat_starts.proofs.opening.Bases.{fixed_is}
use Rattle.nc_flat_starts.proofs.turning.Blocks.{none_in_block}
use Rattle.nc_flat_starts.proofs.turning.Frames.{IsPlace}
use Rattle.nc_flat_starts.proofs.turning.OpenRows.{queues_fit}
use Rattle.nc_flat_starts.proofs.turning.TurnBytes.{pool_ram}

pub record IsFresh (sc : Scenario) (f : List ℕ) (w : WorldState) (h : HartNo) (lot : Lot) : Type 0 where
  pub flat : Flatness sc f w
  pub lt : h.0 < length sc.harts
  pub new : IsNewArea (length w.machine.cache.ram) (length w.machine.harts) (driver_of w h.0).fixed (held_of w h.0) lot

-- ---- its blocks

paged : (at from : ℕ) → at % 4096 ≡ 0 → at ≤ from → (from - at) % 4096 ≡ 0 → from % 2048 ≡ 0
paged at from low le rest = omega (arith, low, le, rest)

halved : (n : ℕ) → n % 4096 ≡ 0 → n % 2048 ≡ 0
halved n whole = omega (arith, whole)

-- an area has the whole block of each of its places
pub area_block : (ram harts : ℕ) (f : DriverConfig) (lot : Lot) (s x y : ℕ) → IsFixed ram harts f → IsLotIn ram f lot → is_area lot.kind ≡ true → IsBlockSize s → y / s ≡ x / s → covers (only_entry lot).span x ≡ true → covers (only_entry lot).span y ≡ true
area_block ram harts f lot s x y fixed is area size same on =
    let span = (only_entry lot).span in
    let p = area_in ram f lot 0 (only_entry lot) is area (area_entry ram f lot is area) in
    in_whole {s = s} span x y size (whole_slots s span.at size (paged f.pool.at span.at fixed.pool_whole p.starts p.aligned)) (whole_slots s span.len size (halved span.len p.whole)) same on

fresh_at : (sc : Scenario) (f : List ℕ) (w : WorldState) (h : HartNo) (lot : Lot) (x : ℕ) → IsFresh sc f w h lot → covers (only_entry lot).span x ≡ true → IsPlace lot 0 (only_entry lot) x
fresh_at sc f w h lot x k on = record { entry = area_entry (length w.machine.cache.ram) (driver_of w h.0).fixed lot k.new.is k.new.area; on = on }

fresh_over : (sc : Scenario) (f : List ℕ) (w : WorldState) (h : HartNo) (lot : Lot) (x : ℕ) → IsFresh sc f w h lot → covers (only_entry lot).span x ≡ true → covers (pool_of sc) x ≡ true
fresh_over sc f w h lot x k on =
    let fx = (driver_of w h.0).fixed in
    subst (λ (s : Span). covers s x ≡ true) (ap (λ (j : DriverConfig). j.pool) (fixed_is sc f w h k.flat k.lt))
    (area_covers (length w.machine.cache.ram) fx lot 0 (only_entry lot) x k.new.is k.new.area (area_entry (length w.machine.cache.ram) fx lot k.new.is k.new.area) on)

-- ---- nobody has its bytes

taken_elsewhere : (sc : Scenario) (f : List ℕ) (w : WorldState) (h : HartNo) (lot : Lot) (x : ℕ) → IsFresh sc f w h lot → covers (only_entry lot).span x ≡ true → IsOfArea (book_of w) x → ⊥
taken_elsewhere sc f w h lot x k on a =
    let l = loan_is sc f w a.id a.loan k.flat a.lent in
    let g = a.id.hart.0 in
    let gx = (driver_of w g).fixed in
    let ram = length w.machine.cache.ram in
    let d = k.flat.world.holds.each g l.hart in
    let here = subst (λ (n : ℕ). h.0 < n) (sym k.flat.world.of_scenario.harts) k.lt in
    area_off ram (length w.machine.harts) (driver_of w h.0).fixed gx (held_of w h.0) lot l.lot l.i l.entry x k.new d.regions d.setting.pages (k.flat.world.holds.alike h.0 g here l.hart).pool (all_at (IsLotIn ram gx) (driver_of w g).lots l.lot d.driver.lots l.here.lot_in)
    (all_at (FitsSide gx) (driver_of w g).lots l.lot d.agrees.sides l.here.lot_in) (all_at (IsTaken w.pages) (driver_of w g).lots l.lot d.agrees.pages l.here.lot_in) l.here.entry (subst (λ (s : Span). covers s x ≡ true) l.buffer a.on) on

pub fresh_pool : (sc : Scenario) (f : List ℕ) (w : WorldState) (h : HartNo) (lot : Lot) (x : ℕ) → IsFresh sc f w h lot → covers (only_entry lot).span x ≡ true → owner_of w x ≡ Pool
fresh_pool sc f w h lot x k on = elim (k.flat.bytes.pooled x (fresh_over sc f w h lot x k on)) [
  | inl nobody ↦ nobody
  | inr area ↦ absurd (taken_elsewhere sc f w h lot x k on area)
]

fresh_row : (sc : Scenario) (f : List ℕ) (w : WorldState) (h : HartNo) (lot : Lot) (x : ℕ) → IsFresh sc f w h lot → covers (only_entry lot).span x ≡ true → PoolRow (byte f x) w.machine x
fresh_row sc f w h lot x k on =
    let off = area_unslotted sc f w h lot 0 (only_entry lot) x k.flat k.lt k.new.is k.new.area (fresh_at sc f w h lot x k on) in
    subst (λ (o : Owner). Row (book_of w) o (byte f x) w.machine x) (fresh_pool sc f w h lot x k on) (k.flat.bytes.rows x (pool_ram sc f w x k.flat (fresh_over sc f w h lot x k on)) off)

pub fresh_free : (sc : Scenario) (f : List ℕ) (w : WorldState) (h : HartNo) (lot : Lot) (x : ℕ) → IsFresh sc f w h lot → covers (only_entry lot).span x ≡ true → NotHeld w.machine x
fresh_free sc f w h lot x k on =
    pool_unheld sc f w x k.flat (subst (λ (s : Span). covers s x ≡ true) (sym k.flat.world.of_scenario.pool) (fresh_over sc f w h lot x k on)) (λ may. subst (λ (o : Owner). MayBeHeld (book_of w) o) (fresh_pool sc f w h lot x k on) may)

-- ---- no queue has an entry for them

pub fresh_block : (sc : Scenario) (f : List ℕ) (w : WorldState) (h : HartNo) (lot : Lot) (x g : ℕ) → IsFresh sc f w h lot → covers (only_entry lot).span x ≡ true → NoneQueued (gives_block w.machine x) w.machine g
fresh_block sc f w h lot x g k on =
    let m = w.machine in
    none_in_block m.size (x / m.size) (queue_of m g) k.flat.world.machine.block_size (queues_fit sc f w g k.flat)
    (λ z same. (fresh_row sc f w h lot z k (area_block (length m.cache.ram) (length m.harts) (driver_of w h.0).fixed lot m.size x z k.new.knows.fixed k.new.is k.new.area k.flat.world.machine.block_size same on)).none g)

store_gives_at : (s x : ℕ) (span : Span) (bytes : List ℕ) (kind : MemType) → gives_at s x (entries.Store span bytes kind) ≡ false → covers span x ≡ false
store_gives_at s x span bytes kind none = elim (cases_Bool (covers span x)) [
  | inl on ↦ let some : gives_at s x (entries.Store span bytes kind) ≡ true = ap (λ (o : Option ℕ). is_some o) (cond-true (covers span x) (Some (byte bytes (x - span.at))) None on) in absurd (both_ways (gives_at s x (entries.Store span bytes kind)) none some)
  | inr off ↦ off
]

-- a block of it is none that is dropped
undropped : (sc : Scenario) (f : List ℕ) (w : WorldState) (h : HartNo) (lot : Lot) (x g b : ℕ) → IsFresh sc f w h lot → covers (only_entry lot).span x ≡ true → IsDropped (book_of w) (owner_of w) w.machine.size g b → x / w.machine.size ≡ b → ⊥
undropped sc f w h lot x g b k on is same =
    let m = w.machine in
    let e : mapping_in (owner_of w is.place) ≡ Some is.id = ap mapping_in is.owned in
    let p = mapped sc f w is.id is.place k.flat (owned_ram sc f w is.place is.id k.flat e) e in
    let loan : is.loan ≡ p.loan = let both = sym is.lent ∙ p.known in cc in
    let block : device_place p.loan is.place / m.size ≡ x / m.size = ap (λ (l : Loan). device_place l is.place / m.size) (sym loan) ∙ is.here ∙ sym same in
    elim (place_ways sc f w is.id is.place k.flat p) [
      | inl direct ↦
          let beside : is.place / m.size ≡ x / m.size = ap (λ (z : ℕ). z / m.size) (sym direct.0) ∙ block in
          let there = area_block (length m.cache.ram) (length m.harts) (driver_of w h.0).fixed lot m.size x is.place k.new.knows.fixed k.new.is k.new.area k.flat.world.machine.block_size beside on in
          let both : Pool ≡ Returning is.id = sym (fresh_pool sc f w h lot is.place k there) ∙ is.owned in
          absurd cc
      | inr slot ↦
          both_ways (covers (slots_of sc) x) (area_unslotted sc f w h lot 0 (only_entry lot) x k.flat k.lt k.new.is k.new.area (fresh_at sc f w h lot x k on)) (slot_block sc f w (device_place p.loan is.place) x k.flat slot.0 block)
    ]

parts_by : (sc : Scenario) (f : List ℕ) (w : WorldState) (h : HartNo) (lot : Lot) (x g : ℕ) (e : QueueEntry) → IsFresh sc f w h lot → covers (only_entry lot).span x ≡ true → IsQueued (book_of w) (owner_of w) w.machine.pool w.machine.size g e → gives_at w.machine.size x e ≡ false → may_leave_stale_copy w.machine.size e x ≡ false
parts_by sc f w h lot x g (entries.Store span bytes Pma) k on is none = refl
parts_by sc f w h lot x g (entries.Store span bytes Nc) k on is none = store_gives_at w.machine.size x span bytes Nc none
parts_by sc f w h lot x g (entries.Store span bytes Io) k on is none = absurd is
parts_by sc f w h lot x g (entries.Cbo block cbos.Clean) k on is none = refl
parts_by sc f w h lot x g (entries.Cbo block cbos.Flush) k on is none = refl
parts_by sc f w h lot x g (entries.Cbo block cbos.Zero) k on is none = refl
parts_by sc f w h lot x g (entries.Cbo block cbos.Inval) k on is none = false_from_ne_true (block_at x w.machine.size == block.0) (λ same. undropped sc f w h lot x g block.0 k on is (eqb-true (block_at x w.machine.size) block.0 same))
parts_by sc f w h lot x g (entries.Reg chan off width value) k on is none = refl
parts_by sc f w h lot x g (entries.Mail buf to) k on is none = refl
parts_by sc f w h lot x g (entries.Lend label first count) k on is none = refl
parts_by sc f w h lot x g (entries.Mark pred succ) k on is none = refl

parts_all : (sc : Scenario) (f : List ℕ) (w : WorldState) (h : HartNo) (lot : Lot) (x g : ℕ) (q : List QueueEntry) → IsFresh sc f w h lot → covers (only_entry lot).span x ≡ true → All (IsQueued (book_of w) (owner_of w) w.machine.pool w.machine.size g) q → list_any (gives_at w.machine.size x) q ≡ false
    → list_any (λ e. may_leave_stale_copy w.machine.size e x) q ≡ false
parts_all sc f w h lot x g [] k on all none = refl
parts_all sc f w h lot x g (e ∷ q) k on all none =
    let P = IsQueued (book_of w) (owner_of w) w.machine.pool w.machine.size g in
    let each = or_parts (gives_at w.machine.size x e) (list_any (gives_at w.machine.size x) q) none in
    or_from (may_leave_stale_copy w.machine.size e x) (list_any (λ a. may_leave_stale_copy w.machine.size a x) q) (parts_by sc f w h lot x g e k on (All-head P e q all) each.0) (parts_all sc f w h lot x g q k on (All-tail P e q all) each.1)

pub fresh_parts : (sc : Scenario) (f : List ℕ) (w : WorldState) (h : HartNo) (lot : Lot) (x g : ℕ) → IsFresh sc f w h lot → covers (only_entry lot).span x ≡ true → list_any (λ e. may_leave_stale_copy w.machine.size e x) (queue_of w.machine g) ≡ false
fresh_parts sc f w h lot x g k on = parts_all sc f w h lot x g (queue_of w.machine g) k on (k.flat.bytes.queued g) (lines_cover.none_gives w.machine.size x (queue_of w.machine g) ((fresh_row sc f w h lot x k on).none g))
