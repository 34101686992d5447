-- The coherent pool beside the lot in hand: it is whole blocks, and none of them is of the slots.
use Rattle.std.specs.Prelude.{Some, ◌/◌, ◌%◌, true, false}
use Rattle.std.proofs.Common.{◌≡◌, ℕ, ◌<◌, List, length, sym, ap, ◌∙◌, inl, inr, subst, arith}
use Rattle.std.proofs.lemmas.Bool.{cases_Bool, both_ways}
use Rattle.nc_num.specs.Places.{covers}
use Rattle.nc_num.specs.Sizes.{IsBlockSize}
use Rattle.nc_num.specs.declared.names.MapId.{MapId}
use Rattle.nc_num.specs.declared.places.Span.{Span}
use Rattle.nc_model.specs.declared.owners.Owner.TheVariants.{Lending}
use Rattle.nc_scen.specs.Regions.{pool_of, slots_of}
use Rattle.nc_scen.specs.declared.scenario.Scenario.{Scenario}
use Rattle.nc_rules.specs.EventTouches.{owner_of}
use Rattle.nc_rules.specs.World.{WorldState, driver_of}
use Rattle.nc_holds.specs.Held.{slots_span}
use Rattle.nc_holds.proofs.lists.Members.{same_some}
use Rattle.nc_rows.specs.Rows.{Loan}
use Rattle.nc_flatness.specs.Books.{book_of, mapping_in}
use Rattle.nc_flatness.specs.Flatness.{Flatness}
use Rattle.nc_flatness.proofs.books.Areas.{pool_is, area_pooled}
use Rattle.nc_flatness.proofs.books.Owned.{mapped}
use Rattle.nc_flatness.proofs.books.Seen.{slots_at_is, slots_are}
use Rattle.nc_flatness.proofs.books.WholeBlocks.{in_whole}

-- ---- areas

-- a place of an area that is being lent
pub lent_pooled : (sc : Scenario) (f : List ℕ) (w : WorldState) (n : MapId) (l : Loan) (x : ℕ) → Flatness sc f w → x < sc.ram → owner_of w x ≡ Lending n → (book_of w).loan n ≡ Some l → l.area ≡ true → covers (pool_of sc) x ≡ true
lent_pooled sc f w n l x flat there owner known area =
    let m = mapped sc f w n x flat there (ap mapping_in owner) in
    area_pooled sc f w n x flat m (ap (λ (k : Loan). k.area) (same_some m.loan l (sym m.known ∙ known)) ∙ area)

-- ---- slots

-- no byte of a slot is the pool's
pub slot_unpooled : (sc : Scenario) (f : List ℕ) (w : WorldState) (z : ℕ) → Flatness sc f w → covers (slots_of sc) z ≡ true → covers (pool_of sc) z ≡ false
slot_unpooled sc f w z flat slot = elim (cases_Bool (covers (pool_of sc) z)) [
  | inl over ↦
      let d = driver_of w 0 in
      let lt : 0 < length w.machine.harts = omega (arith, flat.world.machine.some) in
      let k = flat.world.holds.each 0 lt in
      let at = slots_at_is sc f w 0 flat lt in
      let many = slots_are sc f w 0 flat lt in
      let here : covers (slots_span d.fixed) z ≡ true = rw (at, many) slot in
      absurd (k.regions.slots_off_pool z here (ap (λ (p : Span). covers p z) (pool_is sc f w 0 flat lt) ∙ over))
  | inr off ↦ off
]

-- ---- whole blocks

pool_sized : {s : ℕ} (a : ℕ) → IsBlockSize s → a % 4096 ≡ 0 → a % s ≡ 0
pool_sized {s = s} a size whole = elim size.one_of [
  | inl e ↦ rw e (omega (arith, whole))
  | inr r ↦ elim r [ inl e ↦ rw e (omega (arith, whole)) | inr e ↦ rw e (omega (arith, whole)) ]
]

pub pool_block : (sc : Scenario) (f : List ℕ) (w : WorldState) (x y : ℕ) → Flatness sc f w → y / w.machine.size ≡ x / w.machine.size → covers (pool_of sc) x ≡ true → covers (pool_of sc) y ≡ true
pool_block sc f w x y flat same over =
    let lt : 0 < length w.machine.harts = omega (arith, flat.world.machine.some) in
    let k = flat.world.holds.each 0 lt in
    let pool = pool_is sc f w 0 flat lt in
    let size = flat.world.machine.block_size in
    in_whole {s = w.machine.size} (pool_of sc) x y size
    (subst (λ (p : Span). p.at % w.machine.size ≡ 0) pool (pool_sized {s = w.machine.size} _ size k.driver.fixed.pool_whole))
    (subst (λ (p : Span). p.len % w.machine.size ≡ 0) pool (pool_sized {s = w.machine.size} _ size k.driver.fixed.pool_paged)) same over

-- so no block has a place of the pool and another
pub pool_apart : (sc : Scenario) (f : List ℕ) (w : WorldState) (x y : ℕ) → Flatness sc f w → covers (pool_of sc) x ≡ true → covers (pool_of sc) y ≡ false → y / w.machine.size ≡ x / w.machine.size → ⊥
pool_apart sc f w x y flat over off same = both_ways (covers (pool_of sc) y) off (pool_block sc f w x y flat same over)
