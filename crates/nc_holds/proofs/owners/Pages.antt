-- The pages of areas: those that are taken stay taken, and what a turn moves may be moved.
use Rattle.std.proofs.Common.{◌≡◌, ℕ, ◌+◌, ◌-◌, ◌*◌, ◌/◌, ◌≤◌, Bool, true, false, List, [], ◌∷◌, length, inl, inr, refl, sym, ap, ◌∙◌, arith, Some}
use Rattle.std.specs.Prelude.{◌⊎◌, replicate, slice_get}
use Rattle.std.proofs.lemmas.Bool.{false≢true}
use Rattle.std.proofs.lemmas.Option.{slice_get-get_or}
use Rattle.nc_num.specs.Places.{covers}
use Rattle.nc_num.specs.declared.places.Span.{Span}
use Rattle.nc_plan.specs.Plans.{In}
use Rattle.nc_model.proofs.Faults.{covers-low, covers-high, covers-from}
use Rattle.nc_coherent.specs.Pages.{PageMap, IsPages, pages_of, first_page, page_count, marked, with_pages}
use Rattle.nc_rules.specs.declared.lots.Kind.{Kind}
use Rattle.nc_rules.specs.declared.lots.Kind.TheVariants as kinds
use Rattle.nc_rules.specs.declared.lots.Lot.{Lot}
use Rattle.nc_rules.specs.declared.steps.PageMove.{PageMove}
use Rattle.nc_rules.specs.declared.steps.PageMove.TheVariants as moves
use Rattle.nc_rules.specs.Lots.{DriverConfig, only_entry, no_entry}
use Rattle.nc_rules.specs.Turns.{is_area, page_move, page_moves}
use Rattle.nc_scripts.specs.Drivers.{FitsKind, IsLotIn, ArePagesOf}
use Rattle.nc_holds.specs.Held.{IsTaken}
use Rattle.nc_holds.proofs.owners.Lots.{entry_in, area_in}
use Rattle.nc_holds.proofs.owners.PageMaps.{length-marked, so_list, list_so, so_marked, so_apart, ranges_apart, pages_end, pages_some, page_place, byte_page}

-- ---- the entry of an area

one_by : (pool : Span) (lot : Lot) (kind : Kind) → FitsKind pool kind lot.id lot.list.entries → is_area kind ≡ true → length lot.list.entries ≡ 1
one_by pool lot kinds.Single fits e = absurd (false≢true e)
one_by pool lot kinds.List fits e = absurd (false≢true e)
one_by pool lot kinds.Area fits e = fits.1
one_by pool lot kinds.Copy fits e = absurd (false≢true e)

pub area_entry : (ram : ℕ) (f : DriverConfig) (lot : Lot) → IsLotIn ram f lot → is_area lot.kind ≡ true → slice_get lot.list.entries 0 ≡ Some (only_entry lot)
area_entry ram f lot h a = slice_get-get_or lot.list.entries 0 no_entry (omega (arith, one_by f.pool lot lot.kind h.kind a))

pub area_pages : (ram : ℕ) (f : DriverConfig) (pool : PageMap) (lot : Lot) → IsLotIn ram f lot → ArePagesOf f pool → is_area lot.kind ≡ true → IsPages pool (only_entry lot).span
area_pages ram f pool lot h of a =
    let k = area_entry ram f lot h a in
    let p = area_in ram f lot 0 (only_entry lot) h a k in
    record {
      some = (entry_in ram f lot 0 (only_entry lot) h k).range.some;
      starts = omega (arith, of.at, p.starts);
      aligned = rw of.at p.aligned;
      whole = p.whole;
      ends = omega (arith, of.at, of.len, p.ends);
    }

-- ---- pages that stay taken

-- pages that are free and pages that are taken share no byte
pub free_off_taken : (pool : PageMap) (a b : Span) (x : ℕ) → IsPages pool a → IsPages pool b → pages_of pool a ≡ replicate (page_count a) true → pages_of pool b ≡ replicate (page_count b) false → covers a x ≡ true → covers b x ≡ true → ⊥
free_off_taken pool a b x ha hb free taken on_a on_b =
    let pa = byte_page pool a x ha (covers-low a x on_a) (covers-high a x on_a) in
    let pb = byte_page pool b x hb (covers-low b x on_b) (covers-high b x on_b) in
    let yes = list_so pool.free (first_page pool a) (page_count a) true (pages_end pool a ha) free ((x - pool.at) / 4096) true pa.0 pa.1 in
    let no = list_so pool.free (first_page pool b) (page_count b) false (pages_end pool b hb) taken ((x - pool.at) / 4096) true pb.0 pb.1 in
    false≢true (sym no ∙ yes)

abbrev Apart : Span → Span → Type 0
Apart a b = (x : ℕ) → covers a x ≡ true → covers b x ≡ true → ⊥

pages_apart : (pool : PageMap) (a b : Span) → IsPages pool a → IsPages pool b → Apart a b → (first_page pool b + page_count b ≤ first_page pool a) ⊎ (first_page pool a + page_count a ≤ first_page pool b)
pages_apart pool a b ha hb off =
    let some_a = pages_some pool a ha in
    let some_b = pages_some pool b hb in
    elim (ranges_apart (first_page pool a) (page_count a) (first_page pool b) (page_count b)
    (λ k la ua lb ub.
    let at_a = page_place pool a k ha la ua in
    let at_b = page_place pool b k hb lb ub in
    off (pool.at + 4096 * k) (covers-from a (pool.at + 4096 * k) at_a.0 at_a.1) (covers-from b (pool.at + 4096 * k) at_b.0 at_b.1))) [
      | inl none ↦ absurd (omega (arith, none, some_a))
      | inr (inl none) ↦ absurd (omega (arith, none, some_b))
      | inr (inr o) ↦ o
    ]

span_taken : (pool : PageMap) (a b : Span) (to : Bool) → IsPages pool a → IsPages pool b → Apart a b → pages_of pool b ≡ replicate (page_count b) false → pages_of (with_pages pool a to) b ≡ replicate (page_count b) false
span_taken pool a b to ha hb off taken =
    let now = so_apart pool.free (first_page pool a) (page_count a) (first_page pool b) (page_count b) to false (pages_end pool a ha) (pages_apart pool a b ha hb off)
    (list_so pool.free (first_page pool b) (page_count b) false (pages_end pool b hb) taken) in
    so_list (marked pool.free (first_page pool a) (page_count a) to) (first_page pool b) (page_count b) false
    (omega (arith, length-marked pool.free (first_page pool a) (page_count a) to (pages_end pool a ha), pages_end pool b hb)) now

pub taken_kept : (ram : ℕ) (f : DriverConfig) (pool : PageMap) (a : Span) (to : Bool) (lot : Lot) → IsPages pool a → ArePagesOf f pool → IsLotIn ram f lot → (is_area lot.kind ≡ true → Apart a (only_entry lot).span) → IsTaken pool lot → IsTaken (with_pages pool a to) lot
taken_kept ram f pool a to lot ha of h off taken e = span_taken pool a (only_entry lot).span to ha (area_pages ram f pool lot h of e) (off e) (taken e)

-- those that are taken
pub now_taken : (pool : PageMap) (a : Span) → IsPages pool a → pages_of (with_pages pool a false) a ≡ replicate (page_count a) false
now_taken pool a ha =
    so_list (marked pool.free (first_page pool a) (page_count a) false) (first_page pool a) (page_count a) false
    (omega (arith, length-marked pool.free (first_page pool a) (page_count a) false (pages_end pool a ha), pages_end pool a ha))
    (so_marked pool.free (first_page pool a) (page_count a) false (pages_end pool a ha))

pub pages_of_kept : (f : DriverConfig) (pool : PageMap) (a : Span) (to : Bool) → IsPages pool a → ArePagesOf f pool → ArePagesOf f (with_pages pool a to)
pages_of_kept f pool a to ha of = record { at = of.at; len = ap (λ n. 4096 * n) (length-marked pool.free (first_page pool a) (page_count a) to (pages_end pool a ha)) ∙ of.len }

-- ---- the move of several lots

pub moves_is : (f : Lot → PageMove) (lots : List Lot) → (page_moves f lots ≡ moves.Stay) ⊎ ((lot : Lot) × In lot lots × (page_moves f lots ≡ f lot))
moves_is f [] = inl refl
moves_is f (lot ∷ lots) = first_by lot (f lot) refl (moves_is f lots)
  where
    first_by : (lot : Lot) (m : PageMove) → f lot ≡ m → (page_moves f lots ≡ moves.Stay) ⊎ ((other : Lot) × In other lots × (page_moves f lots ≡ f other))
        → (page_move (f lot) (page_moves f lots) ≡ moves.Stay) ⊎ ((other : Lot) × In other (lot ∷ lots) × (page_move (f lot) (page_moves f lots) ≡ f other))
    first_by lot moves.Stay e (inl stay) = inl (ap (λ m. page_move m (page_moves f lots)) e ∙ stay)
    first_by lot moves.Stay e (inr r) = inr (r.0, inr r.1, ap (λ m. page_move m (page_moves f lots)) e ∙ r.2)
    first_by lot (moves.Take span) e r = inr (lot, inl refl, ap (λ m. page_move m (page_moves f lots)) e ∙ sym e)
    first_by lot (moves.Give span) e r = inr (lot, inl refl, ap (λ m. page_move m (page_moves f lots)) e ∙ sym e)
