-- The lowest place, found page by page, is the lowest of all.
use Rattle.std.proofs.Common.{◌≡◌, ℕ, ◌+◌, ◌*◌, ◌/◌, ◌%◌, ◌<◌, Bool, true, false, not, List, map, length, inl, inr, refl, sym, ap, subst, ◌∙◌, arith, Some, None}
use Rattle.std.specs.List.{filter, range_with_len}
use Rattle.std.specs.FinSet as fin
use Rattle.std.proofs.lemmas.Nat.{div_below, mod_below, mul-add-lt}
use Rattle.nc_plan.specs.Plans.{In}
use Rattle.nc_plan.proofs.PlanLaws.{in_map, in_flat_map, in_range, range_of_in}
use Rattle.nc_dmapool.specs.declared.spots.Spot.{Spot}
use Rattle.nc_dmapool.specs.Layouts.{Layout, Cuts, stride, each, offset_of, place_count, places}
use Rattle.nc_dmapool.specs.Pieces.{all_places, lowest_free, lowest_used}
use Rattle.nc_dmapool.specs.Marks.{Marks, ArePages, IsSpot, HasNone, IsLowest, FindsUsed, used_set, shown, no_page, page_at, mark_at}
use Rattle.nc_dmapool.proofs.Among.{of_map, of_flat_map, in_at, at_in, in_filter, of_filter, lowest_some, lowest_no, items_in, in_items}
use Rattle.nc_dmapool.proofs.Powers.{cuts}
use Rattle.nc_dmapool.proofs.Cutting.{off_of_pair}
use Rattle.nc_dmapool.proofs.SameSpot.{same_spot}
use Rattle.nc_dmapool.proofs.Shown.{used_is, is_used, bool_cases}

-- a place of a page, by its range and the piece in it
pub record IsPlace (l : Layout) (page x : ℕ) : Type 0 where
  pub range : ℕ
  pub piece : ℕ
  pub is_range : range < 4096 / l.range
  pub is_piece : piece < each l
  pub is : x ≡ page + range * l.range + piece * stride l

pub of_places : (l : Layout) (page x : ℕ) → In x (places l page) → IsPlace l page x
of_places l page x k =
    let a = of_flat_map (λ r. map (λ i. page + r * l.range + i * stride l) (range_with_len 0 (each l))) x (range_with_len 0 (4096 / l.range)) k in
    let b = of_map (λ i. page + a.0 * l.range + i * stride l) x (range_with_len 0 (each l)) a.2 in
    let r = range_of_in 0 (4096 / l.range) a.0 a.1 in
    let p = range_of_in 0 (each l) b.0 b.1 in
    record { range = a.0; piece = b.0; is_range = omega (arith, r.1); is_piece = omega (arith, p.1); is = sym b.2 }

pub in_places : (l : Layout) (page x : ℕ) → IsPlace l page x → In x (places l page)
in_places l page x p =
    in_flat_map (λ r. map (λ i. page + r * l.range + i * stride l) (range_with_len 0 (each l))) p.range x (range_with_len 0 (4096 / l.range))
    (in_range 0 (4096 / l.range) p.range (omega arith) (omega (arith, p.is_range)))
    (subst (λ y. In y (map (λ i. page + p.range * l.range + i * stride l) (range_with_len 0 (each l)))) (sym p.is)
    (in_map (λ i. page + p.range * l.range + i * stride l) p.piece (range_with_len 0 (each l)) (in_range 0 (each l) p.piece (omega arith) (omega (arith, p.is_piece)))))

number_place : (l : Layout) → Cuts l → (page n x : ℕ) → n < place_count l → x ≡ page + offset_of l n → IsPlace l page x
number_place l is page n x lt e =
    record {
      range = n / each l;
      piece = n % each l;
      is_range = div_below n (each l) (4096 / l.range) is.count lt;
      is_piece = mod_below n (each l) is.count;
      is = omega (arith, e);
    }

pub spot_place : (l : Layout) (ps : List Marks) (i n x : ℕ) → ArePages l ps → IsSpot l ps i n x → In x (all_places l (map (λ (p : Marks). p.at) ps))
spot_place l ps i n x is s =
    let p : Marks = page_at ps i in
    in_flat_map (places l) p.at x (map (λ (p : Marks). p.at) ps) (in_map (λ (p : Marks). p.at) p ps (in_at ps i no_page s.page))
    (in_places l p.at x (number_place l (cuts l is.layout) p.at n x (omega (arith, s.there, (is.each i s.page).marks)) s.is))

pub record IsThere (l : Layout) (ps : List Marks) (x : ℕ) : Type 0 where
  pub page : ℕ
  pub number : ℕ
  pub spot : IsSpot l ps page number x

pub place_spot : (l : Layout) (ps : List Marks) (x : ℕ) → ArePages l ps → In x (all_places l (map (λ (p : Marks). p.at) ps)) → IsThere l ps x
place_spot l ps x is k =
    let a = of_flat_map (places l) x (map (λ (p : Marks). p.at) ps) k in
    let b = of_map (λ (p : Marks). p.at) a.0 ps a.1 in
    let i = at_in b.0 ps no_page b.1 in
    let p = of_places l a.0 x a.2 in
    let at : (page_at ps i.0).at ≡ a.0 = ap (λ (q : Marks). q.at) i.2 ∙ b.2 in
    let n : ℕ = p.range * each l + p.piece in
    let lt : n < each l * (4096 / l.range) = mul-add-lt p.range (each l) p.piece (4096 / l.range) p.is_range p.is_piece in
    let there : n < place_count l = omega (arith, lt) in
    record {
      page = i.0;
      number = n;
      spot = record {
        page = i.1;
        there = omega (arith, there, (is.each i.0 i.1).marks);
        is = omega (arith, p.is, at, off_of_pair (each l) l.range (stride l) p.range p.piece p.is_piece);
      };
    }

not_true : (b : Bool) → not b ≡ true → b ≡ false
not_true true e = absurd cc
not_true false e = refl

to_not : (b : Bool) → b ≡ false → not b ≡ true
to_not true e = absurd cc
to_not false e = refl

pub free_spot : (l : Layout) (ps : List Marks) (i n x : ℕ) → ArePages l ps → IsSpot l ps i n x → mark_at ps i n ≡ false → fin.contains (used_set l ps) x ≡ false
free_spot l ps i n x is s m =
    elim (bool_cases (fin.contains (used_set l ps) x)) [
      | inl used ↦ (
          let u = used_is l ps x used in
          let e = same_spot l ps u.page i u.number n x is u.spot s in
          absurd (let no : true ≡ false = sym u.used ∙ (λ k. mark_at ps (e.0 k) (e.1 k)) ∙ m in cc)
          )
      | inr free ↦ free
    ]

unused_spot : (l : Layout) (ps : List Marks) (i n x : ℕ) → IsSpot l ps i n x → fin.contains (used_set l ps) x ≡ false → mark_at ps i n ≡ false
unused_spot l ps i n x s off =
    elim (bool_cases (mark_at ps i n)) [
      | inl used ↦ absurd (let both : true ≡ false = sym (is_used l ps x (record { page = i; number = n; spot = s; used = used })) ∙ off in cc)
      | inr is ↦ is
    ]

pub free_found : (l : Layout) (ps : List Marks) (s : Spot) → ArePages l ps → IsLowest l false ps (length ps) s → lowest_free (shown l ps) ≡ Some s.at
free_found l ps s is f =
    let all = all_places l (map (λ (p : Marks). p.at) ps) in
    let test = λ (x : ℕ). not (fin.contains (used_set l ps) x) in
    lowest_some (filter test all) s.at
    (in_filter test s.at all (spot_place l ps s.page s.number s.at is f.spot) (to_not (fin.contains (used_set l ps) s.at) (free_spot l ps s.page s.number s.at is f.spot f.is)))
    (λ y k.
    let a = of_filter test y all k in
    let t = place_spot l ps y is a.0 in
    let m = unused_spot l ps t.page t.number y t.spot (not_true (fin.contains (used_set l ps) y) a.1) in
    omega (arith, f.lowest t.page t.number t.spot.page t.spot.there m, t.spot.is))

pub free_none : (l : Layout) (ps : List Marks) → ArePages l ps → HasNone false ps (length ps) → lowest_free (shown l ps) ≡ None
free_none l ps is f =
    let all = all_places l (map (λ (p : Marks). p.at) ps) in
    let test = λ (x : ℕ). not (fin.contains (used_set l ps) x) in
    lowest_no (filter test all)
    (λ y k.
    let a = of_filter test y all k in
    let t = place_spot l ps y is a.0 in
    f t.page t.number t.spot.page t.spot.there (unused_spot l ps t.page t.number y t.spot (not_true (fin.contains (used_set l ps) y) a.1)))

pub used_found : (l : Layout) (ps : List Marks) (s : Spot) → IsLowest l true ps (length ps) s → lowest_used (shown l ps) ≡ Some s.at
used_found l ps s f =
    lowest_some (fin.items (used_set l ps)) s.at
    (items_in s.at (used_set l ps) (is_used l ps s.at (record { page = s.page; number = s.number; spot = f.spot; used = f.is })))
    (λ y k.
    let u = used_is l ps y (in_items y (used_set l ps) k) in
    omega (arith, f.lowest u.page u.number u.spot.page u.spot.there u.used, u.spot.is))

pub used_none : (l : Layout) (ps : List Marks) → HasNone true ps (length ps) → lowest_used (shown l ps) ≡ None
used_none l ps f =
    lowest_no (fin.items (used_set l ps))
    (λ y k. let u = used_is l ps y (in_items y (used_set l ps) k) in f u.page u.number u.spot.page u.spot.there u.used)

-- what `free` finds

pub found_used : (l : Layout) (ps : List Marks) (x : ℕ) (s : Spot) → IsSpot l ps s.page s.number x → mark_at ps s.page s.number ≡ true → fin.contains (used_set l ps) x ≡ true
found_used l ps x s at m = is_used l ps x (record { page = s.page; number = s.number; spot = at; used = m })

pub found_none : (l : Layout) (ps : List Marks) (x : ℕ) → FindsUsed l ps x None → fin.contains (used_set l ps) x ≡ false
found_none l ps x f =
    elim (bool_cases (fin.contains (used_set l ps) x)) [
      | inl used ↦ (let u = used_is l ps x used in absurd (f u.page u.number u.spot u.used))
      | inr free ↦ free
    ]
