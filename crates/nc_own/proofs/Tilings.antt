-- Intervals that stand one behind another.
use Rattle.std.proofs.Common.{◌≡◌, ℕ, zero, suc, ◌+◌, ◌<◌, ◌≤◌, Bool, true, false, List, [], ◌∷◌, ◌++◌, length, take, drop, get_or, cond, leb, refl, subst, arith, inl, inr}
use Rattle.std.proofs.lemmas.Bool.{cases_lt, leb-true, leb-false, le-leb, both_ways}
use Rattle.std.proofs.lemmas.Bool.Decides.{nat_tests}
use Rattle.std.proofs.lemmas.List.{get_or_default}
use Rattle.std.specs.List.Sorted.{IsPartitionPoint}
use Rattle.nc_num.specs.Places.{covers}
use Rattle.nc_num.specs.declared.places.Span.{Span}
use Rattle.nc_model.proofs.Faults.{covers-from, covers-low, covers-above}
use Rattle.nc_model.specs.Owners.{owner_at}
use Rattle.nc_model.specs.declared.owners.Owner.{Owner}
use Rattle.nc_model.specs.declared.owners.Owner.TheVariants.{Pool}
use Rattle.nc_own.specs.Tiles.{places, Tile, made, Has, Found}
use Rattle.nc_own.specs.declared.intervals.Interval.{Interval}

pub places-append : (xs ys : List Interval) → places (xs ++ ys) ≡ places xs + places ys
places-append [] ys = omega arith
places-append (x ∷ xs) ys = omega (arith, places-append xs ys)

pub places-take_drop : (k : ℕ) (xs : List Interval) → places (take k xs) + places (drop k xs) ≡ places xs
places-take_drop zero xs = omega arith
places-take_drop (suc k) [] = refl
places-take_drop (suc k) (x ∷ xs) = omega (arith, places-take_drop k xs)

pub places-take_suc : (k : ℕ) (xs : List Interval) (d : Interval) → k < length xs → places (take (suc k) xs) ≡ places (take k xs) + (get_or xs k d).span.len
places-take_suc k [] d lt = absurd (omega arith)
places-take_suc zero (x ∷ xs) d lt = omega arith
places-take_suc (suc k) (x ∷ xs) d lt = omega (arith, places-take_suc k xs d (omega arith))

pub tile-append : (at : ℕ) (xs ys : List Interval) → Tile at xs → Tile (at + places xs) ys → Tile at (xs ++ ys)
tile-append at [] ys t u = subst (λ n. Tile n ys) (omega arith) u
tile-append at (x ∷ xs) ys t u = (t.0, t.1, tile-append (at + x.span.len) xs ys t.2 (subst (λ n. Tile n ys) (omega arith) u))

pub tile-take : (at k : ℕ) (xs : List Interval) → Tile at xs → Tile at (take k xs)
tile-take at zero xs t = tt
tile-take at (suc k) [] t = tt
tile-take at (suc k) (x ∷ xs) t = (t.0, t.1, tile-take (at + x.span.len) k xs t.2)

pub tile-drop : (at k : ℕ) (xs : List Interval) → Tile at xs → Tile (at + places (take k xs)) (drop k xs)
tile-drop at zero xs t = subst (λ n. Tile n xs) (omega arith) t
tile-drop at (suc k) [] t = tt
tile-drop at (suc k) (x ∷ xs) t = subst (λ n. Tile n (drop k xs)) (omega arith) (tile-drop (at + x.span.len) k xs t.2)

-- the k-th begins where the first k end
pub starts_at : (at k : ℕ) (xs : List Interval) (d : Interval) → Tile at xs → k < length xs → (get_or xs k d).span.at ≡ at + places (take k xs)
starts_at at k [] d t lt = absurd (omega arith)
starts_at at zero (x ∷ xs) d t lt = omega (arith, t.0)
starts_at at (suc k) (x ∷ xs) d t lt = omega (arith, starts_at (at + x.span.len) k xs d t.2 (omega arith))

-- more intervals have more places
pub places-more : (i j : ℕ) (xs : List Interval) → i ≤ j → places (take i xs) ≤ places (take j xs)
places-more zero j xs le = omega arith
places-more (suc i) zero xs le = absurd (omega arith)
places-more (suc i) (suc j) [] le = omega arith
places-more (suc i) (suc j) (x ∷ xs) le = omega (arith, places-more i j xs (omega arith))

-- those of no places are none
pub none_of_none : (at : ℕ) (xs : List Interval) → Tile at xs → places xs ≡ 0 → length xs ≡ 0
none_of_none at [] t e = refl
none_of_none at (x ∷ xs) t e = absurd (omega (arith, t.1))

-- the owner of a place
pick : (b : Bool) (o p q : Owner) → (b ≡ false → p ≡ q) → cond b o p ≡ cond b o q
pick true o p q h = refl
pick false o p q h = h refl

pub past : (s : Span) (x : ℕ) → s.at ≤ x → covers s x ≡ false → s.at + s.len ≤ x
past s x le e = grind (arith, nat_tests)

pub owner_in_front : (at : ℕ) (xs ys : List Interval) (x : ℕ) → Tile at xs → at ≤ x → x < at + places xs → owner_at (made (xs ++ ys)) x ≡ owner_at (made xs) x
owner_in_front at [] ys x t le lt = absurd (omega arith)
owner_in_front at (i ∷ xs) ys x t le lt =
    pick (covers i.span x) i.owner (owner_at (made (xs ++ ys)) x) (owner_at (made xs) x)
    (λ e. owner_in_front (at + i.span.len) xs ys x t.2 (omega (arith, t.0, past i.span x (omega (arith, t.0)) e)) (omega arith))

pub owner_behind : (at : ℕ) (xs ys : List Interval) (x : ℕ) → Tile at xs → at + places xs ≤ x → owner_at (made (xs ++ ys)) x ≡ owner_at (made ys) x
owner_behind at [] ys x t le = refl
owner_behind at (i ∷ xs) ys x t le =
    rw (covers-above i.span x (omega (arith, t.0))) (owner_behind (at + i.span.len) xs ys x t.2 (omega arith))

pub owner_in_take : (at k : ℕ) (xs : List Interval) (x : ℕ) → Tile at xs → at ≤ x → x < at + places (take k xs) → owner_at (made (take k xs)) x ≡ owner_at (made xs) x
owner_in_take at zero xs x t le lt = absurd (omega arith)
owner_in_take at (suc k) [] x t le lt = refl
owner_in_take at (suc k) (i ∷ xs) x t le lt =
    pick (covers i.span x) i.owner (owner_at (made (take k xs)) x) (owner_at (made xs) x)
    (λ e. owner_in_take (at + i.span.len) k xs x t.2 (omega (arith, t.0, past i.span x (omega (arith, t.0)) e)) (omega arith))

pub owner_in_drop : (at k : ℕ) (xs : List Interval) (x : ℕ) → Tile at xs → at + places (take k xs) ≤ x → owner_at (made (drop k xs)) x ≡ owner_at (made xs) x
owner_in_drop at zero xs x t le = refl
owner_in_drop at (suc k) [] x t le = refl
owner_in_drop at (suc k) (i ∷ xs) x t le =
    rw (covers-above i.span x (omega (arith, t.0))) (owner_in_drop (at + i.span.len) k xs x t.2 (omega arith))

pub owner_of_kth : (at k : ℕ) (xs : List Interval) (d : Interval) (x : ℕ) → Tile at xs → k < length xs → covers (get_or xs k d).span x ≡ true → owner_at (made xs) x ≡ (get_or xs k d).owner
owner_of_kth at k [] d x t lt e = absurd (omega arith)
owner_of_kth at zero (i ∷ xs) d x t lt e = rw e refl
owner_of_kth at (suc k) (i ∷ xs) d x t lt e =
    let from : (get_or xs k d).span.at ≡ at + i.span.len + places (take k xs) = starts_at (at + i.span.len) k xs d t.2 (omega arith) in
    rw (covers-above i.span x (omega (arith, t.0, from, covers-low (get_or xs k d).span x e))) (owner_of_kth (at + i.span.len) k xs d x t.2 (omega arith) e)

-- the starts rise
pub starts_rise : (at : ℕ) (xs : List Interval) (i j : ℕ) (d : Interval) → Tile at xs → i ≤ j → j < length xs → (get_or xs i d).span.at ≤ (get_or xs j d).span.at
starts_rise at xs i j d t le lt = omega (arith, starts_at at i xs d t (omega arith), starts_at at j xs d t lt, places-more i j xs le)

pub places-all : (n : ℕ) (xs : List Interval) → length xs ≤ n → places (take n xs) ≡ places xs
places-all zero [] le = refl
places-all zero (x ∷ xs) le = absurd (omega arith)
places-all (suc n) [] le = refl
places-all (suc n) (x ∷ xs) le = omega (arith, places-all n xs (omega arith))

pub ends_at : (k : ℕ) (xs : List Interval) (d : Interval) → Tile 0 xs → k < length xs → (get_or xs k d).span.at + (get_or xs k d).span.len ≡ places (take (suc k) xs)
ends_at k xs d t lt = omega (arith, starts_at 0 k xs d t lt, places-take_suc k xs d lt)

-- the last that begins no later than a place has it
end_behind : (k : ℕ) (xs : List Interval) (d : Interval) (x : ℕ) → Tile 0 xs → k < length xs → (suc k < length xs → x < (get_or xs (suc k) d).span.at) → x < places xs
    → x < places (take (suc k) xs)
end_behind k xs d x t lt next inside =
    elim (cases_lt (suc k) (length xs)) [
      | inl more ↦ omega (arith, next more, starts_at 0 (suc k) xs d t more)
      | inr last ↦ omega (arith, places-all (suc k) xs last)
    ]

pub has_place : (k : ℕ) (xs : List Interval) (d : Interval) (x : ℕ) → Tile 0 xs → k < length xs → (get_or xs k d).span.at ≤ x
    → (suc k < length xs → x < (get_or xs (suc k) d).span.at) → x < places xs → covers (get_or xs k d).span x ≡ true
has_place k xs d x t lt le next inside =
    covers-from (get_or xs k d).span x le (omega (arith, ends_at k xs d t lt, end_behind k xs d x t lt next inside))

abbrev pub IsPoint : List Interval → ℕ → ℕ → Type 0
IsPoint xs x p = IsPartitionPoint (λ (i : Interval). leb i.span.at x ≡ true) (λ (i : Interval). leb i.span.at x ≡ false) xs p

-- where some begin no later than a place and the others later, the last of the former has it
nothing : Interval
nothing = record { span = record { at = 0; len = 0 }; owner = Pool }

pub point_some : (xs : List Interval) (x p : ℕ) → Tile 0 xs → x < places xs → IsPoint xs x p → 1 ≤ p
point_some [] x p t inside point = absurd (omega arith)
point_some (i ∷ xs) x zero t inside point =
    let later : leb i.span.at x ≡ false = point.1 0 nothing (omega arith) (omega arith) in
    let no_later : leb i.span.at x ≡ true = le-leb i.span.at x (omega (arith, t.0)) in
    absurd (both_ways (leb i.span.at x) later no_later)
point_some (i ∷ xs) x (suc p) t inside point = omega arith

pub point_has : (xs : List Interval) (x p : ℕ) (d : Interval) → Tile 0 xs → x < places xs → IsPoint xs x (suc p) → suc p ≤ length xs → covers (get_or xs p d).span x ≡ true
point_has xs x p d t inside point le =
    has_place p xs d x t (omega arith) (leb-true _ _ (point.0 p d (omega arith) (omega arith))) (λ more. leb-false (get_or xs (suc p) d).span.at x (point.1 (suc p) d (omega arith) more)) inside

pub kth_has : (k : ℕ) (xs : List Interval) (d : Interval) (x : ℕ) → Tile 0 xs → k < length xs → ((e : Interval) → covers (get_or xs k e).span x ≡ true) → Has xs x (get_or xs k d)
kth_has k xs d x t lt e = record {
  here = e d;
  within = omega (arith, ends_at k xs d t lt, places-take_drop (suc k) xs);
  owner = λ y f. owner_of_kth 0 k xs d y t lt f;
}

pub kth_found : (k : ℕ) (xs : List Interval) (d : Interval) (x : ℕ) → Tile 0 xs → k < length xs → ((e : Interval) → covers (get_or xs k e).span x ≡ true) → Found xs x k (get_or xs k d)
kth_found k xs d x t lt e = record {
  inside = lt;
  kth = get_or_default xs k d (get_or xs k d) lt;
  here = e d;
  within = omega (arith, ends_at k xs d t lt, places-take_drop (suc k) xs);
}

pub has_at : (k : ℕ) (xs : List Interval) (d : Interval) (x : ℕ) → k < length xs → covers (get_or xs k d).span x ≡ true → (e : Interval) → covers (get_or xs k e).span x ≡ true
has_at k xs d x lt h e = subst (λ (i : Interval). covers i.span x ≡ true) (get_or_default xs k d e lt) h
