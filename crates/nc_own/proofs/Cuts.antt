-- A span of places that gets an owner: what lies before and behind it is cut or joined.
use Rattle.std.proofs.Common.{◌≡◌, ◌≢◌, ◌⊎◌, ℕ, zero, suc, ◌+◌, ◌-◌, ◌<◌, ◌≤◌, true, false, List, [], ◌∷◌, ◌++◌, length, take, drop, get_or, cond, ltb, min, refl, sym, ap, ◌∙◌, subst, append_assoc, arith, inl, inr}
use Rattle.std.proofs.lemmas.Bool.{cases_lt, lt-ltb}
use Rattle.std.proofs.lemmas.Bool.Decides.{nat_tests}
use Rattle.std.proofs.lemmas.List.{length-take-le, length-drop}
use Rattle.std.proofs.Math.Seq.{drop-append_seam, take-append_seam}
use Rattle.nc_num.specs.Places.{covers}
use Rattle.nc_num.specs.declared.places.Span.{Span}
use Rattle.nc_model.proofs.Faults.{covers-from, covers-low, covers-high, covers-below, covers-above}
use Rattle.nc_model.specs.Owners.{owner_at}
use Rattle.nc_model.specs.declared.owners.Owner.{Owner}
use Rattle.nc_own.specs.Tiles.{places, Tile, BeginsOther, Joined, made, run, Found, IsGiven, IsBorder}
use Rattle.nc_own.specs.declared.intervals.Interval.{Interval}
use Rattle.nc_own.proofs.Tilings.{places-append, places-take_drop, places-more, tile-append, tile-take, tile-drop, starts_at, ends_at, none_of_none, owner_in_front, owner_behind, owner_in_take, owner_in_drop, owner_of_kth}

-- an interval from one place to another
pub no_run : (start end : ℕ) (o : Owner) → end ≤ start → run start end o ≡ []
no_run start end o le = let no : ltb start end ≡ false = grind (arith, nat_tests) in rw no refl

pub one_run : (start end : ℕ) (o : Owner) → start < end → run start end o ≡ record { span = record { at = start; len = end - start }; owner = o } ∷ []
one_run start end o lt = rw (lt-ltb start end lt) refl

pub places-run : (start end : ℕ) (o : Owner) (xs : List Interval) → places (run start end o ++ xs) ≡ (end - start) + places xs
places-run start end o xs =
    elim (cases_lt start end) [
      | inl lt ↦ rw (one_run start end o lt) refl
      | inr le ↦ rw (no_run start end o le) (omega arith)
    ]

pub tile-run : (start end : ℕ) (o : Owner) (xs : List Interval) → start ≤ end → Tile end xs → Tile start (run start end o ++ xs)
tile-run start end o xs le t =
    elim (cases_lt start end) [
      | inl lt ↦ rw (one_run start end o lt) (refl, omega arith, subst (λ n. Tile n xs) (omega arith) t)
      | inr ge ↦ rw (no_run start end o ge) (subst (λ n. Tile n xs) (omega arith) t)
    ]

pub owner_in_run : (start end : ℕ) (o : Owner) (xs : List Interval) (x : ℕ) → start ≤ x → x < end → owner_at (made (run start end o ++ xs)) x ≡ o
owner_in_run start end o xs x le lt =
    rw (one_run start end o (omega arith)) (rw (covers-from (record { at = start; len = end - start }) x le (omega arith)) refl)

pub owner_past_run : (start end : ℕ) (o : Owner) (xs : List Interval) (x : ℕ) → start ≤ end → end ≤ x → owner_at (made (run start end o ++ xs)) x ≡ owner_at (made xs) x
owner_past_run start end o xs x le past =
    elim (cases_lt start end) [
      | inl lt ↦ rw (one_run start end o lt) (rw (covers-above (record { at = start; len = end - start }) x (omega arith)) refl)
      | inr ge ↦ rw (no_run start end o ge) refl
    ]

-- neighbours
pub joined-drop : (k : ℕ) (xs : List Interval) → Joined xs → Joined (drop k xs)
joined-drop zero xs j = j
joined-drop (suc k) [] j = tt
joined-drop (suc k) (x ∷ xs) j = joined-drop k xs j.1

pub begins_next : (k : ℕ) (xs : List Interval) (d : Interval) → Joined xs → k < length xs → BeginsOther (get_or xs k d).owner (drop (suc k) xs)
begins_next k [] d j lt = absurd (omega arith)
begins_next zero (x ∷ xs) d j lt = j.0
begins_next (suc k) (x ∷ xs) d j lt = begins_next k xs d j.1 (omega arith)

pub joined-run : (start end : ℕ) (o : Owner) (xs : List Interval) → Joined xs → (start < end → BeginsOther o xs) → Joined (run start end o ++ xs)
joined-run start end o xs j other =
    elim (cases_lt start end) [
      | inl lt ↦ rw (one_run start end o lt) (other lt, j)
      | inr le ↦ rw (no_run start end o le) j
    ]

-- the first k, and behind them what begins with the owner of the k-th
pub joined-take : (k : ℕ) (xs : List Interval) (d i : Interval) (ys : List Interval) → Joined xs → k < length xs → i.owner ≡ (get_or xs k d).owner → Joined (i ∷ ys) → Joined (take k xs ++ i ∷ ys)
joined-take k [] d i ys j lt e h = absurd (omega arith)
joined-take zero (x ∷ xs) d i ys j lt e h = h
joined-take (suc k) (x ∷ xs) d i ys j lt e h = (begins k xs (omega arith) j.0 e, joined-take k xs d i ys j.1 (omega arith) e h)
  where
    begins : (n : ℕ) (zs : List Interval) → n < length zs → BeginsOther x.owner zs → i.owner ≡ (get_or zs n d).owner → BeginsOther x.owner (take n zs ++ i ∷ ys)
    begins n [] lt' other e' = absurd (omega arith)
    begins zero (z ∷ zs) lt' other e' = λ same. other (same ∙ e')
    begins (suc n) (z ∷ zs) lt' other e' = other

-- the intervals with those from the first to the last replaced
abbrev pub cut : List Interval → ℕ → ℕ → Interval → Interval → ℕ → ℕ → Owner → List Interval
cut xs first last a b start stop owner =
    take first xs ++ (run a.span.at start a.owner ++ (run start stop owner ++ (run stop (b.span.at + b.span.len) b.owner ++ drop (suc last) xs)))

-- what is put between the first n and the rest
seam : {X : Type 0} (front back l : List X) (n : ℕ) → length front ≡ n → take n (front ++ back) ++ (l ++ drop n (front ++ back)) ≡ front ++ (l ++ back)
seam front back l n e =
    subst (λ k. take k (front ++ back) ++ (l ++ drop k (front ++ back)) ≡ front ++ (l ++ back)) e
    (rw (take-append_seam front back, drop-append_seam front back) refl)

pub put_between : {X : Type 0} (xs back l : List X) (n : ℕ) → n ≤ length xs → take n (take n xs ++ back) ++ (l ++ drop n (take n xs ++ back)) ≡ take n xs ++ (l ++ back)
put_between xs back l n le = seam (take n xs) back l n (length-take-le n xs le)

-- where the cut lies, in numbers
pub record IsCut (xs : List Interval) (span : Span) (owner : Owner) (first last : ℕ) (a b : Interval) (start stop : ℕ) : Type 0 where
  pub tile : Tile 0 xs
  pub joined : Joined xs
  pub first_in : first < length xs
  pub last_in : last < length xs
  pub first_is : a ≡ get_or xs first a
  pub last_is : b ≡ get_or xs last b
  pub some : 0 < span.len
  pub before : a.span.at ≤ span.at
  pub reaches : span.at ≤ a.span.at + a.span.len
  pub at_front : (a.span.at < span.at) ⊎ (first ≡ 0)
  pub begins : b.span.at ≤ span.at + span.len
  pub behind : span.at + span.len ≤ b.span.at + b.span.len
  pub at_end : (span.at + span.len < b.span.at + b.span.len) ⊎ (length xs ≡ suc last)
  pub left : IsBorder a.owner owner a.span.at span.at start
  pub right : IsBorder b.owner owner (b.span.at + b.span.len) (span.at + span.len) stop

low_border : (o p : Owner) (outer inner border : ℕ) → IsBorder o p outer inner border → outer ≤ inner → (outer ≤ border) × (border ≤ inner)
low_border o p outer inner border h le = elim h [ inl same ↦ (omega (arith, same.1), omega (arith, same.1)) | inr other ↦ (omega (arith, other.1), omega (arith, other.1)) ]

high_border : (o p : Owner) (outer inner border : ℕ) → IsBorder o p outer inner border → inner ≤ outer → (inner ≤ border) × (border ≤ outer)
high_border o p outer inner border h le = elim h [ inl same ↦ (omega (arith, same.1), omega (arith, same.1)) | inr other ↦ (omega (arith, other.1), omega (arith, other.1)) ]

-- the same as one record of numbers
record Numbers (xs : List Interval) (span : Span) (first last : ℕ) (a b : Interval) (start stop : ℕ) : Type 0 where
  a_at : a.span.at ≡ places (take first xs)
  b_end : b.span.at + b.span.len ≡ places (take (suc last) xs)
  low : a.span.at ≤ start
  start_le : start ≤ span.at
  stop_ge : span.at + span.len ≤ stop
  high : stop ≤ b.span.at + b.span.len
  order : first ≤ last
  total : places (take (suc last) xs) + places (drop (suc last) xs) ≡ places xs

in_order : (xs : List Interval) (first last : ℕ) → places (take first xs) < places (take (suc last) xs) → first ≤ last
in_order xs first last lt = elim (cases_lt last first) [ inl less ↦ absurd (omega (arith, places-more (suc last) first xs (omega arith))) | inr le ↦ le ]

numbers : (xs : List Interval) (span : Span) (owner : Owner) (first last : ℕ) (a b : Interval) (start stop : ℕ) → IsCut xs span owner first last a b start stop
    → Numbers xs span first last a b start stop
numbers xs span owner first last a b start stop c =
    let a_at : a.span.at ≡ places (take first xs) = omega (arith, ap (λ (i : Interval). i.span.at) c.first_is, starts_at 0 first xs a c.tile c.first_in) in
    let b_end : b.span.at + b.span.len ≡ places (take (suc last) xs) =
    omega (arith, ap (λ (i : Interval). i.span.at + i.span.len) c.last_is, ends_at last xs b c.tile c.last_in) in
    let low : (a.span.at ≤ start) × (start ≤ span.at) = low_border _ _ _ _ _ c.left c.before in
    let high : (span.at + span.len ≤ stop) × (stop ≤ b.span.at + b.span.len) = high_border _ _ _ _ _ c.right c.behind in
    record {
      a_at = a_at;
      b_end = b_end;
      low = low.0;
      start_le = low.1;
      stop_ge = high.0;
      high = high.1;
      order = in_order xs first last (omega (arith, a_at, b_end, c.before, c.behind, c.some));
      total = places-take_drop (suc last) xs;
    }

pub cut_order : (xs : List Interval) (span : Span) (owner : Owner) (first last : ℕ) (a b : Interval) (start stop : ℕ) → IsCut xs span owner first last a b start stop → first ≤ last
cut_order xs span owner first last a b start stop c = (numbers xs span owner first last a b start stop c).order

cut_tile : (xs : List Interval) (span : Span) (owner : Owner) (first last : ℕ) (a b : Interval) (start stop : ℕ) → IsCut xs span owner first last a b start stop
    → Tile 0 (cut xs first last a b start stop owner)
cut_tile xs span owner first last a b start stop c =
    let n = numbers xs span owner first last a b start stop c in
    let ordered : start ≤ stop = omega (arith, n.start_le, n.stop_ge) in
    let rest : Tile (b.span.at + b.span.len) (drop (suc last) xs) = subst (λ k. Tile k (drop (suc last) xs)) (omega (arith, n.b_end)) (tile-drop 0 (suc last) xs c.tile) in
    let third = tile-run stop (b.span.at + b.span.len) b.owner _ n.high rest in
    let second = tile-run start stop owner _ ordered third in
    let first_run = tile-run a.span.at start a.owner _ n.low second in
    tile-append 0 (take first xs) _ (tile-take 0 first xs c.tile) (subst (λ k. Tile k (run a.span.at start a.owner ++ (run start stop owner ++ (run stop (b.span.at + b.span.len) b.owner ++ drop (suc last) xs)))) (omega (arith, n.a_at)) first_run)

cut_places : (xs : List Interval) (span : Span) (owner : Owner) (first last : ℕ) (a b : Interval) (start stop : ℕ) → IsCut xs span owner first last a b start stop
    → places (cut xs first last a b start stop owner) ≡ places xs
cut_places xs span owner first last a b start stop c =
    let n = numbers xs span owner first last a b start stop c in
    places-append (take first xs) _
    ∙ ap (λ k. places (take first xs) + k) (places-run a.span.at start a.owner _ ∙ ap (λ k. (start - a.span.at) + k) (places-run start stop owner _ ∙ ap (λ k. (stop - start) + k) (places-run stop (b.span.at + b.span.len) b.owner (drop (suc last) xs))))
    ∙ omega (arith, n.a_at, n.b_end, n.low, n.start_le, n.stop_ge, n.high, n.total)

a_has : (xs : List Interval) (span : Span) (owner : Owner) (first last : ℕ) (a b : Interval) (start stop x : ℕ) → IsCut xs span owner first last a b start stop
    → a.span.at ≤ x → x < a.span.at + a.span.len → owner_at (made xs) x ≡ a.owner
a_has xs span owner first last a b start stop x c le lt =
    owner_of_kth 0 first xs a x c.tile c.first_in (subst (λ (i : Interval). covers i.span x ≡ true) c.first_is (covers-from a.span x le lt)) ∙ sym (ap (λ (i : Interval). i.owner) c.first_is)

b_has : (xs : List Interval) (span : Span) (owner : Owner) (first last : ℕ) (a b : Interval) (start stop x : ℕ) → IsCut xs span owner first last a b start stop
    → b.span.at ≤ x → x < b.span.at + b.span.len → owner_at (made xs) x ≡ b.owner
b_has xs span owner first last a b start stop x c le lt =
    owner_of_kth 0 last xs b x c.tile c.last_in (subst (λ (i : Interval). covers i.span x ≡ true) c.last_is (covers-from b.span x le lt)) ∙ sym (ap (λ (i : Interval). i.owner) c.last_is)

-- outside the span the owner stays
outside : (span : Span) (owner o p : Owner) (x : ℕ) → covers span x ≡ false → o ≡ p → o ≡ cond (covers span x) owner p
outside span owner o p x e same = rw e same

-- between the borders it is the new one
between : (xs : List Interval) (span : Span) (owner : Owner) (first last : ℕ) (a b : Interval) (start stop x : ℕ) → IsCut xs span owner first last a b start stop
    → start ≤ x → x < stop → owner ≡ cond (covers span x) owner (owner_at (made xs) x)
between xs span owner first last a b start stop x c le lt =
    elim (cases_lt x span.at) [
      | inl low ↦ outside span owner owner _ x (covers-below span x low) (elim c.left [
        | inl same ↦ sym (a_has xs span owner first last a b start stop x c (omega (arith, same.1)) (omega (arith, c.reaches)) ∙ same.0)
        | inr other ↦ absurd (omega (arith, other.1))
      ])
      | inr from ↦ elim (cases_lt x (span.at + span.len)) [
        | inl in_span ↦ rw (covers-from span x from in_span) refl
        | inr high ↦ outside span owner owner _ x (covers-above span x high) (elim c.right [
          | inl same ↦ sym (b_has xs span owner first last a b start stop x c (omega (arith, c.begins)) (omega (arith, same.1)) ∙ same.0)
          | inr other ↦ absurd (omega (arith, other.1))
        ])
      ]
    ]

behind_all : (xs : List Interval) (span : Span) (owner : Owner) (first last : ℕ) (a b : Interval) (start stop x : ℕ) → IsCut xs span owner first last a b start stop
    → Numbers xs span first last a b start stop → stop ≤ x
    → owner_at (made (run stop (b.span.at + b.span.len) b.owner ++ drop (suc last) xs)) x ≡ cond (covers span x) owner (owner_at (made xs) x)
behind_all xs span owner first last a b start stop x c n le =
    outside span owner _ _ x (covers-above span x (omega (arith, n.stop_ge))) (elim (cases_lt x (b.span.at + b.span.len)) [
      | inl lt ↦ owner_in_run stop (b.span.at + b.span.len) b.owner (drop (suc last) xs) x le lt ∙ sym (b_has xs span owner first last a b start stop x c (omega (arith, n.stop_ge, c.begins)) lt)
      | inr ge ↦ owner_past_run stop (b.span.at + b.span.len) b.owner (drop (suc last) xs) x n.high ge ∙ owner_in_drop 0 (suc last) xs x c.tile (omega (arith, n.b_end))
    ])

from_start : (xs : List Interval) (span : Span) (owner : Owner) (first last : ℕ) (a b : Interval) (start stop x : ℕ) → IsCut xs span owner first last a b start stop
    → Numbers xs span first last a b start stop → start ≤ x
    → owner_at (made (run start stop owner ++ (run stop (b.span.at + b.span.len) b.owner ++ drop (suc last) xs))) x ≡ cond (covers span x) owner (owner_at (made xs) x)
from_start xs span owner first last a b start stop x c n le =
    elim (cases_lt x stop) [
      | inl lt ↦ owner_in_run start stop owner _ x le lt ∙ between xs span owner first last a b start stop x c le lt
      | inr ge ↦ owner_past_run start stop owner _ x (omega (arith, n.start_le, n.stop_ge)) ge ∙ behind_all xs span owner first last a b start stop x c n ge
    ]

from_a : (xs : List Interval) (span : Span) (owner : Owner) (first last : ℕ) (a b : Interval) (start stop x : ℕ) → IsCut xs span owner first last a b start stop
    → Numbers xs span first last a b start stop → a.span.at ≤ x
    → owner_at (made (run a.span.at start a.owner ++ (run start stop owner ++ (run stop (b.span.at + b.span.len) b.owner ++ drop (suc last) xs)))) x ≡ cond (covers span x) owner (owner_at (made xs) x)
from_a xs span owner first last a b start stop x c n le =
    elim (cases_lt x start) [
      | inl lt ↦ outside span owner _ _ x (covers-below span x (omega (arith, n.start_le))) (owner_in_run a.span.at start a.owner _ x le lt ∙ sym (a_has xs span owner first last a b start stop x c le (omega (arith, n.start_le, c.reaches))))
      | inr ge ↦ owner_past_run a.span.at start a.owner _ x n.low ge ∙ from_start xs span owner first last a b start stop x c n ge
    ]

cut_owners : (xs : List Interval) (span : Span) (owner : Owner) (first last : ℕ) (a b : Interval) (start stop : ℕ) → IsCut xs span owner first last a b start stop
    → (x : ℕ) → owner_at (made (cut xs first last a b start stop owner)) x ≡ cond (covers span x) owner (owner_at (made xs) x)
cut_owners xs span owner first last a b start stop c x =
    let n = numbers xs span owner first last a b start stop c in
    elim (cases_lt x a.span.at) [
      | inl lt ↦ outside span owner _ _ x (covers-below span x (omega (arith, c.before)))
          (owner_in_front 0 (take first xs) _ x (tile-take 0 first xs c.tile) (omega arith) (omega (arith, n.a_at)) ∙ owner_in_take 0 first xs x c.tile (omega arith) (omega (arith, n.a_at)))
      | inr ge ↦ owner_behind 0 (take first xs) _ x (tile-take 0 first xs c.tile) (omega (arith, n.a_at)) ∙ from_a xs span owner first last a b start stop x c n ge
    ]

-- neighbours differ
begins_run : (start end : ℕ) (o p : Owner) (xs : List Interval) → p ≢ o → (end ≤ start → BeginsOther p xs) → BeginsOther p (run start end o ++ xs)
begins_run start end o p xs ne h =
    elim (cases_lt start end) [
      | inl lt ↦ rw (one_run start end o lt) ne
      | inr le ↦ rw (no_run start end o le) (h le)
    ]

begins_none : (p : Owner) (xs : List Interval) → length xs ≡ 0 → BeginsOther p xs
begins_none p [] e = tt
begins_none p (x ∷ xs) e = absurd (omega arith)

b_next : (xs : List Interval) (span : Span) (owner : Owner) (first last : ℕ) (a b : Interval) (start stop : ℕ) → IsCut xs span owner first last a b start stop
    → BeginsOther b.owner (drop (suc last) xs)
b_next xs span owner first last a b start stop c = subst (λ (i : Interval). BeginsOther i.owner (drop (suc last) xs)) (sym c.last_is) (begins_next last xs b c.joined c.last_in)

joined_right : (xs : List Interval) (span : Span) (owner : Owner) (first last : ℕ) (a b : Interval) (start stop : ℕ) → IsCut xs span owner first last a b start stop
    → Joined (run stop (b.span.at + b.span.len) b.owner ++ drop (suc last) xs)
joined_right xs span owner first last a b start stop c =
    joined-run stop (b.span.at + b.span.len) b.owner _ (joined-drop (suc last) xs c.joined) (λ _. b_next xs span owner first last a b start stop c)

other_right : (xs : List Interval) (span : Span) (owner : Owner) (first last : ℕ) (a b : Interval) (start stop : ℕ) → IsCut xs span owner first last a b start stop
    → BeginsOther owner (run stop (b.span.at + b.span.len) b.owner ++ drop (suc last) xs)
other_right xs span owner first last a b start stop c =
    elim c.right [
      | inl same ↦ rw (no_run stop (b.span.at + b.span.len) b.owner (omega (arith, same.1))) (subst (λ (o : Owner). BeginsOther o (drop (suc last) xs)) same.0 (b_next xs span owner first last a b start stop c))
      | inr other ↦ begins_run stop (b.span.at + b.span.len) b.owner owner (drop (suc last) xs) (λ e. other.0 (sym e)) (λ le. elim c.at_end [
        | inl lt ↦ absurd (omega (arith, other.1))
        | inr end ↦ begins_none owner (drop (suc last) xs) (length-drop (suc last) xs ∙ omega arith)
      ])
    ]

-- what begins with the new interval, behind the first ones
joined_left : (xs : List Interval) (span : Span) (owner : Owner) (first last : ℕ) (a b : Interval) (start stop : ℕ) → IsCut xs span owner first last a b start stop
    → (rest : List Interval) (i : Interval) → i.owner ≡ owner → Joined (i ∷ rest) → Joined (take first xs ++ (run a.span.at start a.owner ++ i ∷ rest))
joined_left xs span owner first last a b start stop c rest i e j =
    let kth : a.owner ≡ (get_or xs first a).owner = ap (λ (k : Interval). k.owner) c.first_is in
    elim c.left [
      | inl same ↦ subst (λ ys. Joined (take first xs ++ ys)) (sym (ap (λ ys. ys ++ i ∷ rest) (no_run a.span.at start a.owner (omega (arith, same.1)))))
          (joined-take first xs a i rest c.joined c.first_in (e ∙ sym same.0 ∙ kth) j)
      | inr other ↦ elim c.at_front [
        | inl lt ↦ subst (λ ys. Joined (take first xs ++ ys)) (sym (ap (λ ys. ys ++ i ∷ rest) (one_run a.span.at start a.owner (omega (arith, other.1)))))
            (joined-take first xs a _ (i ∷ rest) c.joined c.first_in kth ((λ f. other.0 (f ∙ e)), j))
        | inr front ↦ subst (λ k. Joined (take k xs ++ (run a.span.at start a.owner ++ i ∷ rest))) (sym front)
            (joined-run a.span.at start a.owner (i ∷ rest) j (λ lt f. other.0 (f ∙ e)))
      ]
    ]

cut_joined : (xs : List Interval) (span : Span) (owner : Owner) (first last : ℕ) (a b : Interval) (start stop : ℕ) → IsCut xs span owner first last a b start stop
    → Joined (cut xs first last a b start stop owner)
cut_joined xs span owner first last a b start stop c =
    let n = numbers xs span owner first last a b start stop c in
    let right = run stop (b.span.at + b.span.len) b.owner ++ drop (suc last) xs in
    subst (λ ys. Joined (take first xs ++ (run a.span.at start a.owner ++ (ys ++ right)))) (sym (one_run start stop owner (omega (arith, n.start_le, n.stop_ge, c.some))))
    (joined_left xs span owner first last a b start stop c right _ refl (other_right xs span owner first last a b start stop c, joined_right xs span owner first last a b start stop c))

pub cut_given : (xs : List Interval) (span : Span) (owner : Owner) (first last : ℕ) (a b : Interval) (start stop : ℕ) → IsCut xs span owner first last a b start stop
    → IsGiven xs span owner (cut xs first last a b start stop owner)
cut_given xs span owner first last a b start stop c = record {
  tile = cut_tile xs span owner first last a b start stop c;
  joined = cut_joined xs span owner first last a b start stop c;
  whole = cut_places xs span owner first last a b start stop c;
  owners = λ x _. cut_owners xs span owner first last a b start stop c x;
}

-- the cut at what is found before and behind the span
pub found_cut : (xs : List Interval) (span : Span) (owner : Owner) (ram first last : ℕ) (a b : Interval) (start stop : ℕ) → Tile 0 xs → Joined xs → places xs ≡ ram
    → 0 < span.len → span.at + span.len ≤ ram → Found xs (span.at - 1) first a → Found xs (min (span.at + span.len) (ram - 1)) last b
    → IsBorder a.owner owner a.span.at span.at start → IsBorder b.owner owner (b.span.at + b.span.len) (span.at + span.len) stop
    → IsCut xs span owner first last a b start stop
found_cut xs span owner ram first last a b start stop t j whole some inside f g left right =
    let a_low : a.span.at ≤ span.at - 1 = covers-low a.span (span.at - 1) f.here in
    let a_high : span.at - 1 < a.span.at + a.span.len = covers-high a.span (span.at - 1) f.here in
    let a_at : a.span.at ≡ places (take first xs) = omega (arith, ap (λ (i : Interval). i.span.at) f.kth, starts_at 0 first xs a t f.inside) in
    let b_low : b.span.at ≤ min (span.at + span.len) (ram - 1) = covers-low b.span _ g.here in
    let b_high : min (span.at + span.len) (ram - 1) < b.span.at + b.span.len = covers-high b.span _ g.here in
    let b_end : b.span.at + b.span.len ≡ places (take (suc last) xs) = omega (arith, ap (λ (i : Interval). i.span.at + i.span.len) g.kth, ends_at last xs b t g.inside) in
    record {
      tile = t;
      joined = j;
      first_in = f.inside;
      last_in = g.inside;
      first_is = f.kth;
      last_is = g.kth;
      some = some;
      before = omega arith;
      reaches = omega arith;
      at_front = elim (cases_lt a.span.at span.at) [ inl lt ↦ inl lt | inr ge ↦ inr (none_before xs first t f.inside (omega arith)) ];
      begins = omega arith;
      behind = omega (arith, g.within, places-take_drop (suc last) xs);
      at_end = elim (cases_lt (span.at + span.len) (b.span.at + b.span.len)) [ inl lt ↦ inl lt | inr ge ↦ inr (all_before xs last t g.inside (omega (arith, g.within))) ];
      left = left;
      right = right;
    }
  where
    none_before : (ys : List Interval) (k : ℕ) → Tile 0 ys → k < length ys → places (take k ys) ≡ 0 → k ≡ 0
    none_before ys zero u lt e = refl
    none_before [] (suc k) u lt e = absurd (omega arith)
    none_before (y ∷ ys) (suc k) u lt e = absurd (omega (arith, u.1))

    all_before : (ys : List Interval) (k : ℕ) → Tile 0 ys → k < length ys → places ys ≤ places (take (suc k) ys) → length ys ≡ suc k
    all_before ys k u lt e =
        let none : length (drop (suc k) ys) ≡ 0 = none_of_none _ (drop (suc k) ys) (tile-drop 0 (suc k) ys u) (omega (arith, places-take_drop (suc k) ys)) in
        omega (arith, none, length-drop (suc k) ys)
