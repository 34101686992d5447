-- Intervals of RAM, each with its owner (this project's own).
use Rattle.std.specs.Prelude.{ℕ, ◌≡◌, ◌≢◌, ◌⊎◌, ◌+◌, ◌-◌, ◌<◌, ◌≤◌, true, List, [], ◌∷◌, length, nat_lt, slice_index_or, if◌then◌else◌}
use Rattle.nc_num.specs.Places.{covers}
use Rattle.nc_num.specs.declared.places.Span.{Span}
use Rattle.nc_model.specs.Owners.{owner_at}
use Rattle.nc_model.specs.declared.owners.Owner.{Owner}
use Rattle.nc_own.specs.declared.intervals.Interval.{Interval}

-- how many places there are in the intervals
abbrev pub places : List Interval → ℕ
places [] = 0
places (i ∷ is) = i.span.len + places is

-- they stand one behind another from a place on, ascending and without a gap, and none is empty
abbrev pub Tile : ℕ → List Interval → Type 0
Tile at [] = Unit {0}
Tile at (i ∷ is) = (i.span.at ≡ at) × (0 < i.span.len) × Tile (at + i.span.len) is

-- the first of them, if there is one, has another owner
abbrev pub BeginsOther : Owner → List Interval → Type 0
BeginsOther owner [] = Unit {0}
BeginsOther owner (i ∷ is) = owner ≢ i.owner

-- neighbours have different owners
abbrev pub Joined : List Interval → Type 0
Joined [] = Unit {0}
Joined (i ∷ is) = BeginsOther i.owner is × Joined is

-- intervals as transfers
abbrev pub made : List Interval → List (Span × Owner)
made [] = []
made (i ∷ is) = (i.span, i.owner) ∷ made is

-- the interval from one place to another, and none where there is nothing between them
abbrev pub run : ℕ → ℕ → Owner → List Interval
run start end owner = if nat_lt start end then record { span = record { at = start; len = end - start }; owner = owner } ∷ [] else []

-- an interval that has a place
pub record Has (is : List Interval) (x : ℕ) (i : Interval) : Type 0 where
  pub here : covers i.span x ≡ true
  pub within : i.span.at + i.span.len ≤ places is
  pub owner : (y : ℕ) → covers i.span y ≡ true → owner_at (made is) y ≡ i.owner

-- a border between an owner's interval and a neighbour's: at the outer place where the two are one owner's, else at the
-- inner one
abbrev pub IsBorder : Owner → Owner → ℕ → ℕ → ℕ → Type 0
IsBorder neighbour owner outer inner border = ((neighbour ≡ owner) × (border ≡ outer)) ⊎ ((neighbour ≢ owner) × (border ≡ inner))

-- the k-th of the intervals has a place
pub record Found (is : List Interval) (x k : ℕ) (i : Interval) : Type 0 where
  pub inside : k < length is
  pub kth : i ≡ slice_index_or is k i
  pub here : covers i.span x ≡ true
  pub within : i.span.at + i.span.len ≤ places is

-- intervals after a span of places got an owner
pub record IsGiven (is : List Interval) (span : Span) (owner : Owner) (next : List Interval) : Type 0 where
  pub tile : Tile 0 next
  pub joined : Joined next
  pub whole : places next ≡ places is
  pub owners : (x : ℕ) → x < places is → owner_at (made next) x ≡ (if covers span x then owner else owner_at (made is) x)
