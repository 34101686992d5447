-- What a book is seen as.
use Rattle.std.specs.Prelude.{ℕ, ◌≡◌, ◌+◌, ◌*◌, ◌<◌, ◌≤◌, ◌^◌, Bool, true, List, length, map, slice_index_or, if◌then◌else◌}
use Rattle.std.specs.List.{All, range_with_len}
use Rattle.nc_num.specs.Places.{covers}
use Rattle.nc_num.specs.declared.places.Span.{Span}
use Rattle.nc_model.specs.Grants.{IsGrants}
use Rattle.nc_model.specs.Owners.{owner_at}
use Rattle.nc_model.specs.declared.owners.Grant.{Grant}
use Rattle.nc_model.specs.declared.owners.Owner.{Owner}
use Rattle.nc_model.specs.declared.owners.Owner.TheVariants.{Pool}
use Rattle.nc_own.specs.Tiles.{places, Tile, Joined}
use Rattle.nc_own.specs.declared.intervals.Interval.{Interval}

-- the owner of each place of RAM, the grants in order of adding, and for how many more changes there is room
pub record BookView : Type 0 where
  pub owners : List Owner
  pub grants : List Grant
  pub spare : ℕ

-- what is true of every book over so many bytes: its intervals cover them, its grants are apart, and where there is room
-- for so many changes, three intervals and a grant fit for each
pub record IsBook (ram room free_intervals free_grants : ℕ) (is : List Interval) (grants : List Grant) : Type 0 where
  pub size : ram < 2 ^ 32
  pub apart : IsGrants ram grants
  pub tile : Tile 0 is
  pub joined : Joined is
  pub whole : places is ≡ ram
  pub interval_room : 3 * room ≤ free_intervals
  pub grant_room : room ≤ free_grants

-- the owner of a place
unfoldable pub owner_in : List Owner → ℕ → Owner
owner_in owners x = slice_index_or owners x Pool

-- the owners with those in a span changed
unfoldable pub transferred : List Owner → Span → Owner → List Owner
transferred owners span owner = map (λ x. if covers span x then owner else owner_in owners x) (range_with_len 0 (length owners))

-- the owners of a RAM of this size after transfers, the newest first
unfoldable pub owners_of : ℕ → List (Span × Owner) → List Owner
owners_of ram transfers = map (owner_at transfers) (range_with_len 0 ram)

-- exactly the intervals of these owners: they cover the places from 0 to the end, ascending and without a gap, none is
-- empty, each place in one has its owner, and neighbours have different owners
pub record AreIntervals (owners : List Owner) (is : List Interval) : Type 0 where
  pub ascending : Tile 0 is
  pub whole : places is ≡ length owners
  pub owner : All (λ i. (x : ℕ) → covers i.span x ≡ true → owner_in owners x ≡ i.owner) is
  pub joined : Joined is

-- an interval that has a place, by the owners of all
pub record IsAround (owners : List Owner) (x : ℕ) (i : Interval) : Type 0 where
  pub here : covers i.span x ≡ true
  pub within : i.span.at + i.span.len ≤ length owners
  pub owner : (y : ℕ) → covers i.span y ≡ true → owner_in owners y ≡ i.owner

-- the test passes each place from one on, before another
pub record Reaches (may : ℕ → Bool) (start end : ℕ) : Type 0 where
  pub some : start < end
  pub passes : (x : ℕ) → start ≤ x → x < end → may x ≡ true
