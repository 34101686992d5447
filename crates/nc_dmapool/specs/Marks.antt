-- How the code keeps the places in use: page by page, a mark for each place.
use Rattle.std.specs.Prelude.{◌≡◌, ℕ, ◌+◌, ◌%◌, ◌<◌, ◌≤◌, ◌-◌, ◌&&◌, nat_le, nat_lt, Bool, true, false, List, [], ◌∷◌, map, length, replicate, slice_index_or, slice_set, ◌⊎◌, if◌then◌else◌, Option, Some, None}
use Rattle.std.specs.List.{flat_map, range_with_len}
use Rattle.std.specs.Ordering.{nat_cmp}
use Rattle.std.specs.FinSet as set
use Rattle.nc_dmapool.specs.Layouts.{Layout, IsLayout, offset_of, place_count}
use Rattle.nc_coherent.specs.Pages.{PageMap}
use Rattle.nc_dmapool.specs.Pieces.{Pieces, IsTaken}
use Rattle.nc_dmapool.specs.declared.spots.Spot.{Spot}

-- a page: where it starts, and of each of its places, by number, whether a piece in use starts there
pub record Marks : Type 0 where
  pub at : ℕ
  pub marks : List Bool

-- the first place of a page that is not in use, or the number of its places
pub record IsFirst (marks : List Bool) (first : ℕ) : Type 0 where
  pub within : first ≤ length marks
  pub below : (k : ℕ) → k < first → slice_index_or marks k false ≡ true
  pub free : first < length marks → slice_index_or marks first true ≡ false

-- places from a number on that are all in use, and the next is not
pub record IsFirstFrom (marks : List Bool) (from first : ℕ) : Type 0 where
  pub starts : from ≤ first
  pub within : first ≤ length marks
  pub below : (k : ℕ) → from ≤ k → k < first → slice_index_or marks k false ≡ true
  pub free : first < length marks → slice_index_or marks first true ≡ false

-- the number n names a place that is marked so, and no lower number does
pub record IsFirstMark (mark : Bool) (marks : List Bool) (n : ℕ) : Type 0 where
  pub there : n < length marks
  pub is : slice_index_or marks n true ≡ mark
  pub lowest : (k : ℕ) → k < n → ¬ (slice_index_or marks k true ≡ mark)

-- no place is marked so
abbrev pub HasNoMark : Bool → List Bool → Type 0
HasNoMark mark marks = (k : ℕ) → k < length marks → ¬ (slice_index_or marks k true ≡ mark)

-- no page at all, for a number past the end
abbrev pub no_page : Marks
no_page = record { at = 0; marks = [] }

abbrev pub page_at : List Marks → ℕ → Marks
page_at ps i = slice_index_or ps i no_page

-- place n of page i is there, and is x
pub record IsSpot (l : Layout) (ps : List Marks) (i n x : ℕ) : Type 0 where
  pub page : i < length ps
  pub there : n < length (page_at ps i).marks
  pub is : x ≡ (page_at ps i).at + offset_of l n

abbrev pub mark_at : List Marks → ℕ → ℕ → Bool
mark_at ps i n = slice_index_or (page_at ps i).marks n true

-- the places in use of a page, and of all pages
abbrev pub used_of : Layout → Marks → List ℕ
used_of l p = flat_map (λ n. if slice_index_or p.marks n false then (p.at + offset_of l n) ∷ [] else []) (range_with_len 0 (length p.marks))

unfoldable pub used_set : Layout → List Marks → set.FinSet nat_cmp
used_set l ps = set.from_list (flat_map (used_of l) ps)

-- the pool that the marks show
abbrev pub shown : Layout → List Marks → Pieces
shown l ps = record { layout = l; pages = map (λ p. p.at) ps; used = used_set l ps }

-- a page that starts at a multiple of its size, in RAM, with a mark for each place
pub record IsPage (l : Layout) (p : Marks) : Type 0 where
  pub whole : p.at % 4096 ≡ 0
  pub ends : p.at + 4096 ≤ 1048576
  pub marks : length p.marks ≡ place_count l

-- what holds of the pages of a pool
pub record ArePages (l : Layout) (ps : List Marks) : Type 0 where
  pub layout : IsLayout l
  pub each : (i : ℕ) → i < length ps → IsPage l (page_at ps i)
  pub apart : (i j : ℕ) → i < length ps → j < length ps → (page_at ps i).at ≡ (page_at ps j).at → i ≡ j

-- of the first k pages: no place is marked so
abbrev pub HasNone : Bool → List Marks → ℕ → Type 0
HasNone mark ps k = (i n : ℕ) → i < k → n < length (page_at ps i).marks → ¬ (mark_at ps i n ≡ mark)

-- the spot is marked so, and no place of the first k pages that is marked so is lower
pub record IsLowest (l : Layout) (mark : Bool) (ps : List Marks) (k : ℕ) (s : Spot) : Type 0 where
  pub spot : IsSpot l ps s.page s.number s.at
  pub is : mark_at ps s.page s.number ≡ mark
  pub lowest : (i n : ℕ) → i < k → n < length (page_at ps i).marks → mark_at ps i n ≡ mark → s.at ≤ (page_at ps i).at + offset_of l n

-- the lowest place that is marked so, of the first k pages
abbrev pub Finds : Layout → Bool → List Marks → ℕ → Option Spot → Type 0
Finds l mark ps k None = HasNone mark ps k
Finds l mark ps k (Some s) = IsLowest l mark ps k s

-- the spot is the first of page i that is marked so
pub record IsFirstOn (l : Layout) (mark : Bool) (i : ℕ) (p : Marks) (s : Spot) : Type 0 where
  pub page : s.page ≡ i
  pub there : s.number < length p.marks
  pub is : slice_index_or p.marks s.number true ≡ mark
  pub at : s.at ≡ p.at + offset_of l s.number

-- the spot after one page more: the lower of the last and the first of the page
pub record IsLower (l : Layout) (mark : Bool) (last : Option Spot) (i : ℕ) (p : Marks) (s : Spot) : Type 0 where
  pub from : (last ≡ Some s) ⊎ IsFirstOn l mark i p s
  pub low : (r : Spot) → last ≡ Some r → s.at ≤ r.at
  pub lowest : (n : ℕ) → n < length p.marks → slice_index_or p.marks n true ≡ mark → s.at ≤ p.at + offset_of l n

abbrev pub Lowers : Layout → Bool → Option Spot → ℕ → Marks → Option Spot → Type 0
Lowers l mark last i p None = (last ≡ None) × HasNoMark mark p.marks
Lowers l mark last i p (Some s) = IsLower l mark last i p s

-- one place is marked, and nothing else is changed
abbrev pub with_mark : List Marks → ℕ → ℕ → Bool → List Marks
with_mark ps i n mark = slice_set ps i (record (page_at ps i) { marks = slice_set (page_at ps i).marks n mark })

-- a page just taken, with a piece in use at its first place
abbrev pub fresh_page : Layout → ℕ → Marks
fresh_page l at = record { at = at; marks = slice_set (replicate (place_count l) false) 0 true }

-- whether a place of RAM is on the page
abbrev pub is_on : Marks → ℕ → Bool
is_on p x = nat_le p.at x && nat_lt (x - p.at) 4096

-- a piece in use starts at x, at this spot; or none does
abbrev pub FindsUsed : Layout → List Marks → ℕ → Option Spot → Type 0
FindsUsed l ps x None = (i n : ℕ) → IsSpot l ps i n x → ¬ (mark_at ps i n ≡ true)
FindsUsed l ps x (Some s) = IsSpot l ps s.page s.number x × (mark_at ps s.page s.number ≡ true)

-- each page of these is taken there, and no two are one
pub record AreTaken (map : PageMap) (ps : List Marks) : Type 0 where
  pub taken : (i : ℕ) → i < length ps → IsTaken map (page_at ps i).at
  pub apart : (i j : ℕ) → i < length ps → j < length ps → (page_at ps i).at ≡ (page_at ps j).at → i ≡ j
