-- The regions of RAM that a scenario names: its buffers, then its slots, then its pool.
use Rattle.std.specs.Prelude.{ℕ, ◌+◌, ◌*◌, ◌<◌, ◌≤◌, ◌&&◌, Bool, nat_lt, if◌then◌else◌, List, [], ◌∷◌, ◌++◌, map, length, slice_index_or, Option, Some, None}
use Rattle.nc_num.specs.declared.places.Span.{Span}
use Rattle.nc_scen.specs.declared.scenario.BufferSpec.{BufferSpec}
use Rattle.nc_scen.specs.declared.scenario.Scenario.{Scenario}

-- so many bounce slots from a place on, and so many pages of the coherent pool
abbrev pub slots_span : ℕ → ℕ → Span
slots_span at count = record { at = at; len = 2048 * count }

abbrev pub pool_span : ℕ → ℕ → Span
pool_span at pages = record { at = at; len = 4096 * pages }

abbrev pub slots_of : Scenario → Span
slots_of sc = slots_span sc.slots_at sc.slots

abbrev pub pool_of : Scenario → Span
pool_of sc = pool_span sc.pool_at sc.pages

-- a place lies in a region
pub record IsIn (region : Span) (x : ℕ) : Type 0 where
  pub from : region.at ≤ x
  pub before : x < region.at + region.len

-- two regions share no byte
abbrev pub AreApart : Span → Span → Type 0
AreApart a b = (x : ℕ) → IsIn a x → IsIn b x → ⊥

-- of a list of buffers, no two share a byte
abbrev pub HasBuffersApart : List BufferSpec → Type 0
HasBuffersApart buffers = (i j : ℕ) (d e : BufferSpec) → i < j → j < length buffers → AreApart (slice_index_or buffers i d).span (slice_index_or buffers j e).span

-- ---- the first two regions that share a byte

abbrev pub meet : Span → Span → Bool
meet a b = nat_lt 0 a.len && nat_lt 0 b.len && nat_lt a.at (b.at + b.len) && nat_lt b.at (a.at + a.len)

-- the first of these, whose numbers begin at j, that meets a region
abbrev pub first_meeting : Span → ℕ → List Span → Option ℕ
first_meeting r j [] = None
first_meeting r j (s ∷ rs) = if meet r s then Some j else first_meeting r (j + 1) rs

abbrev pub overlap_or : ℕ → Option ℕ → Option (ℕ × ℕ) → Option (ℕ × ℕ)
overlap_or i (Some j) later = Some (i, j)
overlap_or i None later = later

-- the least pair of these, whose numbers begin at i, that meet
abbrev pub first_overlap : ℕ → List Span → Option (ℕ × ℕ)
first_overlap i [] = None
first_overlap i (r ∷ rs) = overlap_or i (first_meeting r (i + 1) rs) (first_overlap (i + 1) rs)

-- the regions by their numbers
abbrev pub regions : List BufferSpec → Span → Span → List Span
regions buffers slots pool = map (λ b. b.span) buffers ++ slots ∷ pool ∷ []
