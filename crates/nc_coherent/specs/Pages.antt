-- The pages of the coherent pool, and the lowest run of free ones. This project's own.
use Rattle.std.specs.Prelude.{◌≡◌, ℕ, ◌+◌, ◌-◌, ◌*◌, ◌/◌, ◌%◌, ◌<◌, ◌≤◌, ◌&&◌, Bool, true, false, nat_le, List, ◌++◌, length, take, drop, replicate, slice_range, find, Option, Some, None}
use Rattle.std.specs.List.{range_with_len, list_all}
use Rattle.nc_num.specs.declared.places.Span.{Span}

-- where the pool starts, and of each of its pages whether it is free
pub record PageMap : Type 0 where
  pub at : ℕ
  pub free : List Bool

-- whether the n pages from page p on are there and free
abbrev pub is_run : List Bool → ℕ → ℕ → Bool
is_run free n p = nat_le (p + n) (length free) && list_all (λ b. b) (slice_range free p (p + n))

-- the lowest page at which n free pages start
unfoldable pub lowest_run : List Bool → ℕ → Option ℕ
lowest_run free n = find (is_run free n) (range_with_len 0 (length free))

-- n pages of the pool, from page p on
abbrev pub run_span : PageMap → ℕ → ℕ → Span
run_span pool n p = record { at = pool.at + 4096 * p; len = 4096 * n }

abbrev pub span_of_run : PageMap → ℕ → Option ℕ → Option Span
span_of_run pool n None = None
span_of_run pool n (Some p) = Some (run_span pool n p)

-- the lowest run of n free pages, as bytes of RAM
abbrev pub lowest_span : PageMap → ℕ → Option Span
lowest_span pool n = span_of_run pool n (lowest_run pool.free n)

-- the span is not empty, and is made of whole pages of the pool
pub record IsPages (pool : PageMap) (span : Span) : Type 0 where
  pub some : 0 < span.len
  pub starts : pool.at ≤ span.at
  pub aligned : (span.at - pool.at) % 4096 ≡ 0
  pub whole : span.len % 4096 ≡ 0
  pub ends : span.at + span.len ≤ pool.at + 4096 * length pool.free

-- the number of its first page, and how many they are
abbrev pub first_page : PageMap → Span → ℕ
first_page pool span = (span.at - pool.at) / 4096

abbrev pub page_count : Span → ℕ
page_count span = span.len / 4096

-- whether its pages are free, in order
abbrev pub pages_of : PageMap → Span → List Bool
pages_of pool span = slice_range pool.free (first_page pool span) (first_page pool span + page_count span)

-- n pages from page p on are all marked so, and no other page is changed
unfoldable pub marked : List Bool → ℕ → ℕ → Bool → List Bool
marked free p n to = take p free ++ replicate n to ++ drop (p + n) free

abbrev pub with_pages : PageMap → Span → Bool → PageMap
with_pages pool span to = record pool { free = marked pool.free (first_page pool span) (page_count span) to }

-- page p starts a run of n free pages, and no lower page does
pub record IsLowestRun (free : List Bool) (n p : ℕ) : Type 0 where
  pub starts : is_run free n p ≡ true
  pub lowest : (q : ℕ) → q < p → is_run free n q ≡ false

-- no page starts a run of n free pages
abbrev pub HasNoRun : List Bool → ℕ → Type 0
HasNoRun free n = (q : ℕ) → is_run free n q ≡ false

abbrev pub IsLowest : List Bool → ℕ → Option ℕ → Type 0
IsLowest free n None = HasNoRun free n
IsLowest free n (Some p) = IsLowestRun free n p

-- the law: for n of 1 and more, what is found is the lowest run, and none is found exactly where there is none
abbrev pub LowestRunIsLowest : Type 0
LowestRunIsLowest = (free : List Bool) (n : ℕ) → 0 < n → IsLowest free n (lowest_run free n)
