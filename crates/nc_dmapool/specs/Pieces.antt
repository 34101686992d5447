-- A pool of small pieces: the pages that it took and the places in use, and what its calls do. This project's own,
-- after Linux's dma_pool.
use Rattle.std.specs.Prelude.{◌≡◌, ℕ, ◌+◌, ◌*◌, ◌<◌, ◌≤◌, ◌%◌, true, false, not, min, List, [], ◌∷◌, ◌++◌, length, slice_index_or, Option, Some, None, Result, Ok, Err, refl}
use Rattle.std.specs.List.{filter, flat_map, reduce}
use Rattle.std.specs.Ordering.{nat_cmp}
use Rattle.std.specs.FinSet as set
use Rattle.std.specs.Coded.{Coded, code_by, coded×, coded_ℕ, coded_list}
use Rattle.nc_num.specs.declared.places.Span.{Span}
use Rattle.nc_dmapool.specs.declared.layout.PoolBad.{PoolBad}
use Rattle.nc_coherent.specs.Pages.{PageMap, lowest_span, with_pages}
use Rattle.nc_dmapool.specs.Layouts.{Layout, places}

-- the pages taken, in the order of taking, and the places at which a piece in use starts
pub record Pieces : Type 0 where
  pub layout : Layout
  pub pages : List ℕ
  pub used : set.FinSet nat_cmp

-- it is kept as the tuple of its numbers, its list and its set
abbrev pub pieces_code : Coded Pieces
pieces_code =
    code_by ((ℕ × (ℕ × ℕ)) × (List ℕ × set.FinSet nat_cmp)) (coded× (coded× coded_ℕ (coded× coded_ℕ coded_ℕ)) (coded× (coded_list coded_ℕ) (set.code coded_ℕ)))
    (λ p. ((p.layout.size, (p.layout.align, p.layout.range)), (p.pages, p.used)))
    (λ t. record { layout = record { size = t.0.0; align = t.0.1.0; range = t.0.1.1 }; pages = t.1.0; used = t.1.1 }) (λ _. refl)

-- the places of all pages taken
abbrev pub all_places : Layout → List ℕ → List ℕ
all_places l pages = flat_map (places l) pages

unfoldable pub lowest : List ℕ → Option ℕ
lowest xs = reduce min xs

-- the lowest place not in use on a page taken
abbrev pub lowest_free : Pieces → Option ℕ
lowest_free p = lowest (filter (λ x. not (set.contains p.used x)) (all_places p.layout p.pages))

-- the lowest place in use
abbrev pub lowest_used : Pieces → Option ℕ
lowest_used p = lowest (set.items p.used)

-- a pool as it begins
abbrev pub empty_pool : Layout → Pieces
empty_pool l = record { layout = l; pages = []; used = set.empty }

-- what `new` answers
abbrev pub pool_of : Result Layout PoolBad → Result Pieces PoolBad
pool_of (Ok l) = Ok (empty_pool l)
pool_of (Err e) = Err e

abbrev pub with_piece : Pieces → ℕ → Pieces
with_piece p x = record p { used = set.insert p.used x }

abbrev pub without_piece : Pieces → ℕ → Pieces
without_piece p x = record p { used = set.remove p.used x }

abbrev pub with_page : Pieces → ℕ → Pieces
with_page p page = record p { pages = p.pages ++ page ∷ [] }

-- one page, as bytes of RAM
abbrev pub page_span : ℕ → Span
page_span page = record { at = page; len = 4096 }

-- a piece given: where it starts, and the two pools afterwards
pub record Given : Type 0 where
  pub at : ℕ
  pub pool : Pieces
  pub pages : PageMap

-- with no place free: the first place of the page found, which is taken
abbrev pub given_on : Pieces → PageMap → Option Span → Option Given
given_on p map None = None
given_on p map (Some page) =
    Some (record { at = page.at; pool = with_piece (with_page p page.at) page.at; pages = with_pages map page false })

abbrev pub given_at : Pieces → PageMap → Option ℕ → Option Given
given_at p map (Some x) = Some (record { at = x; pool = with_piece p x; pages = map })
given_at p map None = given_on p map (lowest_span map 1)

-- what `alloc` gives: the lowest place free, else the first of a page more; None where there is no page
abbrev pub given : Pieces → PageMap → Option Given
given p map = given_at p map (lowest_free p)

-- all these pages given back
abbrev pub all_back : PageMap → List ℕ → PageMap
all_back map [] = map
all_back map (page ∷ pages) = all_back (with_pages map (page_span page) true) pages

-- the page at x is one of these pages, and is taken there
pub record IsTaken (map : PageMap) (x : ℕ) : Type 0 where
  pub number : ℕ
  pub there : number < length map.free
  pub starts : x ≡ map.at + 4096 * number
  pub taken : slice_index_or map.free number true ≡ false

-- the pages that the pool of pieces took are taken there
pub record HasTaken (map : PageMap) (p : Pieces) : Type 0 where
  pub taken : (i : ℕ) → i < length p.pages → IsTaken map (slice_index_or p.pages i 0)

-- the pages are whole and in RAM, as each pool of pages has them, and those that the pool of pieces took are taken there
pub record CanServe (map : PageMap) (p : Pieces) : Type 0 where
  pub whole : map.at % 4096 ≡ 0
  pub ends : map.at + 4096 * length map.free ≤ 1048576
  pub taken : (i : ℕ) → i < length p.pages → IsTaken map (slice_index_or p.pages i 0)
