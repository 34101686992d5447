-- The law of a pool: after any list of calls the pieces in use are apart.
use Rattle.std.specs.Prelude.{◌≡◌, ℕ, ◌+◌, ◌%◌, ◌<◌, ◌≤◌, Bool, true, false, List, [], ◌∷◌, Option, Some, None, Ok}
use Rattle.std.specs.FinSet as set
use Rattle.nc_coherent.specs.Pages.{PageMap}
use Rattle.nc_plan.specs.Plans.{In}
use Rattle.nc_dmapool.specs.Layouts.{layout_of}
use Rattle.nc_dmapool.specs.Pieces.{Pieces, Given, CanServe, given, pool_of, without_piece}

-- the bytes of each piece in use
pub record Apart (p : Pieces) : Type 0 where
  -- no two of them share a byte
  pub apart : (x y : ℕ) → set.contains p.used x ≡ true → set.contains p.used y ≡ true → x < y → x + p.layout.size ≤ y
  -- they start at a multiple of the alignment
  pub aligned : (x : ℕ) → set.contains p.used x ≡ true → x % p.layout.align ≡ 0
  -- they cross no multiple of the boundary
  pub within : (x : ℕ) → set.contains p.used x ≡ true → x % p.layout.range + p.layout.size ≤ p.layout.range
  -- they lie on a page that the pool took
  pub on : (x : ℕ) → set.contains p.used x ≡ true → (page : ℕ) × In page p.pages × (page ≤ x) × (x + p.layout.size ≤ page + 4096)

-- a call that is not refused for memory: `alloc`, with the pages as they stand then, or `free`
pub data Call : Type 0 where
  Alloc : PageMap → Call
  Free : ℕ → Call

abbrev pub after_alloc : Pieces → Option Given → Pieces
after_alloc p None = p
after_alloc p (Some g) = g.pool

abbrev pub after_free : Pieces → ℕ → Bool → Pieces
after_free p x true = without_piece p x
after_free p x false = p

-- the pool after one call, and after some
abbrev pub after_one : Pieces → Call → Pieces
after_one p (Alloc map) = after_alloc p (given p map)
after_one p (Free x) = after_free p x (set.contains p.used x)

abbrev pub after : Pieces → List Call → Pieces
after p [] = p
after p (c ∷ cs) = after (after_one p c) cs

-- each call meets what it asks, and the pages are whole and in RAM, as each pool of pages has them
abbrev pub CanCall : Pieces → Call → Type 0
CanCall p (Alloc map) = CanServe map p
CanCall p (Free x) = Unit {0}

abbrev pub CanRun : Pieces → List Call → Type 0
CanRun p [] = Unit {0}
CanRun p (c ∷ cs) = CanCall p c × CanRun (after_one p c) cs

-- the law
abbrev pub PiecesAreApart : Type 0
PiecesAreApart = (size align boundary : ℕ) (p : Pieces) → pool_of (layout_of size align boundary) ≡ Ok p → (cs : List Call) → CanRun p cs → Apart (after p cs)
