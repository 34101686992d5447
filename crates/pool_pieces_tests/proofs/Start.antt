-- A pool that has no page may take from any pages.
use Rattle.std.proofs.Common.{◌≡◌, [], length, refl, ap, subst, arith, Result, Ok, Err}
use Rattle.nc_coherent.specs.Pages.{PageMap}
use Rattle.nc_dmapool.specs.declared.layout.PoolBad.{PoolBad}
use Rattle.nc_dmapool.specs.Layouts.{Layout}
use Rattle.nc_dmapool.specs.Pieces.{Pieces, HasTaken, pool_of}

HasNone : Result Pieces PoolBad → Type 0
HasNone (Ok p) = p.pages ≡ []
HasNone (Err e) = Unit {0}

has_none : (r : Result Layout PoolBad) → HasNone (pool_of r)
unfolding HasNone
has_none (Ok l) = refl
has_none (Err e) = tt

no_page_yet : (r : Result Layout PoolBad) (p : Pieces) → pool_of r ≡ Ok p → p.pages ≡ []
unfolding HasNone
no_page_yet r p e = subst HasNone e (has_none r)

pub can_start : (r : Result Layout PoolBad) (p : Pieces) (m : PageMap) → pool_of r ≡ Ok p → HasTaken m p
can_start r p m e = record { taken = λ i lt. absurd (omega (arith, ap length (no_page_yet r p e), lt)) }
