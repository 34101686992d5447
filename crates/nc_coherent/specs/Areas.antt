-- The plans of a coherent area. This project's own, after the Linux DMA API's dma_alloc_coherent.
use Rattle.std.specs.Prelude.{ℕ, List, [], ◌∷◌, ◌++◌}
use Rattle.std.specs.Result.{result_unwrap_or}
use Rattle.nc_num.specs.declared.places.Span.{Span}
use Rattle.nc_env.specs.declared.CboOp.TheVariants.{Zero, Flush}
use Rattle.nc_plan.specs.declared.ops.HartOp.{HartOp}
use Rattle.nc_plan.specs.declared.effects.Effects.{Effects}
use Rattle.nc_plan.specs.Plans.{cbos, full}

-- each block is zeroed, then each is flushed, then all is fenced
unfoldable pub allocating : Effects → ℕ → Span → List HartOp
allocating e size span = cbos (result_unwrap_or e.zero Zero) size span ++ cbos (result_unwrap_or e.flush Flush) size span ++ full ∷ []
