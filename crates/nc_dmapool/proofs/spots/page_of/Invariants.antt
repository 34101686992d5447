use Rattle.std.proofs.Common.{◌≡◌, ℕ, ◌<◌, true}
use Rattle.nc_dmapool.specs.Marks.{is_on, page_at}
use Rattle.nc_dmapool.proofs.spots.page_of.Given as goal

abbrev pub invariant-loop-i : goal.invariant-loop-i
invariant-loop-i l = (k : ℕ) → k < l.i → ¬ (is_on (page_at l.pages k) l.at ≡ true)
