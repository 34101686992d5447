use Rattle.std.proofs.Common.{◌≡◌, ℕ, ◌<◌, false}
use Rattle.nc_coherent.specs.Pages.{is_run}
use Rattle.nc_coherent.proofs.pages.first_run.Given as goal

abbrev pub invariant-loop-first : goal.invariant-loop-first
invariant-loop-first l = (k : ℕ) → k < l.first → is_run l.free l.n k ≡ false
