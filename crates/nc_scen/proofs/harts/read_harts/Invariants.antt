use Rattle.std.proofs.Common.{◌≡◌, drop, length, All}
use Rattle.serde_json.specs.View.{items_view}
use Rattle.nc_values.specs.Outcomes.{each}
use Rattle.nc_scen.specs.Parts.{hart_at}
use Rattle.nc_scen.specs.Accepted.{FitsHart}
use Rattle.nc_values.proofs.Loops.{with_front}
use Rattle.nc_scen.proofs.harts.read_harts.Given as goal

abbrev pub invariant-loop-i : goal.invariant-loop-i
invariant-loop-i l = (with_front (hart_at l.counts) l.harts.items (each (hart_at l.counts) l.i (items_view (drop l.i l.items))) ≡ each (hart_at l.counts) 0 (items_view l.items)) × All (FitsHart l.counts.harts l.counts.buffers) l.harts.items × (length l.harts.items ≡ l.i)
