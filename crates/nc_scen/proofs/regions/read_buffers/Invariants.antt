use Rattle.std.proofs.Common.{◌≡◌, drop, length, All}
use Rattle.serde_json.specs.View.{items_view}
use Rattle.nc_values.specs.Outcomes.{each}
use Rattle.nc_scen.specs.Parts.{buffer_at}
use Rattle.nc_scen.specs.Accepted.{FitsBuffer}
use Rattle.nc_values.proofs.Loops.{with_front}
use Rattle.nc_scen.proofs.regions.read_buffers.Given as goal

abbrev pub invariant-loop-i : goal.invariant-loop-i
invariant-loop-i l = (with_front (buffer_at l.ram l.harts) l.buffers.items (each (buffer_at l.ram l.harts) l.i (items_view (drop l.i l.items))) ≡ each (buffer_at l.ram l.harts) 0 (items_view l.items)) × All (FitsBuffer l.ram l.harts) l.buffers.items × (length l.buffers.items ≡ l.i)
