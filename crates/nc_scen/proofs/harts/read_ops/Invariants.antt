use Rattle.std.proofs.Common.{◌≡◌, drop, length, All}
use Rattle.serde_json.specs.View.{items_view}
use Rattle.nc_values.specs.Outcomes.{each}
use Rattle.nc_scen.specs.Parts.{op_at}
use Rattle.nc_ops.specs.Fits.{FitsOp}
use Rattle.nc_values.proofs.Loops.{with_front}
use Rattle.nc_scen.proofs.harts.read_ops.Given as goal

abbrev pub invariant-loop-i : goal.invariant-loop-i
invariant-loop-i l = (with_front (op_at l.counts l.script) l.ops.items (each (op_at l.counts l.script) l.i (items_view (drop l.i l.items))) ≡ each (op_at l.counts l.script) 0 (items_view l.items)) × All (FitsOp l.counts.harts l.counts.buffers) l.ops.items × (length l.ops.items ≡ l.i)
