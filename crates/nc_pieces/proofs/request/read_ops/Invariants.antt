use Rattle.std.proofs.Common.{◌≡◌, ℕ, drop, length, All}
use Rattle.serde_json.specs.Data.{Data}
use Rattle.serde_json.specs.View.{items_view}
use Rattle.nc_values.specs.Outcomes.{each}
use Rattle.nc_values.proofs.Loops.{with_front}
use Rattle.nc_pieces.specs.Requests.{FitsOp}
use Rattle.nc_pieces.specs.Reading.{op_of}
use Rattle.nc_pieces.proofs.request.read_ops.Given as goal

abbrev pub invariant-loop-value : goal.invariant-loop-value
invariant-loop-value l = (with_front (λ (i : ℕ) (d : Data). op_of d) l.ops.items (each (λ (i : ℕ) (d : Data). op_of d) l.value-index (items_view (drop l.value-index l.items))) ≡ each (λ (i : ℕ) (d : Data). op_of d) 0 (items_view l.items)) × All FitsOp l.ops.items × (length l.ops.items ≡ l.value-index)
