use Rattle.std.proofs.Common.{◌≡◌, ℕ, drop, length, All}
use Rattle.serde_json.specs.Data.{Data}
use Rattle.serde_json.specs.View.{items_view}
use Rattle.nc_ops.specs.Fits.{FitsEntry}
use Rattle.nc_ops.specs.Operations.{entry_of}
use Rattle.nc_values.specs.Outcomes.{each}
use Rattle.nc_values.proofs.Loops.{with_front}
use Rattle.nc_ops.proofs.arguments.entries.Given as goal

abbrev pub invariant-loop-value : goal.invariant-loop-value
invariant-loop-value l = (with_front (λ (i : ℕ) (d : Data). entry_of l.buffers d) l.read.items (each (λ (i : ℕ) (d : Data). entry_of l.buffers d) l.value-index (items_view (drop l.value-index l.items))) ≡ each (λ (i : ℕ) (d : Data). entry_of l.buffers d) 0 (items_view l.items)) × All (FitsEntry l.buffers) l.read.items × (length l.read.items ≡ l.value-index)
