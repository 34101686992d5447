use Rattle.std.proofs.Common.{◌≡◌, ℕ, drop}
use Rattle.serde_json.specs.Data.{Data}
use Rattle.serde_json.specs.View.{items_view}
use Rattle.nc_ops.specs.Operations.{entry_numbers}
use Rattle.nc_values.specs.Outcomes.{check_each}
use Rattle.nc_ops.proofs.arguments.check_entries.Given as goal

abbrev pub invariant-loop-value : goal.invariant-loop-value
invariant-loop-value l = check_each (λ (i : ℕ) (d : Data). entry_numbers d) l.value-index (items_view (drop l.value-index l.items)) ≡ check_each (λ (i : ℕ) (d : Data). entry_numbers d) 0 (items_view l.items)
