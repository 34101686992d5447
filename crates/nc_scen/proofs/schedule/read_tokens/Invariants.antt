use Rattle.std.proofs.Common.{◌≡◌, ℕ, ◌*◌, drop, length, All}
use Rattle.serde_json.specs.View.{items_view}
use Rattle.nc_values.specs.Outcomes.{each}
use Rattle.nc_scen.specs.Reading.{token_at}
use Rattle.nc_scen.specs.Events.{IsThere}
use Rattle.nc_values.proofs.Loops.{with_front}
use Rattle.nc_scen.proofs.schedule.read_tokens.Given as goal

abbrev pub invariant-loop-i : goal.invariant-loop-i
invariant-loop-i l = (with_front (token_at l.harts l.blocks) l.events.items (each (token_at l.harts l.blocks) l.i (items_view (drop l.i l.items))) ≡ each (token_at l.harts l.blocks) 0 (items_view l.items)) × ((size : ℕ) → All (IsThere l.harts size (size * l.blocks)) l.events.items) × (length l.events.items ≡ l.i)
