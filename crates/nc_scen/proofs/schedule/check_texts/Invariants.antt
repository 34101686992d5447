use Rattle.std.proofs.Common.{◌≡◌, drop}
use Rattle.serde_json.specs.View.{items_view}
use Rattle.nc_values.specs.Outcomes.{check_each}
use Rattle.nc_scen.specs.Reading.{text_at}
use Rattle.nc_scen.proofs.schedule.check_texts.Given as goal

abbrev pub invariant-loop-i : goal.invariant-loop-i
invariant-loop-i l = check_each text_at l.i (items_view (drop l.i l.items)) ≡ check_each text_at 0 (items_view l.items)
