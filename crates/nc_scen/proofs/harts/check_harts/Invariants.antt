use Rattle.std.proofs.Common.{◌≡◌, drop}
use Rattle.serde_json.specs.View.{items_view}
use Rattle.nc_values.specs.Outcomes.{check_each}
use Rattle.nc_scen.specs.Parts.{hart_checked}
use Rattle.nc_scen.proofs.harts.check_harts.Given as goal

abbrev pub invariant-loop-i : goal.invariant-loop-i
invariant-loop-i l = check_each hart_checked l.i (items_view (drop l.i l.items)) ≡ check_each hart_checked 0 (items_view l.items)
