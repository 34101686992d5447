use Rattle.std.proofs.Common.{◌≡◌, ◌++◌, drop, map}
use Rattle.nc_rules.specs.Copies.{copy_step}
use Rattle.nc_planned.proofs.copies.push_copy_steps.Given as goal

abbrev pub invariant-loop-step : goal.invariant-loop-step
invariant-loop-step l = l.steps.items ++ map (copy_step l.chan) (drop l.step-index l.copy) ≡ l.fn.steps.items ++ map (copy_step l.chan) l.copy
