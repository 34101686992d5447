use Rattle.std.proofs.Common.{◌≡◌, ◌-◌}
use Rattle.nc_model.specs.Touches.{first_fault, is_its_type}
use Rattle.nc_touch.proofs.looks.first_alias.Given as goal

abbrev pub invariant-loop-x : goal.invariant-loop-x
invariant-loop-x l = first_fault (is_its_type l.pool l.kind) (record { at = l.x; len = l.x-end - l.x }) ≡ first_fault (is_its_type l.pool l.kind) l.fn.span
