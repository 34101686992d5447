use Rattle.std.proofs.Common.{◌≡◌}
use Rattle.std.specs.Prelude.{drop, is_none}
use Rattle.std.specs.List.{list_all}
use Rattle.nc_rules.specs.Driver.{left_op}
use Rattle.nc_rules.specs.Lines.{at_end}
use Rattle.nc_top.proofs.run.at_end.Given as goal

abbrev pub invariant-loop-h : goal.invariant-loop-h
invariant-loop-h l = list_all (λ d. is_none (left_op d)) (drop l.h l.w.state.drivers) ≡ at_end l.w.state
