use Rattle.std.proofs.Common.{◌≡◌, ◌++◌, drop}
use Rattle.std.specs.String.{string_bytes}
use Rattle.nc_rules.specs.Lines.{left_lines}
use Rattle.nc_report.proofs.after.put_lefts.Given as goal

abbrev pub invariant-loop-h : goal.invariant-loop-h
invariant-loop-h l = string_bytes l.text ++ left_lines l.h (drop l.h l.w.state.drivers) ≡ string_bytes l.fn.text ++ left_lines 0 l.w.state.drivers
