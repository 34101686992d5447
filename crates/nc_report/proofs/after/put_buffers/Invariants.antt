use Rattle.std.proofs.Common.{◌≡◌, ◌++◌, drop}
use Rattle.std.specs.String.{string_bytes}
use Rattle.nc_rules.specs.Lines.{buffer_lines}
use Rattle.nc_report.proofs.after.put_buffers.Given as goal

abbrev pub invariant-loop-i : goal.invariant-loop-i
invariant-loop-i l = string_bytes l.text ++ buffer_lines l.w.state l.i (drop l.i l.sc.buffers) ≡ string_bytes l.fn.text ++ buffer_lines l.w.state 0 l.sc.buffers
