use Rattle.std.proofs.Common.{◌≡◌, ◌+◌, ◌++◌}
use Rattle.nc_rules.specs.View.{bytes_of}
use Rattle.nc_report.proofs.after.bytes_of.Given as goal

abbrev pub invariant-loop-rest : goal.invariant-loop-rest
invariant-loop-rest l = (l.bytes.items ++ bytes_of l.w.state.machine l.rest ≡ bytes_of l.w.state.machine l.fn.span) × (l.rest.at + l.rest.len ≡ l.fn.span.at + l.fn.span.len)

abbrev pub decreases-loop-rest : goal.decreases-loop-rest
decreases-loop-rest l = l.rest.len
