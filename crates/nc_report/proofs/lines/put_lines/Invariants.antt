use Rattle.std.proofs.Common.{◌≡◌, ◌++◌, drop}
use Rattle.std.specs.List.{flat_map}
use Rattle.nc_rules.specs.Lines.{line}
use Rattle.nc_report.proofs.lines.put_lines.Given as goal

abbrev pub invariant-loop-entry : goal.invariant-loop-entry
invariant-loop-entry l = l.text.items ++ flat_map line (drop l.entry-index l.records) ≡ l.fn.text.items ++ flat_map line l.records
