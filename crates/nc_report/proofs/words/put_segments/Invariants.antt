use Rattle.std.proofs.Common.{◌≡◌, ◌++◌, drop}
use Rattle.std.specs.List.{flat_map}
use Rattle.nc_rules.specs.Lines.{segment}
use Rattle.nc_report.proofs.words.put_segments.Given as goal

abbrev pub invariant-loop-s : goal.invariant-loop-s
invariant-loop-s l = l.text.items ++ flat_map segment (drop l.s-index l.segments) ≡ l.fn.text.items ++ flat_map segment l.segments
