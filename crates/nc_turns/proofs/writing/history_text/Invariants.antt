use Rattle.std.proofs.Common.{◌≡◌, ◌++◌, drop}
use Rattle.std.specs.List.{flat_map}
use Rattle.nc_turns.specs.Played.{history_lines, token_line}
use Rattle.nc_turns.proofs.writing.history_text.Given as goal

abbrev pub invariant-loop-e : goal.invariant-loop-e
invariant-loop-e l = l.text.items ++ flat_map token_line (drop l.e-index l.history) ≡ history_lines l.history
