use Rattle.std.proofs.Common.{◌≡◌, ◌≤◌, ◌++◌, drop}
use Rattle.std.specs.String.{string_bytes}
use Rattle.std.specs.FinSet as set
use Rattle.nc_pieces.specs.Serving.{lines}
use Rattle.nc_pieces.proofs.serving.Serving.serve_all.Given as goal

abbrev pub invariant-loop-op : goal.invariant-loop-op
invariant-loop-op l = (string_bytes l.text ++ lines l.self (drop l.op-index l.ops) ≡ string_bytes l.fn.text ++ lines l.fn.self l.ops) × (set.len l.self.pool.used ≤ l.op-index)
