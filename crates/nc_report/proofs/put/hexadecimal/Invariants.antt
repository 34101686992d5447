use Rattle.std.proofs.Common.{◌≡◌, ◌≤◌, [], drop, length}
use Rattle.nc_report.proofs.HexDigits.{exactly}
use Rattle.nc_report.proofs.put.hexadecimal.Given as goal

abbrev pub invariant-loop-at : goal.invariant-loop-at
invariant-loop-at g l = (exactly l.at l.rest (drop l.at l.cells) ≡ exactly g.row.N l.fn.n []) × (length l.cells ≡ g.row.N) × (l.at ≤ g.row.N)

abbrev pub decreases-loop-at : goal.decreases-loop-at
decreases-loop-at g l = l.at
