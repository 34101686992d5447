use Rattle.std.proofs.Common.{◌≡◌, ◌+◌, drop}
use Rattle.nc_ops.specs.Texts.{point_at}
use Rattle.nc_ops.proofs.texts.point_at.Given as goal

abbrev pub invariant-loop-i : goal.invariant-loop-i
invariant-loop-i l = l.i + point_at (drop l.i l.text) ≡ point_at l.text
