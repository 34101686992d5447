use Rattle.std.proofs.Common.{◌≡◌, ◌+◌, slice_get}
use Rattle.nc_num.specs.Places.{pieces}
use Rattle.nc_steps.proofs.pieces.nth_piece.Given as goal

abbrev pub invariant-loop-left : goal.invariant-loop-left
invariant-loop-left l = record {
  ends : l.left.at + l.left.len ≡ l.fn.range.at + l.fn.range.len;
  same : slice_get (pieces l.left) l.before ≡ slice_get (pieces l.fn.range) l.n;
}

abbrev pub decreases-loop-left : goal.decreases-loop-left
decreases-loop-left l = l.left.len
