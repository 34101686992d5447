use Rattle.std.proofs.Common.{◌≡◌, ◌≤◌, arith}
use Rattle.nc_num.specs.Places.{piece, piece_len}
use Rattle.nc_plan.specs.Plans.{copy_piece}
use Rattle.nc_plan.proofs.PieceLaws.{pushed, pushed_all, piece_len-fits}
use Rattle.nc_plan.proofs.plans.push_copies.Goals as goal

pub loop-left-preserved : goal.loop-left-preserved
loop-left-preserved c =
    let e : c.first_piece-piece.result ≡ piece c.loop-left.left = c.first_piece-piece.ensures in
    let fits : piece_len c.loop-left.left ≤ c.loop-left.left.len = piece_len-fits c.loop-left.left c.loop-left-test.true in
    rw e (record {
      starts = omega arith;
      ends = omega arith;
      left = pushed c.loop-left.ops.items c.push_copy.new.ops.items _ (copy_piece c.args.from.at c.args.to.at) c.loop-left.left c.loop-left-test.true (rw e at c.in_ok-push_copy.ensures) c.loop-left.invariant.left;
    })

pub returns : goal.returns
returns c = pushed_all c.loop-left.ops.items _ (copy_piece c.args.from.at c.args.to.at) c.loop-left.left (omega arith) c.loop-left.invariant.left
