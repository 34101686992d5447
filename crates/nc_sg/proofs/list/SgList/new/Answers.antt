use Rattle.std.proofs.Common.{arith}
use Rattle.std.proofs.lemmas.List.{length-map}
use Rattle.nc_sg.specs.Lists.{fresh}
use Rattle.nc_sg.proofs.ListLaws.{all_fresh}
use Rattle.nc_sg.proofs.list.SgList.new.Goals as goal

pub invariant_of-result : goal.invariant_of-result
invariant_of-result c =
    rw c.in_ok-entries.ensures
    (omega (arith, length-map c.args.spans.now (fresh c.args.dir c.args.block_size c.args.reach), c.requires.few), all_fresh c.args.dir c.args.block_size c.args.reach c.args.spans.now c.requires.ranges)
