use Rattle.std.proofs.Common.{arith}
use Rattle.nc_sg.proofs.ListLaws.{length-give_slot, all_given}
use Rattle.nc_sg.proofs.list.SgList.got.Goals as goal

pub invariant_of-self : goal.invariant_of-self
invariant_of-self c =
    rw c.give.ensures
    (omega (arith, length-give_slot c.args.slot c.self.inside.entries.items, c.self.invariant.0), all_given c.args.slot c.self.inside.entries.items c.requires.slot c.self.invariant.1)
