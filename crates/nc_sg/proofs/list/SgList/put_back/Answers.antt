use Rattle.nc_sg.proofs.ListLaws.{kept_without}
use Rattle.nc_sg.proofs.list.SgList.put_back.Goals as goal

pub invariant_of-self : goal.invariant_of-self
invariant_of-self c = rw c.take_slot.ensures (kept_without c.self.inside.entries.items c.args.i c.self.invariant)
