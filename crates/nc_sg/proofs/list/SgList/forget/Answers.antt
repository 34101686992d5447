use Rattle.nc_sg.proofs.ListLaws.{kept_forgotten}
use Rattle.nc_sg.proofs.list.SgList.forget.Goals as goal

pub invariant_of-self : goal.invariant_of-self
invariant_of-self c = rw c.forget.ensures (kept_forgotten c.self.inside.entries.items c.self.invariant)
