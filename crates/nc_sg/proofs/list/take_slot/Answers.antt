use Rattle.nc_sg.proofs.ListLaws.{taken_at}
use Rattle.nc_sg.proofs.list.take_slot.Goals as goal

pub returns : goal.returns
returns c = taken_at c.args.entries.now.items c.args.i c.index_mut.result.now c.requires c.index_mut.ensures.value
