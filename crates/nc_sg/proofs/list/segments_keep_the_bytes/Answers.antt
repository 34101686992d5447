use Rattle.nc_sg.proofs.ListLaws.{keep_the_bytes}
use Rattle.nc_sg.proofs.list.segments_keep_the_bytes.Goals as goal

pub returns : goal.returns
returns c = keep_the_bytes
