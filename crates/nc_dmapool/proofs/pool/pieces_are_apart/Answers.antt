use Rattle.nc_dmapool.proofs.ApartLaws.{apart_after}
use Rattle.nc_dmapool.proofs.pool.pieces_are_apart.Goals as goal

pub returns : goal.returns
returns c = apart_after
