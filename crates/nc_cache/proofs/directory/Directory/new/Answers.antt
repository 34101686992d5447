use Rattle.nc_cache.proofs.RowMaps.{lines-empty}
use Rattle.nc_cache.proofs.directory.Directory.new.Goals as goal

pub returns : goal.returns
returns c = rw c.new.ensures.items (lines-empty c.new-2.result.cells)
