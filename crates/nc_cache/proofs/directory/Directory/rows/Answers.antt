use Rattle.nc_cache.proofs.RowEdits.{is_directory}
use Rattle.nc_cache.proofs.directory.Directory.rows.Goals as goal

pub returns : goal.returns
returns c = rw (c.deref.ensures.value, ← c.self.view_is) (is_directory c.self.inside.rows.items c.self.inside.slab c.self.invariant)
