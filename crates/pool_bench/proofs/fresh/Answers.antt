use Rattle.std.proofs.Common.{sym}
use Rattle.nc_dmapool.specs.Layouts.{layout_of}
use Rattle.pool_bench.proofs.Start.{can_start}
use Rattle.pool_bench.proofs.fresh.Goals as goal

pub returns : goal.returns
returns c = can_start (layout_of 4 4 0) c.in-Ok-new.pool c.in-Ok.pages (sym c.in-Ok-new.ensures)
