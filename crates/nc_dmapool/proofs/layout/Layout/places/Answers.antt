use Rattle.nc_dmapool.proofs.Offsets.{raw_some}
use Rattle.nc_dmapool.proofs.layout.Layout.places.Goals as goal

pub returns-clause-some : goal.returns-clause-some
returns-clause-some c = raw_some _ c.self.inside.step c.self.inside.count c.self.invariant
