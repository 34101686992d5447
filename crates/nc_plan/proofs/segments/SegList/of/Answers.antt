use Rattle.nc_plan.specs.SegmentsBack.{IsPadded-padded}
use Rattle.nc_plan.proofs.segments.SegList.of.Goals as goal

pub invariant_of-result : goal.invariant_of-result
invariant_of-result c = rw c.cells_of-cells.ensures (IsPadded-padded _ c.requires)
