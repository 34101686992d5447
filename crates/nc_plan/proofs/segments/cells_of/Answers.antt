use Rattle.std.proofs.Common.{rules}
use Rattle.std.proofs.lemmas.List.{drop-replicate}
use Rattle.nc_plan.proofs.segments.cells_of.Goals as goal

pub returns : goal.returns
returns c = rw c.copy_from_slice.ensures.after (search (rules, drop-replicate))
