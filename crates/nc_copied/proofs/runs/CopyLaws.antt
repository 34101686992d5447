-- The law of copies.
use Rattle.nc_flat.proofs.FlatLaws.{flat_always}
use Rattle.nc_copied.specs.Laws.{EachCopyIsDone}
use Rattle.nc_copied.proofs.runs.CopyRuns.{copied_of}

pub copied_always : EachCopyIsDone
copied_always = copied_of flat_always
