use Rattle.nc_copied.proofs.runs.CopyLaws as laws
use Rattle.nc_copied.proofs.laws.copied_law.Goals as goal

pub returns : goal.returns
returns c = laws.copied_always
