use Rattle.nc_model.proofs.GrantLaws.{one_grant}
use Rattle.nc_model.proofs.laws.one_grant_serves.Goals as goal

pub returns : goal.returns
returns c = one_grant
