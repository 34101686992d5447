use Rattle.nc_flat_claims.proofs.ClaimEvents.{claims_go}
use Rattle.nc_flat_claims.proofs.laws.claims_go.Goals as goal

pub returns : goal.returns
returns c = claims_go
