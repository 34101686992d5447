use Rattle.nc_refusals.proofs.EndLaws.{answers_leave_no_ends}
use Rattle.nc_refusals.proofs.laws.answers_leave_no_ends.Goals as goal

pub returns : goal.returns
returns c = answers_leave_no_ends
