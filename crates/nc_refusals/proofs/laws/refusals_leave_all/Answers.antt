use Rattle.nc_refusals.proofs.RefusalLaws.{refusals_leave_all}
use Rattle.nc_refusals.proofs.laws.refusals_leave_all.Goals as goal

pub returns : goal.returns
returns c = refusals_leave_all
