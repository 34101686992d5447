use Rattle.nc_refusals.proofs.EarlierLaws.{earlier_events_leave_all}
use Rattle.nc_refusals.proofs.laws.earlier_events_leave_all.Goals as goal

pub returns : goal.returns
returns c = earlier_events_leave_all
