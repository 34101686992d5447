use Rattle.nc_sched.proofs.Again.{each_replays}
use Rattle.nc_sched.proofs.laws.replay_law.Goals as goal

pub returns : goal.returns
returns c = each_replays
