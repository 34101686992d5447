use Rattle.std.proofs.Common.{◌-◌, length}
use Rattle.nc_live.proofs.ends.make_up.Given as goal

abbrev pub decreases-making : goal.decreases-making
decreases-making g l = g.N.SceneName.scene.limit - length l.state
