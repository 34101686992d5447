use Rattle.std.proofs.Common.{◌≡◌, ◌<◌}
use Rattle.nc_num.specs.declared.names.HartNo.{HartNo}
use Rattle.nc_turns.specs.declared.threads.Turner.TheVariants.{Driver}
use Rattle.nc_turns.specs.Threads.{made_by, most}
use Rattle.nc_turns.proofs.live.LiveState.behind.Given as goal

-- the drivers so far made their most
abbrev pub invariant-loop-h : goal.invariant-loop-h
invariant-loop-h g l = (k : HartNo) → k.0 < l.h → made_by (Driver k) l.self ≡ most g.N.SceneName.scene
