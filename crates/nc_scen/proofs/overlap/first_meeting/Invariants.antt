use Rattle.std.proofs.Common.{◌≡◌, ◌+◌, drop}
use Rattle.nc_scen.specs.Regions.{first_meeting}
use Rattle.nc_scen.proofs.overlap.first_meeting.Given as goal

abbrev pub invariant-loop-k : goal.invariant-loop-k
invariant-loop-k l = first_meeting l.r (l.j + l.k) (drop l.k l.others) ≡ first_meeting l.r l.j l.others
