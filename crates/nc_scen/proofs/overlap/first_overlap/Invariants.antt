use Rattle.std.proofs.Common.{◌≡◌, drop}
use Rattle.nc_scen.specs.Regions.{first_overlap}
use Rattle.nc_scen.proofs.overlap.first_overlap.Given as goal

abbrev pub invariant-loop-i : goal.invariant-loop-i
invariant-loop-i l = first_overlap l.i (drop l.i l.regions) ≡ first_overlap 0 l.regions
