use Rattle.std.proofs.Common.{◌≡◌, take}
use Rattle.std.specs.Prelude.{map}
use Rattle.nc_scen.specs.declared.scenario.BufferSpec.{BufferSpec}
use Rattle.nc_scen.proofs.overlap.regions.Given as goal

abbrev pub invariant-loop-b : goal.invariant-loop-b
invariant-loop-b l = l.all.items ≡ map (λ (b : BufferSpec). b.span) (take l.b-index l.buffers)
