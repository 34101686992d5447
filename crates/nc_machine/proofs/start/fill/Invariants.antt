use Rattle.std.proofs.Common.{◌≡◌, drop, length}
use Rattle.nc_rules.specs.Start.{filled}
use Rattle.nc_machine.proofs.start.fill.Given as goal

abbrev pub invariant-loop-b : goal.invariant-loop-b
invariant-loop-b l = (filled l.ram (drop l.b-index l.buffers) ≡ filled l.fn.ram l.buffers) × (length l.ram ≡ length l.fn.ram)
