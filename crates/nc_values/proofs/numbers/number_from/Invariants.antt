use Rattle.std.proofs.Common.{◌≡◌, drop}
use Rattle.nc_values.specs.Numbers.{number_from}
use Rattle.nc_values.proofs.numbers.number_from.Given as goal

abbrev pub invariant-loop-b : goal.invariant-loop-b
invariant-loop-b l = number_from l.n (drop l.b-index l.text) ≡ number_from 0 l.text
