use Rattle.std.proofs.Common.{◌≡◌}
use Rattle.std.specs.Prelude.{replicate}
use Rattle.nc_rules.specs.Machine.{fresh_hart}
use Rattle.nc_machine.proofs.start.fresh_harts.Given as goal

abbrev pub invariant-harts : goal.invariant-harts
invariant-harts l = l.harts.items ≡ replicate l.counter (fresh_hart l.block_size)
