use Rattle.std.proofs.Common.{◌≡◌}
use Rattle.std.specs.Prelude.{map}
use Rattle.std.specs.List.{range_with_len}
use Rattle.nc_gen.specs.Generator.{hart}
use Rattle.nc_gen.proofs.generator.hart_list.Given as goal

abbrev pub invariant-loop-h : goal.invariant-loop-h
invariant-loop-h l = l.list.items ≡ map (hart l.harts) (range_with_len 0 l.h)
