use Rattle.std.proofs.Common.{◌≡◌, true, take, length}
use Rattle.std.specs.Prelude.{◌==◌}
use Rattle.std.specs.List.{list_all}
use Rattle.nc_world.proofs.acts.are_empty.Given as goal

abbrev pub invariant-loop-h : goal.invariant-loop-h
invariant-loop-h l = list_all (λ s. length s.queue.entries == 0) (take l.h l.machine.machine.harts) ≡ true
