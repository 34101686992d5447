use Rattle.std.proofs.Common.{◌≡◌, ◌++◌, ◌+◌, ◌≤◌, length, drop}
use Rattle.nc_cache.specs.Bus.{drops}
use Rattle.nc_cache.proofs.bus.BusList.push_drops.Given as goal

abbrev pub invariant-loop-g : goal.invariant-loop-g
invariant-loop-g l = record {
  told : l.self ++ drops l.g l.block.0 (drop l.g l.by) ≡ l.initial.self ++ drops 0 l.block.0 l.by;
  room : length l.self ≤ length l.initial.self + l.g;
}
