use Rattle.std.proofs.Common.{◌≡◌, ◌≤◌, ◌+◌, drop, length}
use Rattle.nc_rules.specs.World.{owned_by_harts}
use Rattle.nc_world.proofs.setup.own_buffers.Given as goal

abbrev pub invariant-loop-b : goal.invariant-loop-b
invariant-loop-b l = record {
  owned : owned_by_harts l.book.owners (drop l.b-index l.buffers) ≡ owned_by_harts l.fn.book.owners l.buffers;
  size : length l.book.owners ≡ length l.fn.book.owners;
  grants : l.book.grants ≡ l.fn.book.grants;
  room : l.fn.book.spare ≤ l.book.spare + l.b-index;
}
