use Rattle.std.proofs.Common.{◌≡◌, ◌≤◌, ◌+◌, drop, length}
use Rattle.nc_rules.specs.World.{owners_moved}
use Rattle.nc_world.proofs.steps.turn.Given as goal

abbrev pub invariant-loop-span : goal.invariant-loop-span
invariant-loop-span l = record {
  moved : owners_moved l.book.owners (drop l.span-index l.transfers) ≡ owners_moved l.fn.book.owners l.transfers;
  size : length l.book.owners ≡ length l.fn.book.owners;
  grants : l.book.grants ≡ l.fn.book.grants;
  room : l.fn.book.spare ≤ l.book.spare + l.span-index;
}
