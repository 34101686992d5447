use Rattle.std.proofs.Common.{◌≡◌, ◌≤◌, ◌+◌, drop, length}
use Rattle.nc_rules.specs.World.{grants_added}
use Rattle.nc_holds.specs.Holds.{CanAddAll}
use Rattle.nc_world.proofs.steps.grant.Given as goal

abbrev pub invariant-loop-g : goal.invariant-loop-g
invariant-loop-g l = record {
  added : grants_added l.book.grants (drop l.g-index l.grants) ≡ grants_added l.fn.book.grants l.grants;
  can : CanAddAll (length l.book.owners) l.book.grants (drop l.g-index l.grants);
  owners : l.book.owners ≡ l.fn.book.owners;
  room : l.fn.book.spare ≤ l.book.spare + l.g-index;
}
