use Rattle.std.proofs.Common.{◌≡◌, drop}
use Rattle.nc_rules.specs.World.{grants_ended}
use Rattle.nc_world.proofs.steps.end.Given as goal

abbrev pub invariant-loop-id : goal.invariant-loop-id
invariant-loop-id l = record {
  ended : grants_ended l.book.grants (drop l.id-index l.ended) ≡ grants_ended l.fn.book.grants l.ended;
  owners : l.book.owners ≡ l.fn.book.owners;
}
