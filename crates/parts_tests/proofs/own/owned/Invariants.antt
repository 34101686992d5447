use Rattle.std.proofs.Common.{◌≡◌, length}
use Rattle.parts_tests.proofs.own.owned.Given as goal

abbrev pub invariant-loop-at : goal.invariant-loop-at
invariant-loop-at l = length l.book.owners ≡ l.ram
