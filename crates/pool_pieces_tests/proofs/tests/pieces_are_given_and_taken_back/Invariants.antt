use Rattle.nc_dmapool.specs.Pieces.{HasTaken}
use Rattle.pool_pieces_tests.proofs.tests.pieces_are_given_and_taken_back.Given as goal

abbrev pub invariant-loop-at : goal.invariant-loop-at
invariant-loop-at g l = HasTaken l.both.pages l.both.pool

abbrev pub invariant-loop-at-2 : goal.invariant-loop-at-2
invariant-loop-at-2 g l = HasTaken l.both.pages l.both.pool
