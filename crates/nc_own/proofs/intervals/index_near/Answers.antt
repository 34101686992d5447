use Rattle.std.proofs.Common.{sym, ◌∙◌}
use Rattle.nc_own.proofs.Tilings.{has_at}
use Rattle.nc_own.proofs.intervals.index_near.Goals as goal

pub returns-then-has-clause-has : goal.returns-then-has-clause-has
returns-then-has-clause-has c = has_at _ _ _ _ c.if-guess-intervals.true (sym c.has.ensures ∙ c.if-has.true)
