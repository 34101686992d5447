use Rattle.std.proofs.Common.{◌∙◌, sym, arith}
use Rattle.nc_coherent.specs.Pages.{is_run, lowest_run}
use Rattle.nc_coherent.proofs.Runs.{find_first, find_none}
use Rattle.nc_coherent.proofs.pages.first_run.Goals as goal

pub returns-then-starts_run-clause-first : goal.returns-then-starts_run-clause-first
unfolding lowest_run
returns-then-starts_run-clause-first c = sym (find_first (is_run c.args.free.now c.args.n) 0 _ c.loop-first.first (omega arith) (omega (arith, c.loop-first-test.true)) (λ k le lt. c.loop-first.invariant k lt) (sym c.starts_run.ensures ∙ c.if-starts_run.true))

pub returns-clause-first : goal.returns-clause-first
unfolding lowest_run
returns-clause-first c = sym (find_none (is_run c.args.free.now c.args.n) 0 _ (λ k le lt. c.loop-first.invariant k (omega (arith, c.loop-first-test.false))))
