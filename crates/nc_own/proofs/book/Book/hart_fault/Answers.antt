use Rattle.std.proofs.Common.{ℕ, sym, ap, subst, ◌∙◌, arith}
use Rattle.nc_model.proofs.Faults.{fault_found, fault_none}
use Rattle.nc_model.specs.Rights.{hart_may}
use Rattle.nc_own.specs.Books.{owner_in, Reaches}
use Rattle.nc_own.proofs.Runs.{faults_skipped, reach_owned}
use Rattle.nc_own.proofs.book.Book.hart_fault.Goals as goal

pub returns-then-not-hart_may-clause-first : goal.returns-then-not-hart_may-clause-first
returns-then-not-hart_may-clause-first c =
    fault_found (λ (x : ℕ). hart_may c.args.self.now.grants c.args.h c.args.access (owner_in c.args.self.now.owners x)) c.args.span c.loop-at.at c.end_of-end.result
    c.loop-at.invariant (omega arith)
    (ap (hart_may c.args.self.now.grants c.args.h c.args.access) (c.interval-interval.ensures.around.owner c.loop-at.at c.interval-interval.ensures.around.here) ∙ sym c.hart_may.ensures ∙ c.if-not-hart_may.true)

pub loop-at-preserved : goal.loop-at-preserved
loop-at-preserved c =
    let may = λ (x : ℕ). hart_may c.args.self.now.grants c.args.h c.args.access (owner_in c.args.self.now.owners x) in
    faults_skipped may c.args.span c.loop-at.at c.end_of-at.result c.end_of-end.result c.loop-at.invariant
    (subst (λ (n : ℕ). Reaches may c.loop-at.at n) (sym c.end_of-at.ensures)
    (reach_owned (hart_may c.args.self.now.grants c.args.h c.args.access) c.args.self.now.owners c.loop-at.at c.interval-interval.result c.interval-interval.ensures.around (sym c.hart_may.ensures ∙ c.if-not-hart_may.false)))

pub returns-clause-first : goal.returns-clause-first
returns-clause-first c =
    fault_none (λ (x : ℕ). hart_may c.args.self.now.grants c.args.h c.args.access (owner_in c.args.self.now.owners x)) c.args.span c.loop-at.at c.end_of-end.result c.loop-at.invariant (omega arith)
