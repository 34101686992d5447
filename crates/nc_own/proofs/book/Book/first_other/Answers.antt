use Rattle.std.proofs.Common.{ℕ, sym, ap, subst, ◌∙◌, arith}
use Rattle.nc_model.proofs.Faults.{fault_found, fault_none}
use Rattle.nc_model.specs.Rights.{is_thread}
use Rattle.nc_own.specs.Books.{owner_in, Reaches}
use Rattle.nc_own.proofs.Runs.{faults_skipped, reach_owned}
use Rattle.nc_own.proofs.book.Book.first_other.Goals as goal

pub returns-then-not-is_thread-clause-first : goal.returns-then-not-is_thread-clause-first
returns-then-not-is_thread-clause-first c =
    fault_found (λ (x : ℕ). is_thread c.args.me (owner_in c.args.self.now.owners x)) c.args.span c.loop-at.at c.end_of-end.result
    c.loop-at.invariant (omega arith)
    (ap (is_thread c.args.me) (c.interval-interval.ensures.around.owner c.loop-at.at c.interval-interval.ensures.around.here) ∙ sym c.is_thread.ensures ∙ c.if-not-is_thread.true)

pub returns-then-not-is_thread-clause-owner : goal.returns-then-not-is_thread-clause-owner
returns-then-not-is_thread-clause-owner c = sym (c.interval-interval.ensures.around.owner c.loop-at.at c.interval-interval.ensures.around.here)

pub loop-at-preserved : goal.loop-at-preserved
loop-at-preserved c =
    let may = λ (x : ℕ). is_thread c.args.me (owner_in c.args.self.now.owners x) in
    faults_skipped may c.args.span c.loop-at.at c.end_of-at.result c.end_of-end.result c.loop-at.invariant
    (subst (λ (n : ℕ). Reaches may c.loop-at.at n) (sym c.end_of-at.ensures)
    (reach_owned (is_thread c.args.me) c.args.self.now.owners c.loop-at.at c.interval-interval.result c.interval-interval.ensures.around (sym c.is_thread.ensures ∙ c.if-not-is_thread.false)))

pub returns-clause-first : goal.returns-clause-first
returns-clause-first c =
    fault_none (λ (x : ℕ). is_thread c.args.me (owner_in c.args.self.now.owners x)) c.args.span c.loop-at.at c.end_of-end.result c.loop-at.invariant (omega arith)
