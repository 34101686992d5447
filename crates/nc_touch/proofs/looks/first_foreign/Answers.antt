use Rattle.std.proofs.Common.{ℕ, ◌+◌, sym, ap, ◌∙◌, arith}
use Rattle.nc_model.proofs.Faults.{fault_found, fault_passed, fault_none}
use Rattle.nc_model.specs.Rights.{is_thread}
use Rattle.nc_own.specs.Books.{owner_in}
use Rattle.nc_touch.proofs.looks.first_foreign.Goals as goal

pub returns-then-not-is_own-clause-first : goal.returns-then-not-is_own-clause-first
returns-then-not-is_own-clause-first c =
    fault_found (λ (x : ℕ). is_thread c.args.h (owner_in c.args.book.now.owners x)) c.args.block c.loop-x.x (c.args.block.at + c.args.block.len)
    c.loop-x.invariant (omega arith) (ap (is_thread c.args.h) (sym c.owner.ensures) ∙ sym c.is_own.ensures ∙ c.if-not-is_own.true)

pub loop-x-preserved : goal.loop-x-preserved
loop-x-preserved c =
    fault_passed (λ (x : ℕ). is_thread c.args.h (owner_in c.args.book.now.owners x)) c.args.block c.loop-x.x (c.args.block.at + c.args.block.len)
    c.loop-x.invariant (omega arith) (ap (is_thread c.args.h) (sym c.owner.ensures) ∙ sym c.is_own.ensures ∙ c.if-not-is_own.false)

pub returns-clause-first : goal.returns-clause-first
returns-clause-first c =
    fault_none (λ (x : ℕ). is_thread c.args.h (owner_in c.args.book.now.owners x)) c.args.block c.loop-x.x (c.args.block.at + c.args.block.len) c.loop-x.invariant (omega arith)
