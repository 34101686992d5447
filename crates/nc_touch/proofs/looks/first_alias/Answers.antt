use Rattle.std.proofs.Common.{◌+◌, sym, ◌∙◌, arith}
use Rattle.nc_model.proofs.Faults.{fault_found, fault_passed, fault_none}
use Rattle.nc_model.specs.Touches.{is_its_type}
use Rattle.nc_touch.proofs.looks.first_alias.Goals as goal

pub returns-then-not-is_its_type-clause-first : goal.returns-then-not-is_its_type-clause-first
returns-then-not-is_its_type-clause-first c =
    fault_found (is_its_type c.args.pool c.args.kind) c.args.span c.loop-x.x (c.args.span.at + c.args.span.len)
    c.loop-x.invariant (omega arith) (sym c.is_its_type.ensures ∙ c.if-not-is_its_type.true)

pub loop-x-preserved : goal.loop-x-preserved
loop-x-preserved c =
    fault_passed (is_its_type c.args.pool c.args.kind) c.args.span c.loop-x.x (c.args.span.at + c.args.span.len)
    c.loop-x.invariant (omega arith) (sym c.is_its_type.ensures ∙ c.if-not-is_its_type.false)

pub returns-clause-first : goal.returns-clause-first
returns-clause-first c =
    fault_none (is_its_type c.args.pool c.args.kind) c.args.span c.loop-x.x (c.args.span.at + c.args.span.len) c.loop-x.invariant (omega arith)
