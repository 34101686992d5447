use Rattle.std.proofs.Common.{◌∙◌, ap, set, arith}
use Rattle.nc_rules.specs.declared.steps.Step.{Step}
use Rattle.nc_planned.proofs.StepLaws.{begun_at}
use Rattle.nc_planned.proofs.steps.begin_at.Goals as goal

pub returns-then-from-len : goal.returns-then-from-len
returns-then-from-len c =
    let steps = c.args.steps.now.items in
    let there = c.index_mut.result.now in
    ap (λ (s : Step). set steps c.args.from (record s { first = c.args.turn })) c.index_mut.ensures.value
    ∙ begun_at c.args.turn steps c.args.from there (omega arith)
