use Rattle.std.proofs.Common.{◌≡◌, ◌∙◌, [], ◌∷◌, ◌++◌, ap, subst, List}
use Rattle.std.specs.Prelude.{OnOk}
use Rattle.nc_plan.specs.declared.ops.HartOp.{HartOp}
use Rattle.nc_rules.specs.declared.steps.Step.{Step}
use Rattle.nc_rules.specs.Plans.{hart_step, turning, op_steps}
use Rattle.nc_planned.proofs.StepLaws.{ended}
use Rattle.nc_planned.proofs.steps.push_ending.Goals as goal

pub returns-in-Some : goal.returns-in-Some
returns-in-Some c =
    let old = c.args.steps.now.items in
    let front = c.pop-last.new.self.items in
    let op = c.in-Some.op in
    let whole : c.args.ops.items ≡ front ++ op ∷ [] = c.in-Some.ensures.items in
    let pushed : c.push_ops.new.steps.items ≡ old ++ op_steps front = c.in_ok-push_ops.ensures ∙ ap (λ (os : List HartOp). old ++ op_steps os) c.deref.ensures.value in
    let step : c.turning.result ≡ turning c.args.turn (hart_step op) = c.turning.ensures ∙ ap (turning c.args.turn) c.hart_step.ensures in
    let same = ended c.args.turn old c.push_ops.new.steps.items c.args.ops.items front op c.turning.result whole pushed step in
    subst (λ (s : List Step). OnOk c.push.result (c.push.new.steps.items ≡ s)) same c.push.ensures
