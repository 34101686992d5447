use Rattle.std.proofs.Common.{sym, subst}
use Rattle.nc_top.specs.Due.{due_for_migrate}
use Rattle.nc_top.specs.Inputs.{KeepsScenario}
use Rattle.nc_top.proofs.Moved.{keeps_scenario}
use Rattle.nc_top.proofs.top.answer_migrate.Goals as goal

pub returns-in-Ok-clause-law : goal.returns-in-Ok-clause-law
returns-in-Ok-clause-law g c = λ zero.
    subst (λ r. KeepsScenario c.args.bytes.now (due_for_migrate r).text) (sym c.in-Ok.ensures.gives)
    (keeps_scenario c.args.bytes.now c.in-Ok.text.items c.in-Ok.ensures.gives c.in-Ok.ensures.law)
