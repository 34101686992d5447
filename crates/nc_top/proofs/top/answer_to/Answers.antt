use Rattle.std.proofs.Common.{◌≡◌, ℕ, sym, subst}
use Rattle.nc_rules.specs.Schedule.{sched}
use Rattle.nc_counts.specs.Touches.{TellsTouches}
use Rattle.nc_sched.proofs.There.{schedule_is_there}
use Rattle.nc_top.proofs.top.answer_to.Goals as goal

pub returns-in-Ok-clause-flat : goal.returns-in-Ok-clause-flat
returns-in-Ok-clause-flat g c = λ answers runs.
    let sc = c.in-Ok.sc in
    let accepted = c.in-Ok.ensures.accepted in
    let there = schedule_is_there sc accepted in
    (sc, c.in-Ok.ensures.gives, (c.latest_law.ensures sc accepted (sched sc) there, c.kept_law.ensures sc accepted (sched sc) there, c.copied_law.ensures sc accepted (sched sc) there))

pub returns-in-Ok-clause-read : goal.returns-in-Ok-clause-read
returns-in-Ok-clause-read g c = λ answers.
    (λ runs. (c.in-Ok.sc, c.in-Ok.ensures.gives), λ p. c.answer_scenario.ensures.run answers)

pub returns-in-Ok-clause-touches : goal.returns-in-Ok-clause-touches
returns-in-Ok-clause-touches g c = λ answers runs.
    let sc = c.in-Ok.sc in
    (sc, c.in-Ok.ensures.gives, subst (λ (n : ℕ). TellsTouches n sc (sched sc)) (sym (c.answer_scenario.ensures.written answers).0) (c.status_law.ensures sc (sched sc)))
