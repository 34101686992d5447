use Rattle.std.proofs.Common.{refl, sym, subst}
use Rattle.nc_scripts.specs.Drivers.{IsSeenAt}
use Rattle.nc_world.specs.Inside.{state_of}
use Rattle.nc_world.proofs.Fits.{seen_at}
use Rattle.nc_world.proofs.Kept.{may_carry}
use Rattle.nc_world.proofs.Outcomes.{issue_goes}
use Rattle.nc_world.proofs.Events.{carried, touch_logged}
use Rattle.nc_world.proofs.parts.Parts.issue_step.Goals as goal

pub issue_step-requires-clause-seen : goal.issue_step-requires-clause-seen
issue_step-requires-clause-seen c = subst (IsSeenAt c.next_action-next.result) (sym c.seen-saw.ensures) (seen_at c.args.self.now.machine.machine c.args.h c.next_action-next.result)

pub carry-requires-clause-may : goal.carry-requires-clause-may
carry-requires-clause-may c =
    may_carry c.args.self.now c.laws.ensures.may c.laws.ensures.machine c.requires.sound c.requires.hart refl
    (issue_goes (state_of c.args.self.now) c.args.h c.next_action-next.result c.next_action-next.ensures.next c.may_issue.ensures c.if-not-may_issue.false
    c.in_ok-reserve.ensures.machine c.in_ok-reserve.ensures.owners c.seen-saw.ensures c.step_touch-touch.ensures c.is_script-by_script.ensures)
    c.in_ok-moves.ensures.moves c.in_ok-reserve.ensures.owners c.in_ok-reserve.ensures.grants refl refl

pub returns : goal.returns
returns c =
    carried (issue_goes (state_of c.args.self.now) c.args.h c.next_action-next.result c.next_action-next.ensures.next c.may_issue.ensures c.if-not-may_issue.false
    c.in_ok-reserve.ensures.machine c.in_ok-reserve.ensures.owners c.seen-saw.ensures c.step_touch-touch.ensures c.is_script-by_script.ensures)
    c.in_ok-moves.ensures.moves c.number-n.ensures c.act.ensures.state c.in_ok-moves.ensures.driver c.in_ok-reserve.ensures.owners c.in_ok-reserve.ensures.grants refl c.touches_after-self.ensures
    (touch_logged _ _ _ c.in_ok-reserve.ensures.records c.push.ensures.records c.touch.ensures.records c.act.ensures.records) refl refl refl refl c.carry.ensures
