use Rattle.std.proofs.Common.{◌+◌, ◌∙◌, sym, ap, List}
use Rattle.nc_rules.specs.declared.lots.Lot.{Lot}
use Rattle.nc_checks.specs.Due.{step_due}
use Rattle.nc_rules.specs.Driver.{Went}
use Rattle.nc_driver.specs.Kept.{state}
use Rattle.nc_driver.proofs.KeptLaws.{act_here, act_hand, made_at, due_at, step_done, step_there}
use Rattle.nc_driver.proofs.course.Course.step.Goals as goal

pub turned-requires-clause-few : goal.turned-requires-clause-few
turned-requires-clause-few c =
    let d = state c.args.self.now in
    let n = c.args.n in
    let hand = act_hand d c.requires.next in
    let made = made_at d hand.0 n c.requires.ready.kept c.requires.phase hand.1 c.requires.next in
    let here = due_at d n c.args.self.now.due c.requires.phase c.requires.ready.due in
    let after = c.step_due-after.ensures ∙ ap (λ (ls : List Lot). step_due d.fixed ls d.op (n + 1)) c.deref.ensures.value in
    step_there d hand.0 n c.args.saw c.args.self.now.due c.step_due-after.result _ _ _ made hand.1 here after c.first_turn-first.ensures c.last_turn-last.ensures (c.step_answer-answer.ensures hand.0 hand.1) (c.requires.sound hand.0 hand.1)

pub advance-requires-clause-here : goal.advance-requires-clause-here
advance-requires-clause-here c = act_here (state c.args.self.now) c.requires.next

pub advance-requires-clause-few : goal.advance-requires-clause-few
advance-requires-clause-few c =
    let d = state c.args.self.now in
    let hand = act_hand d c.requires.next in
    (made_at d hand.0 c.args.n c.requires.ready.kept c.requires.phase hand.1 c.requires.next).few

pub returns-clause-driver : goal.returns-clause-driver
returns-clause-driver c = λ o e.
    let d = state c.args.self.now in
    let n = c.args.n in
    let made = made_at d o n c.requires.ready.kept c.requires.phase e c.requires.next in
    let here = due_at d n c.args.self.now.due c.requires.phase c.requires.ready.due in
    let after = c.step_due-after.ensures ∙ ap (λ (ls : List Lot). step_due d.fixed ls d.op (n + 1)) c.deref.ensures.value in
    c.advance.ensures.state ∙ sym (ap (λ (w : Went). w.driver) (step_done d o n c.args.saw c.args.self.now.due c.step_due-after.result made e here after))

pub returns-clause-moves : goal.returns-clause-moves
returns-clause-moves c = λ o e.
    let d = state c.args.self.now in
    let n = c.args.n in
    let made = made_at d o n c.requires.ready.kept c.requires.phase e c.requires.next in
    let here = due_at d n c.args.self.now.due c.requires.phase c.requires.ready.due in
    let after = c.step_due-after.ensures ∙ ap (λ (ls : List Lot). step_due d.fixed ls d.op (n + 1)) c.deref.ensures.value in
    c.in_ok-moves.ensures
    ∙ rw (c.first_turn-first.ensures, c.last_turn-last.ensures, c.step_answer-answer.ensures o e) (sym (ap (λ (w : Went). w.moves) (step_done d o n c.args.saw c.args.self.now.due c.step_due-after.result made e here after)))
