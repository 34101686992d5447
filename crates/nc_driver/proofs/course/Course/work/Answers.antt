use Rattle.std.proofs.Common.{◌∙◌, sym, ap, Option, List}
use Rattle.std.specs.Prelude.{drop}
use Rattle.nc_rules.specs.declared.answers.Answer.{Answer}
use Rattle.nc_rules.specs.declared.lots.Lot.{Lot}
use Rattle.nc_rules.specs.Turns.{turned, lots_after}
use Rattle.nc_rules.specs.Driver.{Went}
use Rattle.nc_scripts.proofs.LotLaws.{placed_stay}
use Rattle.nc_driver.specs.Kept.{state}
use Rattle.nc_driver.proofs.KeptLaws.{first_is, some_hand, work_done, work_there, work_went}
use Rattle.nc_driver.proofs.course.Course.work.Goals as goal

pub turned-requires-clause-few : goal.turned-requires-clause-few
turned-requires-clause-few c =
    let d = state c.args.self.now in
    let hand = some_hand d c.requires.here in
    work_there d hand.0 c.args.saw c.in-Some.step.now _ c.requires.some c.in-Some.ensures.lookup (c.last_answer-answer.ensures hand.0 hand.1) (c.requires.sound hand.0 hand.1)

pub drop_step-requires-clause-placed : goal.drop_step-requires-clause-placed
drop_step-requires-clause-placed c =
    let s = c.in-Some.step.now in
    let lots = c.args.self.now.lots.items in
    rw (c.turn-2.ensures, c.turn.ensures) (placed_stay s.last (lots_after s.first lots) (placed_stay s.first lots c.requires.placed))

pub returns-clause-driver : goal.returns-clause-driver
returns-clause-driver c = λ o e.
    let s = c.in-Some.step.now in
    c.drop_step.ensures.state
    ∙ work_went (state c.args.self.now) o c.args.saw s c.turn-2.new.lots.items c.requires.some c.in-Some.ensures.lookup (c.turn-2.ensures ∙ ap (λ (ls : List Lot). lots_after s.last ls) c.turn.ensures)

pub returns-clause-moves : goal.returns-clause-moves
returns-clause-moves c = λ o e.
    let d = state c.args.self.now in
    let s = c.in-Some.step.now in
    c.in_ok-moves.ensures
    ∙ ap (λ (a : Option Answer). turned d.fixed d.lots s.first s.last a) (c.last_answer-answer.ensures o e)
    ∙ sym (ap (λ (w : Went). w.moves) (work_done d o c.args.saw s (drop 1 d.rest) (first_is d.rest s c.requires.some c.in-Some.ensures.lookup)))
