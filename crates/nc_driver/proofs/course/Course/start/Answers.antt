use Rattle.std.proofs.Common.{◌≡◌, ◌∙◌, refl, sym, ap, IfOk}
use Rattle.nc_rules.specs.Driver.{Went, give_up}
use Rattle.nc_moves.specs.MovesView.{moves_view}
use Rattle.nc_driver.specs.Kept.{state}
use Rattle.nc_driver.proofs.KeptLaws.{start_ends, started_due, as_due}
use Rattle.nc_driver.proofs.SoundLaws.{started_as}
use Rattle.nc_driver.proofs.course.Course.start.Goals as goal

pub returns-in_default-clause-driver : goal.returns-in_default-clause-driver
returns-in_default-clause-driver c = sym (ap (λ (w : Went). w.driver) (start_ends (state c.args.self.now) c.args.book.now.owners c.args.pages.now c.in_default.ensures.op))

pub returns-in_default-clause-moves : goal.returns-in_default-clause-moves
returns-in_default-clause-moves c = c.answer.ensures ∙ sym (ap (λ (w : Went). w.moves) (start_ends (state c.args.self.now) c.args.book.now.owners c.args.pages.now c.in_default.ensures.op))

pub returns-in-Ok-clause-driver : goal.returns-in-Ok-clause-driver
returns-in-Ok-clause-driver c =
    as_due (state c.args.self.now) c.args.book.now.owners c.args.pages.now c.in-Some.op.now _ _ (λ w. state c.args.self.now ≡ w.driver)
    c.requires.ready.kept c.in-Some.ensures.op c.requires.next c.requires.ready.due (sym c.has_start.ensures ∙ c.if-has_start.false) c.in-Ok.is refl

pub returns-in-Ok-clause-moves : goal.returns-in-Ok-clause-moves
returns-in-Ok-clause-moves c =
    as_due (state c.args.self.now) c.args.book.now.owners c.args.pages.now c.in-Some.op.now _ _ (λ w. moves_view c.answer-in-Ok.result ≡ w.moves)
    c.requires.ready.kept c.in-Some.ensures.op c.requires.next c.requires.ready.due (sym c.has_start.ensures ∙ c.if-has_start.false) c.in-Ok.is c.answer-in-Ok.ensures

pub give_up-requires-clause-sound : goal.give_up-requires-clause-sound
give_up-requires-clause-sound c = λ o e.
    let d = state c.args.self.now in
    let is =
    started_due d c.args.book.now.owners c.args.pages.now c.in-Some.op.now _ _ c.requires.ready.kept c.in-Some.ensures.op c.requires.next c.requires.ready.due (sym c.has_start.ensures ∙ c.if-has_start.false) c.in-Err.is in
    started_as d c.args.book.now.owners c.args.pages.now o c.in-Some.op.now (λ q. give_up d q c.in-Err.refusal) c.requires.ready.kept c.requires.next c.requires.pages e c.in-Some.ensures.op is

pub returns-in-Err-clause-driver : goal.returns-in-Err-clause-driver
returns-in-Err-clause-driver c =
    as_due (state c.args.self.now) c.args.book.now.owners c.args.pages.now c.in-Some.op.now _ _ (λ w. IfOk c.give_up.result (λ m. state c.give_up.new.self ≡ w.driver))
    c.requires.ready.kept c.in-Some.ensures.op c.requires.next c.requires.ready.due (sym c.has_start.ensures ∙ c.if-has_start.false) c.in-Err.is (c.give_up.ensures.driver c.in-Some.op.now c.in-Some.ensures.op)

pub returns-in-Err-clause-moves : goal.returns-in-Err-clause-moves
returns-in-Err-clause-moves c =
    as_due (state c.args.self.now) c.args.book.now.owners c.args.pages.now c.in-Some.op.now _ _ (λ w. IfOk c.give_up.result (λ m. moves_view m ≡ w.moves))
    c.requires.ready.kept c.in-Some.ensures.op c.requires.next c.requires.ready.due (sym c.has_start.ensures ∙ c.if-has_start.false) c.in-Err.is (c.give_up.ensures.moves c.in-Some.op.now c.in-Some.ensures.op)
