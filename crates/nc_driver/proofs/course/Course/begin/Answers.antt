use Rattle.std.proofs.Common.{◌≡◌, IfOk, Ok, Err}
use Rattle.nc_rules.specs.Driver.{begun}
use Rattle.nc_moves.specs.MovesView.{moves_view}
use Rattle.nc_driver.specs.Kept.{state}
use Rattle.nc_driver.proofs.KeptLaws.{begins_by, started_by, as_started}
use Rattle.nc_driver.proofs.SoundLaws.{started_as, begun_named, kept_fit}
use Rattle.nc_driver.proofs.course.Course.begin.Goals as goal

pub begin-requires-clause-short : goal.begin-requires-clause-short
begin-requires-clause-short c = c.in-Some.ensures.short (kept_fit (state c.args.self.now) c.requires.ready.kept).safe

pub add-requires-clause-named : goal.add-requires-clause-named
add-requires-clause-named c =
    let d = state c.args.self.now in
    let begins = begins_by d _ c.args.book.now.owners c.args.pages.now c.in-Some.op.now _ _ c.deref.ensures.value c.in-Ok.is c.in_ok-new.ensures in
    begun_named d c.in-Some.op.now c.args.book.now.owners c.args.pages.now c.in-Ok.new.items c.requires.ready.kept c.in-Some.ensures.op c.requires.next c.requires.pages begins

pub add-requires-clause-sound : goal.add-requires-clause-sound
add-requires-clause-sound c = λ o e.
    let d = state c.args.self.now in
    let is = started_by d _ c.args.book.now.owners c.args.pages.now c.in-Some.op.now _ _ c.in-Some.ensures.op c.requires.start c.deref.ensures.value c.in-Ok.is c.in_ok-new.ensures in
    started_as d c.args.book.now.owners c.args.pages.now o c.in-Some.op.now (λ q. begun d q (Ok c.in-Ok.new.items)) c.requires.ready.kept c.requires.next c.requires.pages e c.in-Some.ensures.op is

pub give_up-requires-clause-sound : goal.give_up-requires-clause-sound
give_up-requires-clause-sound c = λ o e.
    let d = state c.args.self.now in
    let is = started_by d _ c.args.book.now.owners c.args.pages.now c.in-Some.op.now _ _ c.in-Some.ensures.op c.requires.start c.deref.ensures.value c.in-Err.is c.in_ok-new.ensures in
    started_as d c.args.book.now.owners c.args.pages.now o c.in-Some.op.now (λ q. begun d q (Err c.in-Err.refusal)) c.requires.ready.kept c.requires.next c.requires.pages e c.in-Some.ensures.op is

pub returns-in-Ok-clause-driver : goal.returns-in-Ok-clause-driver
returns-in-Ok-clause-driver c = λ o e.
    as_started (state c.args.self.now) _ c.args.book.now.owners c.args.pages.now c.in-Some.op.now _ _ (λ w. IfOk c.add.result (λ m. state c.add.new.self ≡ w.driver))
    c.in-Some.ensures.op c.requires.start c.deref.ensures.value c.in-Ok.is c.in_ok-new.ensures (c.add.ensures.driver c.in-Some.op.now c.in-Some.ensures.op)

pub returns-in-Ok-clause-moves : goal.returns-in-Ok-clause-moves
returns-in-Ok-clause-moves c = λ o e.
    as_started (state c.args.self.now) _ c.args.book.now.owners c.args.pages.now c.in-Some.op.now _ _ (λ w. IfOk c.add.result (λ m. moves_view m ≡ w.moves))
    c.in-Some.ensures.op c.requires.start c.deref.ensures.value c.in-Ok.is c.in_ok-new.ensures (c.add.ensures.moves c.in-Some.op.now c.in-Some.ensures.op)

pub returns-in-Err-clause-driver : goal.returns-in-Err-clause-driver
returns-in-Err-clause-driver c = λ o e.
    as_started (state c.args.self.now) _ c.args.book.now.owners c.args.pages.now c.in-Some.op.now _ _ (λ w. IfOk c.give_up.result (λ m. state c.give_up.new.self ≡ w.driver))
    c.in-Some.ensures.op c.requires.start c.deref.ensures.value c.in-Err.is c.in_ok-new.ensures (c.give_up.ensures.driver c.in-Some.op.now c.in-Some.ensures.op)

pub returns-in-Err-clause-moves : goal.returns-in-Err-clause-moves
returns-in-Err-clause-moves c = λ o e.
    as_started (state c.args.self.now) _ c.args.book.now.owners c.args.pages.now c.in-Some.op.now _ _ (λ w. IfOk c.give_up.result (λ m. moves_view m ≡ w.moves))
    c.in-Some.ensures.op c.requires.start c.deref.ensures.value c.in-Err.is c.in_ok-new.ensures (c.give_up.ensures.moves c.in-Some.op.now c.in-Some.ensures.op)
