use Rattle.std.proofs.Common.{◌≡◌, ◌∙◌, sym, ap, subst, IfOk}
use Rattle.nc_rules.specs.Driver.{Went, told}
use Rattle.nc_moves.specs.MovesView.{moves_view}
use Rattle.nc_driver.specs.Kept.{state, IsSound}
use Rattle.nc_driver.proofs.KeptLaws.{told_ends, told_steps, told_work, told_got, told_missed}
use Rattle.nc_driver.proofs.SoundLaws.{told_sound, searching_at, given_named}
use Rattle.nc_driver.proofs.course.Course.told.Goals as goal

pub returns-in_default-clause-driver : goal.returns-in_default-clause-driver
returns-in_default-clause-driver c = sym (ap (λ (w : Went). w.driver) (told_ends (state c.args.self.now) c.args.got c.in_default.ensures.op))

pub returns-in_default-clause-moves : goal.returns-in_default-clause-moves
returns-in_default-clause-moves c = c.answer.ensures ∙ sym (ap (λ (w : Went). w.moves) (told_ends (state c.args.self.now) c.args.got c.in_default.ensures.op))

pub take_slot-requires-clause-named : goal.take_slot-requires-clause-named
take_slot-requires-clause-named c =
    let d = state c.args.self.now in
    given_named d c.in-Search.k c.requires.ready.kept (searching_at d c.in-Search.k c.requires.ready.kept c.in-Search.is).slot

pub take_slot-requires-clause-sound : goal.take_slot-requires-clause-sound
take_slot-requires-clause-sound c = λ o e.
    let d = state c.args.self.now in
    let is = ap (told d) c.if-got.true ∙ told_got d o c.in-Search.k e c.in-Search.is in
    subst (λ (w : Went). IsSound w) is (told_sound d c.args.got c.requires.ready.kept)

pub miss-requires-clause-sound : goal.miss-requires-clause-sound
miss-requires-clause-sound c = λ o e.
    let d = state c.args.self.now in
    let is = ap (told d) c.if-got.false ∙ told_missed d o c.in-Search-2.k e c.in-Search-2.is in
    subst (λ (w : Went). IsSound w) is (told_sound d c.args.got c.requires.ready.kept)

pub returns-in-Search-clause-driver : goal.returns-in-Search-clause-driver
returns-in-Search-clause-driver c =
    let d = state c.args.self.now in
    let o = c.in-Some._op.now in
    let e = c.in-Some.ensures.op in
    let is = ap (told d) c.if-got.true ∙ told_got d o c.in-Search.k e c.in-Search.is in
    subst (λ (w : Went). IfOk c.take_slot.result (λ m. state c.take_slot.new.self ≡ w.driver)) (sym is) (c.take_slot.ensures.driver o e)

pub returns-in-Search-clause-moves : goal.returns-in-Search-clause-moves
returns-in-Search-clause-moves c =
    let d = state c.args.self.now in
    let o = c.in-Some._op.now in
    let e = c.in-Some.ensures.op in
    let is = ap (told d) c.if-got.true ∙ told_got d o c.in-Search.k e c.in-Search.is in
    subst (λ (w : Went). IfOk c.take_slot.result (λ m. moves_view m ≡ w.moves)) (sym is) (c.take_slot.ensures.moves o e)

pub returns-in-Search-2-clause-driver : goal.returns-in-Search-2-clause-driver
returns-in-Search-2-clause-driver c =
    let d = state c.args.self.now in
    let o = c.in-Some._op.now in
    let e = c.in-Some.ensures.op in
    let is = ap (told d) c.if-got.false ∙ told_missed d o c.in-Search-2.k e c.in-Search-2.is in
    subst (λ (w : Went). IfOk c.miss.result (λ m. state c.miss.new.self ≡ w.driver)) (sym is) (c.miss.ensures.driver o e)

pub returns-in-Search-2-clause-moves : goal.returns-in-Search-2-clause-moves
returns-in-Search-2-clause-moves c =
    let d = state c.args.self.now in
    let o = c.in-Some._op.now in
    let e = c.in-Some.ensures.op in
    let is = ap (told d) c.if-got.false ∙ told_missed d o c.in-Search-2.k e c.in-Search-2.is in
    subst (λ (w : Went). IfOk c.miss.result (λ m. moves_view m ≡ w.moves)) (sym is) (c.miss.ensures.moves o e)

pub returns-in-Steps-clause-driver : goal.returns-in-Steps-clause-driver
returns-in-Steps-clause-driver c = sym (ap (λ (w : Went). w.driver) (told_steps (state c.args.self.now) c.args.got c.in-Steps.field-0 c.in-Steps.is))

pub returns-in-Steps-clause-moves : goal.returns-in-Steps-clause-moves
returns-in-Steps-clause-moves c = c.answer-in-Steps.ensures ∙ sym (ap (λ (w : Went). w.moves) (told_steps (state c.args.self.now) c.args.got c.in-Steps.field-0 c.in-Steps.is))

pub returns-in-Work-clause-driver : goal.returns-in-Work-clause-driver
returns-in-Work-clause-driver c = sym (ap (λ (w : Went). w.driver) (told_work (state c.args.self.now) c.args.got c.in-Work.is))

pub returns-in-Work-clause-moves : goal.returns-in-Work-clause-moves
returns-in-Work-clause-moves c = c.answer-in-Work.ensures ∙ sym (ap (λ (w : Went). w.moves) (told_work (state c.args.self.now) c.args.got c.in-Work.is))
