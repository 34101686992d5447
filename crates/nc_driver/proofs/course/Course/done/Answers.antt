use Rattle.std.proofs.Common.{◌≡◌, ◌∙◌, sym, subst, IfOk}
use Rattle.nc_rules.specs.declared.steps.Phase.TheVariants.{Steps, Work}
use Rattle.nc_rules.specs.Driver.{Went}
use Rattle.nc_moves.specs.MovesView.{moves_view}
use Rattle.nc_driver.specs.Kept.{state, IsSound}
use Rattle.nc_driver.proofs.KeptLaws.{act_here, act_hand, not_searching, done_busy, done_made}
use Rattle.nc_driver.proofs.SoundLaws.{done_sound}
use Rattle.nc_driver.proofs.course.Course.done.Goals as goal

pub give_up-requires-clause-here : goal.give_up-requires-clause-here
give_up-requires-clause-here c = act_here (state c.args.self.now) c.requires.next

pub give_up-requires-clause-sound : goal.give_up-requires-clause-sound
give_up-requires-clause-sound c = λ o e.
    let d = state c.args.self.now in
    let is = done_busy d c.args.seen o c.in-Some.refusal e (sym c.busy.ensures ∙ c.in-Some.is) in
    subst (λ (w : Went). IsSound w) is (done_sound d c.args.seen c.requires.ready.kept c.requires.next c.requires.seen)

pub returns-in-Some-clause-driver : goal.returns-in-Some-clause-driver
returns-in-Some-clause-driver c =
    let d = state c.args.self.now in
    let hand = act_hand d c.requires.next in
    let is = done_busy d c.args.seen hand.0 c.in-Some.refusal hand.1 (sym c.busy.ensures ∙ c.in-Some.is) in
    subst (λ (w : Went). IfOk c.give_up.result (λ m. state c.give_up.new.self ≡ w.driver)) (sym is) (c.give_up.ensures.driver hand.0 hand.1)

pub returns-in-Some-clause-moves : goal.returns-in-Some-clause-moves
returns-in-Some-clause-moves c =
    let d = state c.args.self.now in
    let hand = act_hand d c.requires.next in
    let is = done_busy d c.args.seen hand.0 c.in-Some.refusal hand.1 (sym c.busy.ensures ∙ c.in-Some.is) in
    subst (λ (w : Went). IfOk c.give_up.result (λ m. moves_view m ≡ w.moves)) (sym is) (c.give_up.ensures.moves hand.0 hand.1)

pub step-requires-clause-sound : goal.step-requires-clause-sound
step-requires-clause-sound c = λ o e.
    let d = state c.args.self.now in
    let is = done_made d c.args.seen _ o (Steps c.in-Steps.n) e (sym c.busy.ensures ∙ c.in_default.is) c.in-Steps.is c.kept-saw.ensures in
    subst (λ (w : Went). IsSound w) is (done_sound d c.args.seen c.requires.ready.kept c.requires.next c.requires.seen)

pub work-requires-clause-here : goal.work-requires-clause-here
work-requires-clause-here c = act_here (state c.args.self.now) c.requires.next

pub work-requires-clause-sound : goal.work-requires-clause-sound
work-requires-clause-sound c = λ o e.
    let d = state c.args.self.now in
    let is = done_made d c.args.seen _ o Work e (sym c.busy.ensures ∙ c.in_default.is) c.in-Work.is c.kept-saw.ensures in
    subst (λ (w : Went). IsSound w) is (done_sound d c.args.seen c.requires.ready.kept c.requires.next c.requires.seen)

pub returns-in-Steps-clause-driver : goal.returns-in-Steps-clause-driver
returns-in-Steps-clause-driver c =
    let d = state c.args.self.now in
    let hand = act_hand d c.requires.next in
    let is = done_made d c.args.seen _ hand.0 (Steps c.in-Steps.n) hand.1 (sym c.busy.ensures ∙ c.in_default.is) c.in-Steps.is c.kept-saw.ensures in
    subst (λ (w : Went). IfOk c.step.result (λ m. state c.step.new.self ≡ w.driver)) (sym is) (c.step.ensures.driver hand.0 hand.1)

pub returns-in-Steps-clause-moves : goal.returns-in-Steps-clause-moves
returns-in-Steps-clause-moves c =
    let d = state c.args.self.now in
    let hand = act_hand d c.requires.next in
    let is = done_made d c.args.seen _ hand.0 (Steps c.in-Steps.n) hand.1 (sym c.busy.ensures ∙ c.in_default.is) c.in-Steps.is c.kept-saw.ensures in
    subst (λ (w : Went). IfOk c.step.result (λ m. moves_view m ≡ w.moves)) (sym is) (c.step.ensures.moves hand.0 hand.1)

pub returns-in-Search-clause-driver : goal.returns-in-Search-clause-driver
returns-in-Search-clause-driver c = absurd (not_searching (state c.args.self.now) c.in-Search.field-0 c.requires.next c.in-Search.is)

pub returns-in-Search-clause-moves : goal.returns-in-Search-clause-moves
returns-in-Search-clause-moves c = absurd (not_searching (state c.args.self.now) c.in-Search.field-0 c.requires.next c.in-Search.is)

pub returns-in-Work-clause-driver : goal.returns-in-Work-clause-driver
returns-in-Work-clause-driver c =
    let d = state c.args.self.now in
    let hand = act_hand d c.requires.next in
    let is = done_made d c.args.seen _ hand.0 Work hand.1 (sym c.busy.ensures ∙ c.in_default.is) c.in-Work.is c.kept-saw.ensures in
    subst (λ (w : Went). IfOk c.work.result (λ m. state c.work.new.self ≡ w.driver)) (sym is) (c.work.ensures.driver hand.0 hand.1)

pub returns-in-Work-clause-moves : goal.returns-in-Work-clause-moves
returns-in-Work-clause-moves c =
    let d = state c.args.self.now in
    let hand = act_hand d c.requires.next in
    let is = done_made d c.args.seen _ hand.0 Work hand.1 (sym c.busy.ensures ∙ c.in_default.is) c.in-Work.is c.kept-saw.ensures in
    subst (λ (w : Went). IfOk c.work.result (λ m. moves_view m ≡ w.moves)) (sym is) (c.work.ensures.moves hand.0 hand.1)
