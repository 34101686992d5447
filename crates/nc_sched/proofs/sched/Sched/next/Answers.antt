use Rattle.std.proofs.Common.{◌≡◌, ◌-◌, ◌∷◌, suc, ap, sym, ◌∙◌, arith, Some}
use Rattle.nc_rules.specs.Events.{enabled}
use Rattle.nc_rules.specs.Next.{next}
use Rattle.nc_sched.specs.declared.sched.Phase.{Phase}
use Rattle.nc_sched.specs.Stands.{Stand, to_come, after_answer, is_done, enter_round, given, next_phase, next_generator}
use Rattle.nc_sched.proofs.Coming.{to_come-none, to_come-end, to_come-step}
use Rattle.nc_sched.proofs.There.{there}
use Rattle.nc_sched.proofs.sched.Sched.next.Goals as goal

pub returns-then-self-eq0-clause-event : goal.returns-then-self-eq0-clause-event
returns-then-self-eq0-clause-event c =
    to_come-none c.args.sc.now c.args.self.now c.args.w.now.state (is_done c.args.last) (sym (ap (λ (s : Stand). s.left) c.self.view_is) ∙ c.if-self-eq0.true)

pub returns-in_default-clause-event : goal.returns-in_default-clause-event
returns-in_default-clause-event c =
    let sc = c.args.sc.now in
    let w = c.args.w.now.state in
    let s = c.args.self.now in
    let at : c.enter_round-phase.result ≡ enter_round sc (after_answer s.phase (is_done c.args.last)) = c.enter_round-phase.ensures ∙ ap (enter_round sc) (c.after_answer.ensures ∙ ap (λ (v : Stand). after_answer v.phase (is_done c.args.last)) c.self.view_is) in
    to_come-end sc s w (is_done c.args.last) (ap (λ p. given sc p s.generator w) (sym at) ∙ sym c.take_event.ensures.event ∙ c.in_default.is)

pub returns-clause-event : goal.returns-clause-event
returns-clause-event c =
    let sc = c.args.sc.now in
    let w = c.args.w.now.state in
    let s = c.args.self.now in
    let e = c.in-Some.e in
    let was_done = is_done c.args.last in
    let at : c.enter_round-phase.result ≡ enter_round sc (after_answer s.phase was_done) = c.enter_round-phase.ensures ∙ ap (enter_round sc) (c.after_answer.ensures ∙ ap (λ (v : Stand). after_answer v.phase was_done) c.self.view_is) in
    let gave : given sc (enter_round sc (after_answer s.phase was_done)) s.generator w ≡ Some e = ap (λ p. given sc p s.generator w) (sym at) ∙ sym c.take_event.ensures.event ∙ c.in-Some.is in
    let left : s.left ≡ suc (s.left - 1) = omega (arith, ap (λ (v : Stand). v.left) c.self.view_is, c.if-self-eq0.false) in
    to_come-step sc s.left (s.left - 1) s.phase s.generator w was_done e left gave
    ∙ ap (λ (p : Phase). e ∷ to_come sc (record { left = s.left - 1; phase = next_phase p; generator = next_generator p s.generator }) (next w e) (enabled w e)) (sym at)
    ∙ ap (λ (v : Stand). e ∷ to_come sc (record { left = v.left - 1; phase = v.phase; generator = v.generator }) (next w e) (enabled w e)) (sym (c.self-2.view_is ∙ c.in-Some.ensures.state))

pub returns-clause-there : goal.returns-clause-there
returns-clause-there c =
    let s = c.args.self.now in
    there c.args.sc.now c.enter_round-phase.result s.generator c.args.w.now.state c.in-Some.e c.requires.accepted (sym c.take_event.ensures.event ∙ c.in-Some.is)
