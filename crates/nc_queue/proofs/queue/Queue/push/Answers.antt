use Rattle.std.proofs.Common.{◌≡◌, List, length, refl, sym, ap, ◌∙◌, arith}
use Rattle.nc_queue.specs.QueueState.{QueueState}
use Rattle.nc_queue.specs.declared.entry.Entry.{Entry}
use Rattle.nc_queue.proofs.Fit.{kept-push, kept-length}
use Rattle.nc_queue.proofs.Rings.{window-push}
use Rattle.nc_queue.proofs.queue.Queue.push.Goals as goal

pub invariant_of-self : goal.invariant_of-self
invariant_of-self c =
    rw c.place.ensures.place
    (kept-push c.self.inside.cells c.self.inside.start c.self.inside.len c.self.inside.size c.args.e c.self.invariant (omega (arith, c.self.invariant.few, c.if-self-eq-ROOM.false)) (rw (← c.self.view_is) at c.requires))

pub returns-then-self-eq-ROOM-clause-full : goal.returns-then-self-eq-ROOM-clause-full
returns-then-self-eq-ROOM-clause-full c =
    let long : length c.args.self.now.entries ≡ c.self.inside.len = sym (ap (λ (q : QueueState). length q.entries) c.self.view_is) ∙ kept-length _ _ _ _ c.self.invariant in
    (λ _. long ∙ c.if-self-eq-ROOM.true, λ _. refl)

pub returns-clause-full : goal.returns-clause-full
returns-clause-full c =
    let long : length c.args.self.now.entries ≡ c.self.inside.len = sym (ap (λ (q : QueueState). length q.entries) c.self.view_is) ∙ kept-length _ _ _ _ c.self.invariant in
    (λ no. absurd cc, λ e. absurd (c.if-self-eq-ROOM.false (sym long ∙ e)))

pub returns-clause-ok : goal.returns-clause-ok
returns-clause-ok c =
    rw (← c.self.view_is, c.place.ensures.place)
    (ap (λ (q : List Entry). record { size = c.self.inside.size; entries = q }) (window-push _ _ _ _ c.self.invariant.start_in (omega (arith, c.self.invariant.few, c.if-self-eq-ROOM.false)) c.self.invariant.room))
