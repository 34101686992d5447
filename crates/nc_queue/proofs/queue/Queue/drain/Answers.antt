use Rattle.std.proofs.Common.{◌≡◌, ◌<◌, true, false, List, sym, ap, ◌∙◌, arith}
use Rattle.nc_queue.specs.Ring.{window}
use Rattle.nc_queue.specs.Rules.{may_drain}
use Rattle.nc_queue.specs.declared.entry.Entry.{Entry}
use Rattle.nc_queue.proofs.Fit.{kept-remove, kept-get, kept-fits, kept-listed, kept-there}
use Rattle.nc_queue.proofs.Drained.{drained-here, drained-none}
use Rattle.nc_queue.proofs.queue.Queue.drain.Goals as goal

pub take_out-self-inside-requires-clause-there : goal.take_out-self-inside-requires-clause-there
take_out-self-inside-requires-clause-there c = kept-there _ _ _ _ _ _ _ c.self.invariant c.entries.ensures.entries c.self.view_is (c.may_drain.ensures.there c.if-not-may_drain.false)

pub overflow_sub-self : goal.overflow_sub-self
overflow_sub-self c =
    let lt : c.args.i < c.self.inside.len = kept-there _ _ _ _ _ _ _ c.self.invariant c.entries.ensures.entries c.self.view_is (c.may_drain.ensures.there c.if-not-may_drain.false) in
    omega arith

pub invariant_of-self : goal.invariant_of-self
invariant_of-self c =
    let lt : c.args.i < c.self.inside.len = kept-there _ _ _ _ _ _ _ c.self.invariant c.entries.ensures.entries c.self.view_is (c.may_drain.ensures.there c.if-not-may_drain.false) in
    kept-remove _ _ _ _ _ _ _ c.self.invariant lt c.take_out-self-inside.auto.cells c.take_out-self-inside.ensures.start c.take_out-self-inside.ensures.entries

pub returns-clause-entry : goal.returns-clause-entry
returns-clause-entry c =
    let lt : c.args.i < c.self.inside.len = kept-there _ _ _ _ _ _ _ c.self.invariant c.entries.ensures.entries c.self.view_is (c.may_drain.ensures.there c.if-not-may_drain.false) in
    let listed_is = kept-listed _ _ _ _ _ _ c.entries.ensures.entries c.self.view_is in
    let may : may_drain c.self.inside.size (window c.self.inside.start c.self.inside.len c.self.inside.cells) c.args.i ≡ true =
    ap (λ (q : List Entry). may_drain c.self.inside.size q c.args.i) (sym listed_is) ∙ sym c.may_drain.ensures.value ∙ c.if-not-may_drain.false in
    rw (← c.self.view_is) (sym (drained-here _ _ _ _ may (kept-get _ _ _ _ _ _ c.index-self-place.result c.self.invariant lt c.place.ensures.place)))

pub returns-clause-fits : goal.returns-clause-fits
returns-clause-fits c =
    let lt : c.args.i < c.self.inside.len = kept-there _ _ _ _ _ _ _ c.self.invariant c.entries.ensures.entries c.self.view_is (c.may_drain.ensures.there c.if-not-may_drain.false) in
    rw (← c.self.view_is) (kept-fits _ _ _ _ _ _ _ c.self.invariant lt c.place.ensures.place)

pub returns-then-not-may_drain-clause-entry : goal.returns-then-not-may_drain-clause-entry
returns-then-not-may_drain-clause-entry c =
    let listed_is = kept-listed _ _ _ _ _ _ c.entries.ensures.entries c.self.view_is in
    let may : may_drain c.self.inside.size (window c.self.inside.start c.self.inside.len c.self.inside.cells) c.args.i ≡ false =
    ap (λ (q : List Entry). may_drain c.self.inside.size q c.args.i) (sym listed_is) ∙ sym c.may_drain.ensures.value ∙ c.if-not-may_drain.true in
    rw (← c.self.view_is) (sym (drained-none _ _ _ may))
