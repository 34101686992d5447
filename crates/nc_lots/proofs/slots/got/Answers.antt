use Rattle.std.proofs.Common.{◌<◌, length, sym, ap, ◌∙◌, subst, position}
use Rattle.nc_sg.specs.declared.list.Entry.{Entry}
use Rattle.std.specs.Prelude.{List}
use Rattle.nc_rules.specs.Lots.{lot_waits}
use Rattle.nc_lots.proofs.LotLaws.{entries-set, set-without, gives_at, waits_at, first_within, some_waits}
use Rattle.nc_lots.proofs.slots.got.Goals as goal

pub give-entry-requires-clause-waits : goal.give-entry-requires-clause-waits
give-entry-requires-clause-waits c =
    waits_at c.args.lots.now.items c.in-Some.lot c.index_mut.result.now (ap (position lot_waits) (sym c.deref.ensures.value) ∙ sym c.in-Some.ensures) c.index_mut.ensures.value

pub unreachable-requires : goal.unreachable-requires
unreachable-requires c = some_waits c.args.lots.now.items c.requires.waits (ap (position lot_waits) (sym c.deref.ensures.value) ∙ sym c.in-None.ensures)

pub returns-clause-items : goal.returns-clause-items
returns-clause-items c =
    gives_at c.args.k c.args.lots.now.items c.in-Some.lot c.index_mut.result.now c.give-entry.new.lot (ap (position lot_waits) (sym c.deref.ensures.value) ∙ sym c.in-Some.ensures) c.index_mut.ensures.value c.give-entry.ensures.lot

pub returns-clause-there : goal.returns-clause-there
returns-clause-there c =
    let within = first_within c.args.lots.now.items c.in-Some.lot c.index_mut.result.now (ap (position lot_waits) (sym c.deref.ensures.value) ∙ sym c.in-Some.ensures) in
    subst (λ (es : List Entry). c.give-entry.result < length es) (sym (entries-set c.args.lots.now.items c.in-Some.lot c.give-entry.new.lot within)) c.give-entry.ensures.there

pub returns-clause-back : goal.returns-clause-back
returns-clause-back c =
    let within = first_within c.args.lots.now.items c.in-Some.lot c.index_mut.result.now (ap (position lot_waits) (sym c.deref.ensures.value) ∙ sym c.in-Some.ensures) in
    set-without c.args.lots.now.items c.in-Some.lot c.give-entry.result c.index_mut.result.now c.give-entry.new.lot c.index_mut.ensures.value within c.give-entry.ensures.back
