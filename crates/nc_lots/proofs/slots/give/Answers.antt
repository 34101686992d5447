use Rattle.std.proofs.Common.{◌<◌, length, sym, ap, ◌∙◌, subst}
use Rattle.nc_sg.specs.Lists.{SgView}
use Rattle.nc_rules.specs.declared.lots.Lot.{Lot}
use Rattle.nc_lots.specs.Spots.{without_entry}
use Rattle.nc_lots.proofs.LotLaws.{given_back, given_there}
use Rattle.nc_lots.proofs.slots.give.Goals as goal

pub returns-clause-there : goal.returns-clause-there
returns-clause-there c = subst (λ (l : SgView). c.in-Some.i < length l.entries) (sym c.got.ensures) (given_there c.args.k c.args.lot.now.list.entries c.in-Some.i (sym c.in-Some.ensures))

pub returns-clause-back : goal.returns-clause-back
returns-clause-back c =
    let lot : Lot = c.args.lot.now in
    ap (λ (l : SgView). without_entry c.in-Some.i (record lot { list = l })) c.got.ensures
    ∙ ap (λ es. record lot { list = record lot.list { entries = es } }) (given_back c.args.k lot.list.entries c.in-Some.i (sym c.in-Some.ensures))
