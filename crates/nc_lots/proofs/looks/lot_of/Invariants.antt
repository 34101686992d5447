use Rattle.std.proofs.Common.{◌≡◌, drop}
use Rattle.std.specs.List.{find}
use Rattle.nc_rules.specs.Lots.{is_lot}
use Rattle.nc_lots.proofs.looks.lot_of.Given as goal

abbrev pub invariant-loop-lot : goal.invariant-loop-lot
invariant-loop-lot l = find (is_lot l.id) (drop l.lot-index l.lots) ≡ find (is_lot l.id) l.lots
