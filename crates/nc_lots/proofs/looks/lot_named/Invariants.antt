use Rattle.std.proofs.Common.{◌≡◌, drop}
use Rattle.nc_rules.specs.Lots.{lot_named}
use Rattle.nc_lots.proofs.looks.lot_named.Given as goal

abbrev pub invariant-loop-lot : goal.invariant-loop-lot
invariant-loop-lot l = lot_named (drop l.lot-index l.lots) l.label l.kind ≡ lot_named l.lots l.label l.kind
