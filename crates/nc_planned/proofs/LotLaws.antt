-- What holds of all lots holds of those that are found.
use Rattle.std.proofs.Common.{◌≡◌, false, List}
use Rattle.std.specs.Prelude.{All}
use Rattle.std.specs.List.{Contains}
use Rattle.std.proofs.lemmas.List.Elements.{All-contains}
use Rattle.nc_rules.specs.declared.lots.Lot.{Lot}
use Rattle.nc_rules.specs.Lots.{lot_waits}

pub all_contained : (lots : List Lot) (lot : Lot) → All (λ l. lot_waits l ≡ false) lots → Contains lots lot → lot_waits lot ≡ false
all_contained lots lot h there = All-contains (λ l. lot_waits l ≡ false) lots lot h there
