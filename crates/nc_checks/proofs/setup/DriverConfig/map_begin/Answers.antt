use Rattle.std.proofs.Common.{◌≡◌, List, Result, subst}
use Rattle.std.specs.Prelude.{IfOk}
use Rattle.nc_rules.specs.declared.answers.Refusal.{Refusal}
use Rattle.nc_rules.specs.declared.lots.Lot.{Lot}
use Rattle.nc_checks.specs.Due.{ok_as}
use Rattle.nc_checks.proofs.RangeLaws.{map_is}
use Rattle.nc_checks.proofs.setup.DriverConfig.map_begin.Goals as goal

pub returns : goal.returns
returns c =
    subst (λ (made : Result (List Lot) Refusal). IfOk c.list_begin.result (λ r. ok_as {B = List Lot} r (λ v. v.items) ≡ made))
    (map_is c.args.self.now c.args.lots.now c.args.label c.args.entry c.args.dir c.args.chan c.args.book.now.owners) c.list_begin.ensures
