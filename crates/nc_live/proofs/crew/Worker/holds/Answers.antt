use Rattle.std.proofs.Common.{◌==◌, ◌∙◌, rules, tests}
use Rattle.std.proofs.lemmas.Iterator.{YieldsList-from_slice}
use Rattle.std.proofs.lemmas.Iterator.Search.{any_from_yields_List}
use Rattle.nc_live.proofs.Held.{has_is_any}
use Rattle.nc_live.proofs.crew.Worker.holds.Goals as goal

pub returns : goal.returns
returns g c =
    let k = c.args.k in
    let mine = c.args.self.now.mine.items in
    any_from_yields_List (λ x. x == k) _ _ c.any.result c.any.ensures.ran (YieldsList-from_slice mine cc) (λ x b q j. search (rules, tests)) ∙ has_is_any k mine
