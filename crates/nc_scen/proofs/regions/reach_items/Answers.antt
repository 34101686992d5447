use Rattle.std.proofs.Common.{◌≢◌, rules, tests, length}
use Rattle.nc_scen.proofs.Items.{reach_items-not_four}
use Rattle.nc_scen.proofs.regions.reach_items.Goals as goal
use Rattle.nc_scen.proofs.regions.reach_items.Goals.{in_default-via-then-items-lt4, in_default-via-else-items-lt4+else-items-lt5}

pub returns-in_ok-of-in_default-clause-gives : goal.returns-in_ok-of-in_default-clause-gives
returns-in_ok-of-in_default-clause-gives c =
    let n : length c.args.items.now ≢ 4 = λ e. elim c.in_default.branch [ in_default-via-then-items-lt4 w ↦ search (rules, tests) | in_default-via-else-items-lt4+else-items-lt5 w ↦ search (rules, tests) ] in
    rw (c.in_ok-of-in_default.ensures) (reach_items-not_four c.args.least c.args.ram c.args.items.now n)
