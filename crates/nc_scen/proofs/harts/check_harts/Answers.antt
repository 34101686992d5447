use Rattle.std.proofs.lemmas.Result.{err_from_is_err_and}
use Rattle.nc_scen.specs.Parts.{hart_checked}
use Rattle.nc_values.proofs.Loops.{check_goes_on, check_fails, check_done}
use Rattle.nc_scen.proofs.harts.check_harts.Goals as goal

pub returns-in_err-check_hart : goal.returns-in_err-check_hart
returns-in_err-check_hart c =
    let p = err_from_is_err_and c.from_residual.result c.from_residual.ensures.1 in
    rw (p.1, p.2) (check_fails hart_checked c.in_err-check_hart.field-0.0 c.args.items.now c.loop-i.i c.index-items-i.result _ c.loop-i-test.true c.index-items-i.is c.in_err-check_hart.ensures c.loop-i.invariant)

pub loop-i-preserved : goal.loop-i-preserved
loop-i-preserved c = check_goes_on hart_checked c.args.items.now c.loop-i.i c.index-items-i.result _ _ c.loop-i-test.true c.index-items-i.is c.in_ok-check_hart.ensures c.loop-i.invariant

pub returns : goal.returns
returns c = check_done hart_checked c.args.items.now c.loop-i.i _ c.loop-i-test.false c.loop-i.invariant
