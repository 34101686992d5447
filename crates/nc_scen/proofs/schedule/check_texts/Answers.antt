use Rattle.std.proofs.lemmas.Result.{err_from_is_err_and}
use Rattle.nc_scen.specs.Reading.{text_at}
use Rattle.nc_values.proofs.Loops.{check_goes_on, check_fails, check_done}
use Rattle.nc_scen.proofs.schedule.check_texts.Goals as goal

pub returns-in_err-check_text : goal.returns-in_err-check_text
returns-in_err-check_text c =
    let p = err_from_is_err_and c.from_residual.result c.from_residual.ensures.1 in
    rw (p.1, p.2) (check_fails text_at c.in_err-check_text.field-0.0 c.args.items.now c.loop-i.i c.index-items-i.result _ c.loop-i-test.true c.index-items-i.is c.in_err-check_text.ensures c.loop-i.invariant)

pub loop-i-preserved : goal.loop-i-preserved
loop-i-preserved c = check_goes_on text_at c.args.items.now c.loop-i.i c.index-items-i.result _ _ c.loop-i-test.true c.index-items-i.is c.in_ok-check_text.ensures c.loop-i.invariant

pub returns : goal.returns
returns c = check_done text_at c.args.items.now c.loop-i.i _ c.loop-i-test.false c.loop-i.invariant
