use Rattle.std.proofs.lemmas.Result.{err_from_is_err_and}
use Rattle.std.proofs.lemmas.List.Elements.{All-push}
use Rattle.nc_scen.specs.Parts.{hart_at}
use Rattle.nc_scen.specs.Accepted.{FitsHart}
use Rattle.nc_values.proofs.Loops.{goes_on, fails, is_done, length_push}
use Rattle.nc_scen.proofs.harts.read_harts.Goals as goal

pub returns-in_err-hart-clause-gives : goal.returns-in_err-hart-clause-gives
returns-in_err-hart-clause-gives c =
    let p = err_from_is_err_and c.from_residual.result c.from_residual.ensures.1 in
    rw (p.1, p.2) (fails (hart_at c.args.counts) c.in_err-hart.field-0.0 c.loop-i.harts.items c.args.items.now c.loop-i.i c.index-items-i.result _ c.loop-i-test.true c.index-items-i.is c.in_err-hart.ensures.gives c.loop-i.invariant.0)

pub loop-i-preserved : goal.loop-i-preserved
loop-i-preserved c =
    rw c.in_ok-push.ensures.items (goes_on (hart_at c.args.counts) c.loop-i.harts.items c.args.items.now c.loop-i.i c.index-items-i.result c.in_ok-hart.hart _ c.loop-i-test.true c.index-items-i.is c.in_ok-hart.ensures.gives c.loop-i.invariant.0, All-push (FitsHart c.args.counts.harts c.args.counts.buffers) c.loop-i.harts.items c.in_ok-hart.hart c.loop-i.invariant.1 c.in_ok-hart.ensures.fits, length_push c.loop-i.harts.items c.in_ok-hart.hart c.loop-i.i c.loop-i.invariant.2)

pub returns-clause-gives : goal.returns-clause-gives
returns-clause-gives c = is_done (hart_at c.args.counts) c.loop-i.harts.items c.args.items.now c.loop-i.i _ c.loop-i-test.false c.loop-i.invariant.0
