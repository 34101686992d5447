use Rattle.std.proofs.Common.{◌*◌}
use Rattle.std.proofs.lemmas.Result.{err_from_is_err_and}
use Rattle.std.proofs.lemmas.List.Elements.{All-push}
use Rattle.nc_scen.specs.Reading.{token_at}
use Rattle.nc_scen.specs.Events.{IsThere}
use Rattle.nc_values.proofs.Loops.{goes_on, fails, is_done, length_push}
use Rattle.nc_scen.proofs.schedule.read_tokens.Goals as goal

pub returns-in_err-event-clause-gives : goal.returns-in_err-event-clause-gives
returns-in_err-event-clause-gives c =
    let p = err_from_is_err_and c.from_residual.result c.from_residual.ensures.1 in
    rw (p.1, p.2) (fails (token_at c.args.harts c.args.blocks) c.in_err-event.field-0.0 c.loop-i.events.items c.args.items.now c.loop-i.i c.index-items-i.result _ c.loop-i-test.true c.index-items-i.is c.in_err-event.ensures.gives c.loop-i.invariant.0)

pub loop-i-preserved : goal.loop-i-preserved
loop-i-preserved c =
    rw c.in_ok-push.ensures.items (goes_on (token_at c.args.harts c.args.blocks) c.loop-i.events.items c.args.items.now c.loop-i.i c.index-items-i.result c.in_ok-event.event _ c.loop-i-test.true c.index-items-i.is c.in_ok-event.ensures.gives c.loop-i.invariant.0, (λ size. All-push (IsThere c.args.harts size (size * c.args.blocks)) c.loop-i.events.items c.in_ok-event.event (c.loop-i.invariant.1 size) (c.in_ok-event.ensures.there size)), length_push c.loop-i.events.items c.in_ok-event.event c.loop-i.i c.loop-i.invariant.2)

pub returns-clause-gives : goal.returns-clause-gives
returns-clause-gives c = is_done (token_at c.args.harts c.args.blocks) c.loop-i.events.items c.args.items.now c.loop-i.i _ c.loop-i-test.false c.loop-i.invariant.0
