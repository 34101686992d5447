use Rattle.std.proofs.Common.{sym, subst}
use Rattle.std.proofs.lemmas.Result.{err_from_is_err_and}
use Rattle.nc_scen.specs.declared.scenario.Scenario.{Scenario}
use Rattle.nc_rules.specs.Flat.{AreThere}
use Rattle.nc_live.proofs.Wrote.{wrote, grew}
use Rattle.nc_live.proofs.live.live_run.Goals as goal

pub returns-in_err-status-clause-prefix : goal.returns-in_err-status-clause-prefix
returns-in_err-status-clause-prefix g c =
    let held = g.K.Sink.held in
    let p = err_from_is_err_and c.from_residual.result c.from_residual.ensures.1 in
    rw p.1 (grew (held c.args.out.now) (held c.write_live.new.out) c.args.sc.now c.in-Ok.done.events c.history.result.now c.in-Ok.ensures c.history.ensures.value c.in_err-status.ensures.prefix)

pub returns-clause-text : goal.returns-clause-text
returns-clause-text g c =
    let held = g.K.Sink.held in
    let es = c.in-Ok.done.events in
    wrote (held c.args.out.now) (held c.write_live.new.out) c.args.sc.now c.in_ok-status.status es c.history.result.now c.in-Ok.ensures c.history.ensures.value c.in_ok-status.ensures.status c.in_ok-status.ensures.text c.requires.accepted
    c.latest_law.ensures c.kept_law.ensures c.copied_law.ensures (subst (λ (s : Scenario). AreThere s es) (sym c.requires.scene) c.history.ensures.there)
