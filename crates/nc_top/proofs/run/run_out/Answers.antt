use Rattle.std.proofs.Common.{◌∙◌, ap, arith}
use Rattle.std.proofs.lemmas.Result.{err_from_is_err_and}
use Rattle.nc_world.specs.WorldView.{WorldView}
use Rattle.nc_top.proofs.SoFar.{go_start, go_on, go_stopped, go_paused, go_cut, go_done, go_status}
use Rattle.nc_top.proofs.run.run_out.Goals as goal

pub running-init : goal.running-init
running-init g c =
    (go_start (g.K.Sink.held c.args.out.now) c.args.sc.now c.in-Ok.w c.new-sched.result c.requires c.in-Ok.ensures.state c.in-Ok.ensures.records c.new-sched.ensures.whole, omega arith)

pub running-preserved : goal.running-preserved
running-preserved g c =
    let held = g.K.Sink.held in (
      go_on (held c.args.out.now) (held c.running.out) (held c.step_out_with.new.out) c.args.sc.now c.running.w c.step_out_with.new.w c.running.sched c.next.new.self c.running.last c.in_ok-stepped.stepped c.in-Some.e
          c.in-Some.ensures.event (ap (λ (s : WorldView). s.state) c.in_ok-stepped.ensures.world) (ap (λ (s : WorldView). s.records) c.in_ok-stepped.ensures.world) c.in_ok-stepped.ensures.shape
          c.in_ok-stepped.ensures.answer c.in_ok-stepped.ensures.written c.running.invariant.0,
      omega (arith, c.running.invariant.1, c.in_ok-stepped.ensures.later),
    )

pub returns-in_err-stepped-clause-prefix : goal.returns-in_err-stepped-clause-prefix
returns-in_err-stepped-clause-prefix g c =
    let held = g.K.Sink.held in
    let p = err_from_is_err_and c.from_residual.result c.from_residual.ensures.1 in
    rw p.1 (go_stopped (held c.args.out.now) (held c.running.out) (held c.step_out_with.new.out) c.args.sc.now c.running.w c.running.sched c.next.new.self c.running.last c.in-Some.e c.in-Some.ensures.event c.in_err-stepped.ensures.prefix c.running.invariant.0)

pub returns-in_default-tail-clause-prefix : goal.returns-in_default-tail-clause-prefix
returns-in_default-tail-clause-prefix g c =
    let held = g.K.Sink.held in
    go_paused (held c.args.out.now) (held c.running.out) c.args.sc.now c.running.w c.running.sched c.running.last c.in_default-next.ensures.event c.running.invariant.0

pub returns-in_err-write_all-clause-prefix : goal.returns-in_err-write_all-clause-prefix
returns-in_err-write_all-clause-prefix g c =
    let held = g.K.Sink.held in
    let p = err_from_is_err_and c.from_residual-in_err-write_all.result c.from_residual-in_err-write_all.ensures.1 in
    rw p.1 (go_cut (held c.args.out.now) (held c.running.out) (held c.write_all.new.out) c.args.sc.now c.running.w c.running.sched c.running.last c.deref.result.now
    c.in_default-next.ensures.event (c.deref.ensures.value ∙ c.in-Ok-tail.ensures) c.in_err-write_all.ensures.stop c.running.invariant.0)

pub returns-clause-status : goal.returns-clause-status
returns-clause-status g c =
    let held = g.K.Sink.held in
    c.status_of.ensures.value ∙ go_status (held c.args.out.now) (held c.running.out) c.args.sc.now c.running.w c.running.sched c.running.last c.in_default-next.ensures.event c.running.invariant.0

pub returns-clause-text : goal.returns-clause-text
returns-clause-text g c =
    let held = g.K.Sink.held in
    go_done (held c.args.out.now) (held c.running.out) (held c.write_all.new.out) c.args.sc.now c.running.w c.running.sched c.running.last c.deref.result.now
    c.in_default-next.ensures.event (c.deref.ensures.value ∙ c.in-Ok-tail.ensures) c.in_ok-write_all.ensures.ok c.running.invariant.0
