use Rattle.std.proofs.Common.{◌≡◌, [], drop, ◌∙◌, arith}
use Rattle.std.proofs.lemmas.List.{drop_all, drop_more}
use Rattle.std.proofs.lemmas.Result.{err_from_is_err_and}
use Rattle.nc_turns.proofs.Replays.{replay_start, replay_on, replay_stopped, replay_paused, replay_cut, replay_done, replay_status}
use Rattle.nc_turns.proofs.writing.replay_out.Goals as goal

pub loop-e-init : goal.loop-e-init
loop-e-init g c = (replay_start (g.K.Sink.held c.args.out.now) c.args.sc.now c.in-Ok.w c.args.history.now c.requires.accepted c.in-Ok.ensures.state c.in-Ok.ensures.records, omega arith)

pub loop-e-preserved : goal.loop-e-preserved
loop-e-preserved g c =
    let held = g.K.Sink.held in
    let es = c.args.history.now in
    let here = drop_more es c.loop-e.e-index _ c.loop-e-test.true in (
      replay_on (held c.args.out.now) (held c.loop-e.out) (held c.step_out_with.new.out) c.args.sc.now c.loop-e.w c.step_out_with.new.w es _ _ _ here
          c.in_ok-step_out_with.ensures.world c.in_ok-step_out_with.ensures.shape c.in_ok-step_out_with.ensures.written c.loop-e.invariant.0,
      omega (arith, c.loop-e.invariant.1, c.in_ok-step_out_with.ensures.later),
    )

pub returns-in_err-step_out_with-clause-prefix : goal.returns-in_err-step_out_with-clause-prefix
returns-in_err-step_out_with-clause-prefix g c =
    let held = g.K.Sink.held in
    let es = c.args.history.now in
    let p = err_from_is_err_and c.from_residual.result c.from_residual.ensures.1 in
    rw p.1 (replay_stopped (held c.args.out.now) (held c.loop-e.out) (held c.step_out_with.new.out) c.args.sc.now c.loop-e.w es _ _ _ (drop_more es c.loop-e.e-index _ c.loop-e-test.true) c.in_err-step_out_with.ensures.prefix c.loop-e.invariant.0)

pub returns-in_default-tail-clause-prefix : goal.returns-in_default-tail-clause-prefix
returns-in_default-tail-clause-prefix g c =
    let held = g.K.Sink.held in
    let es = c.args.history.now in
    let none : drop c.loop-e.e-index es ≡ [] = drop_all c.loop-e.e-index es (omega (arith, c.loop-e-test.false)) in
    replay_paused (held c.args.out.now) (held c.loop-e.out) c.args.sc.now c.loop-e.w es _ none c.loop-e.invariant.0

pub returns-in_err-write_all-clause-prefix : goal.returns-in_err-write_all-clause-prefix
returns-in_err-write_all-clause-prefix g c =
    let held = g.K.Sink.held in
    let es = c.args.history.now in
    let none : drop c.loop-e.e-index es ≡ [] = drop_all c.loop-e.e-index es (omega (arith, c.loop-e-test.false)) in
    let p = err_from_is_err_and c.from_residual-in_err-write_all.result c.from_residual-in_err-write_all.ensures.1 in
    rw p.1 (replay_cut (held c.args.out.now) (held c.loop-e.out) (held c.write_all.new.out) c.args.sc.now c.loop-e.w es _ c.deref.result.now none (c.deref.ensures.value ∙ c.in-Ok-tail.ensures) c.in_err-write_all.ensures.stop c.loop-e.invariant.0)

pub returns-clause-status : goal.returns-clause-status
returns-clause-status g c =
    let held = g.K.Sink.held in
    let es = c.args.history.now in
    let none : drop c.loop-e.e-index es ≡ [] = drop_all c.loop-e.e-index es (omega (arith, c.loop-e-test.false)) in
    c.status_of.ensures.value ∙ replay_status (held c.args.out.now) (held c.loop-e.out) c.args.sc.now c.loop-e.w es _ none c.loop-e.invariant.0

pub returns-clause-text : goal.returns-clause-text
returns-clause-text g c =
    let held = g.K.Sink.held in
    let es = c.args.history.now in
    let none : drop c.loop-e.e-index es ≡ [] = drop_all c.loop-e.e-index es (omega (arith, c.loop-e-test.false)) in
    replay_done (held c.args.out.now) (held c.loop-e.out) (held c.write_all.new.out) c.args.sc.now c.loop-e.w es _ c.deref.result.now none (c.deref.ensures.value ∙ c.in-Ok-tail.ensures) c.in_ok-write_all.ensures.ok c.loop-e.invariant.0
