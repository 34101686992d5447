use Rattle.std.proofs.Common.{◌∙◌, subst, List, ℕ}
use Rattle.std.specs.Io.KnownBytes.{Appends}
use Rattle.std.proofs.lemmas.Result.{err_from_is_err_and}
use Rattle.nc_io.specs.Streams.{GrowsByPrefix}
use Rattle.nc_rules.specs.Lines.{report}
use Rattle.nc_world.proofs.Shapes.{on_ok}
use Rattle.nc_turns.specs.Played.{history_lines, live_text}
use Rattle.nc_turns.proofs.Replays.{live_front, live_cut, live_done, on_err}
use Rattle.nc_turns.proofs.writing.write_live.Goals as goal

pub returns-in_err-write_all-clause-prefix : goal.returns-in_err-write_all-clause-prefix
returns-in_err-write_all-clause-prefix g c =
    let held = g.K.Sink.held in
    let p = err_from_is_err_and c.from_residual.result c.from_residual.ensures.1 in
    rw p.1 (live_front (held c.args.out.now) (held c.write_all.new.out) c.args.sc.now c.args.history.now
    (subst (λ (t : List ℕ). GrowsByPrefix (held c.args.out.now) (held c.write_all.new.out) t) (c.deref.ensures.value ∙ c.in-Ok.ensures) c.in_err-write_all.ensures.stop))

pub returns-clause-text : goal.returns-clause-text
returns-clause-text g c =
    let held = g.K.Sink.held in
    let sc = c.args.sc.now in
    let es = c.args.history.now in
    let begun : Appends (held c.args.out.now) (held c.write_all.new.out) (history_lines es) = subst (λ (t : List ℕ). Appends (held c.args.out.now) (held c.write_all.new.out) t) (c.deref.ensures.value ∙ c.in-Ok.ensures) c.in_ok-write_all.ensures.ok in
    on_ok c.replay_out.result (Appends (held c.write_all.new.out) (held c.replay_out.new.out) (report sc es)) (Appends (held c.args.out.now) (held c.replay_out.new.out) (live_text sc es))
    (live_done (held c.args.out.now) (held c.write_all.new.out) (held c.replay_out.new.out) sc es begun) c.replay_out.ensures.text

pub returns-clause-prefix : goal.returns-clause-prefix
returns-clause-prefix g c =
    let held = g.K.Sink.held in
    let sc = c.args.sc.now in
    let es = c.args.history.now in
    let begun : Appends (held c.args.out.now) (held c.write_all.new.out) (history_lines es) = subst (λ (t : List ℕ). Appends (held c.args.out.now) (held c.write_all.new.out) t) (c.deref.ensures.value ∙ c.in-Ok.ensures) c.in_ok-write_all.ensures.ok in
    on_err c.replay_out.result (GrowsByPrefix (held c.write_all.new.out) (held c.replay_out.new.out) (report sc es)) (GrowsByPrefix (held c.args.out.now) (held c.replay_out.new.out) (live_text sc es))
    (live_cut (held c.args.out.now) (held c.write_all.new.out) (held c.replay_out.new.out) sc es begun) c.replay_out.ensures.prefix
