use Rattle.std.proofs.Common.{◌≡◌, ◌≤◌, ◌<◌, [], ◌∷◌, ◌++◌, length, sym, ap, ◌∙◌, subst, List}
use Rattle.nc_scen.specs.declared.events.Event.{Event}
use Rattle.nc_rules.specs.Schedule.{begun}
use Rattle.nc_sched.specs.Stands.{seed_of}
use Rattle.nc_turns.specs.States.{IsLive, total}
use Rattle.nc_turns.specs.Threads.{made_by, most, ComesNext, IsThreaded}
use Rattle.nc_turns.proofs.Counted.{counts-push, draws-push, counted-push, within_limit}
use Rattle.nc_turns.proofs.Runs.{run-push, threaded-push}
use Rattle.nc_turns.proofs.live.LiveState.append.Goals as goal

pub invariant_of-self-2 : goal.invariant_of-self-2
invariant_of-self-2 g c =
    let sc = g.N.SceneName.scene in
    let live = c.self.invariant in
    let self = c.self.inside in
    let old = self.history.items in
    let w = c.clear_records.new.self in
    let e = c.args.e in
    let new = old ++ e ∷ [] in
    let items : c.push_reserved.new.self.items ≡ new = c.push_reserved.ensures.items ∙ ap (λ xs. xs ++ e ∷ []) c.in_ok-reserve.ensures.items in
    let comes : ComesNext sc old e = subst (λ (es : List Event). ComesNext sc es e) (sym c.self.view_is) c.requires.next in
    let threaded : IsThreaded sc new = threaded-push sc old e comes (λ t is. subst (λ (es : List Event). made_by t es < most sc) (sym c.self.view_is) (c.requires.room t is)) live.threaded in
    let all : length new ≤ total new = counted-push sc old e live.run.accepted.harts_few c.requires.there comes live.all in
    subst (λ (es : List Event). IsLive sc self.limit self.harts self.blocks c.count.new.self c.pass.new.self w es) (sym items) (record {
      limit_is = live.limit_is;
      harts_is = live.harts_is;
      blocks_is = live.blocks_is;
      run = run-push sc self.world w old e c.worlds_stay.ensures c.requires.there (within_limit sc new all threaded) (c.clear_records.ensures.state ∙ c.in_ok-stepped.ensures.next) c.clear_records.ensures.none live.run;
      threaded = threaded;
      all = all;
      counts_are = counts-push self.counts c.count.new.self old e c.count.ensures live.counts_are;
      draws_is = draws-push (begun (seed_of sc.plan)) self.draws c.pass.new.self old e live.draws_is c.pass.ensures;
    })
