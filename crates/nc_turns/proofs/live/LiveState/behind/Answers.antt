use Rattle.std.proofs.Common.{sym, ◌∙◌, subst, arith}
use Rattle.nc_rules.specs.World.{hart}
use Rattle.nc_turns.specs.declared.threads.Turner.TheVariants.{Driver, Channels, Caches}
use Rattle.nc_turns.specs.Threads.{IsThreaded}
use Rattle.nc_turns.proofs.Ends.{all_made, drivers_more}
use Rattle.nc_turns.proofs.live.LiveState.behind.Goals as goal

pub loop-h-preserved : goal.loop-h-preserved
loop-h-preserved g c =
    let sc = g.N.SceneName.scene in
    let es = c.args.self.now in
    let threaded : IsThreaded sc es = subst (IsThreaded sc) c.self.view_is c.self.invariant.threaded in
    drivers_more sc es c.loop-h.h (all_made sc es (Driver (hart c.loop-h.h)) threaded (sym c.is_behind.ensures ∙ c.if-is_behind.false)) c.loop-h.invariant

pub returns : goal.returns
returns g c =
    let sc = g.N.SceneName.scene in
    let es = c.args.self.now in
    let threaded : IsThreaded sc es = subst (IsThreaded sc) c.self.view_is c.self.invariant.threaded in
    record {
      drivers = λ k lt. c.loop-h.invariant k (omega (arith, lt, c.loop-h-test.false, c.self.invariant.harts_is));
      channels = all_made sc es Channels threaded (sym c.is_behind-2.ensures ∙ c.if-is_behind-2.false);
      caches = all_made sc es Caches threaded (sym c.is_behind-3.ensures ∙ c.if-is_behind-3.false);
    }
