use Rattle.std.proofs.Common.{arith}
use Rattle.nc_turns.proofs.Counted.{is_counted}
use Rattle.nc_turns.proofs.live.LiveState.made.Goals as goal

pub returns-clause-few : goal.returns-clause-few
returns-clause-few g c =
    let sc = g.N.SceneName.scene in
    let t = c.args.t in
    let live = c.self.invariant in
    omega (arith, c.of.ensures, live.counts_are t (is_counted sc t live.run.accepted.harts_few c.requires), live.threaded.few t)
