use Rattle.std.proofs.Common.{ap, ◌∙◌}
use Rattle.nc_rules.specs.Driver.{searching}
use Rattle.nc_rules.specs.World.{driver_of}
use Rattle.nc_world.specs.WorldView.{WorldView}
use Rattle.nc_turns.specs.Threads.{world_of}
use Rattle.nc_turns.proofs.Searches.{slots_below}
use Rattle.nc_turns.proofs.live.LiveState.searching.Goals as goal

pub returns-clause-slot : goal.returns-clause-slot
returns-clause-slot g c =
    let sc = g.N.SceneName.scene in
    let run = c.self.invariant.run in
    slots_below sc (world_of sc c.self.inside.history.items) c.args.h c.searching.result run.of_scenario c.requires (c.searching.ensures ∙ ap (λ (u : WorldView). searching (driver_of u.state c.args.h.0)) run.world)
