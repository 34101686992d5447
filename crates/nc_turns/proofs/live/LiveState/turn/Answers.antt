use Rattle.std.proofs.Common.{ap, sym, ◌∙◌, subst}
use Rattle.nc_turns.specs.Threads.{belongs, ComesNext}
use Rattle.nc_turns.proofs.Nexts.{next_comes, next_room}
use Rattle.nc_turns.proofs.live.LiveState.turn.Goals as goal

pub append-requires-clause-next : goal.append-requires-clause-next
append-requires-clause-next g c =
    let sc = g.N.SceneName.scene in
    subst (ComesNext sc c.args.self.now) (sym c.next_event-e.ensures.value) (next_comes sc c.args.self.now c.args.t c.requires.free)

pub append-requires-clause-room : goal.append-requires-clause-room
append-requires-clause-room g c u is =
    let sc = g.N.SceneName.scene in
    next_room sc c.args.self.now c.args.t c.requires.room u (ap (belongs u) (sym c.next_event-e.ensures.value) ∙ is)
