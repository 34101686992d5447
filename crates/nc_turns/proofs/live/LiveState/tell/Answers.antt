use Rattle.std.proofs.Common.{sym, subst}
use Rattle.nc_turns.specs.Threads.{world_of, ComesNext}
use Rattle.nc_turns.proofs.Nexts.{told_comes, told_enabled}
use Rattle.nc_turns.proofs.live.LiveState.tell.Goals as goal

pub append-requires-clause-next : goal.append-requires-clause-next
append-requires-clause-next g c =
    let sc = g.N.SceneName.scene in
    subst (ComesNext sc c.args.self.now) (sym c.told_event.ensures) (told_comes sc c.args.self.now c.args.me c.args.k c.args.answer.now c.requires.even c.requires.search)

pub returns-in_err-append-clause-enabled : goal.returns-in_err-append-clause-enabled
returns-in_err-append-clause-enabled g c = told_enabled (world_of g.N.SceneName.scene c.args.self.now) c.args.me c.args.k c.args.answer.now c.requires.search

pub returns-clause-enabled : goal.returns-clause-enabled
returns-clause-enabled g c = told_enabled (world_of g.N.SceneName.scene c.args.self.now) c.args.me c.args.k c.args.answer.now c.requires.search
