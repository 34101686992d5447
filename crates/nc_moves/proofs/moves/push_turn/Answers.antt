use Rattle.std.proofs.Common.{◌≡◌, sym, subst}
use Rattle.std.specs.Prelude.{OnOk}
use Rattle.nc_rules.specs.Turns.{Moved}
use Rattle.nc_moves.specs.MovesView.{moves_view, IsFew}
use Rattle.nc_moves.proofs.TurnLaws.{turn_lots, names_lots}
use Rattle.nc_moves.proofs.moves.push_turn.Goals as goal

pub push_lots-requires-clause-few : goal.push_lots-requires-clause-few
push_lots-requires-clause-few c =
    subst IsFew (turn_lots c.args.me c.args.slots_at c.args.first c.args.turn (moves_view c.args.moves.now) c.args.lots.now (names_lots c.args.turn c.in-Lend.is)) c.requires.few

pub returns-in-Lend : goal.returns-in-Lend
returns-in-Lend c =
    subst (λ (m : Moved). OnOk c.push_lots.result (moves_view c.push_lots.new.moves ≡ m))
    (sym (turn_lots c.args.me c.args.slots_at c.args.first c.args.turn (moves_view c.args.moves.now) c.args.lots.now (names_lots c.args.turn c.in-Lend.is)))
    c.push_lots.ensures
