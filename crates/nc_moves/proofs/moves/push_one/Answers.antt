use Rattle.std.proofs.Common.{◌≡◌, ◌∙◌, sym, ap, subst}
use Rattle.nc_moves.specs.MovesView.{moves_view, IsFew}
use Rattle.nc_moves.specs.Turned.{joined}
use Rattle.nc_rules.specs.Turns.{Moved}
use Rattle.std.specs.Prelude.{OnOk}
use Rattle.nc_moves.proofs.MoveLaws.{joined-nothing}
use Rattle.nc_moves.proofs.TurnLaws.{one_side, one_other, one_gone}
use Rattle.nc_moves.proofs.moves.push_one.Goals as goal

pub push_lot-requires-clause-few : goal.push_lot-requires-clause-few
push_lot-requires-clause-few c =
    subst IsFew (ap (joined (moves_view c.args.moves.now)) (one_side c.args.me c.args.slots_at c.args.turn c.args.first c.args.lot.now c.in-Some.side (sym c.in-Some.ensures) (sym c.if-is_of.ensures))) c.requires.few

pub returns-then-is_of : goal.returns-then-is_of
returns-then-is_of c =
    subst (λ (m : Moved). OnOk c.push_lot.result (moves_view c.push_lot.new.moves ≡ m))
    (sym (ap (joined (moves_view c.args.moves.now)) (one_side c.args.me c.args.slots_at c.args.turn c.args.first c.args.lot.now c.in-Some.side (sym c.in-Some.ensures) (sym c.if-is_of.ensures))))
    c.push_lot.ensures

pub returns-else-is_of : goal.returns-else-is_of
returns-else-is_of c =
    sym (ap (joined (moves_view c.args.moves.now)) (one_other c.args.me c.args.slots_at c.args.turn c.args.first c.args.lot.now c.in-Some.side (sym c.in-Some.ensures) (sym c.if-is_of.ensures)) ∙ joined-nothing (moves_view c.args.moves.now))

pub returns-in-None : goal.returns-in-None
returns-in-None c =
    sym (ap (joined (moves_view c.args.moves.now)) (one_gone c.args.me c.args.slots_at c.args.turn c.args.first c.args.lot.now (sym c.in-None.ensures)) ∙ joined-nothing (moves_view c.args.moves.now))
