use Rattle.std.proofs.Common.{◌∙◌, ap, List}
use Rattle.nc_rules.specs.declared.lots.Lot.{Lot}
use Rattle.nc_rules.specs.declared.steps.Turn.TheVariants as turns
use Rattle.nc_rules.specs.Lots.{lot_id}
use Rattle.nc_rules.specs.Driver.{lent, with_lots}
use Rattle.nc_scripts.proofs.LotLaws.{placed_stay}
use Rattle.nc_driver.specs.Kept.{state}
use Rattle.nc_driver.proofs.SoundLaws.{lent_sound, steps_placed}
use Rattle.nc_driver.proofs.course.Course.lent.Goals as goal

pub turned-requires-clause-few : goal.turned-requires-clause-few
unfolding lent
turned-requires-clause-few c =
    let s = lent_sound (state c.args.self.now) c.args.label c.args.first c.requires.ready.kept c.requires.lent in
    (s.ram, s.moves)

pub renew-requires-clause-placed : goal.renew-requires-clause-placed
renew-requires-clause-placed c = λ n e.
    rw c.turn.ensures (placed_stay (turns.Give (lot_id c.args.label c.args.first)) c.args.self.now.lots.items (steps_placed (state c.args.self.now) n c.requires.ready.kept e))

pub returns-clause-driver : goal.returns-clause-driver
unfolding lent
returns-clause-driver c = c.renew.ensures.state ∙ ap (λ (ls : List Lot). with_lots (state c.args.self.now) ls) c.turn.ensures

pub returns-clause-moves : goal.returns-clause-moves
unfolding lent
returns-clause-moves c = c.in_ok-moves.ensures
