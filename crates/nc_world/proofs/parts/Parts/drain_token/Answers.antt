use Rattle.std.proofs.Common.{refl}
use Rattle.nc_world.specs.Inside.{state_of}
use Rattle.nc_world.proofs.Kept.{may_carry}
use Rattle.nc_world.proofs.Outcomes.{token_goes}
use Rattle.nc_world.proofs.Events.{carried, logged}
use Rattle.nc_world.proofs.parts.Parts.drain_token.Goals as goal

pub lent-requires-clause-lent : goal.lent-requires-clause-lent
lent-requires-clause-lent c = c.tokens_are_lent.ensures (state_of c.args.self.now) c.args.h.0 c.args.i c.args.label c.args.first c.args.count c.requires.sound.holds c.requires.hart c.requires.leaves

pub carry-requires-clause-may : goal.carry-requires-clause-may
carry-requires-clause-may c =
    may_carry c.args.self.now c.laws.ensures.may c.laws.ensures.machine c.requires.sound c.requires.hart refl
    (token_goes (state_of c.args.self.now) c.args.h c.args.i c.args.label c.args.first c.args.count c.requires.leaves c.in_ok-reserve.ensures.machine)
    c.in_ok-moves.ensures.moves c.in_ok-reserve.ensures.owners c.in_ok-reserve.ensures.grants refl refl

pub returns : goal.returns
returns c =
    carried (token_goes (state_of c.args.self.now) c.args.h c.args.i c.args.label c.args.first c.args.count c.requires.leaves c.in_ok-reserve.ensures.machine)
    c.in_ok-moves.ensures.moves c.number-n.ensures c.drain.ensures.state c.in_ok-moves.ensures.driver c.in_ok-reserve.ensures.owners c.in_ok-reserve.ensures.grants refl refl
    (logged _ _ c.in_ok-reserve.ensures.records c.push.ensures.records c.drain.ensures.records) refl refl refl refl c.carry.ensures
