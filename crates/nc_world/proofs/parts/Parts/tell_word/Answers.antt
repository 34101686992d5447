use Rattle.std.proofs.Common.{refl, sym, ◌∙◌}
use Rattle.nc_world.specs.Inside.{state_of}
use Rattle.nc_world.proofs.Fits.{word_there}
use Rattle.nc_world.proofs.Kept.{may_carry}
use Rattle.nc_world.proofs.Outcomes.{tell_goes}
use Rattle.nc_world.proofs.Events.{carried, logged}
use Rattle.nc_world.proofs.parts.Parts.tell_word.Goals as goal

pub take_word-requires : goal.take_word-requires
take_word-requires c = word_there (state_of c.args.self.now) c.args.h.0 c.in-Some.k c.laws.ensures.stays c.requires.sound.holds c.requires.hart (sym c.searching.ensures ∙ c.in-Some.is)

pub carry-requires-clause-may : goal.carry-requires-clause-may
carry-requires-clause-may c =
    may_carry c.args.self.now c.laws.ensures.may c.laws.ensures.machine c.requires.sound c.requires.hart refl
    (tell_goes (state_of c.args.self.now) c.args.h c.in-Some.k c.searching.ensures c.in-Some.is c.holder-holder.ensures c.is_got.ensures)
    c.in_ok-moves.ensures.moves c.in_ok-reserve.ensures.owners c.in_ok-reserve.ensures.grants c.take_word.ensures refl

pub returns : goal.returns
returns c =
    carried (tell_goes (state_of c.args.self.now) c.args.h c.in-Some.k c.searching.ensures c.in-Some.is c.holder-holder.ensures c.is_got.ensures)
    c.in_ok-moves.ensures.moves c.number-n.ensures c.in_ok-reserve.ensures.machine c.in_ok-moves.ensures.driver c.in_ok-reserve.ensures.owners c.in_ok-reserve.ensures.grants c.take_word.ensures refl
    (logged _ _ c.in_ok-reserve.ensures.records c.push.ensures.records c.told-2.ensures.records) refl refl refl refl c.carry.ensures
