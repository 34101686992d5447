use Rattle.std.proofs.Common.{refl, sym, ◌∙◌}
use Rattle.nc_world.specs.Inside.{state_of}
use Rattle.nc_world.proofs.Answered.{bus_places}
use Rattle.nc_world.proofs.Disabled.{evict_none}
use Rattle.nc_world.proofs.Outcomes.{evict_runs, evict_off}
use Rattle.nc_world.proofs.Events.{ran, skipped, logged}
use Rattle.nc_world.proofs.Transfers.{evict_places}
use Rattle.nc_world.proofs.parts.Parts.evict.Goals as goal

pub transfers-requires-clause-places : goal.transfers-requires-clause-places
transfers-requires-clause-places c =
    bus_places c.args.self.now.machine.machine c.requires.sound.size (evict_places c.args.self.now.machine.machine c.args.h.0 c.args.b.0 c.sound.ensures c.requires.block)
    c.evict.ensures.answer c.in-Some.is c.as_slice.ensures.value

pub returns-in_default : goal.returns-in_default
returns-in_default c =
    skipped (evict_off (state_of c.args.self.now) c.args.h c.args.b c.evict.ensures.answer c.in_default.is)
    (evict_none c.args.self.now.machine.machine c.evict.new.self.machine c.args.h.0 c.args.b.0 (sym c.evict.ensures.answer ∙ c.in_default.is) c.evict.ensures.state)
    refl refl c.in_ok-reserve.ensures.records

pub returns : goal.returns
returns c =
    ran (evict_runs (state_of c.args.self.now) c.args.h c.args.b c.evict.ensures.answer c.in-Some.is c.requires.sound.size c.as_slice.ensures.value)
    c.evict.ensures.state refl refl refl c.one_more-self.ensures (logged _ _ c.in_ok-reserve.ensures.records c.push.ensures.records c.transfers.ensures.records)
