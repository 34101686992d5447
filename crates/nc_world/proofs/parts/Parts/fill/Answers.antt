use Rattle.std.proofs.Common.{refl, sym, ap, ◌∙◌}
use Rattle.nc_rules.specs.Calls.{fill_answer}
use Rattle.nc_rules.specs.Machine.{MachineState}
use Rattle.nc_world.specs.Inside.{state_of}
use Rattle.nc_world.proofs.Answered.{bus_places}
use Rattle.nc_world.proofs.Disabled.{fill_none}
use Rattle.nc_world.proofs.Outcomes.{fill_runs, fill_off}
use Rattle.nc_world.proofs.Events.{ran, skipped, logged}
use Rattle.nc_world.proofs.Transfers.{fill_places}
use Rattle.nc_world.proofs.parts.Parts.fill.Goals as goal

pub transfers-requires-clause-places : goal.transfers-requires-clause-places
transfers-requires-clause-places c =
    bus_places c.args.self.now.machine.machine c.requires.sound.size (fill_places c.args.self.now.machine.machine c.args.h.0 c.args.b.0 c.sound.ensures c.requires.block)
    (c.fill.ensures.answer ∙ ap (λ (m : MachineState). fill_answer m c.args.h.0 c.args.b.0) c.in_ok-reserve.ensures.machine) c.in-Some.is c.as_slice.ensures.value

pub returns-in_default : goal.returns-in_default
returns-in_default c =
    let h = c.args.h.0 in
    let b = c.args.b.0 in
    skipped (fill_off (state_of c.args.self.now) c.args.h c.args.b c.in_ok-reserve.ensures.machine c.fill.ensures.answer c.in_default.is)
    (fill_none c.reserve.new.machine.machine c.fill.new.self.machine h b (sym c.fill.ensures.answer ∙ c.in_default.is) c.fill.ensures.state ∙ c.in_ok-reserve.ensures.machine)
    c.in_ok-reserve.ensures.owners c.in_ok-reserve.ensures.grants c.in_ok-reserve.ensures.records

pub returns : goal.returns
returns c =
    ran (fill_runs (state_of c.args.self.now) c.args.h c.args.b c.in_ok-reserve.ensures.machine c.fill.ensures.answer c.in-Some.is c.requires.sound.size c.as_slice.ensures.value)
    c.fill.ensures.state c.in_ok-reserve.ensures.owners c.in_ok-reserve.ensures.grants refl c.one_more-self.ensures
    (logged _ _ c.in_ok-reserve.ensures.records c.push.ensures.records c.transfers.ensures.records)
