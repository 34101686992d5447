use Rattle.nc_calls.proofs.SoundDrain.{leaving_is}
use Rattle.nc_world.specs.Inside.{state_of}
use Rattle.nc_world.proofs.Outcomes.{entry_runs}
use Rattle.nc_world.proofs.Events.{ran, touch_logged}
use Rattle.nc_world.proofs.parts.Parts.drain_entry.Goals as goal

pub drain_touch-touch-requires : goal.drain_touch-touch-requires
drain_touch-touch-requires c = (leaving_is c.args.self.now.machine.machine c.args.h.0 c.args.i c.args.entry.now c.laws.ensures.machine c.requires.hart c.requires.leaves).there

pub returns : goal.returns
returns c =
    ran (entry_runs (state_of c.args.self.now) c.args.h c.args.i c.args.entry.now c.requires.leaves c.requires.plain c.in_ok-reserve.ensures.machine c.drain_touch-touch.ensures)
    c.drain.ensures.state c.in_ok-reserve.ensures.owners c.in_ok-reserve.ensures.grants c.touches_after-self.ensures c.one_more-self.ensures
    (touch_logged _ _ _ c.in_ok-reserve.ensures.records c.push.ensures.records c.touch.ensures.records c.drain.ensures.records)
