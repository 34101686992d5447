use Rattle.std.proofs.Common.{ℕ, List, sym, subst, Option}
use Rattle.std.specs.Prelude.{All, IfSome}
use Rattle.nc_cache.specs.declared.line.BusRec.{BusRec}
use Rattle.nc_queue.specs.declared.entry.Entry.{Entry}
use Rattle.nc_log.specs.Logs.{HasPlace, EntryHasPlace}
use Rattle.nc_world.proofs.Answered.{drain_place, drain_bus_places}
use Rattle.nc_world.proofs.acts.drain.Goals as goal

pub drained-requires-clause-place : goal.drained-requires-clause-place
drained-requires-clause-place c =
    let m = c.args.machine.now.machine in
    let all = drain_place m c.args.h.0 c.args.i c.drain.result c.sound.ensures c.requires.hart c.drain.ensures.answer in
    subst (λ (size : ℕ). EntryHasPlace size c.in-Some.entry) (sym c.requires.size)
    (subst (λ (r : Option (Entry × List BusRec)). IfSome r (λ p. EntryHasPlace m.size p.0)) c.in-Some.is all)

pub transfers-requires-clause-places : goal.transfers-requires-clause-places
transfers-requires-clause-places c =
    let m = c.args.machine.now.machine in
    let all = drain_bus_places m c.args.h.0 c.args.i c.drain.result c.sound.ensures c.requires.hart c.drain.ensures.answer in
    let bus = subst (λ (r : Option (Entry × List BusRec)). IfSome r (λ p. All (HasPlace m.size) p.1)) c.in-Some.is all in
    subst (λ (size : ℕ). All (HasPlace size) c.as_slice.result.now) (sym c.requires.size)
    (subst (λ (ts : List BusRec). All (HasPlace m.size) ts) (sym c.as_slice.ensures.value) bus)
