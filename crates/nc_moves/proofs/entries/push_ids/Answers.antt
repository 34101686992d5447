use Rattle.std.proofs.Common.{ap, arith, rules, false, None, length}
use Rattle.nc_sg.specs.declared.list.Entry.{Entry}
use Rattle.nc_moves.proofs.MoveLaws.{each_room, each_next}
use Rattle.nc_moves.proofs.entries.push_ids.Goals as goal

abbrev blank : Entry
blank = record { span = record { at = 0; len = 0 }; bounced = false; slot = None }

pub push-requires : goal.push-requires
push-requires c = record { room = each_room c.args.me c.args.lot.now.id c.loop-i.i 32 (λ id e. id) c.args.lot.now.list.entries c.loop-i.ended _ blank c.loop-i.invariant (omega (arith, c.loop-i-test.true, ap length c.entries-i-end.ensures.value)) c.requires.few }

pub loop-i-preserved : goal.loop-i-preserved
loop-i-preserved c =
    each_next c.args.me c.args.lot.now.id c.loop-i.i (λ id e. id) c.args.lot.now.list.entries c.loop-i.ended c.push.new.self _ c.map_id.result blank
    c.loop-i.invariant (omega (arith, c.loop-i-test.true, ap length c.entries-i-end.ensures.value)) (search rules) c.map_id.ensures
