use Rattle.std.proofs.Common.{arith, false, None}
use Rattle.nc_sg.specs.declared.list.Entry.{Entry}
use Rattle.nc_rules.specs.Lots.{owner_of_side}
use Rattle.nc_moves.proofs.MoveLaws.{each_room}
use Rattle.nc_moves.proofs.entries.push_side.Goals as goal

abbrev blank : Entry
blank = record { span = record { at = 0; len = 0 }; bounced = false; slot = None }

pub push-requires : goal.push-requires
push-requires c = record { room = each_room c.args.me c.args.lot.now.id c.loop-i.i 34 (λ id e. (e.span, owner_of_side id c.args.side)) c.entries-entries.result.now c.loop-i.transfers _ blank c.loop-i.invariant (omega (arith, c.loop-i-test.true)) c.requires.few }
