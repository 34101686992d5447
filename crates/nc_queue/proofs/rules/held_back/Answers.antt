use Rattle.std.specs.List.{list_any}
use Rattle.std.proofs.Common.{◌∙◌, ap, arith}
use Rattle.nc_queue.specs.Ring.{listed}
use Rattle.nc_queue.specs.Rules.{orders}
use Rattle.nc_queue.specs.declared.entry.Entry.{Entry}
use Rattle.nc_queue.proofs.Held.{held_none, held_by, not_held_by}
use Rattle.nc_queue.proofs.rules.held_back.Goals as goal

pub loop-j-init : goal.loop-j-init
loop-j-init c = held_none c.args.e.now

pub returns-then-holds_back : goal.returns-then-holds_back
returns-then-holds_back c =
    held_by (listed c.args.before) c.loop-j.j c.get.result.now c.args.e.now c.holds_back.result (omega arith) c.get.ensures
    (c.holds_back.ensures ∙ ap (list_any (λ (a : Entry). orders c.get.result.now a c.args.e.now)) c.first.ensures) c.if-holds_back.true

pub loop-j-preserved : goal.loop-j-preserved
loop-j-preserved c =
    not_held_by (listed c.args.before) c.loop-j.j c.get.result.now c.args.e.now c.holds_back.result (omega arith) c.loop-j.invariant c.get.ensures
    (c.holds_back.ensures ∙ ap (list_any (λ (a : Entry). orders c.get.result.now a c.args.e.now)) c.first.ensures) c.if-holds_back.false
