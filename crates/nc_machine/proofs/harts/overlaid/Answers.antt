use Rattle.std.proofs.Common.{◌≡◌, length, sym, arith}
use Rattle.nc_machine.proofs.Loads.{overlaid_by_none}
use Rattle.nc_machine.proofs.harts.overlaid.Goals as goal

pub returns-then-len-eq0 : goal.returns-then-len-eq0
returns-then-len-eq0 c =
    let none : length c.args.queue.now.entries ≡ 0 = omega (arith, c.len.ensures.value, c.if-len-eq0.true) in
    sym (overlaid_by_none c.args.size c.args.queue.now.entries c.args.at c.args.below.now none)
