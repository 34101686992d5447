use Rattle.std.proofs.Common.{◌≡◌, length, sym, arith}
use Rattle.nc_machine.proofs.Loads.{none_gives}
use Rattle.nc_machine.proofs.harts.reaches_below.Goals as goal

pub returns-then-len-eq0 : goal.returns-then-len-eq0
returns-then-len-eq0 c =
    let none : length c.args.queue.now.entries ≡ 0 = omega (arith, c.len.ensures.value, c.if-len-eq0.true) in
    sym (none_gives c.args.size c.args.queue.now.entries c.args.span.at c.args.span.len none)
