use Rattle.std.proofs.Common.{◌≡◌, false, ltb, ◌∙◌, ap, sym, arith}
use Rattle.std.proofs.lemmas.Bool.Decides.{nat_tests}
use Rattle.nc_queue.specs.Ring.{listed}
use Rattle.nc_queue.specs.Rules.{may_leave}
use Rattle.nc_queue.proofs.Drained.{may_drain-there, may_drain-past}
use Rattle.nc_queue.proofs.rules.may_drain.Goals as goal

pub returns-then-i-len-clause-value : goal.returns-then-i-len-clause-value
returns-then-i-len-clause-value c =
    c.may_leave.ensures ∙ ap (λ q. may_leave c.args.size q c.get.result.now) c.first.ensures
    ∙ sym (may_drain-there c.args.size (listed c.args.entries) c.args.i c.get.result.now (omega arith) c.get.ensures)

pub returns-else-i-len-clause-value : goal.returns-else-i-len-clause-value
returns-else-i-len-clause-value c =
    let no : ltb c.args.i c.len.result ≡ false = grind (arith, nat_tests) in
    no ∙ sym (may_drain-past c.args.size (listed c.args.entries) c.args.i (omega arith))
