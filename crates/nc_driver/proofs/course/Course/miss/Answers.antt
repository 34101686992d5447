use Rattle.std.proofs.Common.{◌≡◌, ◌+◌, sym, subst, IfOk, nat_lt, false, arith}
use Rattle.std.proofs.lemmas.Bool.Decides.{nat_tests}
use Rattle.nc_rules.specs.Driver.{Went}
use Rattle.nc_driver.specs.Kept.{state}
use Rattle.nc_driver.proofs.KeptLaws.{missed_all}
use Rattle.nc_driver.proofs.course.Course.miss.Goals as goal

pub returns-clause-driver : goal.returns-clause-driver
returns-clause-driver c = λ o e.
    let d = state c.args.self.now in
    let h = c.slots.ensures in
    let g = c.if-k-slots.false in
    let is : nat_lt (c.args.k + 1) d.fixed.slots ≡ false = grind (arith, nat_tests) in
    subst (λ (w : Went). IfOk c.give_up.result (λ m. state c.give_up.new.self ≡ w.driver)) (sym (missed_all d o c.args.k is)) (c.give_up.ensures.driver o e)
