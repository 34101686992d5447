use Rattle.std.proofs.Common.{◌∙◌, sym, ap, List}
use Rattle.nc_rules.specs.declared.lots.Lot.{Lot}
use Rattle.nc_rules.specs.Operations as rules
use Rattle.nc_scripts.proofs.LotLaws.{placed_stay}
use Rattle.nc_driver.specs.Kept.{state}
use Rattle.nc_driver.proofs.KeptLaws.{open_went}
use Rattle.nc_driver.proofs.course.Course.open.Goals as goal

pub go-requires-clause-placed : goal.go-requires-clause-placed
go-requires-clause-placed c = rw c.turn.ensures (placed_stay c.opening-opening.result c.args.self.now.lots.items c.requires.placed)

pub returns-clause-driver : goal.returns-clause-driver
returns-clause-driver c = λ o e.
    let d = state c.args.self.now in
    let p = c.in-Some.op.now in
    let turn = c.opening-opening.ensures ∙ ap (λ (ls : List Lot). rules.opening d.fixed ls p) c.deref-2.ensures.value in
    let plan = c.in_ok-plan.ensures d.fixed (sym c.lender.ensures) ∙ ap (λ (ls : List Lot). rules.plan_of d.fixed ls p) c.deref.ensures.value in
    c.go.ensures.state ∙ open_went d o p c.opening-opening.result c.turn.new.lots.items c.in_ok-plan.plan.items e c.in-Some.ensures.op c.turn.ensures turn plan
