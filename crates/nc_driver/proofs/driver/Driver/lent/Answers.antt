use Rattle.std.proofs.Common.{◌∙◌, sym, ap, subst}
use Rattle.nc_rules.specs.Lots.{lot_id}
use Rattle.nc_scripts.specs.Drivers.{IsLentAt}
use Rattle.nc_rules.specs.Driver.{DriverState, lent}
use Rattle.nc_driver.specs.Kept.{state}
use Rattle.nc_driver.proofs.SoundLaws.{lent_sound, lent_fixed, ready_after, fixed_after}
use Rattle.nc_driver.proofs.driver.Driver.lent.Goals as goal

pub invariant_of-self : goal.invariant_of-self
invariant_of-self c =
    let d = state c.self.inside.course in
    let at = subst (λ (x : DriverState). IsLentAt x.lots (lot_id c.args.label c.args.first)) (sym c.self.view_is) c.requires.lent in
    ready_after d (state c.lent.new.self) (lent d c.args.label c.args.first) c.lent.result c.lent.new.self.due c.self.invariant.kept (lent_sound d c.args.label c.args.first c.self.invariant.kept at) c.lent.ensures.driver c.lent.ensures.err c.lent.ensures.due

pub returns-clause-fixed : goal.returns-clause-fixed
returns-clause-fixed c =
    let d = state c.self.inside.course in
    let at = subst (λ (x : DriverState). IsLentAt x.lots (lot_id c.args.label c.args.first)) (sym c.self.view_is) c.requires.lent in
    fixed_after d (state c.lent.new.self) (lent d c.args.label c.args.first) c.lent.result (lent_fixed d c.args.label c.args.first c.self.invariant.kept at) c.lent.ensures.driver c.lent.ensures.err ∙ ap (λ (x : DriverState). x.fixed) c.self.view_is
