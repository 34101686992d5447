use Rattle.std.proofs.Common.{◌∙◌, ap}
use Rattle.nc_rules.specs.Driver.{DriverState, told}
use Rattle.nc_driver.specs.Kept.{state}
use Rattle.nc_driver.proofs.SoundLaws.{told_sound, told_fixed, ready_after, fixed_after}
use Rattle.nc_driver.proofs.driver.Driver.told.Goals as goal

pub invariant_of-self : goal.invariant_of-self
invariant_of-self c =
    let d = state c.self.inside.course in
    ready_after d (state c.told.new.self) (told d c.args.got) c.told.result c.told.new.self.due c.self.invariant.kept (told_sound d c.args.got c.self.invariant.kept) c.told.ensures.driver c.told.ensures.err c.told.ensures.due

pub returns-clause-fixed : goal.returns-clause-fixed
returns-clause-fixed c =
    let d = state c.self.inside.course in
    fixed_after d (state c.told.new.self) (told d c.args.got) c.told.result (told_fixed d c.args.got c.self.invariant.kept) c.told.ensures.driver c.told.ensures.err ∙ ap (λ (x : DriverState). x.fixed) c.self.view_is
