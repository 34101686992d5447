use Rattle.std.proofs.Common.{◌≡◌, ◌∙◌, sym, ap, subst}
use Rattle.nc_rules.specs.declared.steps.Next.TheVariants as nexts
use Rattle.nc_scripts.specs.Drivers.{ArePagesOf}
use Rattle.nc_rules.specs.Driver.{DriverState, next_of, started}
use Rattle.nc_driver.specs.Kept.{state}
use Rattle.nc_driver.proofs.SoundLaws.{started_sound, started_fixed, ready_after, fixed_after}
use Rattle.nc_driver.proofs.driver.Driver.start.Goals as goal

pub invariant_of-self : goal.invariant_of-self
invariant_of-self c =
    let d = state c.self.inside.course in
    let next = subst (λ (x : DriverState). next_of x ≡ nexts.Start) (sym c.self.view_is) c.requires.next in
    let of = subst (λ (x : DriverState). ArePagesOf x.fixed c.args.pages.now) (sym c.self.view_is) c.requires.pages in
    ready_after d (state c.start.new.self) (started d c.args.book.now.owners c.args.pages.now) c.start.result c.start.new.self.due c.self.invariant.kept (started_sound d c.args.book.now.owners c.args.pages.now c.self.invariant.kept next of) c.start.ensures.driver c.start.ensures.err c.start.ensures.due

pub returns-clause-fixed : goal.returns-clause-fixed
returns-clause-fixed c =
    let d = state c.self.inside.course in
    let next = subst (λ (x : DriverState). next_of x ≡ nexts.Start) (sym c.self.view_is) c.requires.next in
    let of = subst (λ (x : DriverState). ArePagesOf x.fixed c.args.pages.now) (sym c.self.view_is) c.requires.pages in
    fixed_after d (state c.start.new.self) (started d c.args.book.now.owners c.args.pages.now) c.start.result (started_fixed d c.args.book.now.owners c.args.pages.now c.self.invariant.kept next of) c.start.ensures.driver c.start.ensures.err ∙ ap (λ (x : DriverState). x.fixed) c.self.view_is
