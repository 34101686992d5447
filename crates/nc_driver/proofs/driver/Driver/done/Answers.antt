use Rattle.std.proofs.Common.{◌≡◌, ◌∙◌, sym, ap, subst, true}
use Rattle.nc_scripts.specs.Scripts.{is_act}
use Rattle.nc_scripts.specs.Drivers.{IsSeenAt}
use Rattle.nc_rules.specs.Driver.{DriverState, next_of, done}
use Rattle.nc_driver.specs.Kept.{state}
use Rattle.nc_driver.proofs.SoundLaws.{done_sound, done_fixed, ready_after, fixed_after}
use Rattle.nc_driver.proofs.driver.Driver.done.Goals as goal

pub invariant_of-self : goal.invariant_of-self
invariant_of-self c =
    let d = state c.self.inside.course in
    let next = subst (λ (x : DriverState). is_act (next_of x) ≡ true) (sym c.self.view_is) c.requires.next in
    let seen = subst (λ (x : DriverState). IsSeenAt (next_of x) c.args.seen) (sym c.self.view_is) c.requires.seen in
    ready_after d (state c.done.new.self) (done d c.args.seen) c.done.result c.done.new.self.due c.self.invariant.kept (done_sound d c.args.seen c.self.invariant.kept next seen) c.done.ensures.driver c.done.ensures.err c.done.ensures.due

pub returns-clause-fixed : goal.returns-clause-fixed
returns-clause-fixed c =
    let d = state c.self.inside.course in
    let next = subst (λ (x : DriverState). is_act (next_of x) ≡ true) (sym c.self.view_is) c.requires.next in
    let seen = subst (λ (x : DriverState). IsSeenAt (next_of x) c.args.seen) (sym c.self.view_is) c.requires.seen in
    fixed_after d (state c.done.new.self) (done d c.args.seen) c.done.result (done_fixed d c.args.seen c.self.invariant.kept next seen) c.done.ensures.driver c.done.ensures.err ∙ ap (λ (x : DriverState). x.fixed) c.self.view_is
