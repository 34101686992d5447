use Rattle.std.proofs.Common.{sym, subst, ap, ◌∙◌, List}
use Rattle.nc_rules.specs.declared.lots.Lot.{Lot}
use Rattle.nc_checks.specs.Due.{step_due}
use Rattle.nc_rules.specs.Start.{first_driver}
use Rattle.nc_rules.specs.Lots.{DriverConfig}
use Rattle.nc_checks.specs.Safe.{IsSafe}
use Rattle.nc_driver.proofs.FitLaws.{safe_of}
use Rattle.nc_driver.proofs.SoundLaws.{first_kept}
use Rattle.nc_driver.proofs.course.Course.new.Goals as goal

pub step_due-due-requires-clause-safe : goal.step_due-due-requires-clause-safe
unfolding first_driver
step_due-due-requires-clause-safe c =
    let k = first_kept c.args.sc.now c.args.me c.requires.accepted c.requires.hart in
    subst (λ (f : DriverConfig). IsSafe f) (sym c.in_ok-setup.ensures) (safe_of k.ram k.harts _ k.driver.fixed)

pub returns-clause-ready : goal.returns-clause-ready
unfolding first_driver
returns-clause-ready c =
    let k = first_kept c.args.sc.now c.args.me c.requires.accepted c.requires.hart in
    record {
      kept = rw (c.in_ok-setup.ensures, c.new.ensures.items, c.new-lots.ensures.items) k;
      due = c.step_due-due.ensures ∙ ap (λ (ls : List Lot). step_due c.in_ok-setup.setup ls 0 0) c.deref.ensures.value;
    }
