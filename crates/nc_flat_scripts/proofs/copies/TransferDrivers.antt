-- A driver that makes a step of its plan which turns nothing.
use Rattle.std.specs.Prelude.{Option, Some, None, true, All}
use Rattle.std.proofs.Common.{◌≡◌, List, [], ◌∷◌, refl, sym, ap, ◌∙◌, subst}
use Rattle.nc_ops.specs.declared.ops.Op.{Op}
use Rattle.nc_rules.specs.declared.steps.Act.{Act}
use Rattle.nc_rules.specs.declared.steps.Phase.{Phase}
use Rattle.nc_rules.specs.declared.steps.Phase.TheVariants.{Work}
use Rattle.nc_rules.specs.declared.steps.Seen.{Seen}
use Rattle.nc_rules.specs.declared.steps.Step.{Step}
use Rattle.nc_rules.specs.Driver.{DriverState, Went, in_hand, kept, busy, went_to, worked, done, done_of, done_unless, done_in}
use Rattle.nc_rules.specs.Plans.{step}
use Rattle.nc_rules.specs.Turns.{turned_by}
use Rattle.nc_flatness.specs.Copying.{IsBegun}
use Rattle.nc_flatness.specs.Lending.{is_lending}
use Rattle.nc_flatness.specs.Flatness.{IsMapping, PlanLeft, PlanOf, StandsAt, Drives}
use Rattle.nc_flatness.specs.Plans.{PlanGoes, EndsOne}
use Rattle.nc_flatness.proofs.plans.LendingPlans.{plan_left}

-- at work on an operation that lends or takes back it has a plan that goes through
pub at_work : (d : DriverState) (o : Op) → Drives d → in_hand d ≡ Some o → is_lending o ≡ true → d.phase ≡ Work → PlanLeft d
at_work d o drives hand lends phase =
    (plan_left d o lends).left (subst (λ (k : Option Op). PlanOf d k) hand (subst (λ (p : Phase). StandsAt d p) phase drives.stands))

-- how it stands behind the step
pub record IsWent (d : DriverState) (left : List Step) (shown : Seen) (went : Went) : Type 0 where
  pub fixed : went.driver.fixed ≡ d.fixed
  pub lots : went.driver.lots ≡ d.lots
  pub rest : went.driver.rest ≡ left
  pub transfers : went.moves.transfers ≡ []
  pub drives : Drives went.driver
  pub hand : IsBegun went.driver.phase → in_hand went.driver ≡ in_hand d
  pub saw : IsBegun went.driver.phase → went.driver.saw ≡ shown

worked_so : (d : DriverState) (o : Op) (a : Act) (rest : List Step) (saw : Seen) → in_hand d ≡ Some o → is_lending o ≡ true → All IsMapping d.lots → PlanGoes d.fixed d.lots rest → (d.fixed.light ≡ true → EndsOne rest) → IsWent d rest saw (worked d o saw (step a ∷ rest))
unfolding turned_by
worked_so d o a [] saw hand lends all left one = record {
  fixed = refl;
  lots = refl;
  rest = refl;
  transfers = refl;
  drives = record { lots = all; stands = left; idle = refl };
  hand = λ begun. absurd begun;
  saw = λ begun. absurd begun;
}
worked_so d o a (s ∷ rest) saw hand lends all left one =
    let now = went_to d d.lots saw (s ∷ rest) in
    record {
      fixed = refl;
      lots = refl;
      rest = refl;
      transfers = refl;
      drives = record {
        lots = all;
        stands = subst (λ (p : Option Op). PlanOf now p) (sym hand) ((plan_left now o lends).is (record { goes = left; one = one }));
        idle = tt;
      };
      hand = λ begun. refl;
      saw = λ begun. refl;
    }

pub done_so : (d : DriverState) (o : Op) (a : Act) (rest : List Step) (saw : Seen) → in_hand d ≡ Some o → is_lending o ≡ true → d.phase ≡ Work → d.rest ≡ step a ∷ rest → busy saw ≡ None → All IsMapping d.lots → PlanGoes d.fixed d.lots rest → (d.fixed.light ≡ true → EndsOne rest)
    → IsWent d rest (kept d.saw saw) (done d saw)
unfolding done
done_so d o a rest saw hand lends phase is free all left one =
    let same : done_of d saw (in_hand d) ≡ worked d o (kept d.saw saw) (step a ∷ rest) =
    ap (λ (k : Option Op). done_of d saw k) hand ∙ ap (done_unless d o saw) free ∙ ap (λ (p : Phase). done_in d o (kept d.saw saw) p) phase ∙ ap (λ (r : List Step). worked d o (kept d.saw saw) r) is in
    subst (λ (went : Went). IsWent d rest (kept d.saw saw) went) (sym same) (worked_so d o a rest (kept d.saw saw) hand lends all left one)
