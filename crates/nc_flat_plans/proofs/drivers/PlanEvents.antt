-- A step of a plan: a piece of a copy, a cache operation, a full fence, or the marker or the token of a light one.
use Rattle.std.specs.Prelude.{Option, Some, true}
use Rattle.std.proofs.Common.{◌≡◌, ℕ, List, [], ◌∷◌, length, refl, sym, ap, ◌∙◌, subst, arith}
use Rattle.nc_num.specs.declared.names.HartNo.{HartNo}
use Rattle.nc_ops.specs.declared.ops.Op.{Op}
use Rattle.nc_scen.specs.declared.events.Event.TheVariants as events
use Rattle.nc_scen.specs.declared.scenario.Scenario.{Scenario}
use Rattle.nc_scripts.specs.Drivers.{IsAtWork, IsPhase}
use Rattle.nc_rules.specs.declared.steps.Phase.{Phase}
use Rattle.nc_rules.specs.declared.steps.Phase.TheVariants.{Work}
use Rattle.nc_rules.specs.declared.steps.Step.{Step}
use Rattle.nc_rules.specs.Copies.{copy_steps}
use Rattle.nc_rules.specs.Driver.{in_hand}
use Rattle.nc_rules.specs.World.{WorldState, driver_of}
use Rattle.nc_flatness.specs.Lending.{is_lending}
use Rattle.nc_flatness.specs.Plans.{StepGoes, Loads, Stores, WritesBack, Drops, Gives, Fences, Ends, Zeroes, Flushes, Settles, GivesArea, TakesBack, Marks, Posts, Claims, Registers, Polls, TakesTarget, TakesSource, PlanGoes, EndsOne}
use Rattle.nc_flatness.specs.Flatness.{PlanOf, StandsAt}
use Rattle.nc_flatness.specs.Steps.{IsNow, Goes, PlansAreFlat, OfLots, kind_of_act, kind_of_next}
use Rattle.nc_flatness.proofs.plans.Rests.{plan_next}
use Rattle.nc_flatness.proofs.plans.CopySteps.{of_lots}
use Rattle.nc_flatness.proofs.plans.LendingPlans.{plan_left}
use Rattle.nc_flat_plans.proofs.drivers.Drivers.{IsNext}
use Rattle.nc_flat_plans.proofs.operations.Loads.{loaded_goes}
use Rattle.nc_flat_plans.proofs.operations.Stores.{stored_goes}
use Rattle.nc_flat_plans.proofs.operations.Cbos.{written_goes, dropped_goes}
use Rattle.nc_flat_plans.proofs.operations.Fences.{given_goes, fenced_goes, ended_goes}
use Rattle.nc_flat_plans.proofs.areas.AreaSteps.{flushed_goes, zeroed_goes}
use Rattle.nc_flat_plans.proofs.areas.AreaFences.{settled_goes, area_given_goes, taken_goes}
use Rattle.nc_flat_plans.proofs.light.LightEvents.{marked_goes, posted_goes}
use Rattle.nc_flat_plans.proofs.operations.Takes.{target_goes, source_goes}

step_by : (sc : Scenario) (f : List ℕ) (w : WorldState) (h : HartNo) (o : Op) (s : Step) (rest : List Step) → IsNext sc f w h o s rest → StepGoes (driver_of w h.0).fixed (driver_of w h.0).lots s rest → Goes sc f w (events.Issue h)
step_by sc f w h o s rest k (Loads is) = loaded_goes sc f w h o s rest k is
step_by sc f w h o s rest k (Stores is) = stored_goes sc f w h o s rest k is
step_by sc f w h o s rest k (WritesBack is) = written_goes sc f w h o s rest k is
step_by sc f w h o s rest k (Drops is) = dropped_goes sc f w h o s rest k is
step_by sc f w h o s rest k (Gives is) = given_goes sc f w h o s rest k is
step_by sc f w h o s rest k (Fences is) = fenced_goes sc f w h o s rest k is
step_by sc f w h o s rest k (Ends is) = ended_goes sc f w h o s rest k is
step_by sc f w h o s rest k (Zeroes is) = zeroed_goes sc f w h o s rest k is
step_by sc f w h o s rest k (Flushes is) = flushed_goes sc f w h o s rest k is
step_by sc f w h o s rest k (Settles is) = settled_goes sc f w h o s rest k is
step_by sc f w h o s rest k (GivesArea is) = area_given_goes sc f w h o s rest k is
step_by sc f w h o s rest k (TakesBack is) = taken_goes sc f w h o s rest k is
step_by sc f w h o s rest k (Marks is) = marked_goes sc f w h o s rest k is
step_by sc f w h o s rest k (Posts is) = posted_goes sc f w h o s rest k is
step_by sc f w h o s rest k (TakesTarget is) = target_goes sc f w h o s rest k is
step_by sc f w h o s rest k (TakesSource is) = source_goes sc f w h o s rest k is
-- those of claims and of channels are none of lots
step_by sc f w h o s rest k (Claims is) =
    let both : kind_of_next (copy_steps (driver_of w h.0).fixed is.chan is.config is.reads is.writes) ≡ OfLots = sym (ap kind_of_next is.steps) ∙ k.kind in
    absurd cc
step_by sc f w h o s rest k (Registers is) = let both = sym (ap (λ (t : Step). kind_of_act t.act) is.step) ∙ k.kind in absurd (cc)
step_by sc f w h o s rest k (Polls is) = let both = sym (ap (λ (t : Step). kind_of_act t.act) is.step) ∙ k.kind in absurd (cc)

-- a rest is left
rest_by : (sc : Scenario) (f : List ℕ) (w : WorldState) (h : HartNo) (o : Op) (rest : List Step) → IsNow sc f w (events.Issue h) → in_hand (driver_of w h.0) ≡ Some o → is_lending o ≡ true → (driver_of w h.0).phase ≡ Work → (driver_of w h.0).rest ≡ rest → kind_of_next rest ≡ OfLots
    → PlanGoes (driver_of w h.0).fixed (driver_of w h.0).lots rest → ((driver_of w h.0).fixed.light ≡ true → EndsOne rest) → Goes sc f w (events.Issue h)
rest_by sc f w h o [] now hand is phase left kind plan one =
    let d = driver_of w h.0 in
    let held = now.flat.world.holds.each h.0 (omega (arith, now.there, now.flat.world.of_scenario.harts)) in
    let work : IsAtWork d = subst (λ (p : Phase). IsPhase d p) phase held.driver.phase in
    absurd (omega (arith, work.some, ap (λ (r : List Step). length r) left))
rest_by sc f w h o (s ∷ rest) now hand is phase left kind plan one =
    step_by sc f w h o s rest
    (record { now = now; hand = hand; lends = is; phase = phase; rest_is = left; kind = kind; goes = plan.0; plan = plan; left = plan_next (driver_of w h.0).fixed (driver_of w h.0).lots s rest plan (of_lots s.act kind).polls; one = one }) plan.0

pub plans_go : PlansAreFlat
plans_go sc f w h o now hand is phase kind =
    let d = driver_of w h.0 in
    let stands : StandsAt d Work = subst (λ (p : Phase). StandsAt d p) phase (now.flat.bytes.drives h.0 now.there).stands in
    let plan = (plan_left d o is).left (subst (λ (p : Option Op). PlanOf d p) hand stands) in
    rest_by sc f w h o d.rest now hand is phase refl kind plan.goes plan.one
