-- What an operation of a script means, as one value. This project's own.
use Rattle.std.specs.Prelude.{ℕ, Bool, true, false, List, [], Option, Some, None, Result, Ok}
use Rattle.nc_model.specs.declared.owners.Owner.{Owner}
use Rattle.nc_coherent.specs.Pages.{PageMap}
use Rattle.nc_rules.specs.declared.answers.Answer.{Answer}
use Rattle.nc_rules.specs.declared.answers.Refusal.{Refusal}
use Rattle.nc_rules.specs.declared.lots.Lot.{Lot}
use Rattle.nc_rules.specs.declared.steps.Seen.{Seen}
use Rattle.nc_rules.specs.declared.steps.Step.{Step}
use Rattle.nc_rules.specs.declared.steps.Turn.{Turn}
use Rattle.nc_rules.specs.declared.steps.Turn.TheVariants as turns

-- Each of the two ways may look at the lots that the hart has as it goes.
pub data Way : Type 0 where
  -- step n, counted from 0, and none behind the last. Its refusals are tested at each step
  ByNumber : (step : ℕ → Result (Option Step) Refusal) → Way
  -- a start step of its own tests the refusals, by the owners and the pages of then, and gives the new lots, which may
  -- want slots. Once each entry that waits for a slot has one, there come the opening turn and the steps of the plan
  ByPlan : (begin : List Owner → PageMap → Result (List Lot) Refusal) → (opening : Turn) → (plan : List Step) → Way

pub record Meaning : Type 0 where
  pub way : Way
  -- the answer at its end, by what its steps saw last
  pub good : Seen → Option Answer
  -- the answer where it is refused
  pub bad : Refusal → Answer

-- ---- the two ways, as far as an operation goes them

abbrev pub is_planned : Way → Bool
is_planned (ByNumber step) = false
is_planned (ByPlan begin opening plan) = true

abbrev pub step_of_way : Way → ℕ → Result (Option Step) Refusal
step_of_way (ByNumber step) n = step n
step_of_way (ByPlan begin opening plan) n = Ok None

abbrev pub begin_of_way : Way → List Owner → PageMap → Result (List Lot) Refusal
begin_of_way (ByNumber step) owners pages = Ok []
begin_of_way (ByPlan begin opening plan) owners pages = begin owners pages

abbrev pub opening_of_way : Way → Turn
opening_of_way (ByNumber step) = turns.Stay
opening_of_way (ByPlan begin opening plan) = opening

abbrev pub plan_of_way : Way → List Step
plan_of_way (ByNumber step) = []
plan_of_way (ByPlan begin opening plan) = plan

-- ---- answers

abbrev pub no_answer : Seen → Option Answer
no_answer saw = None

abbrev pub answer_with : Answer → Seen → Option Answer
answer_with a saw = Some a
