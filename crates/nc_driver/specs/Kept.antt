-- What every driver keeps: it is one of an accepted scenario, of some RAM and so many harts, and where steps are counted
-- the one that is due is at hand.
use Rattle.std.specs.Prelude.{ℕ, ◌≡◌, ◌+◌, ◌<◌, ◌≤◌, length, false, List, All, Option, Result}
use Rattle.nc_model.specs.declared.owners.Owner.{Owner}
use Rattle.nc_rules.specs.declared.answers.Refusal.{Refusal}
use Rattle.nc_rules.specs.declared.lots.Lot.{Lot}
use Rattle.nc_rules.specs.declared.steps.Phase.{Phase}
use Rattle.nc_rules.specs.declared.steps.Phase.TheVariants.{Steps, Search, Work}
use Rattle.nc_rules.specs.declared.steps.Step.{Step}
use Rattle.nc_rules.specs.Lots.{DriverConfig, lot_waits}
use Rattle.nc_rules.specs.Driver.{DriverState, Went, steps_done}
use Rattle.nc_scripts.specs.Drivers.{IsDriver, AreThere}
use Rattle.nc_checks.specs.Due.{step_due}
use Rattle.nc_checks.specs.Safe.{IsSafe}
use Rattle.nc_driver.specs.declared.course.Course.{Course}

pub record DriverInvariant (d : DriverState) : Type 0 where
  pub ram : ℕ
  pub harts : ℕ
  pub driver : IsDriver ram harts d

-- ---- the step that is due

-- a search and a plan at work go without it
abbrev pub due_of : DriverState → Result (Option Step) Refusal
due_of d = step_due d.fixed d.lots d.op (steps_done d.phase)

abbrev pub IsDueIn : DriverState → Phase → Result (Option Step) Refusal → Type 0
IsDueIn d (Steps n) due = due ≡ step_due d.fixed d.lots d.op n
IsDueIn d (Search k) due = Unit {0}
IsDueIn d Work due = Unit {0}

abbrev pub IsDue : DriverState → Result (Option Step) Refusal → Type 0
IsDue d due = IsDueIn d d.phase due

pub record IsReady (d : DriverState) (step : Result (Option Step) Refusal) : Type 0 where
  pub kept : DriverInvariant d
  pub due : IsDue d step

-- ---- what the code needs

-- where a course stands, as nc_rules says it
abbrev pub state : Course → DriverState
state c = record { fixed = c.setup; op = c.op; phase = c.phase; rest = c.rest.items; lots = c.lots.items; saw = c.saw }

-- what is known from the start
pub record IsFit (f : DriverConfig) : Type 0 where
  pub safe : IsSafe f
  pub short : length f.script ≤ 4096
  pub slots : f.slots ≤ 64
  pub slots_at : f.slots_at ≤ 1048576

-- each entry that bounces has its slot
abbrev pub ArePlaced : List Lot → Type 0
ArePlaced lots = All (λ lot. lot_waits lot ≡ false) lots

-- they are of names that a hart's lots have: entries from the first or the second on
abbrev pub AreNamed : List Lot → Type 0
AreNamed lots = All (λ lot. lot.id.first < 2) lots

-- what a call leaves and moves is there
pub record IsSound (w : Went) : Type 0 where
  pub ram : ℕ
  pub harts : ℕ
  pub driver : IsDriver ram harts w.driver
  pub moves : AreThere ram w.driver.fixed w.moves

-- each byte that a start looks at has an owner
pub record IsOver (owners : List Owner) (d : DriverState) : Type 0 where
  pub buffers : All (λ b. b.at + b.len ≤ length owners) d.fixed.buffers
  pub lots : All (λ lot. All (λ e. e.span.at + e.span.len ≤ length owners) lot.list.entries) d.lots
