-- The parts of a driver's step: what it names is there, what the machine answers to it, and what it moves. Each is a part
-- of nc_rules' outcomes that speaks of the machine or of the driver alone.
use Rattle.std.specs.Prelude.{ℕ, ◌<◌, Bool, true, false, List, [], length, Option, None, IsTrue}
use Rattle.nc_num.specs.declared.names.HartNo.{HartNo}
use Rattle.nc_model.specs.declared.owners.Owner.{Owner}
use Rattle.nc_model.specs.declared.touches.Touch.{Touch}
use Rattle.nc_coherent.specs.Pages.{PageMap}
use Rattle.nc_rules.specs.declared.records.Record.{Record}
use Rattle.nc_rules.specs.declared.steps.Next.{Next}
use Rattle.nc_rules.specs.declared.steps.Next.TheVariants as nexts
use Rattle.nc_rules.specs.declared.steps.Seen.{Seen}
use Rattle.nc_rules.specs.declared.steps.Seen.TheVariants as seen
use Rattle.nc_rules.specs.Calls.{may_issue, issue_next, issue_answer, claim_next, take_next, control_of}
use Rattle.nc_rules.specs.Driver.{DriverState, Went, stays, started, done, is_script}
use Rattle.nc_rules.specs.Machine.{MachineState, grantee_of}
use Rattle.nc_rules.specs.Outcomes.{seen_of, claim_seen}
use Rattle.nc_rules.specs.Records.{op_records}
use Rattle.nc_rules.specs.Sound.{OpIsThere}
use Rattle.nc_rules.specs.EventTouches.{issue_touch, poll_touch}
use Rattle.nc_rules.specs.World.{WorldState, driver_of}
use Rattle.nc_scripts.specs.Drivers.{ArePagesOf}
use Rattle.nc_driver.specs.Kept.{IsOver}

-- ---- the machine's part

-- what a step names is there
abbrev pub NextFits : MachineState → ℕ → Next → Type 0
NextFits m h nexts.End = Unit {0}
NextFits m h nexts.Start = Unit {0}
NextFits m h (nexts.Search k) = Unit {0}
NextFits m h (nexts.Op op) = OpIsThere m h op
NextFits m h (nexts.Claim chan) = chan.0 < 4
NextFits m h (nexts.Poll chan) = chan.0 < 4
NextFits m h (nexts.Take buf) = buf < length m.boxes

-- an operation may be issued
abbrev pub CanAct : MachineState → ℕ → Next → Type 0
CanAct m h nexts.End = Unit {0}
CanAct m h nexts.Start = Unit {0}
CanAct m h (nexts.Search k) = Unit {0}
CanAct m h (nexts.Op op) = IsTrue (may_issue m h op)
CanAct m h (nexts.Claim chan) = Unit {0}
CanAct m h (nexts.Poll chan) = Unit {0}
CanAct m h (nexts.Take buf) = Unit {0}

-- what hart h's next step sees
abbrev pub step_seen : MachineState → HartNo → Next → Seen
step_seen m h (nexts.Op op) = seen_of (issue_answer m h.0 op)
step_seen m h (nexts.Claim chan) = claim_seen (grantee_of m chan.0)
step_seen m h (nexts.Poll chan) = seen.Control (control_of m chan.0)
step_seen m h (nexts.Take buf) = seen.Nothing
step_seen m h nexts.End = seen.Nothing
step_seen m h nexts.Start = seen.Nothing
step_seen m h (nexts.Search k) = seen.Nothing

-- the machine after it
abbrev pub step_machine : MachineState → HartNo → Next → MachineState
step_machine m h (nexts.Op op) = issue_next m h.0 op
step_machine m h (nexts.Claim chan) = claim_next m h chan.0
step_machine m h (nexts.Take buf) = take_next m h.0 buf
step_machine m h (nexts.Poll chan) = m
step_machine m h nexts.End = m
step_machine m h nexts.Start = m
step_machine m h (nexts.Search k) = m

-- what is recorded of it
abbrev pub act_records : MachineState → HartNo → Bool → Next → List Record
act_records m h by_script (nexts.Op op) = op_records m h by_script op
act_records m h by_script nexts.End = []
act_records m h by_script nexts.Start = []
act_records m h by_script (nexts.Search k) = []
act_records m h by_script (nexts.Claim chan) = []
act_records m h by_script (nexts.Poll chan) = []
act_records m h by_script (nexts.Take buf) = []

-- the touch that it is
abbrev pub step_touch : WorldState → HartNo → Next → Option Touch
step_touch w h (nexts.Op op) = issue_touch w h (is_script (driver_of w h.0).phase) op
step_touch w h (nexts.Poll chan) = poll_touch w h chan
step_touch w h (nexts.Claim chan) = None
step_touch w h (nexts.Take buf) = None
step_touch w h nexts.End = None
step_touch w h nexts.Start = None
step_touch w h (nexts.Search k) = None

-- ---- the driver's part

-- the owners and the pages are those of the driver's scenario
pub record IsBeside (d : DriverState) (owners : List Owner) (pages : PageMap) : Type 0 where
  pub over : IsOver owners d
  pub pages_of : ArePagesOf d.fixed pages

-- a step that a driver makes
abbrev pub is_going : Next → Bool
is_going nexts.End = false
is_going (nexts.Search k) = false
is_going nexts.Start = true
is_going (nexts.Op op) = true
is_going (nexts.Claim chan) = true
is_going (nexts.Poll chan) = true
is_going (nexts.Take buf) = true

-- the driver after a step that saw this, and what it moves
abbrev pub went_on : DriverState → List Owner → PageMap → Next → Seen → Went
went_on d owners pages nexts.Start saw = started d owners pages
went_on d owners pages nexts.End saw = stays d
went_on d owners pages (nexts.Search k) saw = stays d
went_on d owners pages (nexts.Op op) saw = done d saw
went_on d owners pages (nexts.Claim chan) saw = done d saw
went_on d owners pages (nexts.Poll chan) saw = done d saw
went_on d owners pages (nexts.Take buf) saw = done d saw
