-- What one event does to flat memory, as statements.
use Rattle.std.specs.Prelude.{ℕ, ◌≡◌, ◌⊎◌, Bool, true, false, List, [], ◌∷◌, length, Some}
use Rattle.nc_num.specs.declared.names.ChanNo.{ChanNo}
use Rattle.nc_num.specs.declared.names.HartNo.{HartNo}
use Rattle.nc_num.specs.declared.places.Block.{Block}
use Rattle.nc_plan.specs.declared.ops.HartOp.{HartOp}
use Rattle.nc_plan.specs.declared.ops.HartOp.TheVariants as hart_ops
use Rattle.nc_plan.specs.declared.ops.IoTarget.{IoTarget}
use Rattle.nc_plan.specs.declared.ops.IoTarget.TheVariants as io
use Rattle.nc_model.specs.Flat.{TraceItem, Touched, Latest, Untouched, flat, deeds}
use Rattle.nc_scen.specs.Accepted.{IsAccepted}
use Rattle.nc_scen.specs.Events.{IsThere}
use Rattle.nc_scen.specs.declared.events.Event.{Event}
use Rattle.nc_scen.specs.declared.events.Event.TheVariants as events
use Rattle.nc_scen.specs.declared.scenario.Scenario.{Scenario}
use Rattle.nc_rules.specs.Events.{enabled}
use Rattle.nc_rules.specs.Flat.{event_trace}
use Rattle.nc_rules.specs.Next.{next}
use Rattle.nc_rules.specs.Start.{memory}
use Rattle.nc_ops.specs.declared.ops.Op.{Op}
use Rattle.nc_rules.specs.declared.steps.Act.{Act}
use Rattle.nc_rules.specs.declared.steps.Act.TheVariants as acts
use Rattle.nc_rules.specs.declared.steps.Phase.TheVariants.{Steps, Work}
use Rattle.nc_rules.specs.declared.steps.Step.{Step}
use Rattle.nc_rules.specs.Driver.{in_hand}
use Rattle.nc_rules.specs.World.{WorldState, driver_of, start}
use Rattle.nc_flatness.specs.Flatness.{IsWorldOf, BytesStand, Flatness}
use Rattle.nc_flatness.specs.Lending.{is_lending}

-- a touch comes before all else
pub record IsTouch (ms : List TraceItem) : Type 0 where
  pub rest : List TraceItem
  pub first : ms ≡ Touched ∷ rest

-- no touch: the reads show flat memory, and its bytes, with the writes made, stand in the world behind them
pub record GoesTo (sc : Scenario) (f : List ℕ) (ms : List TraceItem) (w : WorldState) : Type 0 where
  pub untouched : Untouched ms
  pub latest : Latest f ms
  pub bytes : BytesStand sc (flat f (deeds ms)) w

abbrev pub EventGoes : Scenario → List ℕ → List TraceItem → WorldState → Type 0
EventGoes sc f ms w = IsTouch ms ⊎ GoesTo sc f ms w

-- an event that may happen, in a world with flat memory f of an accepted scenario
pub record IsNow (sc : Scenario) (f : List ℕ) (w : WorldState) (e : Event) : Type 0 where
  pub accepted : IsAccepted sc
  pub flat : Flatness sc f w
  pub there : IsThere (length sc.harts) sc.block_size sc.ram e
  pub may : enabled w e ≡ true

-- it begins with a touch, or flat memory's bytes stand behind it
abbrev pub Goes : Scenario → List ℕ → WorldState → Event → Type 0
Goes sc f w e = EventGoes sc f (event_trace w e) (next w e)

-- ---- the laws

-- the start of each scenario
abbrev pub WorldsStart : Type 0
WorldsStart = (sc : Scenario) → IsAccepted sc → IsWorldOf sc (start sc)

abbrev pub StartIsFlat : Type 0
StartIsFlat = (sc : Scenario) → IsAccepted sc → Flatness sc (memory sc) (start sc)

-- a world of a scenario stays one
abbrev pub WorldsStay : Type 0
WorldsStay =
    (sc : Scenario) (w : WorldState) (e : Event) → IsWorldOf sc w → IsThere (length sc.harts) sc.block_size sc.ram e → IsWorldOf sc (next w e)

-- drains, caches and channels
pub record MovesAreFlat : Type 0 where
  pub drain : (sc : Scenario) (f : List ℕ) (w : WorldState) (h : HartNo) (i : ℕ) → IsNow sc f w (events.Drain h i) → Goes sc f w (events.Drain h i)
  pub fill : (sc : Scenario) (f : List ℕ) (w : WorldState) (h : HartNo) (b : Block) → IsNow sc f w (events.Fill h b) → Goes sc f w (events.Fill h b)
  pub evict : (sc : Scenario) (f : List ℕ) (w : WorldState) (h : HartNo) (b : Block) → IsNow sc f w (events.Evict h b) → Goes sc f w (events.Evict h b)
  pub read : (sc : Scenario) (f : List ℕ) (w : WorldState) (chan : ChanNo) → IsNow sc f w (events.ChanRead chan) → Goes sc f w (events.ChanRead chan)
  pub write : (sc : Scenario) (f : List ℕ) (w : WorldState) (chan : ChanNo) → IsNow sc f w (events.ChanWrite chan) → Goes sc f w (events.ChanWrite chan)

-- a step of a driver whose operation neither lends nor takes back
abbrev pub StepsAreFlat : Type 0
StepsAreFlat =
    (sc : Scenario) (f : List ℕ) (w : WorldState) (h : HartNo) (o : Op) → IsNow sc f w (events.Issue h) → in_hand (driver_of w h.0) ≡ Some o → is_lending o ≡ false
    → Goes sc f w (events.Issue h)

-- the start of one that does, and its search for slots
pub record StartsAreFlat : Type 0 where
  pub start : (sc : Scenario) (f : List ℕ) (w : WorldState) (h : HartNo) (o : Op) (n : ℕ) → IsNow sc f w (events.Issue h) → in_hand (driver_of w h.0) ≡ Some o → is_lending o ≡ true → (driver_of w h.0).phase ≡ Steps n
      → Goes sc f w (events.Issue h)
  pub tried : (sc : Scenario) (f : List ℕ) (w : WorldState) (h : HartNo) → IsNow sc f w (events.Try h) → Goes sc f w (events.Try h)
  pub told : (sc : Scenario) (f : List ℕ) (w : WorldState) (h : HartNo) (got : Bool) → IsNow sc f w (events.Told h got) → Goes sc f w (events.Told h got)

-- what the next step of a plan is: the claim of a copy, a step of its channel's registers, or one of lots
pub data StepKind : Type 0 where
  OfClaim : StepKind
  OfChannel : StepKind
  OfLots : StepKind

abbrev pub kind_of_target : IoTarget → StepKind
kind_of_target (io.Reg chan off width value) = OfChannel
kind_of_target (io.Mail buf to) = OfLots
kind_of_target (io.Lend label first count) = OfLots

abbrev pub kind_of_op : HartOp → StepKind
kind_of_op (hart_ops.IoStore target) = kind_of_target target
kind_of_op (hart_ops.Load span kind) = OfLots
kind_of_op (hart_ops.Store span kind bytes) = OfLots
kind_of_op (hart_ops.Cbo op block) = OfLots
kind_of_op (hart_ops.Fence pred succ) = OfLots
kind_of_op (hart_ops.IoLoad chan off width) = OfLots
kind_of_op (hart_ops.Mark pred succ) = OfLots

abbrev pub kind_of_act : Act → StepKind
kind_of_act (acts.Op op) = kind_of_op op
kind_of_act (acts.Claim chan) = OfClaim
kind_of_act (acts.Poll chan) = OfChannel
kind_of_act (acts.Take buf) = OfLots

abbrev pub kind_of_next : List Step → StepKind
kind_of_next [] = OfLots
kind_of_next (s ∷ rest) = kind_of_act s.act

-- a step of a plan, of this kind
abbrev pub PlanSteps : StepKind → Type 0
PlanSteps kind =
    (sc : Scenario) (f : List ℕ) (w : WorldState) (h : HartNo) (o : Op) → IsNow sc f w (events.Issue h) → in_hand (driver_of w h.0) ≡ Some o → is_lending o ≡ true → (driver_of w h.0).phase ≡ Work
    → kind_of_next (driver_of w h.0).rest ≡ kind → Goes sc f w (events.Issue h)

abbrev pub PlansAreFlat : Type 0
PlansAreFlat = PlanSteps OfLots

-- the claim of a copy, with which both ends are lent, or which finds its channel granted
abbrev pub ClaimsAreFlat : Type 0
ClaimsAreFlat = PlanSteps OfClaim

-- its channel is set up, started, polled and released
abbrev pub TransfersAreFlat : Type 0
TransfersAreFlat = PlanSteps OfChannel

-- every event
abbrev pub EachGoes : Type 0
EachGoes = (sc : Scenario) (f : List ℕ) (w : WorldState) (e : Event) → IsNow sc f w e → Goes sc f w e
