-- The laws of refused operations, of copies that end and of full fences, as statements. This project's own, but for the
-- fence (RISC-V, FENCE).
use Rattle.std.specs.Prelude.{All, is_some, ℕ, ◌≡◌, ◌⊎◌, true, List, [], ◌∷◌, ◌++◌, Some, slice_set}
use Rattle.nc_num.specs.declared.names.HartNo.{HartNo}
use Rattle.nc_slots.specs.SlotWords.{holder_of}
use Rattle.nc_plan.specs.declared.ops.HartOp.TheVariants as hart
use Rattle.nc_scen.specs.Accepted.{IsAccepted}
use Rattle.nc_scen.specs.declared.events.Event.{Event}
use Rattle.nc_scen.specs.declared.events.Event.TheVariants as events
use Rattle.nc_scen.specs.declared.scenario.Scenario.{Scenario}
use Rattle.nc_ops.specs.declared.ops.Op.{Op}
use Rattle.nc_rules.specs.declared.lots.Lot.{Lot}
use Rattle.nc_rules.specs.declared.steps.Next.TheVariants as nexts
use Rattle.nc_rules.specs.declared.steps.Phase.TheVariants.{Steps}
use Rattle.nc_rules.specs.Flat.{AreThere}
use Rattle.nc_rules.specs.Machine.{queue_of}
use Rattle.nc_rules.specs.Turns.{slots_wanted, without_wanted}
use Rattle.nc_rules.specs.Lots.{DriverConfig}
use Rattle.nc_rules.specs.Meanings.{is_planned}
use Rattle.nc_rules.specs.Operations.{has_start, meaning}
use Rattle.nc_rules.specs.Driver.{next_of, over}
use Rattle.nc_rules.specs.Events.{enabled}
use Rattle.nc_rules.specs.Next.{next}
use Rattle.nc_rules.specs.Outcomes.{outcome}
use Rattle.nc_rules.specs.Run.{after}
use Rattle.nc_rules.specs.World.{WorldState, driver_of, slots_back, start}
use Rattle.nc_scripts.specs.Drivers.{IsEndName}
use Rattle.nc_holds.specs.Held.{is_holder}
use Rattle.nc_refusals.specs.Returned.{HasLentEnd, IsGone, IsReturned}
use Rattle.nc_refusals.specs.Refused.{maker, Refuses, IsLeft, IsLeftButWord, IsOneStep, HasNoneOfWO}

-- the refusing event: all is left, the slots of the lots that were not lent are given back, and these lots are gone
pub record LeavesAll (w v : WorldState) (h : HartNo) : Type 0 where
  pub left : IsLeft w v
  pub slots : v.slots ≡ slots_back w.slots (slots_wanted (driver_of w h.0).lots)
  pub drivers : v.drivers ≡ slice_set w.drivers h.0 (over (driver_of w h.0) (without_wanted (driver_of w h.0).lots))

-- in every world, be it one of a run or not
abbrev pub RefusalsLeaveAll : Type 0
RefusalsLeaveAll = (w : WorldState) (e : Event) (h : HartNo) → Refuses w e h → LeavesAll w (next w e) h

-- an event of a run, and a later one that refuses the operation that the first one's hart had in hand
pub record IsBeforeRefusal (sc : Scenario) (before between : List Event) (e f : Event) (h : HartNo) : Type 0 where
  pub there : AreThere sc (before ++ e ∷ between)
  pub by : maker e ≡ Some h
  pub same : (driver_of (after (next (after (start sc) before) e) between) h.0).op ≡ (driver_of (after (start sc) before) h.0).op
  pub refused : Refuses (after (next (after (start sc) before) e) between) f h

abbrev pub EarlierEventsLeaveAll : Type 0
EarlierEventsLeaveAll =
    (sc : Scenario) (before between : List Event) (e f : Event) (h : HartNo) → IsAccepted sc → IsBeforeRefusal sc before between e f h
    → IsLeftButWord (after (start sc) before) (next (after (start sc) before) e) h ⊎ IsOneStep (after (start sc) before) (next (after (start sc) before) e) h

-- an operation that begins behind these events, and is refused by a later one
pub record IsRefusedOf (sc : Scenario) (before between : List Event) (f : Event) (h : HartNo) : Type 0 where
  pub there : AreThere sc (before ++ (between ++ f ∷ []))
  pub begins : (driver_of (after (start sc) before) h.0).phase ≡ Steps 0
  pub same : (driver_of (after (after (start sc) before) between) h.0).op ≡ (driver_of (after (start sc) before) h.0).op
  pub refused : Refuses (after (after (start sc) before) between) f h

abbrev pub WordsAreGivenBack : Type 0
WordsAreGivenBack =
    (sc : Scenario) (before between : List Event) (f : Event) (h : HartNo) (k : ℕ) → IsAccepted sc → IsRefusedOf sc before between f h
    → is_holder h (holder_of (next (after (after (start sc) before) between) f).slots k) ≡ is_holder h (holder_of (after (start sc) before).slots k)

-- I, O, R and W on both sides
abbrev pub FencesEmptyQueues : Type 0
FencesEmptyQueues =
    (w : WorldState) (h : HartNo) → enabled w (events.Issue h) ≡ true → next_of (driver_of w h.0) ≡ nexts.Op (hart.Fence 15 15)
    → HasNoneOfWO (queue_of (next w (events.Issue h)).machine h.0)

-- an end of a copy that is lent leaves the lots of its hart only by an event that gives all of it back
abbrev pub CopiesGiveBack : Type 0
CopiesGiveBack =
    (sc : Scenario) (before : List Event) (e : Event) (h : HartNo) (lot : Lot) → IsAccepted sc → AreThere sc (before ++ e ∷ []) → HasLentEnd (after (start sc) before) h lot → IsGone (next (after (start sc) before) e) h lot
    → IsReturned (next (after (start sc) before) e) h lot

-- where an operation is answered, be it that a copy failed, its hart has no end of a copy
abbrev pub AnswersLeaveNoEnds : Type 0
AnswersLeaveNoEnds =
    (sc : Scenario) (before : List Event) (e : Event) (h : HartNo) → IsAccepted sc → AreThere sc (before ++ e ∷ []) → maker e ≡ Some h → enabled (after (start sc) before) e ≡ true → is_some (outcome (after (start sc) before) e).moves.answer ≡ true
    → All (λ lot. IsEndName lot.id → ⊥) (driver_of (next (after (start sc) before) e) h.0).lots

-- an operation has a start step, which may refuse it, exactly where it goes by a plan, whatever lots its hart has
abbrev pub StartsAreOfPlans : Type 0
StartsAreOfPlans = (f : DriverConfig) (lots : List Lot) (o : Op) → has_start o ≡ is_planned (meaning f lots o).way
