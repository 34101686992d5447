-- What holds of every world of every run: its drivers are drivers of its machine, and owners, grants, slot words, pages,
-- messages and tokens agree with them. This project's own.
use Rattle.std.specs.Prelude.{ℕ, ◌≡◌, ◌<◌, ◌≤◌, List, [], ◌∷◌, ◌++◌, length, Option, Some, None, All, true, false, replicate, slice_set}
use Rattle.nc_num.specs.declared.names.HartNo.{HartNo}
use Rattle.nc_model.specs.declared.owners.Grant.{Grant}
use Rattle.nc_model.specs.Grants.{CanAdd}
use Rattle.nc_slots.specs.SlotWords.{holder_of}
use Rattle.nc_coherent.specs.Pages.{PageMap, IsPages, page_count}
use Rattle.nc_coherent.specs.Pages as coherent
use Rattle.nc_scen.specs.declared.events.Event.{Event}
use Rattle.nc_scen.specs.declared.events.Event.TheVariants as events
use Rattle.nc_scen.specs.declared.scenario.Scenario.{Scenario}
use Rattle.nc_scen.specs.Accepted.{IsAccepted}
use Rattle.nc_scen.specs.Events.{IsThere}
use Rattle.nc_queue.specs.declared.entry.Entry.TheVariants as entries
use Rattle.nc_num.specs.declared.names.Label.{Label}
use Rattle.nc_rules.specs.declared.steps.PageMove.{PageMove}
use Rattle.nc_rules.specs.declared.steps.PageMove.TheVariants as pages
use Rattle.nc_rules.specs.Lots.{DriverConfig, lot_id}
use Rattle.nc_rules.specs.Machine.{hart_of}
use Rattle.nc_rules.specs.Calls.{leaving}
use Rattle.nc_rules.specs.Sound.{IsMachine}
use Rattle.nc_rules.specs.Turns.{Moved}
use Rattle.nc_rules.specs.World.{WorldState, driver_of, start}
use Rattle.nc_rules.specs.Events.{enabled}
use Rattle.nc_rules.specs.Outcomes.{outcome}
use Rattle.nc_rules.specs.Next.{next}
use Rattle.nc_scripts.specs.Drivers.{IsDriver, ArePagesOf, LoadsFit, IsLentAt}
use Rattle.nc_scripts.specs.Scripts.{IsRangeIn}
use Rattle.nc_holds.specs.Held.{Held, AreRegions, HartAgrees, IsGrantOf}
use Rattle.nc_holds.specs.Changes.{WaitsUnlent, IsPlanStep}
use Rattle.nc_holds.specs.Messages.{MessagesAgree}
use Rattle.nc_holds.specs.Tokens.{TokensAgree}
use Rattle.nc_holds.specs.Rests.{RestAgrees}

-- ---- the drivers of a machine

-- a machine that such a driver's operations are for, and the book and pages beside it
pub record IsSetting (f : DriverConfig) (w : WorldState) : Type 0 where
  pub block : w.machine.size ≡ f.size
  pub pool : w.machine.pool ≡ f.pool
  pub boxes : length w.machine.boxes ≡ length f.buffers
  pub pages : ArePagesOf f w.pages
  pub words : length w.slots ≡ f.slots

-- what drivers of one scenario know alike
pub record KnowsAlike (f g : DriverConfig) : Type 0 where
  pub buffers : f.buffers ≡ g.buffers
  pub slots_at : f.slots_at ≡ g.slots_at
  pub slots : f.slots ≡ g.slots
  pub pool : f.pool ≡ g.pool
  pub size : f.size ≡ g.size

-- the lots of hart h, and what all harts share
abbrev pub held_of : WorldState → ℕ → Held
held_of w h = record { lots = (driver_of w h).lots; owners = w.owners; grants = w.grants; slots = w.slots; pages = w.pages }

-- hart h's driver, and what it holds
pub record DriverHolds (w : WorldState) (h : ℕ) : Type 0 where
  pub driver : IsDriver (length w.machine.cache.ram) (length w.machine.harts) (driver_of w h)
  pub me : (driver_of w h).fixed.me.0 ≡ h
  pub setting : IsSetting (driver_of w h).fixed w
  pub regions : AreRegions (driver_of w h).fixed
  pub loads : LoadsFit (length (hart_of w.machine h).last) (driver_of w h).rest
  pub turns : All (IsPlanStep (driver_of w h).lots) (driver_of w h).rest
  pub waits : WaitsUnlent (driver_of w h).lots
  pub agrees : HartAgrees (driver_of w h).fixed (held_of w h)
  pub tokens : TokensAgree w h
  pub rest : RestAgrees (driver_of w h)

-- a grant is that of an entry of its hart
pub record IsHeldGrant (w : WorldState) (g : Grant) : Type 0 where
  pub hart : g.id.hart.0 < length w.machine.harts
  pub is : IsGrantOf (driver_of w g.id.hart.0).fixed (driver_of w g.id.hart.0).lots g

pub record Holds (w : WorldState) : Type 0 where
  pub drivers : length w.drivers ≡ length w.machine.harts
  pub owners : length w.owners ≡ length w.machine.cache.ram
  pub each : (h : ℕ) → h < length w.machine.harts → DriverHolds w h
  pub alike : (h g : ℕ) → h < length w.machine.harts → g < length w.machine.harts → KnowsAlike (driver_of w h).fixed (driver_of w g).fixed
  pub grants : All (IsHeldGrant w) w.grants
  pub messages : MessagesAgree w

-- ---- what an event moves may be moved

-- grants that are added one after another
abbrev pub CanAddAll : ℕ → List Grant → List Grant → Type 0
CanAddAll ram grants [] = Unit {0}
CanAddAll ram grants (g ∷ gs) = CanAdd ram grants g × CanAddAll ram (grants ++ g ∷ []) gs

-- slots that are given back one after another
abbrev pub AreBack : HartNo → List (Option HartNo) → List ℕ → Type 0
AreBack h slots [] = Unit {0}
AreBack h slots (k ∷ ks) = (holder_of slots k ≡ Some h) × AreBack h (slice_set slots k None) ks

abbrev pub MayMovePages : PageMap → PageMove → Type 0
MayMovePages pool pages.Stay = Unit {0}
MayMovePages pool (pages.Take span) = IsPages pool span × (coherent.pages_of pool span ≡ replicate (page_count span) true)
MayMovePages pool (pages.Give span) = IsPages pool span × (coherent.pages_of pool span ≡ replicate (page_count span) false)

-- by a hart, where these are the slot words
pub record MayMove (w : WorldState) (h : HartNo) (slots : List (Option HartNo)) (moves : Moved) : Type 0 where
  pub transfers : All (λ t. IsRangeIn (length w.owners) t.0) moves.transfers
  pub transfers_few : length moves.transfers ≤ 32
  pub grants : CanAddAll (length w.owners) w.grants moves.grants
  pub grants_few : length moves.grants ≤ 32
  pub ended_few : length moves.ended ≤ 32
  pub backs : AreBack h slots moves.backs
  pub backs_few : length moves.backs ≤ 32
  pub pages : MayMovePages w.pages moves.pages

-- ---- the laws

abbrev pub StartHolds : Type 0
StartHolds = (sc : Scenario) → IsAccepted sc → Holds (start sc)

abbrev pub EventsKeepHolding : Type 0
EventsKeepHolding =
    (w : WorldState) (e : Event) → IsMachine w.machine → Holds w → IsThere (length w.machine.harts) w.machine.size (length w.machine.cache.ram) e → Holds (next w e)

-- the hart whose driver an event lets go on, or whose queue it drains
abbrev pub mover : Event → Option HartNo
mover (events.Issue h) = Some h
mover (events.Try h) = Some h
mover (events.Told h got) = Some h
mover (events.Drain h i) = Some h
mover (events.Fill h b) = None
mover (events.Evict h b) = None
mover (events.ChanRead chan) = None
mover (events.ChanWrite chan) = None

-- what an event that may happen moves may be moved
abbrev pub MovesMayBeMade : Type 0
MovesMayBeMade =
    (w : WorldState) (e : Event) (h : HartNo) → IsMachine w.machine → Holds w → IsThere (length w.machine.harts) w.machine.size (length w.machine.cache.ram) e → enabled w e ≡ true
    → mover e ≡ Some h → MayMove w h (outcome w e).slots (outcome w e).moves

-- a token that drains is of a lot that is lent
abbrev pub TokensAreLent : Type 0
TokensAreLent =
    (w : WorldState) (h i : ℕ) (label : Label) (first count : ℕ) → Holds w → h < length w.machine.harts → leaving w.machine h i ≡ Some (entries.Lend label first count)
    → IsLentAt (driver_of w h).lots (lot_id label first)
