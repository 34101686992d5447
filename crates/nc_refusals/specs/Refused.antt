-- When an event refuses the operation that its hart has in hand, and what an event leaves as it was. This project's own.
use Rattle.std.specs.Prelude.{ℕ, ◌≡◌, ◌+◌, ◌⊎◌, Bool, true, false, Option, Some, None, Ok, List, All, slice_set}
use Rattle.nc_num.specs.declared.names.HartNo.{HartNo}
use Rattle.nc_queue.specs.declared.entry.Entry.{Entry}
use Rattle.nc_queue.specs.Entries.{is_w, is_o}
use Rattle.nc_slots.specs.SlotWords.{holder_of}
use Rattle.nc_ops.specs.declared.ops.Op.{Op}
use Rattle.nc_scen.specs.declared.events.Event.{Event}
use Rattle.nc_scen.specs.declared.events.Event.TheVariants as events
use Rattle.nc_rules.specs.declared.answers.Answer.{Answer}
use Rattle.nc_rules.specs.declared.answers.Answer.TheVariants as answers
use Rattle.nc_rules.specs.declared.steps.Act.{Act}
use Rattle.nc_rules.specs.declared.steps.Act.TheVariants as acts
use Rattle.nc_rules.specs.declared.steps.Phase.TheVariants.{Steps}
use Rattle.nc_rules.specs.declared.steps.Step.{Step}
use Rattle.nc_rules.specs.Machine.{MachineState}
use Rattle.nc_rules.specs.Calls.{issue_next, claim_next, take_next}
use Rattle.nc_rules.specs.Operations.{has_start, step_at}
use Rattle.nc_rules.specs.Driver.{in_hand}
use Rattle.nc_rules.specs.Events.{enabled}
use Rattle.nc_rules.specs.Outcomes.{outcome}
use Rattle.nc_rules.specs.World.{WorldState, driver_of}

-- ---- a refusal

-- the answers that refuse an operation
abbrev pub is_refusal : Answer → Bool
is_refusal (answers.Refused r) = true
is_refusal (answers.NoSegments r) = true
is_refusal _ = false

abbrev pub refuses : Option Answer → Bool
refuses None = false
refuses (Some a) = is_refusal a

-- the hart whose driver makes the event: a step of its operation, or a try of a slot word
abbrev pub maker : Event → Option HartNo
maker (events.Issue h) = Some h
maker (events.Try h) = Some h
maker (events.Told h got) = Some h
maker (events.Drain h i) = None
maker (events.Fill h b) = None
maker (events.Evict h b) = None
maker (events.ChanRead chan) = None
maker (events.ChanWrite chan) = None

-- the event may happen, hart h's driver makes it, and it answers the operation in hand with a refusal
pub record Refuses (w : WorldState) (e : Event) (h : HartNo) : Type 0 where
  pub by : maker e ≡ Some h
  pub may : enabled w e ≡ true
  pub answer : refuses (outcome w e).moves.answer ≡ true

-- ---- what is left as it was

-- the machine, the owners, the grants and the pages are as before
pub record IsLeft (w v : WorldState) : Type 0 where
  pub machine : v.machine ≡ w.machine
  pub owners : v.owners ≡ w.owners
  pub grants : v.grants ≡ w.grants
  pub pages : v.pages ≡ w.pages

-- the slot words are as before, or hart h took one that was free
abbrev pub TakesOneWord : WorldState → WorldState → HartNo → Type 0
TakesOneWord w v h = (v.slots ≡ w.slots) ⊎ ((k : ℕ) × (holder_of w.slots k ≡ None) × (v.slots ≡ slice_set w.slots k (Some h)))

-- all is left, but that hart h may have taken a slot word that was free
pub record IsLeftButWord (w v : WorldState) (h : HartNo) : Type 0 where
  pub left : IsLeft w v
  pub words : TakesOneWord w v h

-- ---- a step of an operation by number

-- the machine after an act of hart h alone
abbrev pub acted : MachineState → HartNo → Act → MachineState
acted m h (acts.Op op) = issue_next m h.0 op
acted m h (acts.Claim chan) = claim_next m h chan.0
acted m h (acts.Poll chan) = m
acted m h (acts.Take buf) = take_next m h.0 buf

-- hart h makes step n of an operation that goes by number, and nothing else is changed
pub record IsOneStep (w v : WorldState) (h : HartNo) : Type 0 where
  pub op : Op
  pub n : ℕ
  pub step : Step
  pub in_hand : in_hand (driver_of w h.0) ≡ Some op
  pub by_number : has_start op ≡ false
  pub before : (driver_of w h.0).phase ≡ Steps n
  pub is : step_at (driver_of w h.0).fixed (driver_of w h.0).lots op n ≡ Ok (Some step)
  pub after : (driver_of v h.0).phase ≡ Steps (n + 1)
  pub machine : v.machine ≡ acted w.machine h step.act
  pub owners : v.owners ≡ w.owners
  pub grants : v.grants ≡ w.grants
  pub slots : v.slots ≡ w.slots
  pub pages : v.pages ≡ w.pages

-- ---- queues

-- no entry is a write to memory or a device output
abbrev pub HasNoneOfWO : List Entry → Type 0
HasNoneOfWO q = All (λ e. (is_w e ≡ false) × (is_o e ≡ false)) q
