-- What a driver's call changes of what is held, as a list of changes one after another. This project's own.
use Rattle.std.specs.Prelude.{ℕ, ◌≡◌, ◌<◌, true, false, List, [], ◌∷◌, ◌++◌, Some, None, All, Ok, slice_set}
use Rattle.nc_num.specs.declared.names.HartNo.{HartNo}
use Rattle.nc_model.specs.declared.owners.Owner.TheVariants as owners
use Rattle.nc_ops.specs.declared.ops.Op.{Op}
use Rattle.nc_slots.specs.SlotWords.{holder_of}
use Rattle.nc_rules.specs.declared.lots.Lot.{Lot}
use Rattle.nc_rules.specs.declared.lots.LotId.{LotId}
use Rattle.nc_rules.specs.declared.steps.Step.{Step}
use Rattle.nc_rules.specs.declared.steps.Turn.{Turn}
use Rattle.nc_rules.specs.declared.steps.Turn.TheVariants as turns
use Rattle.nc_rules.specs.Lots.{DriverConfig, is_lot, is_wanted, lot_waits, slot_given, some_lot_waits}
use Rattle.nc_rules.specs.Refusals.{buffer_of}
use Rattle.nc_rules.specs.Operations.{begin}
use Rattle.nc_rules.specs.Turns.{is_area, lots_after, transfers_of, grants_of, ended_of, backs_of, pages_of, slots_wanted, without_wanted}
use Rattle.nc_rules.specs.World.{owners_moved, grants_added, grants_ended, slots_back, pages_moved}
use Rattle.nc_scripts.specs.Drivers.{IsSettled, IsEndName}
use Rattle.nc_holds.specs.Held.{Held, AreLent, IsOwnedBy}

pub data Change : Type 0 where
  -- an operation makes these lots
  Made : (new : List Lot) → Change
  -- a slot word is got for the first entry that waits
  Got : (word : ℕ) → Change
  -- a turn
  Turned : (turn : Turn) → Change
  -- an operation gives up before anything of it is lent
  Dropped : Change

-- what is held after a change by a hart
abbrev pub changed : DriverConfig → Held → Change → Held
changed f s (Made new) = record s { lots = s.lots ++ new }
changed f s (Got word) = record s { lots = slot_given word s.lots; slots = slice_set s.slots word (Some f.me) }
changed f s (Turned t) = record {
  lots = lots_after t s.lots;
  owners = owners_moved s.owners (transfers_of f.me s.lots t);
  grants = grants_ended (grants_added s.grants (grants_of f.me f.slots_at s.lots t)) (ended_of f.me s.lots t);
  slots = slots_back s.slots (backs_of s.lots t);
  pages = pages_moved s.pages (pages_of s.lots t);
}
changed f s Dropped = record s { lots = without_wanted s.lots; slots = slots_back s.slots (slots_wanted s.lots) }

abbrev pub changed_by : DriverConfig → Held → List Change → Held
changed_by f s [] = s
changed_by f s (c ∷ cs) = changed_by f (changed f s c) cs

-- ---- when a change may be made

abbrev pub AreAreas : List Lot → LotId → Type 0
AreAreas lots id = All (λ lot. is_lot id lot ≡ true → is_area lot.kind ≡ true) lots

-- no entry of the lots of this name waits for a slot
abbrev pub ArePlaced : List Lot → LotId → Type 0
ArePlaced lots id = All (λ lot. is_lot id lot ≡ true → lot_waits lot ≡ false) lots

-- a lot of which an entry waits for a slot is not lent yet
abbrev pub WaitsUnlent : List Lot → Type 0
WaitsUnlent lots = All (λ lot. lot_waits lot ≡ true → is_wanted lot.side ≡ true) lots

-- a range is passed by the hart that has it, and taken by the one to which it was passed; it is a buffer. A lot is lent
-- once its entries have their slots, all other turns are of lots that are lent, and an area alone is the hart's own while
-- it is granted
abbrev pub MayTurn : DriverConfig → Held → Turn → Type 0
MayTurn f s turns.Stay = Unit {0}
MayTurn f s (turns.Pass range to) = (b : ℕ) × (range ≡ buffer_of f b) × IsOwnedBy s.owners range (owners.Thread f.me)
MayTurn f s (turns.Own range) = (b : ℕ) × (range ≡ buffer_of f b) × ((g : HartNo) × IsOwnedBy s.owners range (owners.Passing g f.me))
MayTurn f s (turns.Lend id) = ArePlaced s.lots id
MayTurn f s (turns.Give id) = AreLent s.lots id
MayTurn f s (turns.Return id) = AreLent s.lots id
MayTurn f s (turns.Sync id) = AreLent s.lots id
MayTurn f s (turns.Settle id) = AreLent s.lots id × AreAreas s.lots id
MayTurn f s (turns.End id) = AreLent s.lots id

-- lots are made by the start of an operation, where the hart's other lots are settled
pub record MayMake (f : DriverConfig) (s : Held) (new : List Lot) : Type 0 where
  pub op : Op
  pub begins : begin f s.lots s.owners s.pages op ≡ Ok new
  pub settled : All IsSettled s.lots

pub record MayGet (s : Held) (word : ℕ) : Type 0 where
  pub waits : some_lot_waits s.lots ≡ true
  pub unlent : WaitsUnlent s.lots
  pub free : holder_of s.slots word ≡ None

abbrev pub MayChange : DriverConfig → Held → Change → Type 0
MayChange f s (Made new) = MayMake f s new
MayChange f s (Got word) = MayGet s word × (word < f.slots)
MayChange f s (Turned t) = MayTurn f s t
MayChange f s Dropped = Unit {0}

abbrev pub MayChangeBy : DriverConfig → Held → List Change → Type 0
MayChangeBy f s [] = Unit {0}
MayChangeBy f s (c ∷ cs) = MayChange f s c × MayChangeBy f (changed f s c) cs

-- ---- the turns of a plan

-- a step's first turn takes back, or lends an end of a copy, or there is none; so it ends no grant and moves no page
abbrev pub IsFirstTurn : Turn → Type 0
IsFirstTurn turns.Stay = Unit {0}
IsFirstTurn (turns.Return id) = Unit {0}
IsFirstTurn (turns.Lend id) = IsEndName id
IsFirstTurn (turns.Pass range to) = ⊥
IsFirstTurn (turns.Own range) = ⊥
IsFirstTurn (turns.Give id) = ⊥
IsFirstTurn (turns.Sync id) = ⊥
IsFirstTurn (turns.Settle id) = ⊥
IsFirstTurn (turns.End id) = ⊥

-- a step's last turn is of lots, and an area alone is settled
abbrev pub IsLastTurn : List Lot → Turn → Type 0
IsLastTurn lots turns.Stay = Unit {0}
IsLastTurn lots (turns.Lend id) = Unit {0}
IsLastTurn lots (turns.Give id) = Unit {0}
IsLastTurn lots (turns.Return id) = Unit {0}
IsLastTurn lots (turns.Sync id) = Unit {0}
IsLastTurn lots (turns.Settle id) = AreAreas lots id
IsLastTurn lots (turns.End id) = Unit {0}
IsLastTurn lots (turns.Pass range to) = ⊥
IsLastTurn lots (turns.Own range) = ⊥

-- a step of a plan over these lots
pub record IsPlanStep (lots : List Lot) (s : Step) : Type 0 where
  pub first : IsFirstTurn s.first
  pub last : IsLastTurn lots s.last
