-- No slot is given twice, and no byte of a device range is granted twice. This project's own.
use Rattle.std.specs.Prelude.{ℕ, ◌≡◌, ◌<◌, true, List, take, length, Some, slice_get}
use Rattle.nc_num.specs.Places.{covers}
use Rattle.nc_num.specs.declared.names.HartNo.{HartNo}
use Rattle.nc_slots.specs.SlotWords.{holder_of}
use Rattle.nc_model.specs.declared.owners.Grant.{Grant}
use Rattle.nc_sg.specs.declared.list.Entry.{Entry}
use Rattle.nc_scen.specs.Accepted.{IsAccepted}
use Rattle.nc_scen.specs.declared.events.Event.{Event}
use Rattle.nc_scen.specs.declared.scenario.Scenario.{Scenario}
use Rattle.nc_rules.specs.declared.lots.Lot.{Lot}
use Rattle.nc_rules.specs.Flat.{AreThere}
use Rattle.nc_rules.specs.Run.{after}
use Rattle.nc_rules.specs.World.{WorldState, driver_of, hart, start}
use Rattle.nc_holds.specs.Held.{IsEntryOf}

-- entry i of this lot of hart h has slot k
pub record HasSlot (w : WorldState) (h : ℕ) (lot : Lot) (i k : ℕ) : Type 0 where
  pub entry : Entry
  pub here : IsEntryOf (driver_of w h).lots lot i entry
  pub slot : entry.slot ≡ Some k

-- two entries are one: of one lot of one hart
pub record IsOneEntry (h : ℕ) (a : Lot) (i : ℕ) (g : ℕ) (b : Lot) (j : ℕ) : Type 0 where
  pub hart : h ≡ g
  pub lot : a ≡ b
  pub entry : i ≡ j

-- an entry of a lot of hart h has slot k
pub record HasOne (w : WorldState) (h k : ℕ) : Type 0 where
  pub lot : Lot
  pub i : ℕ
  pub has : HasSlot w h lot i k

-- each slot is in the hands of one hart at most, which has it for one entry
pub record SlotsAreHeldOnce (harts : ℕ) (w : WorldState) : Type 0 where
  -- entries that have one slot are one
  pub once : (k h g : ℕ) (a b : Lot) (i j : ℕ) → HasSlot w h a i k → HasSlot w g b j k → IsOneEntry h a i g b j
  -- the slot's word is then that hart's
  pub word : (k h : ℕ) (lot : Lot) (i : ℕ) → HasSlot w h lot i k → holder_of w.slots k ≡ Some (hart h)
  -- and the hart that holds a word is there, and has the slot for an entry
  pub there : (k : ℕ) (h : HartNo) → holder_of w.slots k ≡ Some h → h.0 < harts
  pub kept : (k : ℕ) (h : HartNo) → holder_of w.slots k ≡ Some h → HasOne w h.0 k

-- no byte is in the device ranges of two grants, and no two grants are of one mapping: the grants by their numbers in the
-- list of all
pub record GrantsAreApart (grants : List Grant) : Type 0 where
  pub device : (m n x : ℕ) (a b : Grant) → slice_get grants m ≡ Some a → slice_get grants n ≡ Some b → covers a.device x ≡ true → covers b.device x ≡ true → m ≡ n
  pub mapping : (m n : ℕ) (a b : Grant) → slice_get grants m ≡ Some a → slice_get grants n ≡ Some b → a.id ≡ b.id → m ≡ n

pub record IsGivenOnce (sc : Scenario) (w : WorldState) : Type 0 where
  pub slots : SlotsAreHeldOnce (length sc.harts) w
  pub grants : GrantsAreApart w.grants

-- after each prefix of every run, touches or not
abbrev pub EachIsGivenOnce : Type 0
EachIsGivenOnce = (sc : Scenario) (es : List Event) (n : ℕ) → IsAccepted sc → AreThere sc es → IsGivenOnce sc (after (start sc) (take n es))
