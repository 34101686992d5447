-- That the plans of a lot are as its rows want them, as statements.
use Rattle.std.specs.Prelude.{ℕ, ◌≡◌, ◌+◌, ◌<◌, ◌≤◌, true, length, false, flat_map, ◌∷◌, ◌++◌}
use Rattle.nc_num.specs.Sizes.{IsBlockSize}
use Rattle.nc_num.specs.declared.names.MapId.{MapId}
use Rattle.nc_queue.specs.Entries.{writes_back}
use Rattle.nc_plan.specs.Parts.{comes_back}
use Rattle.nc_plan.specs.Plans.{In, lend_op, return_op, dropped, copied_back}
use Rattle.nc_plan.specs.declared.effects.Effects.{Effects}
use Rattle.nc_plan.specs.declared.parts.Part.{Part}
use Rattle.nc_num.specs.declared.names.Dir.{Dir}
use Rattle.nc_rules.specs.declared.lots.Lot.{Lot}
use Rattle.nc_rules.specs.Lots.{DriverConfig, parts}
use Rattle.nc_rules.specs.Machine.{MachineState}
use Rattle.nc_queue.specs.Laws.{Stands}
use Rattle.nc_queue.specs.declared.entry.Entry.TheVariants.{Mark}
use Rattle.nc_rules.specs.declared.lots.LotId.{LotId}
use Rattle.nc_rules.specs.declared.steps.Turn.{Turn}
use Rattle.nc_calls.specs.PlaceLaws.{drops_copies}
use Rattle.nc_rules.specs.Plans.{lend_steps, return_steps, ending}
use Rattle.nc_rows.specs.Ahead.{turns_lot, gives_lot, is_full, op_coming, coming}
use Rattle.nc_rows.specs.Rows.{back, drop, gives_here, gives_block}
use Rattle.nc_row_plans.specs.Begins.{LendsAhead}

-- a mapping that is an entry of a lot
pub record IsEntryOf (n : MapId) (lot : Lot) : Type 0 where
  pub label : n.label.0 ≡ lot.id.label.0
  pub from : lot.id.first ≤ n.entry
  pub before : n.entry < lot.id.first + length lot.list.entries

-- a cache operation of a plan that lends writes a block back
abbrev pub WritesBack : Effects → Type 0
WritesBack e = (dir : Dir) → writes_back (lend_op e dir) ≡ true

-- a place of a part of a lot
pub record IsPlaceOf (f : DriverConfig) (lot : Lot) (p : Part) (y : ℕ) : Type 0 where
  pub part : In p (parts f lot)
  pub from : p.device.at ≤ y
  pub before : y < p.device.at + p.device.len

-- a cache operation of a plan that takes back drops a block
abbrev pub DropsBlocks : Effects → Type 0
DropsBlocks e = drops_copies (return_op e) ≡ true

-- the turn with which a lot has come back
abbrev pub TurnsBack : LotId → Turn → Type 0
TurnsBack lot turn = (turns_lot lot turn ≡ true) × (gives_lot lot turn ≡ false)

pub record PlansReturn : Type 0 where
  -- what comes of the plan that takes a lot back: the blocks that are dropped, a full fence, the copies back
  pub comes : (f : DriverConfig) (lot : Lot) (n : MapId) (turn : Turn) → TurnsBack lot.id turn
      → coming n lot.id (ending turn (return_steps f lot)) ≡ flat_map op_coming (flat_map (dropped f.effects f.size) (parts f lot)) ++ (Mark 15 15 ∷ flat_map op_coming (flat_map copied_back (parts f lot)))
  -- the block of a place is dropped before the full fence
  pub drops : (f : DriverConfig) (lot : Lot) (n : MapId) (turn : Turn) (p : Part) (m : MachineState) (y : ℕ) → IsBlockSize m.size → f.size ≡ m.size → DropsBlocks f.effects → comes_back p.dir ≡ true → TurnsBack lot.id turn → IsPlaceOf f lot p y
      → Stands (drop m y) is_full (coming n lot.id (ending turn (return_steps f lot)))

pub record PlansLend : Type 0 where
  -- to the device a place is written back behind what gives it, and from the device behind what gives its block
  pub to : (f : DriverConfig) (lot : Lot) (n : MapId) (p : Part) (m : MachineState) (y : ℕ) → IsBlockSize m.size → f.size ≡ m.size → WritesBack f.effects → IsEntryOf n lot → IsPlaceOf f lot p y
      → LendsAhead (gives_here m y) (back m y) n (coming n lot.id (lend_steps f lot))
  pub from : (f : DriverConfig) (lot : Lot) (n : MapId) (p : Part) (m : MachineState) (y : ℕ) → IsBlockSize m.size → f.size ≡ m.size → WritesBack f.effects → IsEntryOf n lot → IsPlaceOf f lot p y
      → LendsAhead (gives_block m y) (back m y) n (coming n lot.id (lend_steps f lot))
