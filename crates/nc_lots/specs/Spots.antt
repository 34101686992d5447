-- Places of entries among lots, and a slot that is taken away again. This project's own.
use Rattle.std.specs.Prelude.{ℕ, zero, suc, ◌<◌, List, [], ◌∷◌, length}
use Rattle.nc_sg.specs.declared.list.Entry.{Entry}
use Rattle.nc_sg.specs.Lists.{slot_taken}
use Rattle.nc_rules.specs.declared.lots.Lot.{Lot}
use Rattle.nc_lots.specs.declared.slots.LotSpot.{LotSpot}

-- the entries of lot i
abbrev pub entries_at : ℕ → List Lot → List Entry
entries_at i [] = []
entries_at zero (lot ∷ lots) = lot.list.entries
entries_at (suc i) (lot ∷ lots) = entries_at i lots

-- there is such a lot, and it has such an entry
abbrev pub IsSpot : LotSpot → List Lot → Type 0
IsSpot at lots = at.entry < length (entries_at at.lot lots)

-- entry j of the lot has no slot any more
abbrev pub without_entry : ℕ → Lot → Lot
without_entry j lot = record lot { list = record lot.list { entries = slot_taken j lot.list.entries } }

-- the same of lot i
abbrev pub without_at : ℕ → ℕ → List Lot → List Lot
without_at i j [] = []
without_at zero j (lot ∷ lots) = without_entry j lot ∷ lots
without_at (suc i) j (lot ∷ lots) = lot ∷ without_at i j lots

abbrev pub without_slot : LotSpot → List Lot → List Lot
without_slot at lots = without_at at.lot at.entry lots
