-- Eight cells in a ring.
use Rattle.std.specs.Prelude.{ℕ, List, ◌++◌, take, drop}
use Rattle.nc_queue.specs.declared.entry.Entry.{Entry}
use Rattle.nc_queue.specs.declared.ring.Entries.{Entries}

-- so many cells from a start on, where the first cell comes behind the last
unfoldable pub window : ℕ → ℕ → List Entry → List Entry
window start len cells = take len (drop start cells ++ take start cells)

-- the entries of the two parts, the oldest first
abbrev pub listed : Entries → List Entry
listed entries = entries.older.now ++ entries.newer.now
