-- What a queue is seen as.
use Rattle.std.specs.Prelude.{◌≡◌, ℕ, ◌<◌, ◌≤◌, List, length}
use Rattle.nc_num.specs.Sizes.{IsBlockSize}
use Rattle.nc_queue.specs.Entries.{AllFit}
use Rattle.nc_queue.specs.Ring.{window}
use Rattle.nc_queue.specs.declared.entry.Entry.{Entry}

-- the entries, the oldest first, and the size of a block
pub record QueueState : Type 0 where
  pub size : ℕ
  pub entries : List Entry

-- a ring of eight cells, of which those from a start on hold the entries
pub record IsRing (cells : List Entry) (start len size : ℕ) : Type 0 where
  pub start_in : start < 8
  pub few : len ≤ 8
  pub room : length cells ≡ 8
  pub known : IsBlockSize size
  pub fit : AllFit size (window start len cells)
