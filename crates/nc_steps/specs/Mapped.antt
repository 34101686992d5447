-- What an access needs of the table, and where a piece lies.
use Rattle.std.specs.Prelude.{ℕ, ◌+◌, ◌/◌, ◌<◌, ◌≤◌, List, length, slice_index, Result, Ok, Err}
use Rattle.nc_num.specs.declared.places.Place.{Place}
use Rattle.nc_num.specs.declared.places.Span.{Span}
use Rattle.nc_num.specs.declared.names.MemType.{MemType}
use Rattle.nc_pte.specs.Words.{IsPteWord}
use Rattle.nc_pte.specs.declared.translation.PageFault.{PageFault}
use Rattle.nc_plan.specs.declared.access.At.{At}
use Rattle.nc_plan.specs.declared.access.At.TheVariants.{Ram, Virtual}

-- the page of a virtual address has a word that is valid for a RAM of so many bytes
pub record HasWord (ram : ℕ) (table : List ℕ) (va : ℕ) : Type 0 where
  pub mapped : va / 4096 < length table
  pub valid : IsPteWord ram (slice_index table (va / 4096))

-- each page of a virtual access has one; places of RAM need none
abbrev pub IsMapped : ℕ → At → List ℕ → ℕ → Type 0
IsMapped ram (Ram at kind) table len = Unit {0}
IsMapped ram (Virtual va) table len = (x : ℕ) → va ≤ x → x < va + len → HasWord ram table x

-- the page of one address of an access has one
abbrev pub IsFindable : At → List ℕ → ℕ → Type 0
IsFindable (Ram at kind) table x = Unit {0}
IsFindable (Virtual va) table x = HasWord 1048576 table x

-- the type and the places of a piece of so many bytes, by those of its first byte
abbrev pub placed : Result (MemType × Place) PageFault → ℕ → Result (MemType × Span) PageFault
placed (Ok there) len = Ok (there.0, record { at = there.1.0; len = len })
placed (Err fault) len = Err fault
