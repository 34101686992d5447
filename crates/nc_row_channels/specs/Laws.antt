-- What a channel's transactions leave of a row, as statements.
use Rattle.std.specs.Prelude.{ℕ, ◌≡◌, ◌⊎◌, ◌+◌, ◌-◌, ◌<◌, ◌≤◌, true, List, Option, Some, None}
use Rattle.nc_num.specs.Memory.{byte}
use Rattle.nc_num.specs.declared.names.MapId.{MapId}
use Rattle.nc_num.specs.declared.places.Span.{Span}
use Rattle.nc_model.specs.declared.owners.Owner.{Owner}
use Rattle.nc_model.specs.declared.owners.Owner.TheVariants.{Device}
use Rattle.nc_rules.specs.Machine.{MachineState}
use Rattle.nc_calls.specs.PlaceLaws.{NotHeld, Stays, WritesSpan}
use Rattle.nc_calls.specs.MachineLaws.{SameShape}
use Rattle.nc_rows.specs.Rows.{Loan, Book, device_place, Either, ByDir, Row}
use Rattle.nc_rows.specs.Laws.{seen_at}

-- a place beside a range
abbrev pub Beside : Span → ℕ → Type 0
Beside span x = (x < span.at) ⊎ (span.at + span.len ≤ x)

-- a mapping that its channel may write: an area, of which there is no copy, or one that comes back. Its buffer's place
-- is not written, but where it is the device's
abbrev pub IsWritten : Option Loan → Span → MachineState → ℕ → Type 0
IsWritten None span m x = Unit {0}
IsWritten (Some l) span m x = Either l.area ((device_place l x ≡ x) × NotHeld m x) (ByDir l.grant.dir ⊥ ((x ≡ device_place l x) ⊎ Beside span x))

-- the place of an area is the device's
abbrev pub IsPlain : Option Loan → ℕ → Type 0
IsPlain None x = Unit {0}
IsPlain (Some l) x = Either l.area (device_place l x ≡ x) (Unit {0})

pub record RowsOfChannels : Type 0 where
  -- a read, a claim, a take and a transaction outside of RAM change no byte
  pub stays : (a : Book) (o : Owner) (v : ℕ) (m k : MachineState) (x : ℕ) → SameShape m k → Stays m k → Row a o v m x → Row a o v k x
  -- what a channel reads of a mapping is flat memory's byte
  pub shows : (a : Book) (n : MapId) (v : ℕ) (m : MachineState) (x : ℕ) → IsPlain (a.loan n) x → Row a (Device n) v m x → byte m.cache.ram (seen_at a (Device n) x) ≡ v
  -- a write leaves the rows beside it, and gives its own the byte that it writes
  pub beside : (a : Book) (o : Owner) (v : ℕ) (m k : MachineState) (span : Span) (bytes : List ℕ) (x : ℕ) → SameShape m k → WritesSpan m k span bytes → Beside span x → Beside span (seen_at a o x)
      → Row a o v m x → Row a o v k x
  pub written : (a : Book) (n : MapId) (v : ℕ) (m k : MachineState) (span : Span) (bytes : List ℕ) (x : ℕ) → SameShape m k → WritesSpan m k span bytes → span.at ≤ seen_at a (Device n) x
      → seen_at a (Device n) x < span.at + span.len → IsWritten (a.loan n) span m x → Row a (Device n) v m x → Row a (Device n) (byte bytes (seen_at a (Device n) x - span.at)) k x
