-- The book of a world, with which rows are read: what each mapping is, what each hart's plan is still to do, and which
-- buffer a place is of. This project's own.
use Rattle.std.specs.Prelude.{ℕ, suc, ◌≡◌, ◌⊎◌, ◌+◌, ◌-◌, ◌==◌, ◌&&◌, nat_le, nat_lt, not, Bool, true, if◌then◌else◌, List, [], ◌∷◌, length, Option, Some, None, option_map, slice_index_or}
use Rattle.std.specs.List.{find}
use Rattle.nc_num.specs.Places.{covers}
use Rattle.nc_num.specs.declared.names.MapId.{MapId}
use Rattle.nc_num.specs.declared.places.Span.{Span}
use Rattle.nc_model.specs.declared.owners.Owner.{Owner}
use Rattle.nc_model.specs.declared.owners.Owner.TheVariants.{Thread, Passing, Lending, Device, Returning, Synced, Pool}
use Rattle.nc_rules.specs.declared.lots.Lot.{Lot}
use Rattle.nc_rules.specs.Lots.{DriverConfig, is_wanted, grant_of, no_entry}
use Rattle.nc_rules.specs.Turns.{is_area}
use Rattle.nc_rules.specs.Driver.{DriverState}
use Rattle.nc_rules.specs.World.{WorldState, driver_of}
use Rattle.nc_rows.specs.Rows.{Loan, Book}

-- mapping n is an entry of the lot, which is lent or was
abbrev pub is_entry_of : MapId → Lot → Bool
is_entry_of n lot = not (is_wanted lot.side) && (lot.id.label.0 == n.label.0 && (nat_le lot.id.first n.entry && nat_lt n.entry (lot.id.first + length lot.list.entries)))

abbrev pub loan_by : DriverConfig → MapId → Lot → Loan
loan_by f n lot = record { grant = grant_of f.slots_at lot n (slice_index_or lot.list.entries (n.entry - lot.id.first) no_entry); lot = lot.id; area = is_area lot.kind }

-- what mapping n is, of a driver's lots
abbrev pub loan_of : DriverState → MapId → Option Loan
loan_of d n = option_map (loan_by d.fixed n) (find (is_entry_of n) d.lots)

-- the number of the range that a place is in, or how many there are
abbrev pub number_in : List Span → ℕ → ℕ
number_in [] x = 0
number_in (s ∷ ss) x = if covers s x then 0 else suc (number_in ss x)

abbrev pub book_of : WorldState → Book
book_of w = record {
  loan = λ n. loan_of (driver_of w n.hart.0) n;
  rest = λ h. (driver_of w h).rest;
  buffer = number_in (driver_of w 0).fixed.buffers;
}

-- ---- the mapping that has a place

abbrev pub mapping_in : Owner → Option MapId
mapping_in (Lending n) = Some n
mapping_in (Device n) = Some n
mapping_in (Returning n) = Some n
mapping_in (Synced n) = Some n
mapping_in (Thread h) = None
mapping_in (Passing h g) = None
mapping_in Pool = None

-- the place is one of the mapping's buffer
abbrev pub LiesIn : Option Loan → ℕ → Type 0
LiesIn None x = ⊥
LiesIn (Some l) x = covers l.grant.buffer x ≡ true

-- ---- the coherent pool

-- an area has the place, be it its hart's or its channel's
pub record IsOfArea (a : Book) (x : ℕ) : Type 0 where
  pub id : MapId
  pub loan : Loan
  pub lent : a.loan id ≡ Some loan
  pub area : loan.area ≡ true
  pub on : covers loan.grant.buffer x ≡ true

-- a place of the pool, with this owner: nobody's, or of an area
abbrev pub IsPooled : Book → Owner → ℕ → Type 0
IsPooled a o x = (o ≡ Pool) ⊎ IsOfArea a x
