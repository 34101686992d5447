-- What a row is read with beside the machine, before and behind a driver's call, as statements.
use Rattle.std.specs.Prelude.{ℕ, ◌≡◌, Option, Some, None}
use Rattle.nc_num.specs.declared.names.MapId.{MapId}
use Rattle.nc_model.specs.declared.owners.Owner.{Owner}
use Rattle.nc_model.specs.declared.owners.Owner.TheVariants.{Thread, Passing, Lending, Device, Returning, Synced, Pool}
use Rattle.nc_rules.specs.Machine.{MachineState}
use Rattle.nc_rows.specs.Ahead.{settling, sending}
use Rattle.nc_rows.specs.Rows.{Loan, Book, ahead_of, Row}

-- what is to come for a mapping is the same by both books
pub record SameComing (a c : Book) (n : MapId) (l : Loan) : Type 0 where
  pub ahead : ahead_of c n l ≡ ahead_of a n l
  pub settles : settling l.lot (c.rest n.hart.0) ≡ settling l.lot (a.rest n.hart.0)

abbrev pub SameLoan : Book → Book → MapId → Option Loan → Type 0
SameLoan a c n None = Unit {0}
SameLoan a c n (Some l) = SameComing a c n l

-- both books say the same of all that the row of this owner tells at the place
abbrev pub ReadsAlike : Book → Book → Owner → ℕ → Type 0
ReadsAlike a c (Thread h) x = Unit {0}
ReadsAlike a c (Passing h g) x = (c.buffer x ≡ a.buffer x) × (sending (a.buffer x) (c.rest h.0) ≡ sending (a.buffer x) (a.rest h.0))
ReadsAlike a c (Lending n) x = (c.loan n ≡ a.loan n) × SameLoan a c n (a.loan n)
ReadsAlike a c (Device n) x = c.loan n ≡ a.loan n
ReadsAlike a c (Returning n) x = (c.loan n ≡ a.loan n) × SameLoan a c n (a.loan n)
ReadsAlike a c (Synced n) x = c.loan n ≡ a.loan n
ReadsAlike a c Pool x = Unit {0}

pub record BooksCarry : Type 0 where
  pub row : (a c : Book) (o : Owner) (v : ℕ) (m : MachineState) (x : ℕ) → ReadsAlike a c o x → Row a o v m x → Row c o v m x
