-- What is asked of an entry that a script, or a hart that passes a buffer, puts in its queue. This project's own.
use Rattle.std.specs.Prelude.{ℕ, ◌≡◌, ◌⊎◌, ◌/◌, true, false, map, Option, Some, None}
use Rattle.std.specs.List.{list_any}
use Rattle.nc_num.specs.declared.names.HartNo.{HartNo}
use Rattle.nc_num.specs.declared.names.MapId.{MapId}
use Rattle.nc_queue.specs.Entries.{entry_gives, has_op, is_inval}
use Rattle.nc_queue.specs.declared.entry.Entry.{Entry}
use Rattle.nc_lines.specs.Lines.{bare}
use Rattle.nc_plan.specs.Parts.{comes_back}
use Rattle.nc_model.specs.declared.owners.Owner.{Owner}
use Rattle.nc_model.specs.declared.owners.Owner.TheVariants.{Thread, Passing, Lending, Device, Returning, Synced, Pool}
use Rattle.nc_rules.specs.declared.lots.LotId.{LotId}
use Rattle.nc_rules.specs.Machine.{MachineState, queue_of}
use Rattle.nc_rows.specs.Ahead.{names, is_full, is_mail}
use Rattle.nc_rows.specs.Rows.{Loan, Book, device_place}
use Rattle.nc_row_issues.specs.Laws.{IsOwn}
use Rattle.nc_flatness.specs.Tokens.{is_lot_token}

-- it gives a byte only where the place is hart h's own
abbrev pub GivesOwn : Book → (ℕ → Owner) → ℕ → ℕ → Entry → Type 0
GivesOwn a owner s h e = (x : ℕ) → (entry_gives s e x ≡ None) ⊎ IsOwn a h (owner x)

-- it is no token, no full fence and no invalidate
pub record IsPlain (e : Entry) : Type 0 where
  pub token : (n : MapId) → names n (bare e) ≡ false
  pub fence : is_full (bare e) ≡ false
  pub inval : (b : ℕ) → has_op is_inval b e ≡ false
  pub lot : (id : LotId) → is_lot_token id e ≡ false

-- nor a message
abbrev pub IsNoMail : Entry → Type 0
IsNoMail e = (b : ℕ) → is_mail b (bare e) ≡ false

-- nor one of the buffer of place x, if hart h passes it on
abbrev pub IsNotIts : Book → (ℕ → Owner) → ℕ → Entry → ℕ → Type 0
IsNotIts a owner h e x = (j g : HartNo) → owner x ≡ Passing j g → j.0 ≡ h → is_mail (a.buffer x) (bare e) ≡ false

-- the place is no hart's own
abbrev pub IsUnowned : Owner → Type 0
IsUnowned (Thread h) = ⊥
IsUnowned (Synced n) = ⊥
IsUnowned (Passing h g) = Unit {0}
IsUnowned (Lending n) = Unit {0}
IsUnowned (Device n) = Unit {0}
IsUnowned (Returning n) = Unit {0}
IsUnowned Pool = Unit {0}

-- the place at which the channel sees the mapping's is no hart's own, nor is a place of its block where the channel may
-- write, nor one of the block of an area's place
pub record IsApart (l : Loan) (owner : ℕ → Owner) (s x : ℕ) : Type 0 where
  pub place : IsUnowned (owner (device_place l x))
  pub block : comes_back l.grant.dir ≡ true → (y : ℕ) → y / s ≡ device_place l x / s → IsUnowned (owner y)
  pub area : l.area ≡ true → (y : ℕ) → y / s ≡ x / s → IsUnowned (owner y)

abbrev pub LoanIsApart : Option Loan → (ℕ → Owner) → ℕ → ℕ → Type 0
LoanIsApart None owner s x = Unit {0}
LoanIsApart (Some l) owner s x = IsApart l owner s x

-- the mapping that its channel has, or that is on its way, is such, if the place is one's
abbrev pub OwnerIsApart : Book → (ℕ → Owner) → ℕ → ℕ → Owner → Type 0
OwnerIsApart a owner s x (Lending n) = LoanIsApart (a.loan n) owner s x
OwnerIsApart a owner s x (Device n) = LoanIsApart (a.loan n) owner s x
OwnerIsApart a owner s x (Returning n) = LoanIsApart (a.loan n) owner s x
OwnerIsApart a owner s x (Synced n) = Unit {0}
OwnerIsApart a owner s x (Thread h) = Unit {0}
OwnerIsApart a owner s x (Passing h g) = Unit {0}
OwnerIsApart a owner s x Pool = Unit {0}

-- of each mapping of hart h itself that is being lent the token is queued
abbrev pub IsPosted : (ℕ → Owner) → MachineState → ℕ → ℕ → Type 0
IsPosted owner m h x = (n : MapId) → owner x ≡ Lending n → n.hart.0 ≡ h → list_any (names n) (map bare (queue_of m h)) ≡ true
