-- What a drain, a fill and an eviction leave of a row, as statements.
use Rattle.std.specs.Prelude.{ℕ, ◌≡◌, ◌⊎◌, ◌/◌, ◌==◌, ◌&&◌, ◌<◌, Bool, true, false, List, [], length, Option, Some, None, All}
use Rattle.std.specs.List.{list_any}
use Rattle.nc_num.specs.declared.names.MapId.{MapId}
use Rattle.nc_num.specs.declared.names.HartNo.{HartNo}
use Rattle.nc_queue.specs.declared.entry.Entry.{Entry}
use Rattle.nc_model.specs.declared.owners.Owner.{Owner}
use Rattle.nc_model.specs.declared.owners.Owner.TheVariants.{Thread, Passing, Lending, Device, Returning, Synced, Pool}
use Rattle.nc_rules.specs.Machine.{MachineState}
use Rattle.nc_rules.specs.Calls.{leaving, drain_next, is_pooled, fill_next, evict_next}
use Rattle.nc_rules.specs.Sound.{IsMachine, IsBlockIn}
use Rattle.nc_calls.specs.PlaceLaws.{NotHeld, KeepsCoherence}
use Rattle.nc_calls.specs.MachineLaws.{IsMove}
use Rattle.nc_rows.specs.Ahead.{names, settling}
use Rattle.nc_rows.specs.Rows.{Loan, Book, device_place, gives_here, gives_block, ahead_of, Either, ByDir, Row}
use Rattle.nc_rows.specs.Laws.{is_lent_area}

-- ---- what is asked of the entry that drains

-- it loses no byte that the row tells: at a place of which copies may be stale it may
abbrev pub LosesFrom : MachineState → Entry → ℕ → ℕ → Type 0
LosesFrom m e x y = (x ≡ y) ⊎ KeepsCoherence m e x

abbrev pub LosesLent : Option Loan → MachineState → Entry → ℕ → Type 0
LosesLent None m e x = Unit {0}
LosesLent (Some l) m e x = KeepsCoherence m e x × KeepsCoherence m e (device_place l x)

abbrev pub LosesDevice : Option Loan → MachineState → Entry → ℕ → Type 0
LosesDevice None m e x = Unit {0}
LosesDevice (Some l) m e x = Either l.area (KeepsCoherence m e x) (ByDir l.grant.dir (KeepsCoherence m e x) (LosesFrom m e x (device_place l x)))

abbrev pub LosesNoRow : Book → Owner → MachineState → Entry → ℕ → Type 0
LosesNoRow a (Thread h) m e x = KeepsCoherence m e x
LosesNoRow a (Passing h g) m e x = KeepsCoherence m e x
LosesNoRow a (Lending n) m e x = LosesLent (a.loan n) m e x
LosesNoRow a (Device n) m e x = LosesDevice (a.loan n) m e x
LosesNoRow a (Returning n) m e x = LosesDevice (a.loan n) m e x
LosesNoRow a (Synced n) m e x = KeepsCoherence m e x
LosesNoRow a Pool m e x = Unit {0}

-- what comes of a place lies in its block, as each piece does
abbrev pub InBlock : MachineState → ℕ → Entry → Type 0
InBlock m y e = gives_here m y e ≡ true → gives_block m y e ≡ true

abbrev pub PiecesOf : Book → MapId → Option Loan → MachineState → ℕ → Type 0
PiecesOf a n None m x = Unit {0}
PiecesOf a n (Some l) m x = All (InBlock m (device_place l x)) (ahead_of a n l)

abbrev pub HasPieces : Book → Owner → MachineState → ℕ → Type 0
HasPieces a (Lending n) m x = PiecesOf a n (a.loan n) m x
HasPieces a (Thread h) m x = Unit {0}
HasPieces a (Passing h g) m x = Unit {0}
HasPieces a (Device n) m x = Unit {0}
HasPieces a (Returning n) m x = Unit {0}
HasPieces a (Synced n) m x = Unit {0}
HasPieces a Pool m x = Unit {0}

-- it is the token with which the mapping of the row is the device's
abbrev pub is_token_of : MapId → ℕ → Entry → Bool
is_token_of n h e = n.hart.0 == h && names n e

abbrev pub is_token : Owner → ℕ → Entry → Bool
is_token (Lending n) h e = is_token_of n h e
is_token (Thread k) h e = false
is_token (Passing k g) h e = false
is_token (Device n) h e = false
is_token (Returning n) h e = false
is_token (Synced n) h e = false
is_token Pool h e = false

-- entry i, e, of hart h's queue drains
pub record IsDrain (m : MachineState) (h i : ℕ) (e : Entry) : Type 0 where
  pub sound : IsMachine m
  pub hart : h < length m.harts
  pub out : leaving m h i ≡ Some e

-- an area is given and not allocated: no token ends the latter
abbrev pub IsGiven : Book → MapId → Option Loan → MachineState → ℕ → Type 0
IsGiven a n None m x = Unit {0}
IsGiven a n (Some l) m x = Either l.area ((settling l.lot (a.rest n.hart.0) ≡ false) × NotHeld m x) (Unit {0})

pub record RowsDrain : Type 0 where
  -- whatever it is, but for the token of the row's own mapping
  pub kept : (a : Book) (o : Owner) (v : ℕ) (m : MachineState) (h i : ℕ) (e : Entry) (x : ℕ) → IsDrain m h i e → LosesNoRow a o m e x → HasPieces a o m x → is_token o h e ≡ false
      → Row a o v m x → Row a o v (drain_next m h i) x
  -- with its token a mapping is the device's
  pub lent : (a : Book) (n : MapId) (v : ℕ) (m : MachineState) (h i : ℕ) (e : Entry) (x : ℕ) → IsDrain m h i e → LosesNoRow a (Lending n) m e x → is_token (Lending n) h e ≡ true → IsGiven a n (a.loan n) m x
      → Row a (Lending n) v m x → Row a (Device n) v (drain_next m h i) x

pub record RowsMove : Type 0 where
  pub fill : (a : Book) (o : Owner) (v : ℕ) (m : MachineState) (h b x : ℕ) → IsMachine m → IsMove m h b → (is_lent_area a o ≡ true → is_pooled m (x / m.size) ≡ true) → Row a o v m x → Row a o v (fill_next m h b) x
  pub evict : (a : Book) (o : Owner) (v : ℕ) (m : MachineState) (h b x : ℕ) → IsMachine m → IsMove m h b → Row a o v m x → Row a o v (evict_next m h b) x
