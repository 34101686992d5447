-- What loads and pushes leave of a row, as statements.
use Rattle.std.specs.Prelude.{ℕ, ◌≡◌, ◌≢◌, ◌⊎◌, ◌/◌, ◌<◌, Bool, true, false, List, map, Option, Some, None, unwrap_or}
use Rattle.std.specs.List.{list_any}
use Rattle.nc_num.specs.Places.{block_at}
use Rattle.nc_num.specs.declared.names.HartNo.{HartNo}
use Rattle.nc_num.specs.declared.names.MapId.{MapId}
use Rattle.nc_num.specs.declared.names.MemType.{MemType}
use Rattle.nc_num.specs.declared.names.MemType.TheVariants.{Pma}
use Rattle.nc_num.specs.declared.places.Span.{Span}
use Rattle.nc_queue.specs.Entries.{entry_gives, gives_in}
use Rattle.nc_queue.specs.declared.entry.Entry.{Entry}
use Rattle.nc_lines.specs.Lines.{bare}
use Rattle.nc_model.specs.declared.owners.Owner.{Owner}
use Rattle.nc_model.specs.declared.owners.Owner.TheVariants.{Thread, Passing, Lending, Device, Returning, Synced, Pool}
use Rattle.nc_rules.specs.Machine.{MachineState, queue_of}
use Rattle.nc_calls.specs.PlaceLaws.{Loads, Pushes, may_leave_stale_copy}
use Rattle.nc_calls.specs.MachineLaws.{SameShape}
use Rattle.nc_rows.specs.Ahead.{names, is_full, is_mail, settling}
use Rattle.nc_rows.specs.Places.{ThreadRow}
use Rattle.nc_rows.specs.Rows.{Loan, Book, device_place, back, ahead_of, Either, ByDir, Row}
use Rattle.nc_rows.specs.Laws.{is_lent_area}

-- an entry comes into hart h's queue
pub record Enters (m k : MachineState) (h : ℕ) (e : Entry) : Type 0 where
  pub pushes : Pushes m k h e
  pub shape : SameShape m k

-- ---- what is asked of an entry that a row lets pass

-- it gives no byte for the place, or none of the place's block
abbrev pub NoByte : MachineState → Entry → ℕ → Type 0
NoByte m e x = entry_gives m.size e x ≡ None

abbrev pub NoBlock : MachineState → Entry → ℕ → Type 0
NoBlock m e x = gives_in m.size (x / m.size) e ≡ false

-- the buffer's place, where it is not the device's
abbrev pub NoBuffer : MachineState → Entry → ℕ → ℕ → Type 0
NoBuffer m e x y = (x ≡ y) ⊎ NoByte m e x

-- it is no token of the mapping, if its own hart pushes it
abbrev pub NoToken : MapId → ℕ → Entry → Type 0
NoToken n h e = n.hart.0 ≡ h → names n (bare e) ≡ false

-- nor a clean or a flush of the block, before the token
abbrev pub NoBack : MapId → MachineState → ℕ → Entry → ℕ → Type 0
NoBack n m h e y = n.hart.0 ≡ h → (back m y (bare e) ≡ false) ⊎ (list_any (names n) (map bare (queue_of m n.hart.0)) ≡ true)

pub record PassesTo (n : MapId) (m : MachineState) (h : ℕ) (e : Entry) (x y : ℕ) : Type 0 where
  pub buffer : NoByte m e x
  pub device : NoByte m e y
  pub token : NoToken n h e
  pub back : NoBack n m h e y

pub record PassesFrom (n : MapId) (m : MachineState) (h : ℕ) (e : Entry) (x y : ℕ) : Type 0 where
  pub to : PassesTo n m h e x y
  pub block : NoBlock m e y

pub record PassesAllocating (n : MapId) (m : MachineState) (h : ℕ) (e : Entry) (x : ℕ) : Type 0 where
  pub place : NoByte m e x
  pub block : NoBlock m e x
  pub whole : may_leave_stale_copy m.size e x ≡ false
  pub token : NoToken n h e

pub record PassesGiving (n : MapId) (m : MachineState) (h : ℕ) (e : Entry) (x : ℕ) : Type 0 where
  pub place : NoByte m e x
  pub token : NoToken n h e

pub record PassesDevice (m : MachineState) (e : Entry) (x y : ℕ) : Type 0 where
  pub device : NoByte m e y
  pub buffer : NoByte m e x

pub record PassesOpen (m : MachineState) (e : Entry) (x y : ℕ) : Type 0 where
  pub device : NoBlock m e y
  pub buffer : NoBuffer m e x y

pub record PassesDropping (n : MapId) (m : MachineState) (h : ℕ) (e : Entry) (x y : ℕ) : Type 0 where
  pub opened : PassesOpen m e x y
  pub fence : n.hart.0 ≡ h → is_full (bare e) ≡ false

pub record PassesComing (m : MachineState) (e : Entry) (x y : ℕ) : Type 0 where
  pub device : NoByte m e y
  pub buffer : NoBuffer m e x y

pub record PassesPassing (j b : ℕ) (m : MachineState) (h : ℕ) (e : Entry) (x : ℕ) : Type 0 where
  pub place : NoByte m e x
  pub message : j ≡ h → is_mail b (bare e) ≡ false

abbrev pub PassesLent : Book → MapId → Option Loan → MachineState → ℕ → Entry → ℕ → Type 0
PassesLent a n None m h e x = Unit {0}
PassesLent a n (Some l) m h e x =
    Either l.area (Either (settling l.lot (a.rest n.hart.0)) (PassesAllocating n m h e x) (PassesGiving n m h e x))
    (ByDir l.grant.dir (PassesTo n m h e x (device_place l x)) (PassesFrom n m h e x (device_place l x)))

abbrev pub PassesLoan : MapId → Option Loan → MachineState → ℕ → Entry → ℕ → Type 0
PassesLoan n None m h e x = Unit {0}
PassesLoan n (Some l) m h e x = Either l.area (NoByte m e x) (ByDir l.grant.dir (PassesDevice m e x (device_place l x)) (PassesOpen m e x (device_place l x)))

abbrev pub PassesBack : Book → MapId → Option Loan → MachineState → ℕ → Entry → ℕ → Type 0
PassesBack a n None m h e x = Unit {0}
PassesBack a n (Some l) m h e x =
    Either l.area (NoByte m e x)
    (ByDir l.grant.dir (PassesDevice m e x (device_place l x))
    (Either (list_any is_full (ahead_of a n l)) (PassesDropping n m h e x (device_place l x)) (PassesComing m e x (device_place l x))))

abbrev pub Passes : Book → Owner → MachineState → ℕ → Entry → ℕ → Type 0
Passes a (Thread j) m h e x = NoByte m e x
Passes a (Passing j g) m h e x = PassesPassing j.0 (a.buffer x) m h e x
Passes a (Lending n) m h e x = PassesLent a n (a.loan n) m h e x
Passes a (Device n) m h e x = PassesLoan n (a.loan n) m h e x
Passes a (Returning n) m h e x = PassesBack a n (a.loan n) m h e x
Passes a (Synced n) m h e x = NoByte m e x
Passes a Pool m h e x = NoByte m e x

-- ---- the places of a hart itself

abbrev pub IsSyncedOf : ℕ → MapId → Option Loan → Type 0
IsSyncedOf h n None = ⊥
IsSyncedOf h n (Some l) = n.hart.0 ≡ h

abbrev pub IsOwn : Book → ℕ → Owner → Type 0
IsOwn a h (Thread j) = j.0 ≡ h
IsOwn a h (Synced n) = IsSyncedOf h n (a.loan n)
IsOwn a h _ = ⊥

pub record RowsIssue : Type 0 where
  -- a load, but for one that brings a block of an area that is being lent
  pub loaded : (a : Book) (o : Owner) (v : ℕ) (m k : MachineState) (h : ℕ) (span : Span) (kind : MemType) (x : ℕ) → SameShape m k → Loads m k h span kind
      → (is_lent_area a o ≡ true → kind ≡ Pma → x / m.size ≢ block_at span.at m.size) → Row a o v m x → Row a o v k x
  -- an entry that the row lets pass
  pub passed : (a : Book) (o : Owner) (v : ℕ) (m k : MachineState) (h : ℕ) (e : Entry) (x : ℕ) → Enters m k h e → Passes a o m h e x → Row a o v m x → Row a o v k x
  -- an entry over a place that is the hart's own, which gets its byte
  pub stored : (a : Book) (o : Owner) (v : ℕ) (m k : MachineState) (h : ℕ) (e : Entry) (x : ℕ) → Enters m k h e → IsOwn a h o → Row a o v m x → Row a o (unwrap_or (entry_gives m.size e x) v) k x
  -- the hart sees flat memory at a place of its own
  pub shows : (a : Book) (o : Owner) (v : ℕ) (m : MachineState) (h x : ℕ) → IsOwn a h o → Row a o v m x → ThreadRow h v m x
