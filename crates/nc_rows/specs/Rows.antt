-- Where the byte v of flat memory stands at place x, by the owner of the place. A mapping's place x is seen by its
-- channel at place y: the same, or one of a bounce slot. This project's own.
use Rattle.std.specs.Prelude.{ℕ, ◌≡◌, ◌⊎◌, ◌+◌, ◌-◌, ◌/◌, Bool, true, false, List, Option, Some, None}
use Rattle.std.specs.List.{list_any}
use Rattle.nc_num.specs.declared.names.Dir.{Dir}
use Rattle.nc_num.specs.declared.names.Dir.TheVariants.{Both, ToDev, FromDev}
use Rattle.nc_num.specs.declared.names.MapId.{MapId}
use Rattle.nc_env.specs.declared.CboOp.{CboOp}
use Rattle.nc_env.specs.declared.CboOp.TheVariants as cbos
use Rattle.nc_queue.specs.Entries.{has_op, gives_in, is_wo, is_zero, writes_back}
use Rattle.nc_queue.specs.Laws.{Stands, Covered}
use Rattle.nc_queue.specs.declared.entry.Entry.{Entry}
use Rattle.nc_lines.specs.Lines.{line, gives_at, Marked}
use Rattle.nc_model.specs.declared.owners.Grant.{Grant}
use Rattle.nc_model.specs.declared.owners.Owner.{Owner}
use Rattle.nc_model.specs.declared.owners.Owner.TheVariants.{Thread, Passing, Lending, Device, Returning, Synced, Pool}
use Rattle.nc_rules.specs.declared.lots.LotId.{LotId}
use Rattle.nc_rules.specs.declared.steps.Step.{Step}
use Rattle.nc_rules.specs.Machine.{MachineState, queue_of}
use Rattle.nc_calls.specs.PlaceLaws.{FreshAt, NotHeld, drops_copies, may_leave_stale_copy}
use Rattle.nc_rows.specs.Places.{given, ThreadRow, QuietRow, PoolRow, CalmRow, OpenRow, Alone}
use Rattle.nc_rows.specs.Ahead.{names, is_full, coming, settling, sending, is_mail}

-- what a mapping is: its grant, the lot that it is an entry of, and whether it is a coherent area
pub record Loan : Type 0 where
  pub grant : Grant
  pub lot : LotId
  pub area : Bool

-- what rows are read with beside the machine: the mappings, the rest of each hart's plan, and the number of the buffer
-- of a place
pub record Book : Type 0 where
  pub loan : MapId → Option Loan
  pub rest : ℕ → List Step
  pub buffer : ℕ → ℕ

-- the place as the channel sees it
abbrev pub device_place : Loan → ℕ → ℕ
device_place l x = l.grant.device.at + (x - l.grant.buffer.at)

-- ---- cache operations on the block of a place

abbrev pub back : MachineState → ℕ → Entry → Bool
back m y e = has_op writes_back (y / m.size) e

abbrev pub drop : MachineState → ℕ → Entry → Bool
drop m y e = has_op drops_copies (y / m.size) e

abbrev pub is_flush : CboOp → Bool
is_flush cbos.Flush = true
is_flush cbos.Clean = false
is_flush cbos.Inval = false
is_flush cbos.Zero = false

abbrev pub flushes : MachineState → ℕ → Entry → Bool
flushes m x e = has_op is_flush (x / m.size) e

abbrev pub zeroes : MachineState → ℕ → Entry → Bool
zeroes m x e = has_op is_zero (x / m.size) e

abbrev pub gives_here : MachineState → ℕ → Entry → Bool
gives_here m x e = gives_at m.size x e

abbrev pub gives_block : MachineState → ℕ → Entry → Bool
gives_block m x e = gives_in m.size (x / m.size) e

-- ---- a buffer that is passed on: what its hart stored stands before a marker before the message, and with the message
-- out no queue has a byte of it

pub record PassingRow (h v b : ℕ) (rest : List Step) (m : MachineState) (x : ℕ) : Type 0 where
  pub giver : ThreadRow h v m x
  pub covered : Covered (gives_here m x) is_wo (is_mail b) (line (queue_of m h) (sending b rest))
  pub sent : list_any (is_mail b) (line (queue_of m h) (sending b rest)) ≡ false → given m h x ≡ None

-- ---- a mapping that is being lent

-- the byte in its slot: the copy is still to come, or the hart sees it there
pub record SlotRow (h v : ℕ) (ahead : List Entry) (m : MachineState) (y : ℕ) : Type 0 where
  pub unstored : list_any (gives_here m y) ahead ≡ true → CalmRow m y
  pub stored : list_any (gives_here m y) ahead ≡ false → ThreadRow h v m y

-- What the hart stored of p stands before the clean or the flush of the block, and this before a marker before the
-- token. Once no such operation stands before the token the byte is settled
pub record LendingRow (p : Entry → Bool) (settled_so : Type 0) (n : MapId) (v : ℕ) (ahead : List Entry) (m : MachineState) (x y : ℕ) : Type 0 where
  pub buffer : ThreadRow n.hart.0 v m x
  pub slot : (x ≡ y) ⊎ SlotRow n.hart.0 v ahead m y
  pub behind : Covered p (back m y) (names n) (line (queue_of m n.hart.0) ahead)
  pub marked : Marked (back m y) (names n) (line (queue_of m n.hart.0) ahead)
  pub settled : (Stands (back m y) (names n) (line (queue_of m n.hart.0) ahead) → ⊥) → settled_so

-- to the device: other bytes of the block are free
abbrev pub LendingTo : MapId → ℕ → List Entry → MachineState → ℕ → ℕ → Type 0
LendingTo n v ahead m x y = LendingRow (gives_here m y) (PoolRow v m y) n v ahead m x y

-- from the device: the whole block is lent
pub record LendingFrom (n : MapId) (v : ℕ) (ahead : List Entry) (m : MachineState) (x y : ℕ) : Type 0 where
  pub lending : LendingRow (gives_block m y) (OpenRow v m y) n v ahead m x y
  pub alone : Alone n.hart.0 m y

-- an area that is allocated: each block is zeroed and then flushed
pub record AllocatingRow (n : MapId) (v : ℕ) (ahead : List Entry) (m : MachineState) (x : ℕ) : Type 0 where
  pub buffer : ThreadRow n.hart.0 v m x
  pub alone : Alone n.hart.0 m x
  pub whole : (g : ℕ) → list_any (λ e. may_leave_stale_copy m.size e x) (queue_of m g) ≡ false
  pub behind : Covered (gives_block m x) (flushes m x) (names n) (line (queue_of m n.hart.0) ahead)
  pub unzeroed : list_any (zeroes m x) ahead ≡ true → NotHeld m x × (list_any (gives_block m x) (queue_of m n.hart.0) ≡ false)
  pub settled : (Stands (flushes m x) (names n) (line (queue_of m n.hart.0) ahead) → ⊥) → PoolRow v m x × NotHeld m x

-- an area that is given to its channel
pub record GivingRow (n : MapId) (v : ℕ) (ahead : List Entry) (m : MachineState) (x : ℕ) : Type 0 where
  pub buffer : ThreadRow n.hart.0 v m x
  pub covered : Covered (gives_here m x) is_wo (names n) (line (queue_of m n.hart.0) ahead)

-- ---- a mapping that the device has

pub record DeviceTo (n : MapId) (v : ℕ) (m : MachineState) (x y : ℕ) : Type 0 where
  pub device : PoolRow v m y
  pub buffer : ThreadRow n.hart.0 v m x

pub record DeviceFrom (n : MapId) (v : ℕ) (m : MachineState) (x y : ℕ) : Type 0 where
  pub device : OpenRow v m y
  pub buffer : (x ≡ y) ⊎ QuietRow n.hart.0 m x

-- ---- a mapping that is taken back

-- its blocks are dropped, before the full fence
pub record DroppingRow (n : MapId) (v : ℕ) (ahead : List Entry) (m : MachineState) (x y : ℕ) : Type 0 where
  pub device : OpenRow v m y
  pub dropped : (Stands (drop m y) is_full (line (queue_of m n.hart.0) ahead) → ⊥) → FreshAt m y
  pub buffer : (x ≡ y) ⊎ QuietRow n.hart.0 m x

-- the byte in its buffer: the copy back is still to come, or the hart sees it there
pub record HomeRow (h v : ℕ) (ahead : List Entry) (m : MachineState) (x : ℕ) : Type 0 where
  pub unstored : list_any (gives_here m x) ahead ≡ true → QuietRow h m x
  pub stored : list_any (gives_here m x) ahead ≡ false → ThreadRow h v m x

-- it comes back, behind the full fence
pub record ComingRow (n : MapId) (v : ℕ) (ahead : List Entry) (m : MachineState) (x y : ℕ) : Type 0 where
  pub device : PoolRow v m y
  pub buffer : (x ≡ y) ⊎ HomeRow n.hart.0 v ahead m x

-- ---- by owner

-- the first of two where it holds
abbrev pub Either : Bool → Type 0 → Type 0 → Type 0
Either true p q = p
Either false p q = q

-- the first where the device reads the mapping only
abbrev pub ByDir : Dir → Type 0 → Type 0 → Type 0
ByDir ToDev p q = p
ByDir Both p q = q
ByDir FromDev p q = q

abbrev pub ahead_of : Book → MapId → Loan → List Entry
ahead_of a n l = coming n l.lot (a.rest n.hart.0)

abbrev pub LentRow : Book → MapId → Option Loan → ℕ → MachineState → ℕ → Type 0
LentRow a n None v m x = ⊥
LentRow a n (Some l) v m x =
    Either l.area
    (Either (settling l.lot (a.rest n.hart.0)) (AllocatingRow n v (ahead_of a n l) m x) (GivingRow n v (ahead_of a n l) m x))
    (ByDir l.grant.dir (LendingTo n v (ahead_of a n l) m x (device_place l x)) (LendingFrom n v (ahead_of a n l) m x (device_place l x)))

abbrev pub DeviceRow : MapId → Option Loan → ℕ → MachineState → ℕ → Type 0
DeviceRow n None v m x = ⊥
DeviceRow n (Some l) v m x = Either l.area (PoolRow v m x) (ByDir l.grant.dir (DeviceTo n v m x (device_place l x)) (DeviceFrom n v m x (device_place l x)))

abbrev pub BackRow : Book → MapId → Option Loan → ℕ → MachineState → ℕ → Type 0
BackRow a n None v m x = ⊥
BackRow a n (Some l) v m x =
    Either l.area (ThreadRow n.hart.0 v m x)
    (ByDir l.grant.dir (DeviceTo n v m x (device_place l x))
    (Either (list_any is_full (ahead_of a n l)) (DroppingRow n v (ahead_of a n l) m x (device_place l x)) (ComingRow n v (ahead_of a n l) m x (device_place l x))))

abbrev pub SyncedRow : MapId → Option Loan → ℕ → MachineState → ℕ → Type 0
SyncedRow n None v m x = ⊥
SyncedRow n (Some l) v m x = ThreadRow n.hart.0 v m x

abbrev pub Row : Book → Owner → ℕ → MachineState → ℕ → Type 0
Row a (Thread h) v m x = ThreadRow h.0 v m x
Row a (Passing h g) v m x = PassingRow h.0 v (a.buffer x) (a.rest h.0) m x
Row a (Lending n) v m x = LentRow a n (a.loan n) v m x
Row a (Device n) v m x = DeviceRow n (a.loan n) v m x
Row a (Returning n) v m x = BackRow a n (a.loan n) v m x
Row a (Synced n) v m x = SyncedRow n (a.loan n) v m x
Row a Pool v m x = PoolRow v m x
