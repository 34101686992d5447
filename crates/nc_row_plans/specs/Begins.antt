-- How a row begins with a turn of its owner, as statements. `ahead` is what the plan is to put in the queue.
use Rattle.std.specs.Prelude.{ℕ, ◌≡◌, ◌⊎◌, true, false, Bool, List, [], ◌∷◌}
use Rattle.std.specs.List.{list_any}
use Rattle.nc_num.specs.declared.names.MapId.{MapId}
use Rattle.nc_queue.specs.Entries.{is_wo}
use Rattle.nc_queue.specs.Laws.{Stands, Covered}
use Rattle.nc_queue.specs.declared.entry.Entry.{Entry}
use Rattle.nc_lines.specs.Lines.{line, bare, Marked}
use Rattle.nc_rules.specs.declared.steps.Step.{Step}
use Rattle.nc_rules.specs.Machine.{MachineState, queue_of}
use Rattle.nc_calls.specs.PlaceLaws.{NotHeld, may_leave_stale_copy}
use Rattle.nc_rows.specs.Ahead.{names, is_full, is_mail, sending}
use Rattle.nc_rows.specs.Places.{ThreadRow, PoolRow, CalmRow, Alone}
use Rattle.nc_rows.specs.Rows.{back, drop, flushes, gives_here, gives_block, PassingRow, LendingTo, LendingFrom, AllocatingRow, GivingRow, DeviceFrom, DroppingRow}

-- none of t is in a hart's queue
abbrev pub NoneQueued : (Entry → Bool) → MachineState → ℕ → Type 0
NoneQueued t m h = list_any t (queue_of m h) ≡ false

-- what a plan that lends is to put there: behind each entry of p one of w, behind that a marker, and then the token
pub record LendsAhead (p w : Entry → Bool) (n : MapId) (ahead : List Entry) : Type 0 where
  pub behind : Covered p w (names n) ahead
  pub written : Stands w (names n) ahead
  pub marked : Marked w (names n) ahead
  pub marker : Stands is_wo (names n) ahead

-- the byte in the device's place: the buffer's own, or a slot's that a copy is to come into
abbrev pub IsReady : MachineState → ℕ → ℕ → List Entry → Type 0
IsReady m x y ahead = (x ≡ y) ⊎ (CalmRow m y × (list_any (gives_here m y) ahead ≡ true))

pub record RowsBegin : Type 0 where
  pub lend_to : (m : MachineState) (n : MapId) (v x y : ℕ) (ahead : List Entry) → NoneQueued (names n) m n.hart.0 → LendsAhead (gives_here m y) (back m y) n ahead → IsReady m x y ahead → ThreadRow n.hart.0 v m x
      → LendingTo n v ahead m x y
  pub lend_from : (m : MachineState) (n : MapId) (v x y : ℕ) (ahead : List Entry) → NoneQueued (names n) m n.hart.0 → LendsAhead (gives_block m y) (back m y) n ahead → IsReady m x y ahead → Alone n.hart.0 m y
      → ThreadRow n.hart.0 v m x → LendingFrom n v ahead m x y
  -- an area of which there is no copy and no entry
  pub allocate : (m : MachineState) (n : MapId) (v x : ℕ) (ahead : List Entry) → Covered (gives_block m x) (flushes m x) (names n) ahead → Stands (flushes m x) (names n) ahead → NotHeld m x
      → ((g : ℕ) → NoneQueued (gives_block m x) m g) → ((g : ℕ) → list_any (λ e. may_leave_stale_copy m.size e x) (queue_of m g) ≡ false) → NoneQueued (names n) m n.hart.0 → PoolRow v m x → AllocatingRow n v ahead m x
  pub give : (m : MachineState) (n : MapId) (v x : ℕ) (ahead : List Entry) → NoneQueued (names n) m n.hart.0 → Covered (gives_here m x) is_wo (names n) ahead → Stands is_wo (names n) ahead → ThreadRow n.hart.0 v m x
      → GivingRow n v ahead m x
  -- the device's mapping is taken back: no full fence is ever queued
  pub take_back : (m : MachineState) (n : MapId) (v x y : ℕ) (ahead : List Entry) → NoneQueued is_full m n.hart.0 → Stands (drop m y) is_full ahead → DeviceFrom n v m x y → DroppingRow n v ahead m x y
  pub take_area : (m : MachineState) (h v x : ℕ) → PoolRow v m x → ThreadRow h v m x
  -- a buffer is passed on, and taken
  pub pass : (m : MachineState) (h v b x : ℕ) (rest : List Step) → NoneQueued (is_mail b) m h → Covered (gives_here m x) is_wo (is_mail b) (sending b rest) → Stands is_wo (is_mail b) (sending b rest)
      → list_any (is_mail b) (sending b rest) ≡ true → ThreadRow h v m x → PassingRow h v b rest m x
  pub take : (m : MachineState) (h g v b x : ℕ) (rest : List Step) → list_any (is_mail b) (line (queue_of m h) (sending b rest)) ≡ false → PassingRow h v b rest m x → ThreadRow g v m x
