-- What the steps of a mapping's own plan do to its row, as statements. Here `ahead` is what is still to come behind the
-- step.
use Rattle.std.specs.Prelude.{ℕ, ◌≡◌, ◌≢◌, ◌⊎◌, ◌/◌, Bool, true, false, List, [], ◌∷◌, Option, Some, None, unwrap_or}
use Rattle.std.specs.List.{list_any}
use Rattle.nc_num.specs.declared.names.MapId.{MapId}
use Rattle.nc_queue.specs.Entries.{entry_gives, is_w, Fits}
use Rattle.nc_queue.specs.declared.entry.Entry.{Entry}
use Rattle.nc_queue.specs.declared.entry.Entry.TheVariants.{Mark}
use Rattle.nc_lines.specs.Lines.{bare}
use Rattle.nc_rules.specs.declared.steps.Step.{Step}
use Rattle.nc_rules.specs.Machine.{MachineState, queue_of}
use Rattle.nc_rules.specs.Sound.{IsMachine}
use Rattle.nc_calls.specs.PlaceLaws.{NotHeld, may_leave_stale_copy}
use Rattle.nc_rows.specs.Ahead.{token, sending}
use Rattle.nc_rows.specs.Places.{ThreadRow, PoolRow}
use Rattle.nc_rows.specs.Rows.{gives_here, zeroes, PassingRow, LendingTo, LendingFrom, AllocatingRow, GivingRow, DeviceTo, DeviceFrom, DroppingRow, ComingRow}
use Rattle.nc_row_issues.specs.Laws.{Enters, NoByte, NoBlock, NoBuffer}

-- ---- an entry of the plan

-- it gives the byte v, and nothing behind it does; or it gives none
abbrev pub Puts : MachineState → Entry → ℕ → ℕ → List Entry → Type 0
Puts m e v z ahead = NoByte m e z ⊎ ((entry_gives m.size e z ≡ Some v) × (list_any (gives_here m z) ahead ≡ false))

-- into the slot of a bounced mapping
abbrev pub PutsDevice : MachineState → Entry → ℕ → ℕ → ℕ → List Entry → Type 0
PutsDevice m e v x y ahead = (x ≡ y) ⊎ Puts m e v y ahead

pub record Zeroes (m : MachineState) (e : Entry) (x : ℕ) (ahead : List Entry) : Type 0 where
  pub fits : Fits m.size e
  pub whole : may_leave_stale_copy m.size e x ≡ false
  -- a block is zeroed once
  pub once : NoBlock m e x ⊎ (list_any (zeroes m x) ahead ≡ false)

pub record RowsPlan : Type 0 where
  -- an entry of the plan: the line stays, and a copy puts its byte there
  pub lend_to : (m k : MachineState) (e : Entry) (n : MapId) (v x y : ℕ) (ahead : List Entry) → Enters m k n.hart.0 e → NoByte m e x → PutsDevice m e v x y ahead → LendingTo n v (bare e ∷ ahead) m x y
      → LendingTo n v ahead k x y
  pub lend_from : (m k : MachineState) (e : Entry) (n : MapId) (v x y : ℕ) (ahead : List Entry) → Enters m k n.hart.0 e → NoByte m e x → PutsDevice m e v x y ahead → LendingFrom n v (bare e ∷ ahead) m x y
      → LendingFrom n v ahead k x y
  pub allocate : (m k : MachineState) (e : Entry) (n : MapId) (v x : ℕ) (ahead : List Entry) → IsMachine m → Enters m k n.hart.0 e → Zeroes m e x ahead → AllocatingRow n v (bare e ∷ ahead) m x
      → AllocatingRow n (unwrap_or (entry_gives m.size e x) v) ahead k x
  pub give : (m k : MachineState) (e : Entry) (n : MapId) (v x : ℕ) (ahead : List Entry) → Enters m k n.hart.0 e → NoByte m e x → GivingRow n v (bare e ∷ ahead) m x → GivingRow n v ahead k x
  pub drop : (m k : MachineState) (e : Entry) (n : MapId) (v x y : ℕ) (ahead : List Entry) → Enters m k n.hart.0 e → NoBlock m e y → NoBuffer m e x y → DroppingRow n v (bare e ∷ ahead) m x y
      → DroppingRow n v ahead k x y
  pub come : (m k : MachineState) (e : Entry) (n : MapId) (v x y : ℕ) (ahead : List Entry) → Enters m k n.hart.0 e → NoByte m e y → (x ≡ y) ⊎ Puts m e v x ahead → ComingRow n v (bare e ∷ ahead) m x y
      → ComingRow n v ahead k x y
  -- the full fence: no write is queued any more
  pub lent_to : (m : MachineState) (n : MapId) (v x y : ℕ) (ahead : List Entry) → list_any is_w (queue_of m n.hart.0) ≡ false → LendingTo n v (Mark 15 15 ∷ token n ∷ ahead) m x y → DeviceTo n v m x y
  pub lent_from : (m : MachineState) (n : MapId) (v x y : ℕ) (ahead : List Entry) → list_any is_w (queue_of m n.hart.0) ≡ false → LendingFrom n v (Mark 15 15 ∷ token n ∷ ahead) m x y → DeviceFrom n v m x y
  pub allocated : (m : MachineState) (n : MapId) (v x : ℕ) → list_any is_w (queue_of m n.hart.0) ≡ false → AllocatingRow n v (Mark 15 15 ∷ []) m x → ThreadRow n.hart.0 v m x × NotHeld m x
  pub given : (m : MachineState) (n : MapId) (v x : ℕ) (ahead : List Entry) → list_any is_w (queue_of m n.hart.0) ≡ false → NotHeld m x → GivingRow n v ahead m x → PoolRow v m x
  pub dropped : (m : MachineState) (n : MapId) (v x y : ℕ) (ahead : List Entry) → IsMachine m → list_any is_w (queue_of m n.hart.0) ≡ false → (x ≡ y) ⊎ (list_any (gives_here m x) ahead ≡ true)
      → DroppingRow n v (Mark 15 15 ∷ ahead) m x y → ComingRow n v ahead m x y
  -- all has come back
  pub back : (m : MachineState) (n : MapId) (v x y : ℕ) → ComingRow n v [] m x y → ThreadRow n.hart.0 v m x
  -- the marker and the message of a buffer that is passed on
  pub send : (m k : MachineState) (e : Entry) (h v b x : ℕ) (rest left : List Step) → Enters m k h e → NoByte m e x → sending b rest ≡ bare e ∷ sending b left → PassingRow h v b rest m x → PassingRow h v b left k x
