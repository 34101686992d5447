-- A row stands where neither a queue nor a byte at its places changes.
use Rattle.std.specs.Prelude.{Option, Some, None, ◌/◌}
use Rattle.std.specs.List.{list_any}
use Rattle.std.proofs.Common.{◌≡◌, ◌⊎◌, ℕ, Bool, true, false, List, refl, ap, ◌∙◌, inl, inr}
use Rattle.nc_num.specs.declared.names.Dir.{Dir}
use Rattle.nc_num.specs.declared.names.Dir.TheVariants.{Both, ToDev, FromDev}
use Rattle.nc_num.specs.declared.names.MapId.{MapId}
use Rattle.nc_queue.specs.Entries.{gives_in}
use Rattle.nc_queue.specs.declared.entry.Entry.{Entry}
use Rattle.nc_lines.specs.Lines.{gives_at}
use Rattle.nc_model.specs.declared.owners.Owner.{Owner}
use Rattle.nc_model.specs.declared.owners.Owner.TheVariants.{Thread, Passing, Lending, Device, Returning, Synced, Pool}
use Rattle.nc_rules.specs.declared.steps.Step.{Step}
use Rattle.nc_rules.specs.Machine.{MachineState}
use Rattle.nc_calls.specs.PlaceLaws.{NotHeld}
use Rattle.nc_rows.specs.Places.{QuietRow, PoolRow, OpenRow}
use Rattle.nc_rows.specs.Ahead.{is_full, settling}
use Rattle.nc_rows.specs.Rows.{Loan, Book, device_place, gives_here, gives_block, PassingRow, SlotRow, LendingRow, LendingTo, LendingFrom, AllocatingRow, GivingRow, DeviceTo, DeviceFrom, DroppingRow, HomeRow, ComingRow, Either, ByDir, ahead_of, LentRow, DeviceRow, BackRow, SyncedRow, Row}
use Rattle.nc_rows.specs.Laws.{FrameAt, SameQueues, RowsKeep, seen_at, place_of, is_lent_area, area_of}
use Rattle.nc_rows.proofs.PlaceFrames.{of_same, of_keeps, given_same, quiet_same, thread_same, pool_same, calm_same, open_same, alone_same}

passing_same : (m k : MachineState) (h v b x : ℕ) (rest : List Step) → SameQueues m k → FrameAt m k x → PassingRow h v b rest m x → PassingRow h v b rest k x
passing_same m k h v b x rest q frame row = record {
  giver = thread_same m k h v x q frame row.giver;
  covered = rw (q.size, q.queues h) row.covered;
  sent = λ none. given_same m k h x q ∙ row.sent (rw (← q.queues h) none);
}

slot_same : (m k : MachineState) (h v y : ℕ) (ahead : List Entry) → SameQueues m k → FrameAt m k y → SlotRow h v ahead m y → SlotRow h v ahead k y
slot_same m k h v y ahead q frame row = record {
  unstored = λ coming. calm_same m k y q frame (row.unstored (rw (← q.size) coming));
  stored = λ none. thread_same m k h v y q frame (row.stored (rw (← q.size) none));
}

-- a mapping that is being lent, whatever is settled once its blocks are written back
lending_same : (p : MachineState → ℕ → Entry → Bool) (S : MachineState → Type 0) (m k : MachineState) (n : MapId) (v x y : ℕ) (ahead : List Entry) → SameQueues m k → FrameAt m k x → FrameAt m k y
    → p k y ≡ p m y → (S m → S k) → LendingRow (p m y) (S m) n v ahead m x y → LendingRow (p k y) (S k) n v ahead k x y
lending_same p S m k n v x y ahead q frame beside same settle row = record {
  buffer = thread_same m k n.hart.0 v x q frame row.buffer;
  slot = elim row.slot [ inl direct ↦ inl direct | inr slot ↦ inr (slot_same m k n.hart.0 v y ahead q beside slot) ];
  behind = rw (same, q.size, q.queues n.hart.0) row.behind;
  marked = rw (q.size, q.queues n.hart.0) row.marked;
  settled = λ none. settle (row.settled (rw (← q.size, ← q.queues n.hart.0) none));
}

here_same : (m k : MachineState) (y : ℕ) → SameQueues m k → gives_here k y ≡ gives_here m y
here_same m k y q = ap {B = Entry → Bool} (λ (s : ℕ). λ (e : Entry). gives_at s y e) q.size

block_same : (m k : MachineState) (y : ℕ) → SameQueues m k → gives_block k y ≡ gives_block m y
block_same m k y q = ap {B = Entry → Bool} (λ (s : ℕ). λ (e : Entry). gives_in s (y / s) e) q.size

to_same : (m k : MachineState) (n : MapId) (v x y : ℕ) (ahead : List Entry) → SameQueues m k → FrameAt m k x → FrameAt m k y → LendingTo n v ahead m x y → LendingTo n v ahead k x y
to_same m k n v x y ahead q frame beside row = lending_same gives_here (λ j. PoolRow v j y) m k n v x y ahead q frame beside (here_same m k y q) (pool_same m k v y q beside) row

from_same : (m k : MachineState) (n : MapId) (v x y : ℕ) (ahead : List Entry) → SameQueues m k → FrameAt m k x → FrameAt m k y → LendingFrom n v ahead m x y → LendingFrom n v ahead k x y
from_same m k n v x y ahead q frame beside row = record {
  lending = lending_same gives_block (λ j. OpenRow v j y) m k n v x y ahead q frame beside (block_same m k y q) (open_same m k v y q beside) row.lending;
  alone = alone_same m k n.hart.0 y q row.alone;
}

allocating_same : (m k : MachineState) (n : MapId) (v x : ℕ) (ahead : List Entry) → SameQueues m k → FrameAt m k x → (NotHeld m x → NotHeld k x) → AllocatingRow n v ahead m x → AllocatingRow n v ahead k x
allocating_same m k n v x ahead q frame held row = record {
  buffer = thread_same m k n.hart.0 v x q frame row.buffer;
  alone = alone_same m k n.hart.0 x q row.alone;
  whole = λ g. rw (q.size, q.queues g) (row.whole g);
  behind = rw (q.size, q.queues n.hart.0) row.behind;
  unzeroed = λ coming. let was = row.unzeroed (rw (← q.size) coming) in (held was.0, rw (q.size, q.queues n.hart.0) was.1);
  settled = λ none. let was = row.settled (rw (← q.size, ← q.queues n.hart.0) none) in (pool_same m k v x q frame was.0, held was.1);
}

giving_same : (m k : MachineState) (n : MapId) (v x : ℕ) (ahead : List Entry) → SameQueues m k → FrameAt m k x → GivingRow n v ahead m x → GivingRow n v ahead k x
giving_same m k n v x ahead q frame row = record { buffer = thread_same m k n.hart.0 v x q frame row.buffer; covered = rw (q.size, q.queues n.hart.0) row.covered }

-- ---- the device's, and what is taken back

device_to_same : (m k : MachineState) (n : MapId) (v x y : ℕ) → SameQueues m k → FrameAt m k x → FrameAt m k y → DeviceTo n v m x y → DeviceTo n v k x y
device_to_same m k n v x y q frame beside row = record { device = pool_same m k v y q beside row.device; buffer = thread_same m k n.hart.0 v x q frame row.buffer }

buffer_same : (m k : MachineState) (h x y : ℕ) → SameQueues m k → FrameAt m k x → (x ≡ y) ⊎ QuietRow h m x → (x ≡ y) ⊎ QuietRow h k x
buffer_same m k h x y q frame (inl direct) = inl direct
buffer_same m k h x y q frame (inr quiet) = inr (quiet_same m k h x q frame quiet)

device_from_same : (m k : MachineState) (n : MapId) (v x y : ℕ) → SameQueues m k → FrameAt m k x → FrameAt m k y → DeviceFrom n v m x y → DeviceFrom n v k x y
device_from_same m k n v x y q frame beside row = record { device = open_same m k v y q beside row.device; buffer = buffer_same m k n.hart.0 x y q frame row.buffer }

dropping_same : (m k : MachineState) (n : MapId) (v x y : ℕ) (ahead : List Entry) → SameQueues m k → FrameAt m k x → FrameAt m k y → DroppingRow n v ahead m x y → DroppingRow n v ahead k x y
dropping_same m k n v x y ahead q frame beside row = record {
  device = open_same m k v y q beside row.device;
  dropped = λ none. (beside.fresh (row.dropped (rw (← q.size, ← q.queues n.hart.0) none))).0;
  buffer = buffer_same m k n.hart.0 x y q frame row.buffer;
}

home_same : (m k : MachineState) (h v x : ℕ) (ahead : List Entry) → SameQueues m k → FrameAt m k x → HomeRow h v ahead m x → HomeRow h v ahead k x
home_same m k h v x ahead q frame row = record {
  unstored = λ coming. quiet_same m k h x q frame (row.unstored (rw (← q.size) coming));
  stored = λ none. thread_same m k h v x q frame (row.stored (rw (← q.size) none));
}

coming_same : (m k : MachineState) (n : MapId) (v x y : ℕ) (ahead : List Entry) → SameQueues m k → FrameAt m k x → FrameAt m k y → ComingRow n v ahead m x y → ComingRow n v ahead k x y
coming_same m k n v x y ahead q frame beside row = record {
  device = pool_same m k v y q beside row.device;
  buffer = elim row.buffer [ inl direct ↦ inl direct | inr home ↦ inr (home_same m k n.hart.0 v x ahead q frame home) ];
}

-- ---- by owner

pub either_map : (b : Bool) (p q r s : Type 0) → (p → r) → (q → s) → Either b p q → Either b r s
either_map true p q r s first second row = first row
either_map false p q r s first second row = second row

either_when : (b : Bool) (p q r s : Type 0) → (b ≡ true → p → r) → (q → s) → Either b p q → Either b r s
either_when true p q r s first second row = first refl row
either_when false p q r s first second row = second row

pub dir_map : (d : Dir) (p q r s : Type 0) → (p → r) → (q → s) → ByDir d p q → ByDir d r s
dir_map ToDev p q r s first second row = first row
dir_map Both p q r s first second row = second row
dir_map FromDev p q r s first second row = second row

lent_same : (a : Book) (n : MapId) (o : Option Loan) (v : ℕ) (m k : MachineState) (x : ℕ) → SameQueues m k → FrameAt m k x → FrameAt m k (place_of o x) → (area_of o ≡ true → NotHeld m x → NotHeld k x) → LentRow a n o v m x → LentRow a n o v k x
lent_same a n None v m k x q frame beside held row = absurd row
lent_same a n (Some l) v m k x q frame beside held row =
    let ahead = ahead_of a n l in
    let y = device_place l x in
    either_when l.area _ _ _ _ (λ area. either_map (settling l.lot (a.rest n.hart.0)) _ _ _ _ (allocating_same m k n v x ahead q frame (held area)) (giving_same m k n v x ahead q frame))
    (dir_map l.grant.dir _ _ _ _ (to_same m k n v x y ahead q frame beside) (from_same m k n v x y ahead q frame beside)) row

device_same : (n : MapId) (o : Option Loan) (v : ℕ) (m k : MachineState) (x : ℕ) → SameQueues m k → FrameAt m k x → FrameAt m k (place_of o x) → DeviceRow n o v m x → DeviceRow n o v k x
device_same n None v m k x q frame beside row = absurd row
device_same n (Some l) v m k x q frame beside row =
    let y = device_place l x in
    either_map l.area _ _ _ _ (pool_same m k v x q frame) (dir_map l.grant.dir _ _ _ _ (device_to_same m k n v x y q frame beside) (device_from_same m k n v x y q frame beside)) row

back_same : (a : Book) (n : MapId) (o : Option Loan) (v : ℕ) (m k : MachineState) (x : ℕ) → SameQueues m k → FrameAt m k x → FrameAt m k (place_of o x) → BackRow a n o v m x → BackRow a n o v k x
back_same a n None v m k x q frame beside row = absurd row
back_same a n (Some l) v m k x q frame beside row =
    let ahead = ahead_of a n l in
    let y = device_place l x in
    either_map l.area _ _ _ _ (thread_same m k n.hart.0 v x q frame)
    (dir_map l.grant.dir _ _ _ _ (device_to_same m k n v x y q frame beside)
    (either_map (list_any is_full ahead) _ _ _ _ (dropping_same m k n v x y ahead q frame beside) (coming_same m k n v x y ahead q frame beside))) row

synced_same : (n : MapId) (o : Option Loan) (v : ℕ) (m k : MachineState) (x : ℕ) → SameQueues m k → FrameAt m k x → SyncedRow n o v m x → SyncedRow n o v k x
synced_same n None v m k x q frame row = absurd row
synced_same n (Some l) v m k x q frame row = thread_same m k n.hart.0 v x q frame row

pub kept : (a : Book) (o : Owner) (v : ℕ) (m k : MachineState) (x : ℕ) → SameQueues m k → FrameAt m k x → FrameAt m k (seen_at a o x) → (is_lent_area a o ≡ true → NotHeld m x → NotHeld k x) → Row a o v m x → Row a o v k x
kept a (Thread h) v m k x q frame beside held row = thread_same m k h.0 v x q frame row
kept a (Passing h g) v m k x q frame beside held row = passing_same m k h.0 v (a.buffer x) x (a.rest h.0) q frame row
kept a (Lending n) v m k x q frame beside held row = lent_same a n (a.loan n) v m k x q frame beside held row
kept a (Device n) v m k x q frame beside held row = device_same n (a.loan n) v m k x q frame beside row
kept a (Returning n) v m k x q frame beside held row = back_same a n (a.loan n) v m k x q frame beside row
kept a (Synced n) v m k x q frame beside held row = synced_same n (a.loan n) v m k x q frame row
kept a Pool v m k x q frame beside held row = pool_same m k v x q frame row

pub rows_keep : RowsKeep
rows_keep = record { of_same = of_same; of_keeps = of_keeps; kept = kept }
