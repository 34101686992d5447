-- Each row, after a channel's transaction.
use Rattle.std.specs.Prelude.{Option, Some, None, ◌-◌}
use Rattle.std.proofs.Common.{◌≡◌, ◌⊎◌, ℕ, ◌+◌, ◌<◌, ◌≤◌, Bool, true, false, List, refl, sym, ap, ◌∙◌, inl, inr, subst}
use Rattle.nc_num.specs.Memory.{byte}
use Rattle.nc_num.specs.declared.names.Dir.{Dir}
use Rattle.nc_num.specs.declared.names.Dir.TheVariants.{Both, ToDev, FromDev}
use Rattle.nc_num.specs.declared.names.MapId.{MapId}
use Rattle.nc_num.specs.declared.places.Span.{Span}
use Rattle.nc_model.specs.declared.owners.Owner.{Owner}
use Rattle.nc_model.specs.declared.owners.Owner.TheVariants.{Device}
use Rattle.nc_rules.specs.Machine.{MachineState}
use Rattle.nc_calls.specs.PlaceLaws.{NotHeld, Stays, WritesSpan}
use Rattle.nc_calls.specs.MachineLaws.{SameShape}
use Rattle.nc_rules.specs.View.{middle}
use Rattle.nc_calls.proofs.StartPlaces.{loads_show}
use Rattle.nc_rows.specs.Places.{QuietRow, PoolRow, OpenRow}
use Rattle.nc_rows.specs.Rows.{Loan, Book, device_place, DeviceTo, DeviceFrom, Either, ByDir, DeviceRow, Row}
use Rattle.nc_rows.specs.Laws.{SameQueues, FrameAt, seen_at, place_of}
use Rattle.nc_rows.proofs.PlaceFrames.{of_same, given_same, quiet_same}
use Rattle.nc_rows.proofs.Kept.{kept}
use Rattle.nc_row_channels.specs.Laws.{Beside, IsWritten, IsPlain, RowsOfChannels}

-- ---- nothing is written

stays : (a : Book) (o : Owner) (v : ℕ) (m k : MachineState) (x : ℕ) → SameShape m k → Stays m k → Row a o v m x → Row a o v k x
stays a o v m k x shape same row =
    kept a o v m k x (record { size = shape.size; queues = same.queues }) (of_same m k x (same.places x)) (of_same m k (seen_at a o x) (same.places (seen_at a o x)))
    (λ area none. (same.places x).line ∙ none) row

-- ---- what is read

either_shows : (b : Bool) (p q s r : Type 0) → (p → s → r) → (q → r) → Either b p (Unit {0}) → Either b s q → r
either_shows true p q s r first second told row = first told row
either_shows false p q s r first second told row = second row

dir_shows : (d : Dir) (p q r : Type 0) → (p → r) → (q → r) → ByDir d p q → r
dir_shows ToDev p q r first second row = first row
dir_shows Both p q r first second row = second row
dir_shows FromDev p q r first second row = second row

device_shows : (n : MapId) (o : Option Loan) (v : ℕ) (m : MachineState) (x : ℕ) → IsPlain o x → DeviceRow n o v m x → byte m.cache.ram (place_of o x) ≡ v
device_shows n None v m x plain row = absurd row
device_shows n (Some l) v m x plain row =
    let y = device_place l x in
    either_shows l.area (y ≡ x) (ByDir l.grant.dir (DeviceTo n v m x y) (DeviceFrom n v m x y)) (PoolRow v m x) (byte m.cache.ram y ≡ v)
    (λ same pool. ap (byte m.cache.ram) same ∙ pool.both.memory)
    (dir_shows l.grant.dir _ _ _ (λ (r : DeviceTo n v m x y). r.device.both.memory) (λ (r : DeviceFrom n v m x y). r.device.memory)) plain row

-- ---- what is written

queues : (m k : MachineState) (span : Span) (bytes : List ℕ) → SameShape m k → WritesSpan m k span bytes → SameQueues m k
queues m k span bytes shape writes = record { size = shape.size; queues = writes.queues }

beside : (a : Book) (o : Owner) (v : ℕ) (m k : MachineState) (span : Span) (bytes : List ℕ) (x : ℕ) → SameShape m k → WritesSpan m k span bytes → Beside span x → Beside span (seen_at a o x) → Row a o v m x → Row a o v k x
beside a o v m k span bytes x shape writes here there row =
    kept a o v m k x (queues m k span bytes shape writes) (of_same m k x (writes.away x here)) (of_same m k (seen_at a o x) (writes.away (seen_at a o x) there)) (λ area none. writes.not_held x none) row

open_written : (m k : MachineState) (span : Span) (bytes : List ℕ) (v y : ℕ) → SameShape m k → WritesSpan m k span bytes → span.at ≤ y → y < span.at + span.len → OpenRow v m y → OpenRow (byte bytes (y - span.at)) k y
open_written m k span bytes v y shape writes low high row = record {
  clear = writes.clear y row.clear;
  memory = writes.here y low high;
  none = λ g. rw (shape.size, writes.queues g) (row.none g);
}

pool_written : (m k : MachineState) (span : Span) (bytes : List ℕ) (v y : ℕ) → SameShape m k → WritesSpan m k span bytes → span.at ≤ y → y < span.at + span.len → NotHeld m y → PoolRow v m y → PoolRow (byte bytes (y - span.at)) k y
unfolding middle
pool_written m k span bytes v y shape writes low high free row =
    let memory = writes.here y low high in
    record {
      both = record { memory = memory; copy = loads_show.not_held k y (writes.not_held y free) ∙ memory };
      none = λ g. given_same m k g y (queues m k span bytes shape writes) ∙ row.none g;
    }

buffer_written : (m k : MachineState) (span : Span) (bytes : List ℕ) (h x y : ℕ) → SameShape m k → WritesSpan m k span bytes → (x ≡ y) ⊎ Beside span x → (x ≡ y) ⊎ QuietRow h m x → (x ≡ y) ⊎ QuietRow h k x
buffer_written m k span bytes h x y shape writes here (inl direct) = inl direct
buffer_written m k span bytes h x y shape writes (inl direct) (inr quiet) = inl direct
buffer_written m k span bytes h x y shape writes (inr away) (inr quiet) = inr (quiet_same m k h x (queues m k span bytes shape writes) (of_same m k x (writes.away x away)) quiet)

either_written : (b : Bool) (a c p q r s : Type 0) → (a → p → r) → (c → q → s) → Either b a c → Either b p q → Either b r s
either_written true a c p q r s first second told row = first told row
either_written false a c p q r s first second told row = second told row

dir_written : (d : Dir) (c p q r s : Type 0) → (c → q → s) → ByDir d ⊥ c → ByDir d p q → ByDir d r s
dir_written ToDev c p q r s second told row = absurd told
dir_written Both c p q r s second told row = second told row
dir_written FromDev c p q r s second told row = second told row

device_written : (n : MapId) (o : Option Loan) (v : ℕ) (m k : MachineState) (span : Span) (bytes : List ℕ) (x : ℕ) → SameShape m k → WritesSpan m k span bytes → span.at ≤ place_of o x → place_of o x < span.at + span.len → IsWritten o span m x
    → DeviceRow n o v m x → DeviceRow n o (byte bytes (place_of o x - span.at)) k x
device_written n None v m k span bytes x shape writes low high is row = absurd row
device_written n (Some l) v m k span bytes x shape writes low high is row =
    let y = device_place l x in
    either_written l.area _ _ _ _ _ _
    (λ told pool. subst (λ (u : ℕ). PoolRow u k x) (sym (ap (λ (z : ℕ). byte bytes (z - span.at)) told.0)) (pool_written m k span bytes v x shape writes (rw (← told.0) low) (rw (← told.0) high) told.1 pool))
    (dir_written l.grant.dir _ _ _ _ _ (λ told (r : DeviceFrom n v m x y). record {
      device = open_written m k span bytes v y shape writes low high r.device;
      buffer = buffer_written m k span bytes n.hart.0 x y shape writes told r.buffer;
    })) is row

pub rows_of_channels : RowsOfChannels
rows_of_channels = record {
  stays = stays;
  shows = λ a n v m x plain row. device_shows n (a.loan n) v m x plain row;
  beside = beside;
  written = λ a n v m k span bytes x shape writes low high is row. device_written n (a.loan n) v m k span bytes x shape writes low high is row;
}
