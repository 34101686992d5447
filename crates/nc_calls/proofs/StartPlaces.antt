-- The start, place by place, and what a load shows.
use Rattle.std.specs.Prelude.{Option, None, unwrap_or}
use Rattle.std.proofs.Common.{◌≡◌, ℕ, ◌+◌, ◌/◌, ◌<◌, [], length, refl, inl, inr, sym, ap, arith}
use Rattle.std.proofs.lemmas.Bool.{cases_lt}
use Rattle.std.proofs.lemmas.List.{get_or-replicate, get_or_past, length-replicate}
use Rattle.std.proofs.lemmas.List.FromFn.{get_or-map-range_with_len, length-map-range_with_len}
use Rattle.std.specs.Ordering.{nat_cmp}
use Rattle.std.specs.FinMap as finmap
use Rattle.nc_num.specs.Memory.{byte}
use Rattle.nc_num.specs.declared.names.HartNo.{HartNo}
use Rattle.nc_num.specs.declared.names.MemType.{MemType}
use Rattle.nc_num.specs.declared.names.MemType.TheVariants.{Pma, Nc, Io}
use Rattle.nc_num.specs.declared.places.Span.{Span}
use Rattle.nc_num.proofs.MemoryLaws.{span-by_place}
use Rattle.nc_cache.proofs.Places.{middle-clear}
use Rattle.nc_cache.proofs.Wholes.{fresh_start, clear_start, middle-start}
use Rattle.nc_queue.specs.Rules.{gives}
use Rattle.nc_hart.specs.HartState.{HartState}
use Rattle.nc_pdma.specs.Channel.{new_channel}
use Rattle.nc_scen.specs.declared.scenario.Scenario.{Scenario}
use Rattle.nc_scen.specs.Regions.{pool_of}
use Rattle.nc_rules.specs.Machine.{MachineState, no_hart, queue_of, channel_of, grantee_of, box_of, fresh_hart}
use Rattle.nc_rules.specs.View.{middle, below, seen, view, bytes_seen}
use Rattle.nc_rules.specs.Start.{memory, first_machine}
use Rattle.nc_calls.specs.PlaceLaws.{FreshAt, ClearAt, NotHeld}
use Rattle.nc_calls.specs.CallLaws.{StartIsEmpty, LoadsShowWhatIsSeen}
use Rattle.nc_calls.proofs.CacheFrames.{copy_free}
use Rattle.nc_calls.proofs.SoundStart.{blank, length-memory}

-- ---- the start

abbrev nobody : Option HartNo
nobody = None

size_start : (sc : Scenario) → (first_machine sc).size ≡ sc.block_size
unfolding first_machine
size_start sc = refl

pool_start : (sc : Scenario) → (first_machine sc).pool ≡ pool_of sc
unfolding first_machine
pool_start sc = refl

harts_start : (sc : Scenario) → length (first_machine sc).harts ≡ length sc.harts
unfolding first_machine
harts_start sc = length-replicate (length sc.harts) (fresh_hart sc.block_size)

boxes_start : (sc : Scenario) → length (first_machine sc).boxes ≡ length sc.buffers
unfolding first_machine
boxes_start sc = length-replicate (length sc.buffers) nobody

queue_start : (sc : Scenario) (h : ℕ) → queue_of (first_machine sc) h ≡ []
unfolding first_machine
queue_start sc h = elim (cases_lt h (length sc.harts)) [
  | inl lt ↦ ap (λ (s : HartState). s.queue.entries) (get_or-replicate (length sc.harts) h (fresh_hart sc.block_size) no_hart lt)
  | inr le ↦ ap (λ (s : HartState). s.queue.entries) (get_or_past (first_machine sc).harts h no_hart (omega (arith, length-replicate (length sc.harts) (fresh_hart sc.block_size), le)))
]

memory_start : (sc : Scenario) → (first_machine sc).cache.ram ≡ memory sc
unfolding first_machine
memory_start sc = refl

not_held_start : (sc : Scenario) (x : ℕ) → NotHeld (first_machine sc) x
unfolding first_machine
not_held_start sc x = finmap.get-empty nat_cmp (x / sc.block_size)

fresh_first : (sc : Scenario) (x : ℕ) → FreshAt (first_machine sc) x
unfolding first_machine
fresh_first sc x = fresh_start sc.block_size (memory sc) x

clear_first : (sc : Scenario) (x : ℕ) → ClearAt (first_machine sc) x
unfolding first_machine
clear_first sc x = clear_start sc.block_size (memory sc) x

copy_first : (sc : Scenario) (x : ℕ) → middle (first_machine sc) x ≡ byte (memory sc) x
unfolding first_machine middle
copy_first sc x = middle-start sc.block_size (memory sc) x

view_first : (sc : Scenario) (h x : ℕ) → view (first_machine sc) h x ≡ byte (memory sc) x
unfolding seen gives
view_first sc h x = rw (copy_first sc x, queue_start sc h) refl

channel_first : (sc : Scenario) (c : ℕ) → channel_of (first_machine sc) c ≡ new_channel
unfolding first_machine
channel_first sc c = blank 4 c new_channel

grantee_first : (sc : Scenario) (c : ℕ) → grantee_of (first_machine sc) c ≡ None
unfolding first_machine
grantee_first sc c = blank 4 c nobody

box_first : (sc : Scenario) (buf : ℕ) → box_of (first_machine sc) buf ≡ None
unfolding first_machine
box_first sc buf = blank (length sc.buffers) buf nobody

pub start_is_empty : StartIsEmpty
start_is_empty = record {
  size_is = size_start;
  pool_is = pool_start;
  harts_are = harts_start;
  boxes_are = boxes_start;
  queues = queue_start;
  memory_is = memory_start;
  long = length-memory;
  not_held = not_held_start;
  fresh = fresh_first;
  clear = clear_first;
  views = view_first;
  channels = channel_first;
  grantees = grantee_first;
  boxes = box_first;
}

-- ---- what a load shows

long_seen : (m : MachineState) (h : ℕ) (kind : MemType) (span : Span) → length (bytes_seen m h kind span) ≡ span.len
long_seen m h kind span = length-map-range_with_len (seen m h kind) span.at span.len

byte_seen : (m : MachineState) (h : ℕ) (kind : MemType) (span : Span) (i : ℕ) → i < span.len → byte (bytes_seen m h kind span) i ≡ seen m h kind (span.at + i)
byte_seen m h kind span i lt = get_or-map-range_with_len (seen m h kind) span.at span.len i (span.at + i) 0 lt refl

below_same : (m : MachineState) (kind : MemType) (x : ℕ) → middle m x ≡ byte m.cache.ram x → below m kind x ≡ middle m x
below_same m Pma x same = refl
below_same m Nc x same = sym same
below_same m Io x same = sym same

types_agree : (m : MachineState) (h : ℕ) (kind : MemType) (x : ℕ) → middle m x ≡ byte m.cache.ram x → seen m h kind x ≡ view m h x
unfolding seen
types_agree m h kind x same = ap (unwrap_or (gives m.size (queue_of m h) x)) (below_same m kind x same)

not_held_copy : (m : MachineState) (x : ℕ) → NotHeld m x → middle m x ≡ byte m.cache.ram x
unfolding middle
not_held_copy m x none = copy_free m.size m.cache x none

settled_copy : (m : MachineState) (x : ℕ) → FreshAt m x → ClearAt m x → middle m x ≡ byte m.cache.ram x
unfolding middle
settled_copy m x f k = middle-clear m.size m.cache x f k

pub loads_show : LoadsShowWhatIsSeen
loads_show = record {
  long = long_seen;
  byte_is = byte_seen;
  copies_long = λ m span. length-map-range_with_len (middle m) span.at span.len;
  copy_is = λ m span i lt. get_or-map-range_with_len (middle m) span.at span.len i (span.at + i) 0 lt refl;
  shows = λ m h kind span flat fits each. span-by_place flat (seen m h kind) span.at span.len fits each;
  types_agree = types_agree;
  not_held = not_held_copy;
  settled = settled_copy;
}
