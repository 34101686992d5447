-- Scatter lists: their entries, slots, parts and segments. This project's own, after the Linux DMA API's dma_map_sg.
use Rattle.std.specs.Prelude.{◌≡◌, ℕ, zero, suc, ◌+◌, ◌*◌, ◌<◌, ◌≤◌, ◌==◌, ◌&&◌, Bool, false, not, List, [], ◌∷◌, map, flat_map, filter_map, position, is_none, unwrap_or, if◌then◌else◌, Option, Some, None}
use Rattle.std.specs.List.{range_with_len}
use Rattle.nc_num.specs.declared.places.Span.{Span}
use Rattle.nc_num.specs.declared.names.Dir.{Dir}
use Rattle.nc_plan.specs.declared.parts.Part.{Part}
use Rattle.nc_plan.specs.declared.segments.Segment.{Segment}
use Rattle.nc_plan.specs.Parts.{bounces, in_slot, slot_len}
use Rattle.nc_sg.specs.declared.list.Entry.{Entry}

-- what a caller sees of a list
pub record SgView : Type 0 where
  pub dir : Dir
  pub entries : List Entry

-- a range that a list takes
pub record IsRange (span : Span) : Type 0 where
  pub some : 0 < span.len
  pub ends : span.at + span.len ≤ 1048576

-- an entry of a list
pub record IsEntry (e : Entry) : Type 0 where
  pub range : IsRange e.span
  pub slot : unwrap_or e.slot 0 < 64

-- an entry as a list begins
abbrev pub fresh : Dir → ℕ → ℕ → Span → Entry
fresh dir size reach span = record { span = span; bounced = bounces span dir size reach; slot = None }

abbrev pub list_of : Dir → ℕ → ℕ → List Span → SgView
list_of dir size reach spans = record { dir = dir; entries = map (fresh dir size reach) spans }

-- it bounces and has no slot
abbrev pub waits : Entry → Bool
waits e = e.bounced && is_none e.slot

-- the first that waits
abbrev pub next_waiting : List Entry → Option ℕ
next_waiting es = position waits es

-- it gets this slot
abbrev pub give_slot : ℕ → List Entry → List Entry
give_slot slot [] = []
give_slot slot (e ∷ es) = if waits e then record e { slot = Some slot } ∷ es else e ∷ give_slot slot es

-- the slots held, in order of entries
abbrev pub held : List Entry → List ℕ
held es = filter_map (λ e. e.slot) es

abbrev pub forgotten : Entry → Entry
forgotten e = record e { slot = None }

-- entry i has no slot any more
abbrev pub slot_taken : ℕ → List Entry → List Entry
slot_taken i [] = []
slot_taken zero (e ∷ es) = forgotten e ∷ es
slot_taken (suc i) (e ∷ es) = e ∷ slot_taken i es

-- one range that never bounces
abbrev pub direct : Dir → Span → SgView
direct dir span = record { dir = dir; entries = record { span = span; bounced = false; slot = None } ∷ [] }

-- the range by which the channel sees an entry; slot k starts at the place slots_at + 2,048 k
abbrev pub device : ℕ → Entry → Span
device slots_at e = if e.bounced then in_slot (slots_at + slot_len * unwrap_or e.slot 0) e.span else e.span

abbrev pub part_of : Dir → ℕ → Entry → Part
part_of dir slots_at e = record { buffer = e.span; device = device slots_at e; dir = dir }

-- a range on the bus, where RAM starts at 0x8000_0000
abbrev pub on_bus : Span → Segment
on_bus span = record { bus = 2147483648 + span.at; len = span.len }

abbrev pub segment_of : ℕ → Entry → Segment
segment_of slots_at e = on_bus (device slots_at e)

-- both are direct, and the first ends where the next starts
abbrev pub joins : Entry → Entry → Bool
joins e f = (not e.bounced && not f.bounced) && e.span.at + e.span.len == f.span.at

-- the segment s, which ends with the entry e, and those of the entries after e
abbrev pub run_on : ℕ → Segment → Entry → List Entry → List Segment
run_on slots_at s e [] = s ∷ []
run_on slots_at s e (f ∷ fs) = if joins e f then run_on slots_at (record s { len = s.len + f.span.len }) f fs else s ∷ run_on slots_at (segment_of slots_at f) f fs

abbrev pub segments : ℕ → List Entry → List Segment
segments slots_at [] = []
segments slots_at (e ∷ es) = run_on slots_at (segment_of slots_at e) e es

-- the bytes of a segment, by their places on the bus
abbrev pub bytes_of : Segment → List ℕ
bytes_of s = range_with_len s.bus s.len

-- the law: the bytes of the segments, one after another, are those of the entries' device ranges
abbrev pub SegmentsKeepTheBytes : Type 0
SegmentsKeepTheBytes = (slots_at : ℕ) (es : List Entry) → flat_map bytes_of (segments slots_at es) ≡ flat_map (λ e. bytes_of (segment_of slots_at e)) es
