-- What a hart sees at a place: its queue's newest byte, else the caches', else memory's. This project's own.
use Rattle.std.specs.Prelude.{ℕ, Bool, List, map, unwrap_or, is_none}
use Rattle.std.specs.List.{range_with_len, list_any}
use Rattle.nc_num.specs.Memory.{byte}
use Rattle.nc_num.specs.declared.places.Span.{Span}
use Rattle.nc_num.specs.declared.names.MemType.{MemType}
use Rattle.nc_num.specs.declared.names.MemType.TheVariants.{Pma, Nc, Io}
use Rattle.nc_cache.specs.Cache as cache
use Rattle.nc_queue.specs.Rules.{gives}
use Rattle.nc_rules.specs.Machine.{MachineState, queue_of}

-- the byte that the caches have at a place, else memory's
unfoldable pub middle : MachineState → ℕ → ℕ
middle m x = cache.middle m.size m.cache x

-- the byte below the queues: NC and IO go past the caches (Svpbmt)
abbrev pub below : MachineState → MemType → ℕ → ℕ
below m Pma x = middle m x
below m Nc x = byte m.cache.ram x
below m Io x = byte m.cache.ram x

-- the byte that an access of a type sees
unfoldable pub seen : MachineState → ℕ → MemType → ℕ → ℕ
seen m h kind x = unwrap_or (gives m.size (queue_of m h) x) (below m kind x)

-- the byte that the hart sees in main memory
abbrev pub view : MachineState → ℕ → ℕ → ℕ
view m h x = seen m h Pma x

-- the bytes that a load shows
abbrev pub bytes_seen : MachineState → ℕ → MemType → Span → List ℕ
bytes_seen m h kind span = map (seen m h kind) (range_with_len span.at span.len)

-- some byte of a span comes from no entry of the hart's queue
abbrev pub reaches_below : MachineState → ℕ → Span → Bool
reaches_below m h span = list_any (λ x. is_none (gives m.size (queue_of m h) x)) (range_with_len span.at span.len)

-- the bytes of a span as the caches have them, else memory
abbrev pub bytes_of : MachineState → Span → List ℕ
bytes_of m span = map (middle m) (range_with_len span.at span.len)
