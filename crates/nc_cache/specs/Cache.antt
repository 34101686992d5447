-- The cache domain beside memory: for some blocks their bytes, and the harts that hold a copy, clean or dirty.
-- This project's own (an MSI protocol). Clean, flush and invalidate are those of CMO 1.0 (Zicbom), zero of Zicboz.
use Rattle.std.specs.Prelude.{ℕ, ◌*◌, ◌/◌, ◌%◌, Bool, true, false, ◌==◌, if◌then◌else◌, List, Option, Some, None, slice_index_or, slice_set, replicate, map as list_map}
use Rattle.std.specs.List.{list_any, range_with_len}
use Rattle.std.specs.Ordering.{nat_cmp}
use Rattle.std.specs.FinMap.{FinMap}
use Rattle.std.specs.FinMap as map
use Rattle.nc_num.specs.Memory.{byte, splice, span}
use Rattle.nc_num.specs.declared.names.HartNo.{HartNo}
use Rattle.nc_cache.specs.Harts.{only}
use Rattle.nc_cache.specs.declared.line.Held.{Held}
use Rattle.nc_cache.specs.declared.line.Held.TheVariants.{Shared, Dirty}
use Rattle.nc_cache.specs.declared.line.Line.{Line}

-- memory, and the blocks that some hart holds, by number
pub record Cache : Type 0 where
  pub ram : List ℕ
  pub lines : FinMap nat_cmp Line

-- the line of a block
abbrev pub line_at : Cache → ℕ → Option Line
line_at c b = map.get c.lines b

-- the lines with this one, or none, at a block
unfoldable pub with_line : FinMap nat_cmp Line → ℕ → Option Line → FinMap nat_cmp Line
with_line lines b None = map.remove lines b
with_line lines b (Some l) = map.insert lines b l

abbrev pub hart : ℕ → HartNo
hart h = record { 0 = h }

-- whether hart h has a copy
abbrev pub holds : Held → ℕ → Bool
holds (Shared by) h = slice_index_or by h false
holds (Dirty g) h = g.0 == h

abbrev pub held_by : Option Line → ℕ → Bool
held_by None h = false
held_by (Some l) h = holds l.held h

-- whether hart h has the copy, dirty
abbrev pub dirty_in : Held → ℕ → Bool
dirty_in (Shared by) h = false
dirty_in (Dirty g) h = g.0 == h

abbrev pub dirty_by : Option Line → ℕ → Bool
dirty_by None h = false
dirty_by (Some l) h = dirty_in l.held h

-- the harts with a copy
abbrev pub holders : Held → List Bool
holders (Shared by) = by
holders (Dirty g) = only g.0

-- the bytes of a block of s bytes: its line's, else memory's
unfoldable pub block_bytes : ℕ → List ℕ → ℕ → Option Line → List ℕ
block_bytes s ram b None = span ram (s * b) s
block_bytes s ram b (Some l) = l.bytes

-- memory after a dirty holder has written the block back
abbrev pub back : ℕ → List ℕ → ℕ → List ℕ → Held → List ℕ
back s ram b bytes (Shared by) = ram
back s ram b bytes (Dirty g) = splice ram (s * b) bytes

-- this line at a block, beside this memory
abbrev pub put : Cache → List ℕ → ℕ → Option Line → Cache
put c ram b o = record { ram = ram; lines = with_line c.lines b o }

-- a block that hart h has dirty
abbrev pub dirty : Cache → ℕ → ℕ → List ℕ → Cache
dirty c h b bytes = put c c.ram b (Some (record { bytes = bytes; held = Dirty (hart h) }))

-- load: nothing where h holds the block; else a dirty holder writes it back, and h gets a copy, of memory's bytes
-- where nobody holds it
abbrev pub load_of : ℕ → Cache → ℕ → ℕ → Option Line → Cache
load_of s c h b None = put c c.ram b (Some (record { bytes = span c.ram (s * b) s; held = Shared (only h) }))
load_of s c h b (Some l) =
    if holds l.held h then c else put c (back s c.ram b l.bytes l.held) b (Some (record { bytes = l.bytes; held = Shared (slice_set (holders l.held) h true) }))

unfoldable pub load : ℕ → Cache → ℕ → ℕ → Cache
load s c h b = load_of s c h b (line_at c b)

-- own: nothing where h has the block dirty; else h has it dirty, alone, and memory stays
abbrev pub own_of : ℕ → Cache → ℕ → ℕ → Option Line → Cache
own_of s c h b o = if dirty_by o h then c else dirty c h b (block_bytes s c.ram b o)

unfoldable pub own : ℕ → Cache → ℕ → ℕ → Cache
own s c h b = own_of s c h b (line_at c b)

-- store: own, and then the bytes are changed
unfoldable pub store : ℕ → Cache → ℕ → ℕ → List ℕ → Cache
store s c h at bs = dirty c h (at / s) (splice (block_bytes s c.ram (at / s) (line_at c (at / s))) (at % s) bs)

-- zero: own, and then the whole block is zero
unfoldable pub zero_block : ℕ → Cache → ℕ → ℕ → Cache
zero_block s c h b = dirty c h b (replicate s 0)

-- clean: a dirty holder writes back and becomes clean
abbrev pub cleaned : ℕ → Cache → ℕ → List ℕ → Held → Cache
cleaned s c b bytes (Shared by) = c
cleaned s c b bytes (Dirty g) = put c (splice c.ram (s * b) bytes) b (Some (record { bytes = bytes; held = Shared (only g.0) }))

abbrev pub clean_of : ℕ → Cache → ℕ → Option Line → Cache
clean_of s c b None = c
clean_of s c b (Some l) = cleaned s c b l.bytes l.held

unfoldable pub clean : ℕ → Cache → ℕ → Cache
clean s c b = clean_of s c b (line_at c b)

-- flush: a dirty holder writes back, and all copies are dropped
abbrev pub flush_of : ℕ → Cache → ℕ → Option Line → Cache
flush_of s c b None = c
flush_of s c b (Some l) = put c (back s c.ram b l.bytes l.held) b None

unfoldable pub flush : ℕ → Cache → ℕ → Cache
flush s c b = flush_of s c b (line_at c b)

-- inval: all copies are dropped, and nothing is written
abbrev pub inval_of : Cache → ℕ → Option Line → Cache
inval_of c b None = c
inval_of c b (Some l) = put c c.ram b None

unfoldable pub inval : Cache → ℕ → Cache
inval c b = inval_of c b (line_at c b)

-- clean copies, or none where nobody is left
abbrev pub shared : List ℕ → List Bool → Option Line
shared bytes by = if list_any (λ x. x) by then Some (record { bytes = bytes; held = Shared by }) else None

-- a line without h's copy
abbrev pub without : ℕ → List ℕ → Held → Option Line
without h bytes (Shared by) = shared bytes (slice_set by h false)
without h bytes (Dirty g) = None

-- evict: where h holds the block, a dirty copy is written back, and h's copy is dropped
abbrev pub evict_of : ℕ → Cache → ℕ → ℕ → Option Line → Cache
evict_of s c h b None = c
evict_of s c h b (Some l) = if holds l.held h then put c (back s c.ram b l.bytes l.held) b (without h l.bytes l.held) else c

unfoldable pub evict : ℕ → Cache → ℕ → ℕ → Cache
evict s c h b = evict_of s c h b (line_at c b)

-- the byte at a place: the domain's, else memory's
abbrev pub line_byte : ℕ → List ℕ → ℕ → Option Line → ℕ
line_byte s ram x None = byte ram x
line_byte s ram x (Some l) = byte l.bytes (x % s)

unfoldable pub middle : ℕ → Cache → ℕ → ℕ
middle s c x = line_byte s c.ram x (line_at c (x / s))

-- the bytes of a span, as the domain has them
abbrev pub bytes_at : ℕ → Cache → ℕ → ℕ → List ℕ
bytes_at s c at n = list_map (middle s c) (range_with_len at n)
