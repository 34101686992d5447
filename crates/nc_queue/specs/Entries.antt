-- The entries of a store queue: their classes, their blocks and the bytes that they give.
use Rattle.std.specs.Prelude.{◌≡◌, ℕ, ◌+◌, ◌-◌, ◌/◌, ◌%◌, ◌^◌, ◌<◌, ◌≤◌, Bool, true, false, ◌==◌, ◌&&◌, ◌||◌, if◌then◌else◌, List, [], ◌∷◌, length, Option, Some, None}
use Rattle.nc_num.specs.Memory.{byte}
use Rattle.nc_num.specs.Places.{block_at, covers}
use Rattle.nc_num.specs.declared.places.Span.{Span}
use Rattle.nc_num.specs.declared.names.MemType.{MemType}
use Rattle.nc_num.specs.declared.names.MemType.TheVariants.{Pma, Nc, Io}
use Rattle.nc_env.specs.declared.CboOp.{CboOp}
use Rattle.nc_env.specs.declared.CboOp.TheVariants.{Clean, Flush, Inval, Zero}
use Rattle.nc_queue.specs.declared.entry.Entry.{Entry}
use Rattle.nc_queue.specs.declared.entry.Entry.TheVariants.{Store, Cbo, Reg, Mail, Lend, Mark}

-- the bits of a FENCE set (RISC-V, FENCE: I 8, O 4, R 2, W 1)
abbrev pub has_w : ℕ → Bool
has_w set = set % 2 == 1

abbrev pub has_r : ℕ → Bool
has_r set = set / 2 ^ 1 % 2 == 1

abbrev pub has_o : ℕ → Bool
has_o set = set / 2 ^ 2 % 2 == 1

abbrev pub has_i : ℕ → Bool
has_i set = set / 2 ^ 3 % 2 == 1

abbrev pub is_io : MemType → Bool
is_io Pma = false
is_io Nc = false
is_io Io = true

-- class W, writes to memory: stores of each type, and cache operations (CMO 1.0 orders these as stores)
abbrev pub is_w : Entry → Bool
is_w (Store span bytes kind) = true
is_w (Cbo block op) = true
is_w (Reg chan off width value) = false
is_w (Mail buf to) = false
is_w (Lend label first count) = false
is_w (Mark pred succ) = false

-- class O, device output: stores of type IO (Svpbmt counts them as both), register stores, mailbox stores and
-- ownership tokens
abbrev pub is_o : Entry → Bool
is_o (Store span bytes kind) = is_io kind
is_o (Cbo block op) = false
is_o (Reg chan off width value) = true
is_o (Mail buf to) = true
is_o (Lend label first count) = true
is_o (Mark pred succ) = false

-- an entry of a class that is in the set
abbrev pub in_set : Entry → ℕ → Bool
in_set e set = (is_w e && has_w set) || (is_o e && has_o set)

-- the block of an entry, where it has one, for blocks of s bytes
abbrev pub block_of : ℕ → Entry → Option ℕ
block_of s (Store span bytes kind) = Some (block_at span.at s)
block_of s (Cbo block op) = Some block.0
block_of s (Reg chan off width value) = None
block_of s (Mail buf to) = None
block_of s (Lend label first count) = None
block_of s (Mark pred succ) = None

abbrev pub is_block : ℕ → Option ℕ → Bool
is_block b None = false
is_block b (Some c) = c == b

abbrev pub has_block : ℕ → ℕ → Entry → Bool
has_block s b e = is_block b (block_of s e)

-- a zero gives 0 at each place of its block; other cache operations give nothing
abbrev pub op_gives : ℕ → CboOp → ℕ → ℕ → Option ℕ
op_gives s Zero b x = if block_at x s == b then Some 0 else None
op_gives s Clean b x = None
op_gives s Flush b x = None
op_gives s Inval b x = None

-- the byte that an entry gives for a place: that of a store, or of a zero
abbrev pub entry_gives : ℕ → Entry → ℕ → Option ℕ
entry_gives s (Store span bytes kind) x = if covers span x then Some (byte bytes (x - span.at)) else None
entry_gives s (Cbo block op) x = op_gives s op block.0 x
entry_gives s (Reg chan off width value) x = None
entry_gives s (Mail buf to) x = None
entry_gives s (Lend label first count) x = None
entry_gives s (Mark pred succ) x = None

-- a token of this label
abbrev pub lends_label : ℕ → Entry → Bool
lends_label label (Lend of first count) = of.0 == label
lends_label label (Store span bytes kind) = false
lends_label label (Cbo block op) = false
lends_label label (Reg chan off width value) = false
lends_label label (Mail buf to) = false
lends_label label (Mark pred succ) = false

-- a store as it may stand in a queue: 1 to 8 bytes in one block of s bytes
pub record StoreFits (s : ℕ) (span : Span) (bytes : List ℕ) : Type 0 where
  pub some : 0 < span.len
  pub short : span.len ≤ 8
  pub one_block : span.at % s + span.len ≤ s
  pub whole : length bytes ≡ span.len

abbrev pub Fits : ℕ → Entry → Type 0
Fits s (Store span bytes kind) = StoreFits s span bytes
Fits s (Cbo block op) = Unit {0}
Fits s (Reg chan off width value) = Unit {0}
Fits s (Mail buf to) = Unit {0}
Fits s (Lend label first count) = Unit {0}
Fits s (Mark pred succ) = Unit {0}

abbrev pub AllFit : ℕ → List Entry → Type 0
AllFit s [] = Unit {0}
AllFit s (e ∷ q) = Fits s e × AllFit s q

-- tests for the laws: a cache operation of a kind on a block of this number; an entry that gives bytes of the block
abbrev pub has_op : (CboOp → Bool) → ℕ → Entry → Bool
has_op p b (Cbo block op) = p op && block.0 == b
has_op p b (Store span bytes kind) = false
has_op p b (Reg chan off width value) = false
has_op p b (Mail buf to) = false
has_op p b (Lend label first count) = false
has_op p b (Mark pred succ) = false

abbrev pub is_zero : CboOp → Bool
is_zero Zero = true
is_zero Clean = false
is_zero Flush = false
is_zero Inval = false

abbrev pub is_inval : CboOp → Bool
is_inval Inval = true
is_inval Clean = false
is_inval Flush = false
is_inval Zero = false

-- a dirty copy is written back
abbrev pub writes_back : CboOp → Bool
writes_back Clean = true
writes_back Flush = true
writes_back Inval = false
writes_back Zero = false

abbrev pub is_store : Entry → Bool
is_store (Store span bytes kind) = true
is_store (Cbo block op) = false
is_store (Reg chan off width value) = false
is_store (Mail buf to) = false
is_store (Lend label first count) = false
is_store (Mark pred succ) = false

abbrev pub gives_in : ℕ → ℕ → Entry → Bool
gives_in s b e = is_store e && has_block s b e || has_op is_zero b e

abbrev pub is_mark : Entry → Bool
is_mark (Mark pred succ) = true
is_mark (Store span bytes kind) = false
is_mark (Cbo block op) = false
is_mark (Reg chan off width value) = false
is_mark (Mail buf to) = false
is_mark (Lend label first count) = false

-- a marker that keeps class O behind class W
abbrev pub is_wo : Entry → Bool
is_wo (Mark pred succ) = has_w pred && has_o succ
is_wo (Store span bytes kind) = false
is_wo (Cbo block op) = false
is_wo (Reg chan off width value) = false
is_wo (Mail buf to) = false
is_wo (Lend label first count) = false
