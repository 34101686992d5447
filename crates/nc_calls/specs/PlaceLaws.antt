-- What each call of the machine does at one place of memory, to each queue, and to the channels and boxes.
use Rattle.std.specs.Prelude.{ℕ, ◌≡◌, ◌≢◌, ◌⊎◌, ◌+◌, ◌-◌, ◌/◌, ◌<◌, ◌≤◌, ◌==◌, Bool, true, false, List, [], ◌∷◌, ◌++◌, length, remove, Option, Some, None, slice_get, unwrap_or}
use Rattle.std.specs.List.{list_any}
use Rattle.nc_num.specs.Memory.{byte}
use Rattle.nc_num.specs.Places.{block_at, covers}
use Rattle.nc_num.specs.declared.places.Span.{Span}
use Rattle.nc_num.specs.declared.names.HartNo.{HartNo}
use Rattle.nc_num.specs.declared.names.MemType.{MemType}
use Rattle.nc_num.specs.declared.names.MemType.TheVariants.{Pma, Nc, Io}
use Rattle.nc_env.specs.declared.CboOp.{CboOp}
use Rattle.nc_env.specs.declared.CboOp.TheVariants.{Clean, Flush, Inval, Zero}
use Rattle.nc_cache.specs.declared.line.Line.{Line}
use Rattle.nc_cache.specs.Cache.{line_at}
use Rattle.nc_cache.specs.Facts.{Fresh, Clear, Both, Keeps, Drops}
use Rattle.nc_queue.specs.Entries.{entry_gives, has_block, has_op, gives_in, is_inval, writes_back, is_w, Fits}
use Rattle.nc_queue.specs.Rules.{gives}
use Rattle.nc_queue.specs.declared.entry.Entry.{Entry}
use Rattle.nc_queue.specs.declared.entry.Entry.TheVariants.{Store, Cbo, Reg, Mail, Lend, Mark}
use Rattle.nc_pdma.specs.Channel.{ChannelState, channel_write}
use Rattle.nc_pdma.specs.declared.channel.ChanStep.{ChanStep}
use Rattle.nc_pdma.specs.declared.channel.ChanStep.TheVariants.{Moved}
use Rattle.nc_rules.specs.Machine.{MachineState, hart_of, queue_of, channel_of, grantee_of, box_of}
use Rattle.nc_rules.specs.View.{middle, view, bytes_seen}
use Rattle.nc_rules.specs.Calls.{grantee_after, is_claimed}
use Rattle.nc_rules.specs.Sound.{EntryIsThere}
use Rattle.nc_calls.specs.MachineLaws.{SameDevices}

-- ---- one place of a machine

-- the copies of the place agree with memory, where they are clean
abbrev pub FreshAt : MachineState → ℕ → Type 0
FreshAt m x = Fresh m.size m.cache x

-- nobody has the block of the place dirty
abbrev pub ClearAt : MachineState → ℕ → Type 0
ClearAt m x = Clear m.size m.cache x

-- memory and each copy have this byte at the place
abbrev pub BothAt : MachineState → ℕ → ℕ → Type 0
BothAt m v x = Both m.size m.cache v x

-- the line of the place's block
abbrev pub line_of : MachineState → ℕ → Option Line
line_of m x = line_at m.cache (x / m.size)

-- nobody holds the block of the place
abbrev pub NotHeld : MachineState → ℕ → Type 0
NotHeld m x = line_of m x ≡ None

-- nothing changes at the place, in memory and in the caches
pub record SameAt (m n : MachineState) (x : ℕ) : Type 0 where
  pub line : line_of n x ≡ line_of m x
  pub memory : byte n.cache.ram x ≡ byte m.cache.ram x
  pub copy : middle n x ≡ middle m x
  pub fresh : FreshAt m x → FreshAt n x
  pub clear : ClearAt m x → ClearAt n x
  pub both : (v : ℕ) → BothAt m v x → BothAt n v x

-- copies are brought, written back or dropped: nothing changes that a hart sees at the place if no copy of it is stale
pub record KeepsAt (m n : MachineState) (x : ℕ) : Type 0 where
  pub cache : Keeps m.size m.cache n.cache x
  pub fresh : FreshAt m x → FreshAt n x × (middle n x ≡ middle m x)
  pub clear : ClearAt m x → ClearAt n x × (byte n.cache.ram x ≡ byte m.cache.ram x)
  pub both : (v : ℕ) → BothAt m v x → BothAt n v x
  pub views : FreshAt m x → (g : ℕ) → view n g x ≡ view m g x

-- ---- a queue

-- hart h's queue gets an entry
pub record QueueGains (m n : MachineState) (h : ℕ) (e : Entry) : Type 0 where
  pub own : queue_of n h ≡ queue_of m h ++ e ∷ []
  pub others : (g : ℕ) → g ≢ h → queue_of n g ≡ queue_of m g
  pub silent : (g x : ℕ) → entry_gives m.size e x ≡ None → gives n.size (queue_of n g) x ≡ gives m.size (queue_of m g) x
  pub none : (p : Entry → Bool) (g : ℕ) → p e ≡ false → list_any p (queue_of m g) ≡ false → list_any p (queue_of n g) ≡ false

-- entry i, e, leaves hart h's queue
pub record QueueLoses (m n : MachineState) (h i : ℕ) (e : Entry) : Type 0 where
  pub stood : slice_get (queue_of m h) i ≡ Some e
  pub own : queue_of n h ≡ remove (queue_of m h) i
  pub others : (g : ℕ) → g ≢ h → queue_of n g ≡ queue_of m g
  pub silent : (g x : ℕ) → gives m.size (queue_of m g) x ≡ None → gives n.size (queue_of n g) x ≡ None
  pub none : (p : Entry → Bool) (g : ℕ) → list_any p (queue_of m g) ≡ false → list_any p (queue_of n g) ≡ false

-- ---- channels, grants and boxes

-- channel c and its grant are these, and nothing else changes among channels and boxes
pub record ChannelIs (m n : MachineState) (c : ℕ) (s : ChannelState) (g : Option HartNo) : Type 0 where
  pub channel : channel_of n c ≡ s
  pub grantee : grantee_of n c ≡ g
  pub channels : (k : ℕ) → k ≢ c → channel_of n k ≡ channel_of m k
  pub grantees : (k : ℕ) → k ≢ c → grantee_of n k ≡ grantee_of m k
  pub boxes : n.boxes ≡ m.boxes

-- the box of a buffer is this, and nothing else changes among channels and boxes
pub record BoxIs (m n : MachineState) (buf : ℕ) (g : Option HartNo) : Type 0 where
  pub box : box_of n buf ≡ g
  pub others : (k : ℕ) → k ≢ buf → box_of n k ≡ box_of m k
  pub channels : n.channels ≡ m.channels
  pub grantees : n.grantees ≡ m.grantees

-- ---- calls that leave memory, the caches and the harts as they are

pub record Stays (m n : MachineState) : Type 0 where
  pub cache : n.cache ≡ m.cache
  pub harts : n.harts ≡ m.harts
  pub queues : (g : ℕ) → queue_of n g ≡ queue_of m g
  pub places : (x : ℕ) → SameAt m n x
  pub views : (g x : ℕ) → view n g x ≡ view m g x

-- ---- an issue

-- hart h loads a span of a type: no byte changes that a hart sees, whether copies are stale or not
pub record Loads (m n : MachineState) (h : ℕ) (span : Span) (kind : MemType) : Type 0 where
  pub devices : SameDevices m n
  pub queues : (g : ℕ) → queue_of n g ≡ queue_of m g
  pub last : (hart_of n h).last ≡ bytes_seen m h kind span
  pub others : (g : ℕ) → g ≢ h → hart_of n g ≡ hart_of m g
  pub places : (x : ℕ) → KeepsAt m n x
  pub views : (g x : ℕ) → view n g x ≡ view m g x
  pub apart : (x : ℕ) → (kind ≡ Pma → x / m.size ≢ block_at span.at m.size) → SameAt m n x

-- an entry comes into hart h's queue
pub record Pushes (m n : MachineState) (h : ℕ) (e : Entry) : Type 0 where
  pub cache : n.cache ≡ m.cache
  pub devices : SameDevices m n
  pub queues : QueueGains m n h e
  pub last : (hart_of n h).last ≡ (hart_of m h).last
  pub others : (g : ℕ) → g ≢ h → hart_of n g ≡ hart_of m g
  pub places : (x : ℕ) → SameAt m n x
  pub own_view : (x : ℕ) → view n h x ≡ unwrap_or (entry_gives m.size e x) (view m h x)
  pub other_views : (g x : ℕ) → g ≢ h → view n g x ≡ view m g x

-- ---- a drain

-- memory and the copies may come to differ at the place: a store past the caches over it, or an invalidate of its block
abbrev pub op_parts : ℕ → CboOp → ℕ → ℕ → Bool
op_parts s Inval b x = block_at x s == b
op_parts s Clean b x = false
op_parts s Flush b x = false
op_parts s Zero b x = false

abbrev pub store_parts : MemType → Span → ℕ → Bool
store_parts Pma span x = false
store_parts Nc span x = covers span x
store_parts Io span x = covers span x

abbrev pub may_leave_stale_copy : ℕ → Entry → ℕ → Bool
may_leave_stale_copy s (Store span bytes kind) x = store_parts kind span x
may_leave_stale_copy s (Cbo block op) x = op_parts s op block.0 x
may_leave_stale_copy s (Reg chan off width value) x = false
may_leave_stale_copy s (Mail buf to) x = false
may_leave_stale_copy s (Lend label first count) x = false
may_leave_stale_copy s (Mark pred succ) x = false

-- the entry loses no byte at the place: it parts memory and the copies at most where nobody holds the block
abbrev pub KeepsCoherence : MachineState → Entry → ℕ → Type 0
KeepsCoherence m e x = may_leave_stale_copy m.size e x ≡ true → NotHeld m x

-- somebody holds the block after it: a store of main memory in it, or its zero
abbrev pub store_brings : ℕ → MemType → ℕ → ℕ → Bool
store_brings s Pma at b = block_at at s == b
store_brings s Nc at b = false
store_brings s Io at b = false

abbrev pub op_brings : CboOp → ℕ → ℕ → Bool
op_brings Zero c b = c == b
op_brings Clean c b = false
op_brings Flush c b = false
op_brings Inval c b = false

abbrev pub brings : ℕ → ℕ → Entry → Bool
brings s b (Store span bytes kind) = store_brings s kind span.at b
brings s b (Cbo block op) = op_brings op block.0 b
brings s b (Reg chan off width value) = false
brings s b (Mail buf to) = false
brings s b (Lend label first count) = false
brings s b (Mark pred succ) = false

-- nobody holds the block after it
abbrev pub drops_copies : CboOp → Bool
drops_copies Flush = true
drops_copies Inval = true
drops_copies Clean = false
drops_copies Zero = false

-- entry e of hart h is performed: a place, by what the entry is
pub record DrainsAt (m n : MachineState) (h : ℕ) (e : Entry) (x : ℕ) : Type 0 where
  -- the entry is of another block, or of none
  pub apart : has_block m.size (x / m.size) e ≡ false → SameAt m n x
  -- the copies get what it gives
  pub fresh : KeepsCoherence m e x → FreshAt m x → FreshAt n x × (middle n x ≡ unwrap_or (entry_gives m.size e x) (middle m x))
  -- it gives no byte of the block
  pub clear : gives_in m.size (x / m.size) e ≡ false → ClearAt m x → ClearAt n x × (byte n.cache.ram x ≡ byte m.cache.ram x)
  -- it does not give the byte
  pub both : (v : ℕ) → entry_gives m.size e x ≡ None → BothAt m v x → BothAt n v x
  pub not_held : brings m.size (x / m.size) e ≡ false → NotHeld m x → NotHeld n x
  -- a clean or a flush of the block, a flush or an invalidate, an invalidate
  pub cleared : has_op writes_back (x / m.size) e ≡ true → ClearAt n x
  pub written : has_op writes_back (x / m.size) e ≡ true → FreshAt m x → byte n.cache.ram x ≡ middle m x
  pub gone : has_op drops_copies (x / m.size) e ≡ true → NotHeld n x
  pub dropped : has_op is_inval (x / m.size) e ≡ true → Drops m.size m.cache n.cache x
  -- what is seen
  pub own_view : KeepsCoherence m e x → FreshAt m x → view n h x ≡ view m h x
  pub other_views : KeepsCoherence m e x → FreshAt m x → (g : ℕ) → g ≢ h → entry_gives m.size e x ≡ None → view n g x ≡ view m g x

-- what it does to channels and boxes
abbrev pub DevicesAfter : MachineState → MachineState → ℕ → Entry → Type 0
DevicesAfter m n h (Store span bytes kind) = SameDevices m n
DevicesAfter m n h (Cbo block op) = SameDevices m n
DevicesAfter m n h (Reg chan off width value) =
    (s : ChannelState) → s ≡ channel_write (channel_of m chan.0) off width value → ChannelIs m n chan.0 s (grantee_after (grantee_of m chan.0) (is_claimed (channel_of m chan.0)) (is_claimed s) h)
DevicesAfter m n h (Mail buf to) = BoxIs m n buf (Some to)
DevicesAfter m n h (Lend label first count) = SameDevices m n
DevicesAfter m n h (Mark pred succ) = SameDevices m n

pub record Drains (m n : MachineState) (h i : ℕ) (e : Entry) : Type 0 where
  pub fits : Fits m.size e
  pub there : EntryIsThere m e
  pub queues : QueueLoses m n h i e
  pub last : (hart_of n h).last ≡ (hart_of m h).last
  pub others : (g : ℕ) → g ≢ h → hart_of n g ≡ hart_of m g
  pub devices : DevicesAfter m n h e
  -- a register store, a message, a token and a marker change no byte
  pub quiet : is_w e ≡ false → n.cache ≡ m.cache
  pub places : (x : ℕ) → DrainsAt m n h e x

-- ---- fills and evictions

pub record Moves (m n : MachineState) (b : ℕ) : Type 0 where
  pub devices : SameDevices m n
  pub harts : n.harts ≡ m.harts
  pub queues : (g : ℕ) → queue_of n g ≡ queue_of m g
  pub places : (x : ℕ) → KeepsAt m n x
  pub apart : (x : ℕ) → x / m.size ≢ b → SameAt m n x

-- ---- channels

-- so many bytes were written to memory from a place on, and nothing else of memory, caches or harts changes
pub record WritesSpan (m n : MachineState) (span : Span) (bytes : List ℕ) : Type 0 where
  pub inside : span.at + span.len ≤ length m.cache.ram
  pub some : 0 < span.len
  pub long : length bytes ≡ span.len
  pub lines : n.cache.lines ≡ m.cache.lines
  pub harts : n.harts ≡ m.harts
  pub queues : (g : ℕ) → queue_of n g ≡ queue_of m g
  pub clear : (x : ℕ) → ClearAt m x → ClearAt n x
  pub not_held : (x : ℕ) → NotHeld m x → NotHeld n x
  pub here : (x : ℕ) → span.at ≤ x → x < span.at + span.len → byte n.cache.ram x ≡ byte bytes (x - span.at)
  pub away : (x : ℕ) → (x < span.at) ⊎ (span.at + span.len ≤ x) → SameAt m n x
  pub away_views : (g x : ℕ) → (x < span.at) ⊎ (span.at + span.len ≤ x) → view n g x ≡ view m g x

abbrev pub RamAfter : MachineState → MachineState → ChanStep → Type 0
RamAfter m n (Moved span bytes done) = WritesSpan m n span bytes
RamAfter m n _ = Stays m n
