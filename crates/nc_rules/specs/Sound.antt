-- What holds of every machine between its calls, and what an operation names is there.
use Rattle.std.specs.Prelude.{ℕ, ◌≡◌, ◌+◌, ◌*◌, ◌%◌, ◌<◌, ◌≤◌, true, length, All, Some, is_some}
use Rattle.nc_num.specs.Sizes.{IsBlockSize}
use Rattle.nc_num.specs.Places.{IsPieceLen}
use Rattle.nc_num.specs.declared.places.Span.{Span}
use Rattle.nc_num.specs.declared.names.HartNo.{HartNo}
use Rattle.nc_cache.specs.Facts.{Whole}
use Rattle.nc_queue.specs.Entries.{AllFit}
use Rattle.nc_queue.specs.QueueState.{QueueState}
use Rattle.nc_queue.specs.declared.entry.Entry.{Entry}
use Rattle.nc_queue.specs.declared.entry.Entry.TheVariants as entries
use Rattle.nc_plan.specs.declared.ops.HartOp.{HartOp}
use Rattle.nc_plan.specs.declared.ops.HartOp.TheVariants.{Load, Store, Cbo, Fence, IoLoad, IoStore, Mark}
use Rattle.nc_plan.specs.declared.ops.IoTarget.{IoTarget}
use Rattle.nc_plan.specs.declared.ops.IoTarget.TheVariants as targets
use Rattle.nc_plan.specs.declared.ops.Payload.{Payload}
use Rattle.nc_hart.specs.Issue.{payload}
use Rattle.nc_pdma_regs.specs.Table.{register_at}
use Rattle.nc_pdma.specs.Channel.{IsChannel}
use Rattle.nc_rules.specs.Machine.{MachineState, hart_of, channel_of, grantee_of, box_of}

-- a register of a channel
pub record IsRegister (chan off width : ℕ) : Type 0 where
  pub channel : chan < 4
  pub known : is_some (register_at off width) ≡ true

-- a block of s bytes in a memory of so many
abbrev pub IsBlockIn : ℕ → ℕ → ℕ → Type 0
IsBlockIn s size b = s * b + s ≤ size

-- one piece of a memory of so many bytes: naturally aligned
pub record IsPieceIn (size : ℕ) (span : Span) : Type 0 where
  pub len : IsPieceLen span.len
  pub aligned : span.at % span.len ≡ 0
  pub inside : span.at + span.len ≤ size

-- a buffer's message to a hart: the buffer and the hart are there
pub record IsMessage (boxes harts buf to : ℕ) : Type 0 where
  pub box : buf < boxes
  pub hart : to < harts

abbrev pub EntryIsThere : MachineState → Entry → Type 0
EntryIsThere m (entries.Store span bytes kind) = span.at + span.len ≤ length m.cache.ram
EntryIsThere m (entries.Cbo block op) = IsBlockIn m.size (length m.cache.ram) block.0
EntryIsThere m (entries.Reg chan off width value) = IsRegister chan.0 off width
EntryIsThere m (entries.Mail buf to) = IsMessage (length m.boxes) (length m.harts) buf to.0
EntryIsThere m (entries.Lend label first count) = Unit {0}
EntryIsThere m (entries.Mark pred succ) = Unit {0}

pub record IsQueueIn (m : MachineState) (q : QueueState) : Type 0 where
  pub size : q.size ≡ m.size
  pub few : length q.entries ≤ 8
  pub fit : AllFit m.size q.entries
  pub there : All (EntryIsThere m) q.entries

-- a channel is granted exactly where its claim bit is set, to a hart that exists
pub record IsGranted (m : MachineState) (c : ℕ) : Type 0 where
  pub channel : IsChannel (channel_of m c)
  pub claimed : is_some (grantee_of m c) ≡ (channel_of m c).regs.control.claim
  pub hart : (g : HartNo) → grantee_of m c ≡ Some g → g.0 < length m.harts

pub record IsMachine (m : MachineState) : Type 0 where
  pub block_size : IsBlockSize m.size
  pub some : 1 ≤ length m.harts
  pub few : length m.harts ≤ 4
  pub cache : Whole m.size (length m.harts) (length m.cache.ram) m.cache
  pub small : length m.cache.ram ≤ 1048576
  pub queues : (h : ℕ) → h < length m.harts → IsQueueIn m (hart_of m h).queue
  pub four : length m.channels ≡ 4
  pub grants : length m.grantees ≡ 4
  pub granted : (c : ℕ) → c < 4 → IsGranted m c
  pub boxes : length m.boxes ≤ 64
  pub waiting : (buf : ℕ) (g : HartNo) → box_of m buf ≡ Some g → g.0 < length m.harts

-- what an operation of hart h names is there; a store has the bytes of its span
abbrev pub TargetIsThere : MachineState → IoTarget → Type 0
TargetIsThere m (targets.Reg chan off width value) = IsRegister chan.0 off width
TargetIsThere m (targets.Mail buf to) = IsMessage (length m.boxes) (length m.harts) buf to.0
TargetIsThere m (targets.Lend label first count) = Unit {0}

pub record StoreIsThere (m : MachineState) (h : ℕ) (span : Span) (bytes : Payload) : Type 0 where
  pub piece : IsPieceIn (length m.cache.ram) span
  pub whole : length (payload (hart_of m h).last bytes) ≡ span.len

abbrev pub OpIsThere : MachineState → ℕ → HartOp → Type 0
OpIsThere m h (Load span kind) = IsPieceIn (length m.cache.ram) span
OpIsThere m h (Store span kind bytes) = StoreIsThere m h span bytes
OpIsThere m h (Cbo op block) = IsBlockIn m.size (length m.cache.ram) block.0
OpIsThere m h (Fence pred succ) = Unit {0}
OpIsThere m h (IoLoad chan off width) = IsRegister chan.0 off width
OpIsThere m h (IoStore target) = TargetIsThere m target
OpIsThere m h (Mark pred succ) = Unit {0}
