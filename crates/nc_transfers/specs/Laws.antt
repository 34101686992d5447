-- What each access and each transaction does to the channel of a copy, as statements. This project's own.
use Rattle.std.specs.Prelude.{◌≡◌, ◌<◌, ◌≤◌, ◌+◌, ◌||◌, ℕ, suc, Bool, true, false, List, length, Some, slice_get, take, drop, ◌++◌, ◌∷◌}
use Rattle.nc_num.specs.declared.names.ChanNo.{ChanNo}
use Rattle.nc_num.specs.declared.places.Span.{Span}
use Rattle.nc_plan.specs.declared.ops.HartOp.TheVariants.{IoStore}
use Rattle.nc_plan.specs.declared.ops.IoTarget.TheVariants.{Reg}
use Rattle.nc_plan.specs.declared.parts.Part.{Part}
use Rattle.nc_memcpy.specs.Copy.{ops, transfer}
use Rattle.nc_memcpy.specs.declared.copy.CopyStep.TheVariants.{Poll}
use Rattle.nc_pdma_regs.specs.Control.{bit, number_of}
use Rattle.nc_pdma_regs.specs.Laws.{claimed}
use Rattle.nc_pdma.specs.declared.channel.ChanStep.{ChanStep}
use Rattle.nc_pdma.specs.declared.channel.ChanStep.TheVariants.{Idle, Moved, Error}
use Rattle.nc_pdma.specs.Channel.{ChannelState, IsChannel, channel_write}
use Rattle.nc_pdma.specs.Steps.{read_step, read_next, write_step, write_next}
use Rattle.nc_transfers.specs.Transfers.{Ends, AreEnds, register_stores, IsSet, IsMoving, IsMoved, IsStarted, IsFree, IsCopying}
use Rattle.nc_transfers.specs.Bytes.{ShowsSource, GetsBytes, SameEnds}

-- ---- from the claim to the start

pub record CopiesSetUp : Type 0 where
  -- a claim of a channel that nobody has
  pub claim : (e : Ends) (c : ChannelState) → IsChannel c → c.regs.control.claim ≡ false → IsSet e 0 (record { regs = claimed c.regs; fifo = c.fifo })
  -- the stores to its Next registers, one after another
  pub store : (e : Ends) (c : ChannelState) (k : ℕ) (chan named : ChanNo) (off width v : ℕ) → k < 4 → slice_get (register_stores chan e) k ≡ Some (IoStore (Reg named off width v)) → IsSet e k c
      → IsSet e (suc k) (channel_write c off width v)
  -- the start; a copy of no bytes is done with it
  pub start : (e : Ends) (f : List ℕ) (c : ChannelState) → 0 < e.len → IsSet e 4 c → IsMoving e f 0 (channel_write c 0 4 3)
  pub start_of_none : (e : Ends) (f : List ℕ) (c : ChannelState) → e.len ≡ 0 → IsSet e 4 c → IsMoved e f (channel_write c 0 4 3)

-- ---- reads

-- a read takes the source's bytes behind those that were read
pub record IsSourceRead (e : Ends) (w : ℕ) (c : ChannelState) (s : Span) (done : Bool) : Type 0 where
  pub here : s.at ≡ e.reads_at + w + length c.fifo
  pub some : 0 < s.len
  pub inside : s.at + s.len ≤ e.reads_at + e.len
  pub not_done : done ≡ false

pub record CopiesRead : Type 0 where
  pub takes : (e : Ends) (f : List ℕ) (w : ℕ) (c : ChannelState) (ram : List ℕ) (s : Span) (bytes : List ℕ) (done : Bool) → IsChannel c → IsMoving e f w c → read_step c ram ≡ Moved s bytes done → IsSourceRead e w c s done
  pub no_error : (e : Ends) (f : List ℕ) (w : ℕ) (c : ChannelState) (ram : List ℕ) (bus len : ℕ) → AreEnds (length ram) e → IsMoving e f w c → read_step c ram ≡ Error bus len → ⊥
  pub moves : (e : Ends) (f : List ℕ) (w : ℕ) (c : ChannelState) (ram : List ℕ) (s : Span) (bytes : List ℕ) (done : Bool) → IsChannel c → IsMoving e f w c → read_step c ram ≡ Moved s bytes done → ShowsSource e f ram s
      → IsMoving e f w (read_next c (read_step c ram))
  pub idle : (c : ChannelState) (ram : List ℕ) → c.regs.control.run ≡ false → read_step c ram ≡ Idle

-- ---- writes

-- a write gives the destination the bytes behind those that it has, and tells done where they are the last
pub record IsTargetWrite (e : Ends) (w : ℕ) (s : Span) (bytes : List ℕ) (done : Bool) : Type 0 where
  pub here : s.at ≡ e.writes_at + w
  pub some : 0 < s.len
  pub inside : s.at + s.len ≤ e.writes_at + e.len
  pub long : length bytes ≡ s.len
  pub last : done ≡ true → w + s.len ≡ e.len
  pub more : done ≡ false → w + s.len < e.len

pub record CopiesWrite : Type 0 where
  pub gives : (e : Ends) (f : List ℕ) (w : ℕ) (c : ChannelState) (size : ℕ) (s : Span) (bytes : List ℕ) (done : Bool) → IsChannel c → IsMoving e f w c → write_step c size ≡ Moved s bytes done → IsTargetWrite e w s bytes done
  pub no_error : (e : Ends) (f : List ℕ) (w : ℕ) (c : ChannelState) (size bus len : ℕ) → AreEnds size e → IsMoving e f w c → write_step c size ≡ Error bus len → ⊥
  pub moves : (e : Ends) (f g : List ℕ) (w : ℕ) (c : ChannelState) (size : ℕ) (s : Span) (bytes : List ℕ) → AreEnds size e → IsChannel c → IsMoving e f w c → write_step c size ≡ Moved s bytes false → GetsBytes e f g s bytes
      → IsMoving e g (w + s.len) (write_next c (write_step c size))
  pub ends : (e : Ends) (f g : List ℕ) (w : ℕ) (c : ChannelState) (size : ℕ) (s : Span) (bytes : List ℕ) → AreEnds size e → IsChannel c → IsMoving e f w c → write_step c size ≡ Moved s bytes true → GetsBytes e f g s bytes
      → IsMoved e g (write_next c (write_step c size))
  pub idle : (c : ChannelState) (size : ℕ) → c.regs.control.run ≡ false → write_step c size ≡ Idle

-- ---- what Control tells, and the release

pub record CopiesTell : Type 0 where
  pub moving : (e : Ends) (f : List ℕ) (w : ℕ) (c : ChannelState) → IsMoving e f w c → (bit (number_of c.regs.control) 30 ≡ false) × (bit (number_of c.regs.control) 31 ≡ false)
  pub moved : (e : Ends) (f : List ℕ) (c : ChannelState) → IsMoved e f c → (bit (number_of c.regs.control) 30 ≡ true) × (bit (number_of c.regs.control) 31 ≡ false)
  -- once either bit is set, the copy is done
  pub over : (e : Ends) (f : List ℕ) (c : ChannelState) → IsStarted e f c → (bit (number_of c.regs.control) 30 || bit (number_of c.regs.control) 31) ≡ true → IsMoved e f c
  pub release : (e : Ends) (f : List ℕ) (c : ChannelState) → IsMoved e f c → IsFree (channel_write c 0 4 0)

-- ---- all stages

-- flat memory after a write that told so
abbrev pub IsFlatAfter : Ends → List ℕ → List ℕ → ChanStep → Type 0
IsFlatAfter e f g (Moved s bytes done) = GetsBytes e f g s bytes
IsFlatAfter e f g Idle = SameEnds e f g
IsFlatAfter e f g (Error bus len) = Unit {0}

pub record CopiesGoOn : Type 0 where
  -- the stores are those of the plan, and the poll comes before the last of them
  pub plan : (chan : ChanNo) (src dst : Part) (source target cfg : ℕ)
      → let e : Ends = record { source = source; target = target; reads_at = src.device.at; writes_at = dst.device.at; len = src.device.len; config = cfg } in
      transfer chan src dst cfg ≡ ops (take 5 (register_stores chan e)) ++ Poll ∷ ops (drop 5 (register_stores chan e))
  pub store : (e : Ends) (f : List ℕ) (c : ChannelState) (d : ℕ) (chan named : ChanNo) (off width v : ℕ) → 0 < e.len → slice_get (register_stores chan e) d ≡ Some (IoStore (Reg named off width v)) → (d ≡ 5 → IsMoved e f c) → IsCopying e f d c
      → IsCopying e f (suc d) (channel_write c off width v)
  pub read : (e : Ends) (f : List ℕ) (c : ChannelState) (d : ℕ) (ram : List ℕ) → d < 6 → AreEnds (length ram) e → IsChannel c → ((s : Span) (bytes : List ℕ) (done : Bool) → read_step c ram ≡ Moved s bytes done → ShowsSource e f ram s) → IsCopying e f d c
      → IsCopying e f d (read_next c (read_step c ram))
  pub write : (e : Ends) (f g : List ℕ) (c : ChannelState) (d size : ℕ) → d < 6 → AreEnds size e → IsChannel c → IsFlatAfter e f g (write_step c size) → IsCopying e f d c → IsCopying e g d (write_next c (write_step c size))
  -- a change of flat memory elsewhere leaves each stage
  pub stays : (e : Ends) (f g : List ℕ) (c : ChannelState) (d : ℕ) → SameEnds e f g → IsCopying e f d c → IsCopying e g d c

-- until its release the channel is claimed, and does nothing beside the copy
pub record CopiesStayWithin : Type 0 where
  pub claimed : (e : Ends) (f : List ℕ) (c : ChannelState) (d : ℕ) → d < 6 → IsCopying e f d c → c.regs.control.claim ≡ true
  -- it runs after the start alone
  pub idle : (e : Ends) (f : List ℕ) (c : ChannelState) (d : ℕ) → d < 5 → IsCopying e f d c → c.regs.control.run ≡ false
  -- what it reads and writes is of the ends, and in RAM
  pub reads : (e : Ends) (f : List ℕ) (c : ChannelState) (d : ℕ) (ram : List ℕ) (s : Span) (bytes : List ℕ) (done : Bool) → d < 6 → IsChannel c → IsCopying e f d c → read_step c ram ≡ Moved s bytes done
      → (e.reads_at ≤ s.at) × (s.at + s.len ≤ e.reads_at + e.len)
  pub writes : (e : Ends) (f : List ℕ) (c : ChannelState) (d size : ℕ) (s : Span) (bytes : List ℕ) (done : Bool) → d < 6 → IsChannel c → IsCopying e f d c → write_step c size ≡ Moved s bytes done
      → (e.writes_at ≤ s.at) × (s.at + s.len ≤ e.writes_at + e.len)
  pub reads_no_error : (e : Ends) (f : List ℕ) (c : ChannelState) (d : ℕ) (ram : List ℕ) (bus len : ℕ) → d < 6 → AreEnds (length ram) e → IsCopying e f d c → read_step c ram ≡ Error bus len → ⊥
  pub writes_no_error : (e : Ends) (f : List ℕ) (c : ChannelState) (d size bus len : ℕ) → d < 6 → AreEnds size e → IsCopying e f d c → write_step c size ≡ Error bus len → ⊥
