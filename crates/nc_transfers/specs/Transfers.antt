-- The channel of a copy, from its registers to done: what holds of it at each stage, over flat memory. This project's own.
use Rattle.std.specs.Prelude.{◌≡◌, ◌⊎◌, ◌<◌, ◌≤◌, ◌+◌, ◌-◌, ℕ, zero, suc, true, false, List, [], ◌∷◌, ◌++◌, length}
use Rattle.nc_num.specs.Memory.{byte}
use Rattle.nc_num.specs.declared.names.ChanNo.{ChanNo}
use Rattle.nc_plan.specs.declared.ops.HartOp.{HartOp}
use Rattle.nc_plan.specs.Registers.{regs_stores}
use Rattle.nc_model.specs.Kept.{Copied}
use Rattle.nc_memcpy.specs.Copy.{control}
use Rattle.nc_pdma_regs.specs.declared.config.Transfer.{Transfer}
use Rattle.nc_pdma_regs.specs.Config.{config_kept, no_transfer, repeat_of}
use Rattle.nc_pdma.specs.Bus.{ram_base}
use Rattle.nc_pdma.specs.Channel.{ChannelState}

-- the two ends of a copy: the places of their buffers, those where the channel reads the one and writes the other, and
-- how many bytes each has; and the value for Config
pub record Ends : Type 0 where
  pub source : ℕ
  pub target : ℕ
  pub reads_at : ℕ
  pub writes_at : ℕ
  pub len : ℕ
  pub config : ℕ

-- what holds of the ends of a copy that is not refused, in a RAM of so many bytes: they have some bytes, which lie in
-- RAM, the buffers are apart, and the transfer does not start again
pub record AreEnds (ram : ℕ) (e : Ends) : Type 0 where
  pub some : 0 < e.len
  pub reads : e.reads_at + e.len ≤ ram
  pub writes : e.writes_at + e.len ≤ ram
  pub apart : (e.source + e.len ≤ e.target) ⊎ (e.target + e.len ≤ e.source)
  pub once : repeat_of e.config ≡ false

-- the stores to the channel's registers in the plan of a copy, in order
abbrev pub register_stores : ChanNo → Ends → List HartOp
register_stores chan e = regs_stores chan (ram_base + e.reads_at) (ram_base + e.writes_at) e.len e.config ++ control chan 3 ∷ control chan 0 ∷ []

-- the Next registers after the first k of those stores: each after the fourth has all four values
abbrev pub next_set : Ends → ℕ → Transfer
next_set e zero = no_transfer
next_set e (suc zero) = record { config = config_kept e.config; bytes = 0; destination = 0; source = 0 }
next_set e (suc (suc zero)) = record { config = config_kept e.config; bytes = e.len; destination = 0; source = 0 }
next_set e (suc (suc (suc zero))) = record { config = config_kept e.config; bytes = e.len; destination = ram_base + e.writes_at; source = 0 }
next_set e (suc (suc (suc (suc k)))) =
    record { config = config_kept e.config; bytes = e.len; destination = ram_base + e.writes_at; source = ram_base + e.reads_at }

-- claimed, with the first k values in its Next registers; it does not run
pub record IsSet (e : Ends) (k : ℕ) (c : ChannelState) : Type 0 where
  pub claimed : c.regs.control.claim ≡ true
  pub idle : c.regs.control.run ≡ false
  pub empty : c.fifo ≡ []
  pub next : c.regs.next ≡ next_set e k

-- in flat memory the destination has the source's first n bytes
abbrev pub IsCopied : Ends → List ℕ → ℕ → Type 0
IsCopied e f n = Copied n e.source e.target (byte f) (byte f)

-- it runs, and has written w bytes, and the FIFO has those behind them
pub record IsMoving (e : Ends) (f : List ℕ) (w : ℕ) (c : ChannelState) : Type 0 where
  pub claimed : c.regs.control.claim ≡ true
  pub runs : c.regs.control.run ≡ true
  pub not_done : c.regs.control.done ≡ false
  pub no_error : c.regs.control.error ≡ false
  pub config : c.regs.exec.config ≡ config_kept e.config
  pub source : c.regs.exec.source ≡ ram_base + (e.reads_at + w + length c.fifo)
  pub destination : c.regs.exec.destination ≡ ram_base + (e.writes_at + w)
  pub bytes : c.regs.exec.bytes ≡ e.len - w
  pub left : w < e.len
  pub within : w + length c.fifo ≤ e.len
  pub fifo : (i : ℕ) → i < length c.fifo → byte c.fifo i ≡ byte f (e.source + (w + i))
  pub copied : IsCopied e f w

-- it is done with no error, and all is copied
pub record IsMoved (e : Ends) (f : List ℕ) (c : ChannelState) : Type 0 where
  pub claimed : c.regs.control.claim ≡ true
  pub idle : c.regs.control.run ≡ false
  pub done : c.regs.control.done ≡ true
  pub no_error : c.regs.control.error ≡ false
  pub empty : c.fifo ≡ []
  pub copied : IsCopied e f e.len

-- it was started, and runs or is done
abbrev pub IsStarted : Ends → List ℕ → ChannelState → Type 0
IsStarted e f c = ((w : ℕ) × IsMoving e f w c) ⊎ IsMoved e f c

-- nobody has claimed it, and it does not run
pub record IsFree (c : ChannelState) : Type 0 where
  pub unclaimed : c.regs.control.claim ≡ false
  pub idle : c.regs.control.run ≡ false
  pub empty : c.fifo ≡ []

-- by how many of the plan's stores to its registers have reached it; after the last, which releases it, it may be
-- another's
abbrev pub IsCopying : Ends → List ℕ → ℕ → ChannelState → Type 0
IsCopying e f (suc (suc (suc (suc (suc zero))))) c = IsStarted e f c
IsCopying e f (suc (suc (suc (suc (suc (suc d)))))) c = IsCopied e f e.len
IsCopying e f d c = IsSet e d c
