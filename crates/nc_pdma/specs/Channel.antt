-- A channel: its registers, and the bytes that it has read and not yet written (this project's own).
use Rattle.std.specs.Prelude.{◌≡◌, ◌<◌, ◌≤◌, ℕ, ◌-◌, true, false, if◌then◌else◌, List, [], length, Option, Some}
use Rattle.nc_pdma_regs.specs.declared.table.Register.{Register}
use Rattle.nc_pdma_regs.specs.declared.table.Register.TheVariants.{Control}
use Rattle.nc_pdma_regs.specs.Table.{register_at}
use Rattle.nc_pdma_regs.specs.Registers.{Registers, no_registers}
use Rattle.nc_pdma_regs.specs.Writes.{empties_fifo, low, write_of}
use Rattle.nc_pdma_regs.specs.Moves.{failed}

pub record ChannelState : Type 0 where
  pub regs : Registers
  pub fifo : List ℕ

abbrev pub new_channel : ChannelState
new_channel = record { regs = no_registers; fifo = [] }

-- how many bytes of the transfer are left to read
abbrev pub to_read : ChannelState → ℕ
to_read c = c.regs.exec.bytes - length c.fifo

-- a write to a register: a start and a stop empty the FIFO
abbrev pub fifo_after : ChannelState → Option Register → ℕ → List ℕ
fifo_after c (Some Control) v = if empties_fifo c.regs.control (low v) then [] else c.fifo
fifo_after c _ v = c.fifo

abbrev pub channel_write : ChannelState → ℕ → ℕ → ℕ → ChannelState
channel_write c off width v = record { regs = write_of c.regs off width v; fifo = fifo_after c (register_at off width) v }

-- an error: the transfer ends, and the FIFO is emptied
abbrev pub channel_failed : ChannelState → ChannelState
channel_failed c = record { regs = failed c.regs; fifo = [] }

-- what holds of every channel
pub record IsChannel (c : ChannelState) : Type 0 where
  pub claimed : c.regs.control.run ≡ true → c.regs.control.claim ≡ true
  pub idle : c.regs.control.run ≡ false → c.fifo ≡ []
  pub left : c.regs.control.run ≡ true → 0 < c.regs.exec.bytes
  pub within : length c.fifo ≤ c.regs.exec.bytes
  pub short : length c.fifo ≤ 64
