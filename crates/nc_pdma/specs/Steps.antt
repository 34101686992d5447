-- The two steps of a channel: what each tells, and what it leaves (this project's own).
use Rattle.std.specs.Prelude.{ℕ, ◌-◌, ◌%◌, ◌==◌, ◌&&◌, not, min, nat_lt, Bool, false, if◌then◌else◌, List, ◌++◌, length, take, drop, Option, Some, None}
use Rattle.nc_num.specs.Memory as memory
use Rattle.nc_pdma_regs.specs.Config.{order_of, read_size, write_size}
use Rattle.nc_pdma_regs.specs.Moves.{bytes_read, written_on}
use Rattle.nc_pdma.specs.declared.channel.ChanStep.{ChanStep}
use Rattle.nc_pdma.specs.declared.channel.ChanStep.TheVariants.{Idle, Moved, Error}
use Rattle.nc_pdma.specs.Bus.{place_of}
use Rattle.nc_pdma.specs.Channel.{ChannelState, channel_failed, to_read}

-- the bytes from an address up to the next multiple of a size
abbrev pub to_multiple : ℕ → ℕ → ℕ
to_multiple size at = size - at % size

-- a read is disabled where no transfer runs, nothing is left to read, or the FIFO is full; in order also where it has a byte
abbrev pub may_read : ChannelState → Bool
may_read c =
    c.regs.control.run && nat_lt 0 (to_read c) && nat_lt (length c.fifo) 64 && not (order_of c.regs.exec.config && not (length c.fifo == 0))

abbrev pub read_len : ChannelState → ℕ
read_len c = min (min (to_multiple (read_size c.regs.exec.config) c.regs.exec.source) (to_read c)) (64 - length c.fifo)

-- what a read tells, where the place of its first byte is known
abbrev pub read_at : ChannelState → List ℕ → Option ℕ → ChanStep
read_at c ram (Some at) = Moved (record { at = at; len = read_len c }) (memory.span ram at (read_len c)) false
read_at c ram None = Error c.regs.exec.source (read_len c)

unfoldable pub read_step : ChannelState → List ℕ → ChanStep
read_step c ram = if may_read c then read_at c ram (place_of (length ram) c.regs.exec.source (read_len c)) else Idle

-- the channel after a read that gave this step
abbrev pub read_next : ChannelState → ChanStep → ChannelState
read_next c Idle = c
read_next c (Moved s bytes done) = record { regs = bytes_read c.regs s.len; fifo = c.fifo ++ bytes }
read_next c (Error bus len) = channel_failed c

-- a write is disabled where no transfer runs or the FIFO is empty
abbrev pub may_write : ChannelState → Bool
may_write c = c.regs.control.run && not (length c.fifo == 0)

abbrev pub write_len : ChannelState → ℕ
write_len c = min (to_multiple (write_size c.regs.exec.config) c.regs.exec.destination) (length c.fifo)

-- what a write tells: it is the last where no byte is left to write
abbrev pub write_at : ChannelState → Option ℕ → ChanStep
write_at c (Some at) = Moved (record { at = at; len = write_len c }) (take (write_len c) c.fifo) (c.regs.exec.bytes - write_len c == 0)
write_at c None = Error c.regs.exec.destination (write_len c)

unfoldable pub write_step : ChannelState → ℕ → ChanStep
write_step c size = if may_write c then write_at c (place_of size c.regs.exec.destination (write_len c)) else Idle

-- the channel, and memory, after a write that gave this step
abbrev pub write_next : ChannelState → ChanStep → ChannelState
write_next c Idle = c
write_next c (Moved s bytes done) = record { regs = written_on c.regs s.len; fifo = drop s.len c.fifo }
write_next c (Error bus len) = channel_failed c

abbrev pub ram_after : List ℕ → ChanStep → List ℕ
ram_after ram (Moved s bytes done) = memory.splice ram s.at bytes
ram_after ram _ = ram
