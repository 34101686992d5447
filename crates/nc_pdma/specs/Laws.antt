-- What holds of every channel (this project's own).
use Rattle.std.specs.Prelude.{◌≡◌, ◌<◌, ◌≤◌, ◌+◌, ◌-◌, ◌/◌, ◌==◌, ℕ, Bool, true, false, List, length, take}
use Rattle.nc_num.specs.Memory as memory
use Rattle.nc_num.specs.declared.places.Span.{Span}
use Rattle.nc_pdma_regs.specs.Config.{read_size, write_size}
use Rattle.nc_pdma_regs.specs.Laws.{claimed, claim_value}
use Rattle.nc_pdma.specs.declared.channel.ChanStep.TheVariants.{Moved}
use Rattle.nc_pdma.specs.Bus.{ram_base}
use Rattle.nc_pdma.specs.Channel.{ChannelState, IsChannel, new_channel, channel_write, to_read}
use Rattle.nc_pdma.specs.Steps.{read_step, read_next, write_step, write_next}

pub record ChannelsStaySound : Type 0 where
  pub at_first : IsChannel new_channel
  pub write : (c : ChannelState) (off width v : ℕ) → IsChannel c → IsChannel (channel_write c off width v)
  pub read : (c : ChannelState) (ram : List ℕ) → IsChannel c → IsChannel (read_next c (read_step c ram))
  pub written : (c : ChannelState) (size : ℕ) → IsChannel c → IsChannel (write_next c (write_step c size))

abbrev pub ClaimByControl : Type 0
ClaimByControl =
    (c : ChannelState) → IsChannel c → c.regs.control.claim ≡ false
    → channel_write c 0 4 (claim_value c.regs) ≡ record { regs = claimed c.regs; fifo = c.fifo }

-- a span of some bytes, at most 64, in RAM and within one multiple of a size, whose first byte has this bus address
pub record IsTransaction (size bus ram : ℕ) (s : Span) : Type 0 where
  pub here : ram_base + s.at ≡ bus
  pub some : 0 < s.len
  pub few : s.len ≤ 64
  pub inside : s.at + s.len ≤ ram
  pub one_multiple : (bus + s.len - 1) / size ≡ bus / size

pub record IsReadOf (c : ChannelState) (ram : List ℕ) (s : Span) (bytes : List ℕ) (done : Bool) : Type 0 where
  pub runs : c.regs.control.run ≡ true
  pub span : IsTransaction (read_size c.regs.exec.config) c.regs.exec.source (length ram) s
  pub bytes_are : bytes ≡ memory.span ram s.at s.len
  pub still_to_read : s.len ≤ to_read c
  pub room : length c.fifo + s.len ≤ 64
  pub not_done : done ≡ false

abbrev pub EachReadTakesTheNextBytes : Type 0
EachReadTakesTheNextBytes =
    (c : ChannelState) (ram : List ℕ) (s : Span) (bytes : List ℕ) (done : Bool) → IsChannel c → read_step c ram ≡ Moved s bytes done → IsReadOf c ram s bytes done

pub record IsWriteOf (c : ChannelState) (size : ℕ) (s : Span) (bytes : List ℕ) (done : Bool) : Type 0 where
  pub runs : c.regs.control.run ≡ true
  pub span : IsTransaction (write_size c.regs.exec.config) c.regs.exec.destination size s
  pub bytes_are : bytes ≡ take s.len c.fifo
  pub in_fifo : s.len ≤ length c.fifo
  pub done_is : done ≡ (c.regs.exec.bytes - s.len == 0)

abbrev pub EachWriteGivesTheFirstBytes : Type 0
EachWriteGivesTheFirstBytes =
    (c : ChannelState) (size : ℕ) (s : Span) (bytes : List ℕ) (done : Bool) → IsChannel c → write_step c size ≡ Moved s bytes done → IsWriteOf c size s bytes done
