-- What a step tells and leaves, as the code finds it.
use Rattle.std.proofs.Common.{◌≡◌, ℕ, Bool, true, false, List, length, drop, sym, ap, ◌∙◌, subst}
use Rattle.std.specs.Prelude.{if◌then◌else◌, Option}
use Rattle.nc_pdma_regs.specs.Registers.{Registers}
use Rattle.nc_pdma_regs.specs.Moves.{written_on}
use Rattle.nc_pdma.specs.declared.channel.ChanStep.TheVariants.{Idle}
use Rattle.nc_pdma.specs.Bus.{place_of}
use Rattle.nc_pdma.specs.Channel.{ChannelState, IsChannel}
use Rattle.nc_pdma.specs.Steps.{may_read, may_write, read_at, read_len, read_step, write_at, write_len, write_step}
use Rattle.nc_pdma.proofs.Sound.{moved_out_sound}

-- reads
pub read_idle : (c : ChannelState) (ram : List ℕ) → may_read c ≡ false → read_step c ram ≡ Idle
unfolding read_step
read_idle c ram off = ap (λ (b : Bool). if b then read_at c ram (place_of (length ram) c.regs.exec.source (read_len c)) else Idle) off

pub read_goes : (c : ChannelState) (ram : List ℕ) (o : Option ℕ) → may_read c ≡ true → place_of (length ram) c.regs.exec.source (read_len c) ≡ o → read_step c ram ≡ read_at c ram o
unfolding read_step
read_goes c ram o on place = ap (λ (b : Bool). if b then read_at c ram (place_of (length ram) c.regs.exec.source (read_len c)) else Idle) on ∙ ap (read_at c ram) place

-- writes
pub write_idle : (c : ChannelState) (size : ℕ) → may_write c ≡ false → write_step c size ≡ Idle
unfolding write_step
write_idle c size off = ap (λ (b : Bool). if b then write_at c (place_of size c.regs.exec.destination (write_len c)) else Idle) off

pub write_goes : (c : ChannelState) (size : ℕ) (o : Option ℕ) → may_write c ≡ true → place_of size c.regs.exec.destination (write_len c) ≡ o → write_step c size ≡ write_at c o
unfolding write_step
write_goes c size o on place = ap (λ (b : Bool). if b then write_at c (place_of size c.regs.exec.destination (write_len c)) else Idle) on ∙ ap (write_at c) place

pub moved_out_is : (c : ChannelState) (n : ℕ) (regs : Registers) (fifo : List ℕ) → IsChannel c → regs ≡ written_on c.regs n → fifo ≡ drop n c.fifo
    → IsChannel (record { regs = regs; fifo = fifo })
moved_out_is c n regs fifo h is_regs is_fifo =
    let e : record { regs = written_on c.regs n; fifo = drop n c.fifo } ≡ record { regs = regs; fifo = fifo } = λ i. record { regs = sym is_regs i; fifo = sym is_fifo i } in
    subst IsChannel e (moved_out_sound c n h)
