-- The copy of 32 bytes at 0 to 32 by a channel, from its registers to done, computed.
use Rattle.std.proofs.Common.{◌≡◌, inl, ℕ, true, false, List, ◌++◌, replicate, refl, arith}
use Rattle.nc_num.specs.Memory.{span}
use Rattle.nc_pdma_regs.specs.Config.{read_size, write_size}
use Rattle.nc_pdma_regs.specs.Control.{number_of}
use Rattle.nc_pdma_regs.specs.Laws.{claimed}
use Rattle.nc_pdma_regs.specs.Moves.{written_on}
use Rattle.nc_pdma_regs.specs.Writes.{control_write}
use Rattle.nc_pdma.specs.declared.channel.ChanStep.TheVariants.{Moved}
use Rattle.nc_pdma.specs.Channel.{ChannelState, channel_write, new_channel}
use Rattle.nc_pdma.specs.Steps.{read_step, read_next, write_step, write_next}
use Rattle.nc_transfers.specs.Transfers.{Ends, AreEnds, next_set}

abbrev ends : Ends
ends = record { source = 0; target = 32; reads_at = 0; writes_at = 32; len = 32; config = 0x55000000 }

ends_are : AreEnds 4096 ends
ends_are = record { some = omega arith; reads = omega arith; writes = omega arith; apart = inl (omega arith); once = refl }

registers_are : next_set ends 4 ≡ record { config = 0x55000000; bytes = 0x20; destination = 0x80000020; source = 0x80000000 }
registers_are = refl

abbrev set : ChannelState
set = channel_write (channel_write (channel_write (channel_write (record { regs = claimed new_channel.regs; fifo = new_channel.fifo }) 4 4 0x55000000) 8 8 0x20) 16 8 0x80000020) 24 8 0x80000000

abbrev ram : List ℕ
ram = replicate 32 0x11 ++ replicate 32 0x22

set_is : set.regs.next ≡ next_set ends 4
set_is = refl

read_is : read_step (channel_write set 0 4 3) ram ≡ Moved (record { at = 0; len = 32 }) (replicate 32 0x11) false
unfolding read_step control_write read_size span
read_is = refl

abbrev read : ChannelState
read = read_next (channel_write set 0 4 3) (read_step (channel_write set 0 4 3) ram)

write_is : write_step read 64 ≡ Moved (record { at = 32; len = 32 }) (replicate 32 0x11) true
unfolding read_step write_step control_write read_size write_size span
write_is = refl

control_is : number_of (write_next read (write_step read 64)).regs.control ≡ 0x40000001
unfolding read_step write_step control_write written_on read_size write_size number_of span
control_is = refl
