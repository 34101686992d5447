-- What Control tells of a copy, and its release.
use Rattle.std.proofs.Common.{◌≡◌, inl, inr, ℕ, Bool, true, false, List, refl, ◌∙◌}
use Rattle.std.specs.Prelude.{◌||◌}
use Rattle.std.proofs.lemmas.Bool.{both_ways}
use Rattle.nc_pdma_regs.specs.Control.{bit, number_of}
use Rattle.nc_pdma_regs.specs.Writes.{control_write}
use Rattle.nc_pdma_regs.proofs.Bits.{done_is, error_is}
use Rattle.nc_pdma.specs.Channel.{ChannelState, channel_write}
use Rattle.nc_transfers.specs.Transfers.{Ends, IsMoving, IsMoved, IsStarted, IsFree}
use Rattle.nc_transfers.specs.Laws.{CopiesTell}
use Rattle.nc_transfers.proofs.SettingUp.{emptied}

moving : (e : Ends) (f : List ℕ) (w : ℕ) (c : ChannelState) → IsMoving e f w c → (bit (number_of c.regs.control) 30 ≡ false) × (bit (number_of c.regs.control) 31 ≡ false)
moving e f w c m = (done_is c.regs.control ∙ m.not_done, error_is c.regs.control ∙ m.no_error)

moved : (e : Ends) (f : List ℕ) (c : ChannelState) → IsMoved e f c → (bit (number_of c.regs.control) 30 ≡ true) × (bit (number_of c.regs.control) 31 ≡ false)
moved e f c m = (done_is c.regs.control ∙ m.done, error_is c.regs.control ∙ m.no_error)

neither : (a b : Bool) → a ≡ false → b ≡ false → (a || b) ≡ false
neither true b first second = absurd (cc)
neither false b first second = second

over : (e : Ends) (f : List ℕ) (c : ChannelState) → IsStarted e f c → (bit (number_of c.regs.control) 30 || bit (number_of c.regs.control) 31) ≡ true → IsMoved e f c
over e f c (inl on) is =
    let no = moving e f on.0 c on.1 in
    absurd (both_ways (bit (number_of c.regs.control) 30 || bit (number_of c.regs.control) 31) (neither (bit (number_of c.regs.control) 30) (bit (number_of c.regs.control) 31) no.0 no.1) is)
over e f c (inr m) is = m

release : (e : Ends) (f : List ℕ) (c : ChannelState) → IsMoved e f c → IsFree (channel_write c 0 4 0)
unfolding control_write
release e f c m = record { unclaimed = rw (m.idle) refl; idle = rw (m.idle) refl; empty = emptied _ c.fifo m.empty }

pub copies_tell : CopiesTell
copies_tell = record { moving = moving; moved = moved; over = over; release = release }
