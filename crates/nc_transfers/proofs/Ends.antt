-- Until its release, a copy's channel does nothing beside the copy.
use Rattle.std.proofs.Common.{◌≡◌, ◌⊎◌, inl, inr, ℕ, zero, suc, ◌+◌, ◌<◌, ◌≤◌, Bool, true, false, List, length, sym, ◌∙◌, arith}
use Rattle.nc_num.specs.declared.places.Span.{Span}
use Rattle.nc_pdma.specs.declared.channel.ChanStep.{ChanStep}
use Rattle.nc_pdma.specs.declared.channel.ChanStep.TheVariants.{Idle, Moved, Error}
use Rattle.nc_pdma.specs.Channel.{ChannelState, IsChannel}
use Rattle.nc_pdma.specs.Steps.{read_step, write_step}
use Rattle.nc_transfers.specs.Transfers.{Ends, AreEnds, IsSet, IsMoving, IsStarted, IsCopying}
use Rattle.nc_transfers.specs.Laws.{CopiesStayWithin}
use Rattle.nc_transfers.proofs.ReadSteps.{copies_read}
use Rattle.nc_transfers.proofs.WriteSteps.{copies_write}

-- the channel has its registers set and does not run, or it was started
until_release : (e : Ends) (f : List ℕ) (c : ChannelState) (d : ℕ) → d < 6 → IsCopying e f d c → IsSet e d c ⊎ IsStarted e f c
until_release e f c zero lt h = inl h
until_release e f c (suc zero) lt h = inl h
until_release e f c (suc (suc zero)) lt h = inl h
until_release e f c (suc (suc (suc zero))) lt h = inl h
until_release e f c (suc (suc (suc (suc zero)))) lt h = inl h
until_release e f c (suc (suc (suc (suc (suc zero))))) lt h = inr h
until_release e f c (suc (suc (suc (suc (suc (suc d)))))) lt h = absurd (omega (arith, lt))

before_start : (e : Ends) (f : List ℕ) (c : ChannelState) (d : ℕ) → d < 5 → IsCopying e f d c → IsSet e d c
before_start e f c zero lt h = h
before_start e f c (suc zero) lt h = h
before_start e f c (suc (suc zero)) lt h = h
before_start e f c (suc (suc (suc zero))) lt h = h
before_start e f c (suc (suc (suc (suc zero)))) lt h = h
before_start e f c (suc (suc (suc (suc (suc d))))) lt h = absurd (omega (arith, lt))

claimed_in : (e : Ends) (f : List ℕ) (c : ChannelState) (d : ℕ) → IsSet e d c ⊎ IsStarted e f c → c.regs.control.claim ≡ true
claimed_in e f c d (inl h) = h.claimed
claimed_in e f c d (inr (inl on)) = on.1.claimed
claimed_in e f c d (inr (inr h)) = h.claimed

-- it runs while it moves, and else does not
runs_or_not : (e : Ends) (f : List ℕ) (c : ChannelState) (d : ℕ) → IsSet e d c ⊎ IsStarted e f c → (c.regs.control.run ≡ false) ⊎ ((w : ℕ) × IsMoving e f w c)
runs_or_not e f c d (inl h) = inl h.idle
runs_or_not e f c d (inr (inl on)) = inr on
runs_or_not e f c d (inr (inr h)) = inl h.idle

stage : (e : Ends) (f : List ℕ) (c : ChannelState) (d : ℕ) → d < 6 → IsCopying e f d c → (c.regs.control.run ≡ false) ⊎ ((w : ℕ) × IsMoving e f w c)
stage e f c d lt h = runs_or_not e f c d (until_release e f c d lt h)

idle_moves : (t : ChanStep) (s : Span) (bytes : List ℕ) (done : Bool) → t ≡ Idle → t ≡ Moved s bytes done → ⊥
idle_moves t s bytes done idle is = let no : Idle ≡ Moved s bytes done = sym idle ∙ is in cc

idle_fails : (t : ChanStep) (bus len : ℕ) → t ≡ Idle → t ≡ Error bus len → ⊥
idle_fails t bus len idle is = let no : Idle ≡ Error bus len = sym idle ∙ is in cc

reads : (e : Ends) (f : List ℕ) (c : ChannelState) (d : ℕ) (ram : List ℕ) (s : Span) (bytes : List ℕ) (done : Bool) → d < 6 → IsChannel c → IsCopying e f d c → read_step c ram ≡ Moved s bytes done
    → (e.reads_at ≤ s.at) × (s.at + s.len ≤ e.reads_at + e.len)
reads e f c d ram s bytes done lt sound h is = elim (stage e f c d lt h) [
  | inl rests ↦ absurd (idle_moves (read_step c ram) s bytes done (copies_read.idle c ram rests) is)
  | inr on ↦ let r = copies_read.takes e f on.0 c ram s bytes done sound on.1 is in (omega (arith, r.here), r.inside)
]

writes : (e : Ends) (f : List ℕ) (c : ChannelState) (d size : ℕ) (s : Span) (bytes : List ℕ) (done : Bool) → d < 6 → IsChannel c → IsCopying e f d c → write_step c size ≡ Moved s bytes done
    → (e.writes_at ≤ s.at) × (s.at + s.len ≤ e.writes_at + e.len)
writes e f c d size s bytes done lt sound h is = elim (stage e f c d lt h) [
  | inl rests ↦ absurd (idle_moves (write_step c size) s bytes done (copies_write.idle c size rests) is)
  | inr on ↦ let r = copies_write.gives e f on.0 c size s bytes done sound on.1 is in (omega (arith, r.here), r.inside)
]

reads_no_error : (e : Ends) (f : List ℕ) (c : ChannelState) (d : ℕ) (ram : List ℕ) (bus len : ℕ) → d < 6 → AreEnds (length ram) e → IsCopying e f d c → read_step c ram ≡ Error bus len → ⊥
reads_no_error e f c d ram bus len lt are h is = elim (stage e f c d lt h) [
  | inl rests ↦ idle_fails (read_step c ram) bus len (copies_read.idle c ram rests) is
  | inr on ↦ copies_read.no_error e f on.0 c ram bus len are on.1 is
]

writes_no_error : (e : Ends) (f : List ℕ) (c : ChannelState) (d size bus len : ℕ) → d < 6 → AreEnds size e → IsCopying e f d c → write_step c size ≡ Error bus len → ⊥
writes_no_error e f c d size bus len lt are h is = elim (stage e f c d lt h) [
  | inl rests ↦ idle_fails (write_step c size) bus len (copies_write.idle c size rests) is
  | inr on ↦ copies_write.no_error e f on.0 c size bus len are on.1 is
]

pub copies_stay_within : CopiesStayWithin
copies_stay_within = record {
  claimed = λ e f c d lt h. claimed_in e f c d (until_release e f c d lt h);
  idle = λ e f c d lt h. (before_start e f c d lt h).idle;
  reads = reads;
  writes = writes;
  reads_no_error = reads_no_error;
  writes_no_error = writes_no_error;
}
