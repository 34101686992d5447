-- A copy's channel at all its stages.
use Rattle.std.proofs.Common.{◌≡◌, inl, inr, ℕ, zero, suc, ◌+◌, ◌<◌, ◌≤◌, Bool, true, false, List, length, Some, None, refl, sym, ap, ◌∙◌, subst, arith}
use Rattle.std.specs.Prelude.{slice_get}
use Rattle.nc_num.specs.declared.names.ChanNo.{ChanNo}
use Rattle.nc_num.specs.declared.places.Span.{Span}
use Rattle.nc_plan.specs.declared.ops.HartOp.{HartOp}
use Rattle.nc_plan.specs.declared.ops.HartOp.TheVariants.{IoStore}
use Rattle.nc_plan.specs.declared.ops.IoTarget.TheVariants.{Reg}
use Rattle.nc_pdma.specs.declared.channel.ChanStep.{ChanStep}
use Rattle.nc_pdma.specs.declared.channel.ChanStep.TheVariants.{Idle, Moved, Error}
use Rattle.nc_pdma.specs.Channel.{ChannelState, IsChannel, channel_write}
use Rattle.nc_pdma.specs.Steps.{read_step, read_next, write_step, write_next}
use Rattle.nc_transfers.specs.Transfers.{Ends, AreEnds, register_stores, IsSet, IsMoving, IsMoved, IsStarted, IsCopied, IsCopying}
use Rattle.nc_transfers.specs.Bytes.{ShowsSource, SameEnds}
use Rattle.nc_transfers.specs.Laws.{IsFlatAfter, CopiesGoOn}
use Rattle.nc_transfers.proofs.SettingUp.{copies_set_up, same_store}
use Rattle.nc_transfers.proofs.ReadSteps.{copies_read}
use Rattle.nc_transfers.proofs.WriteSteps.{copies_write}

-- ---- a store of the plan

beyond : (chan : ChanNo) (e : Ends) (d : ℕ) (op : HartOp) → slice_get (register_stores chan e) (suc (suc (suc (suc (suc (suc d)))))) ≡ Some op → ⊥
beyond chan e d op is = let none : None ≡ Some op = is in cc

store : (e : Ends) (f : List ℕ) (c : ChannelState) (d : ℕ) (chan named : ChanNo) (off width v : ℕ) → 0 < e.len → slice_get (register_stores chan e) d ≡ Some (IoStore (Reg named off width v)) → (d ≡ 5 → IsMoved e f c) → IsCopying e f d c
    → IsCopying e f (suc d) (channel_write c off width v)
store e f c zero chan named off width v some is over h = copies_set_up.store e c 0 chan named off width v (omega arith) is h
store e f c (suc zero) chan named off width v some is over h = copies_set_up.store e c 1 chan named off width v (omega arith) is h
store e f c (suc (suc zero)) chan named off width v some is over h = copies_set_up.store e c 2 chan named off width v (omega arith) is h
store e f c (suc (suc (suc zero))) chan named off width v some is over h = copies_set_up.store e c 3 chan named off width v (omega arith) is h
store e f c (suc (suc (suc (suc zero)))) chan named off width v some is over h =
    subst (λ (d : ChannelState). IsStarted e f d) (same_store c chan named 0 4 3 off width v is) (inl (0, copies_set_up.start e f c some h))
store e f c (suc (suc (suc (suc (suc zero))))) chan named off width v some is over h = (over refl).copied
store e f c (suc (suc (suc (suc (suc (suc d)))))) chan named off width v some is over h = absurd (beyond chan e d (IoStore (Reg named off width v)) is)

-- ---- a read

-- the channel after a read, by what was told
moving_read : (e : Ends) (f : List ℕ) (w : ℕ) (c : ChannelState) (ram : List ℕ) (t : ChanStep) → read_step c ram ≡ t → AreEnds (length ram) e → IsChannel c → ((s : Span) (bytes : List ℕ) (done : Bool) → read_step c ram ≡ Moved s bytes done → ShowsSource e f ram s) → IsMoving e f w c
    → IsMoving e f w (read_next c (read_step c ram))
moving_read e f w c ram Idle is are sound shows h = subst (λ (t : ChanStep). IsMoving e f w (read_next c t)) (sym is) h
moving_read e f w c ram (Moved s bytes done) is are sound shows h = copies_read.moves e f w c ram s bytes done sound h is (shows s bytes done is)
moving_read e f w c ram (Error bus len) is are sound shows h = absurd (copies_read.no_error e f w c ram bus len are h is)

read_idle : (c : ChannelState) (ram : List ℕ) → c.regs.control.run ≡ false → c ≡ read_next c (read_step c ram)
read_idle c ram is = sym (ap (read_next c) (copies_read.idle c ram is))

set_read : (e : Ends) (k : ℕ) (c : ChannelState) (ram : List ℕ) → IsSet e k c → IsSet e k (read_next c (read_step c ram))
set_read e k c ram h = subst (λ (d : ChannelState). IsSet e k d) (read_idle c ram h.idle) h

read : (e : Ends) (f : List ℕ) (c : ChannelState) (d : ℕ) (ram : List ℕ) → d < 6 → AreEnds (length ram) e → IsChannel c → ((s : Span) (bytes : List ℕ) (done : Bool) → read_step c ram ≡ Moved s bytes done → ShowsSource e f ram s) → IsCopying e f d c
    → IsCopying e f d (read_next c (read_step c ram))
read e f c zero ram lt are sound shows h = set_read e 0 c ram h
read e f c (suc zero) ram lt are sound shows h = set_read e 1 c ram h
read e f c (suc (suc zero)) ram lt are sound shows h = set_read e 2 c ram h
read e f c (suc (suc (suc zero))) ram lt are sound shows h = set_read e 3 c ram h
read e f c (suc (suc (suc (suc zero)))) ram lt are sound shows h = set_read e 4 c ram h
read e f c (suc (suc (suc (suc (suc zero))))) ram lt are sound shows (inl on) = inl (on.0, moving_read e f on.0 c ram (read_step c ram) refl are sound shows on.1)
read e f c (suc (suc (suc (suc (suc zero))))) ram lt are sound shows (inr h) = inr (subst (λ (d : ChannelState). IsMoved e f d) (read_idle c ram h.idle) h)
read e f c (suc (suc (suc (suc (suc (suc d)))))) ram lt are sound shows h = absurd (omega (arith, lt))

-- ---- flat memory changes elsewhere

copied_stays : (e : Ends) (f g : List ℕ) (n : ℕ) → n ≤ e.len → SameEnds e f g → IsCopied e f n → IsCopied e g n
copied_stays e f g n few same copied = record {
  seen = λ i lt. refl;
  same = λ i lt. same.target i (omega (arith, lt, few)) ∙ copied.same i lt ∙ sym (same.source i (omega (arith, lt, few)));
}

moving_stays : (e : Ends) (f g : List ℕ) (w : ℕ) (c : ChannelState) → SameEnds e f g → IsMoving e f w c → IsMoving e g w c
moving_stays e f g w c same h = record {
  claimed = h.claimed;
  runs = h.runs;
  not_done = h.not_done;
  no_error = h.no_error;
  config = h.config;
  source = h.source;
  destination = h.destination;
  bytes = h.bytes;
  left = h.left;
  within = h.within;
  fifo = λ i lt. h.fifo i lt ∙ sym (same.source (w + i) (omega (arith, lt, h.within)));
  copied = copied_stays e f g w (omega (arith, h.left)) same h.copied;
}

moved_stays : (e : Ends) (f g : List ℕ) (c : ChannelState) → SameEnds e f g → IsMoved e f c → IsMoved e g c
moved_stays e f g c same h = record {
  claimed = h.claimed;
  idle = h.idle;
  done = h.done;
  no_error = h.no_error;
  empty = h.empty;
  copied = copied_stays e f g e.len (omega arith) same h.copied;
}

stays : (e : Ends) (f g : List ℕ) (c : ChannelState) (d : ℕ) → SameEnds e f g → IsCopying e f d c → IsCopying e g d c
stays e f g c zero same h = h
stays e f g c (suc zero) same h = h
stays e f g c (suc (suc zero)) same h = h
stays e f g c (suc (suc (suc zero))) same h = h
stays e f g c (suc (suc (suc (suc zero)))) same h = h
stays e f g c (suc (suc (suc (suc (suc zero))))) same (inl on) = inl (on.0, moving_stays e f g on.0 c same on.1)
stays e f g c (suc (suc (suc (suc (suc zero))))) same (inr h) = inr (moved_stays e f g c same h)
stays e f g c (suc (suc (suc (suc (suc (suc d)))))) same h = copied_stays e f g e.len (omega arith) same h

-- ---- a write

moving_write : (e : Ends) (f g : List ℕ) (w : ℕ) (c : ChannelState) (size : ℕ) (t : ChanStep) → write_step c size ≡ t → AreEnds size e → IsChannel c → IsFlatAfter e f g t → IsMoving e f w c → IsStarted e g (write_next c (write_step c size))
moving_write e f g w c size Idle is are sound after h = inl (w, subst (λ (t : ChanStep). IsMoving e g w (write_next c t)) (sym is) (moving_stays e f g w c after h))
moving_write e f g w c size (Moved s bytes true) is are sound after h = inr (copies_write.ends e f g w c size s bytes are sound h is after)
moving_write e f g w c size (Moved s bytes false) is are sound after h = inl (w + s.len, copies_write.moves e f g w c size s bytes are sound h is after)
moving_write e f g w c size (Error bus len) is are sound after h = absurd (copies_write.no_error e f w c size bus len are h is)

write_idle : (c : ChannelState) (size : ℕ) → c.regs.control.run ≡ false → c ≡ write_next c (write_step c size)
write_idle c size is = sym (ap (write_next c) (copies_write.idle c size is))

set_write : (e : Ends) (k : ℕ) (c : ChannelState) (size : ℕ) → IsSet e k c → IsSet e k (write_next c (write_step c size))
set_write e k c size h = subst (λ (d : ChannelState). IsSet e k d) (write_idle c size h.idle) h

moved_write : (e : Ends) (f g : List ℕ) (c : ChannelState) (size : ℕ) → IsFlatAfter e f g (write_step c size) → IsMoved e f c → IsMoved e g (write_next c (write_step c size))
moved_write e f g c size after h =
    let same : SameEnds e f g = subst (λ (t : ChanStep). IsFlatAfter e f g t) (copies_write.idle c size h.idle) after in
    subst (λ (d : ChannelState). IsMoved e g d) (write_idle c size h.idle) (moved_stays e f g c same h)

write : (e : Ends) (f g : List ℕ) (c : ChannelState) (d size : ℕ) → d < 6 → AreEnds size e → IsChannel c → IsFlatAfter e f g (write_step c size) → IsCopying e f d c → IsCopying e g d (write_next c (write_step c size))
write e f g c zero size lt are sound after h = set_write e 0 c size h
write e f g c (suc zero) size lt are sound after h = set_write e 1 c size h
write e f g c (suc (suc zero)) size lt are sound after h = set_write e 2 c size h
write e f g c (suc (suc (suc zero))) size lt are sound after h = set_write e 3 c size h
write e f g c (suc (suc (suc (suc zero)))) size lt are sound after h = set_write e 4 c size h
write e f g c (suc (suc (suc (suc (suc zero))))) size lt are sound after (inl on) = moving_write e f g on.0 c size (write_step c size) refl are sound after on.1
write e f g c (suc (suc (suc (suc (suc zero))))) size lt are sound after (inr h) = inr (moved_write e f g c size after h)
write e f g c (suc (suc (suc (suc (suc (suc d)))))) size lt are sound after h = absurd (omega (arith, lt))

pub copies_go_on : CopiesGoOn
copies_go_on = record {
  plan = λ chan src dst source target cfg. refl;
  store = store;
  read = read;
  write = write;
  stays = stays;
}
