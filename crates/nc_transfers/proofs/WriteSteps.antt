-- The writes of a copy's channel.
use Rattle.std.proofs.Common.{◌≡◌, inl, inr, ℕ, ◌+◌, ◌-◌, ◌<◌, ◌≤◌, ◌==◌, Bool, true, false, List, length, drop, Some, refl, sym, ap, ◌∙◌, subst, arith, length-drop}
use Rattle.std.specs.Prelude.{Option, if◌then◌else◌}
use Rattle.std.proofs.lemmas.Bool.{cases_lt}
use Rattle.std.proofs.lemmas.Bool.Decides.{nat_tests}
use Rattle.std.proofs.lemmas.List.{get_or-take, get_or-drop, drop_all, length-take-le}
use Rattle.nc_num.specs.Memory.{byte}
use Rattle.nc_num.specs.declared.places.Span.{Span}
use Rattle.nc_pdma_regs.specs.Config.{repeat_of}
use Rattle.nc_pdma_regs.specs.Registers.{Registers}
use Rattle.nc_pdma_regs.specs.Moves.{bytes_written, finished, written_on}
use Rattle.nc_pdma.specs.declared.channel.ChanStep.{ChanStep}
use Rattle.nc_pdma.specs.declared.channel.ChanStep.TheVariants.{Idle, Moved, Error}
use Rattle.nc_pdma.specs.Bus.{place_of, ram_base}
use Rattle.nc_pdma.specs.Channel.{ChannelState, IsChannel}
use Rattle.nc_pdma.specs.Steps.{may_write, write_at, write_len, write_next, write_step}
use Rattle.nc_pdma.specs.Laws.{IsWriteOf}
use Rattle.nc_pdma.proofs.Transactions.{each_write}
use Rattle.nc_transfers.specs.Transfers.{Ends, AreEnds, IsMoving, IsMoved}
use Rattle.nc_transfers.specs.Bytes.{GetsBytes}
use Rattle.nc_transfers.specs.Laws.{IsTargetWrite, CopiesWrite}
use Rattle.nc_transfers.proofs.ConfigValues.{repeat_of-kept}
use Rattle.nc_transfers.proofs.ReadSteps.{place_known}

-- whether these bytes are the last
last_is : (left n : ℕ) → (left - n == 0) ≡ true → n ≤ left → n ≡ left
last_is left n is le = grind (arith, nat_tests)

more_is : (left n : ℕ) → (left - n == 0) ≡ false → n < left
more_is left n is = grind (arith, nat_tests)

gives : (e : Ends) (f : List ℕ) (w : ℕ) (c : ChannelState) (size : ℕ) (s : Span) (bytes : List ℕ) (done : Bool) → IsChannel c → IsMoving e f w c → write_step c size ≡ Moved s bytes done → IsTargetWrite e w s bytes done
gives e f w c size s bytes done h m is =
    let r = each_write c size s bytes done h is in
    let fits : s.len ≤ e.len - w = omega (arith, r.in_fifo, m.within, m.left) in
    let told : done ≡ (e.len - w - s.len == 0) = r.done_is ∙ ap (λ (n : ℕ). n - s.len == 0) m.bytes in
    record {
      here = omega (arith, r.span.here, m.destination);
      some = r.span.some;
      inside = omega (arith, r.span.here, m.destination, fits, m.left);
      long = ap length r.bytes_are ∙ length-take-le s.len c.fifo r.in_fifo;
      last = λ yes. let all = last_is (e.len - w) s.len (sym told ∙ yes) fits in omega (arith, all, m.left);
      more = λ no. let some = more_is (e.len - w) s.len (sym told ∙ no) in omega (arith, some);
    }

-- ---- no error

never : (c : ChannelState) (at bus len : ℕ) (b : Bool) → (if b then write_at c (Some at) else Idle) ≡ Error bus len → ⊥
never c at bus len true is = cc
never c at bus len false is = cc

no_error : (e : Ends) (f : List ℕ) (w : ℕ) (c : ChannelState) (size bus len : ℕ) → AreEnds size e → IsMoving e f w c → write_step c size ≡ Error bus len → ⊥
unfolding write_step
no_error e f w c size bus len are m is =
    let few : write_len c ≤ length c.fifo = omega arith in
    let high : c.regs.exec.destination + write_len c ≤ ram_base + size = omega (arith, few, m.destination, m.within, are.writes) in
    let known = place_known size c.regs.exec.destination (write_len c) (omega (arith, m.destination)) high in
    never c (c.regs.exec.destination - ram_base) bus len (may_write c) (sym (ap (λ (o : Option ℕ). if may_write c then write_at c o else Idle) known) ∙ is)

-- ---- flat memory after a write

-- a byte of the source is not written, since the ends are apart
source_kept : (e : Ends) (f g : List ℕ) (w : ℕ) (size : ℕ) (s : Span) (bytes : List ℕ) (i : ℕ) → AreEnds size e → s.at ≡ e.writes_at + w → w + s.len ≤ e.len → GetsBytes e f g s bytes → i < e.len → byte g (e.source + i) ≡ byte f (e.source + i)
source_kept e f g w size s bytes i are here fits gets lt = gets.away (e.source + i) (elim are.apart [
  | inl before ↦ inl (omega (arith, before, here, lt))
  | inr behind ↦ inr (omega (arith, behind, here, lt, fits))
])

-- the first bytes of the destination are the source's
written_byte : (e : Ends) (f g : List ℕ) (w : ℕ) (c : ChannelState) (size : ℕ) (s : Span) (bytes : List ℕ) (done : Bool) (i : ℕ) → AreEnds size e → IsMoving e f w c → IsWriteOf c size s bytes done → GetsBytes e f g s bytes → i < w + s.len → w + s.len ≤ e.len
    → byte g (e.target + i) ≡ byte g (e.source + i)
written_byte e f g w c size s bytes done i are m r gets lt fits =
    let here : s.at ≡ e.writes_at + w = omega (arith, r.span.here, m.destination) in
    let kept = source_kept e f g w size s bytes i are here fits gets (omega (arith, lt, fits)) in
    elim (cases_lt i w) [
      | inl old ↦ gets.away (e.target + i) (inl (omega (arith, old, here))) ∙ m.copied.same i old ∙ sym kept
      | inr new ↦
          let k : ℕ = i - w in
          let place : e.target + (e.writes_at + i - e.writes_at) ≡ e.target + i = omega arith in
          let first : e.writes_at + i - s.at ≡ k = omega (arith, here, new) in
          let of_fifo : e.source + (w + k) ≡ e.source + i = omega (arith, new) in
          sym (ap (byte g) place)
          ∙ gets.here (e.writes_at + i) (omega (arith, here, new)) (omega (arith, here, lt))
          ∙ ap (byte bytes) first
          ∙ ap (λ (bs : List ℕ). byte bs k) r.bytes_are
          ∙ get_or-take s.len c.fifo k 0 (omega (arith, lt, new))
          ∙ m.fifo k (omega (arith, lt, new, r.in_fifo))
          ∙ ap (byte f) of_fifo
          ∙ sym kept
    ]

-- ---- the channel after a write

more_on : (r : Registers) (n : ℕ) → (r.exec.bytes - n == 0) ≡ false → written_on r n ≡ bytes_written r n
unfolding written_on
more_on r n is = rw is refl

moves : (e : Ends) (f g : List ℕ) (w : ℕ) (c : ChannelState) (size : ℕ) (s : Span) (bytes : List ℕ) → AreEnds size e → IsChannel c → IsMoving e f w c → write_step c size ≡ Moved s bytes false → GetsBytes e f g s bytes
    → IsMoving e g (w + s.len) (write_next c (write_step c size))
moves e f g w c size s bytes are h m is gets =
    let r = each_write c size s bytes false h is in
    let more = (gives e f w c size s bytes false h m is).more refl in
    let here : s.at ≡ e.writes_at + w = omega (arith, r.span.here, m.destination) in
    let regs = more_on c.regs s.len (sym r.done_is) in
    let rest : length (drop s.len c.fifo) ≡ length c.fifo - s.len = length-drop s.len c.fifo in
    subst (λ (t : ChanStep). IsMoving e g (w + s.len) (write_next c t)) (sym is)
    (subst (λ (q : Registers). IsMoving e g (w + s.len) (record { regs = q; fifo = drop s.len c.fifo })) (sym regs) (record {
      claimed = m.claimed;
      runs = m.runs;
      not_done = m.not_done;
      no_error = m.no_error;
      config = m.config;
      source = omega (arith, rest, m.source, r.in_fifo);
      destination = omega (arith, m.destination);
      bytes = omega (arith, m.bytes);
      left = more;
      within = omega (arith, rest, m.within, r.in_fifo);
      fifo = λ i lt.
          let place : e.source + (w + (s.len + i)) ≡ e.source + (w + s.len + i) = omega arith in
          let kept = source_kept e f g w size s bytes (w + s.len + i) are here (omega (arith, more)) gets (omega (arith, lt, rest, m.within)) in
          get_or-drop s.len c.fifo i 0 ∙ m.fifo (s.len + i) (omega (arith, lt, rest)) ∙ ap (byte f) place ∙ sym kept;
      copied = record { seen = λ i lt. refl; same = λ i lt. written_byte e f g w c size s bytes false i are m r gets lt (omega (arith, more)) };
    }))

finished_is : (r : Registers) (n : ℕ) → repeat_of r.exec.config ≡ false → finished (bytes_written r n) ≡ record { control = record r.control { run = false; done = true }; next = r.next; exec = (bytes_written r n).exec }
finished_is r n once = rw once refl

done_on : (r : Registers) (n : ℕ) → (r.exec.bytes - n == 0) ≡ true → repeat_of r.exec.config ≡ false → written_on r n ≡ record { control = record r.control { run = false; done = true }; next = r.next; exec = (bytes_written r n).exec }
unfolding written_on
done_on r n is once = rw is (finished_is r n once)

ends : (e : Ends) (f g : List ℕ) (w : ℕ) (c : ChannelState) (size : ℕ) (s : Span) (bytes : List ℕ) → AreEnds size e → IsChannel c → IsMoving e f w c → write_step c size ≡ Moved s bytes true → GetsBytes e f g s bytes
    → IsMoved e g (write_next c (write_step c size))
ends e f g w c size s bytes are h m is gets =
    let r = each_write c size s bytes true h is in
    let last = (gives e f w c size s bytes true h m is).last refl in
    let once : repeat_of c.regs.exec.config ≡ false = ap repeat_of m.config ∙ repeat_of-kept e.config ∙ are.once in
    let regs = done_on c.regs s.len (sym r.done_is) once in
    subst (λ (t : ChanStep). IsMoved e g (write_next c t)) (sym is)
    (subst (λ (q : Registers). IsMoved e g (record { regs = q; fifo = drop s.len c.fifo })) (sym regs) (record {
      claimed = m.claimed;
      idle = refl;
      done = refl;
      no_error = m.no_error;
      empty = drop_all s.len c.fifo (omega (arith, last, m.within));
      copied = record { seen = λ i lt. refl; same = λ i lt. written_byte e f g w c size s bytes true i are m r gets (omega (arith, lt, last)) (omega (arith, last)) };
    }))

-- ---- a channel that does not run

idle_by : (c : ChannelState) (o : Option ℕ) (b : Bool) → b ≡ false → (if b then write_at c o else Idle) ≡ Idle
idle_by c o true is = absurd (cc)
idle_by c o false is = refl

pub idle : (c : ChannelState) (size : ℕ) → c.regs.control.run ≡ false → write_step c size ≡ Idle
unfolding write_step
idle c size is = idle_by c (place_of size c.regs.exec.destination (write_len c)) (may_write c) (rw is refl)

pub copies_write : CopiesWrite
copies_write = record { gives = gives; no_error = no_error; moves = moves; ends = ends; idle = idle }
