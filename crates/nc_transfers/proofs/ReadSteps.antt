-- The reads of a copy's channel.
use Rattle.std.proofs.Common.{◌≡◌, inl, inr, ℕ, ◌+◌, ◌-◌, ◌<◌, ◌≤◌, Bool, true, false, List, ◌++◌, length, Some, refl, sym, ap, ◌∙◌, subst, arith, length-append}
use Rattle.std.specs.Prelude.{Option, if◌then◌else◌}
use Rattle.std.proofs.lemmas.Bool.{cases_lt}
use Rattle.std.proofs.lemmas.Bool.Decides.{nat_tests}
use Rattle.std.proofs.lemmas.List.{get_or_append_left, get_or-append_right}
use Rattle.nc_num.specs.Memory.{byte}
use Rattle.nc_num.specs.declared.places.Span.{Span}
use Rattle.nc_num.proofs.MemoryLaws.{byte-span, length-span}
use Rattle.nc_pdma.specs.declared.channel.ChanStep.{ChanStep}
use Rattle.nc_pdma.specs.declared.channel.ChanStep.TheVariants.{Idle, Moved, Error}
use Rattle.nc_pdma.specs.Bus.{in_ram, place_of, ram_base}
use Rattle.nc_pdma.specs.Channel.{ChannelState, IsChannel, to_read}
use Rattle.nc_pdma.specs.Steps.{may_read, read_at, read_len, read_next, read_step}
use Rattle.nc_pdma.specs.Laws.{IsReadOf}
use Rattle.nc_pdma.proofs.Transactions.{each_read}
use Rattle.nc_transfers.specs.Transfers.{Ends, AreEnds, IsMoving}
use Rattle.nc_transfers.specs.Bytes.{ShowsSource}
use Rattle.nc_transfers.specs.Laws.{IsSourceRead, CopiesRead}

takes : (e : Ends) (f : List ℕ) (w : ℕ) (c : ChannelState) (ram : List ℕ) (s : Span) (bytes : List ℕ) (done : Bool) → IsChannel c → IsMoving e f w c → read_step c ram ≡ Moved s bytes done → IsSourceRead e w c s done
takes e f w c ram s bytes done h m is =
    let r = each_read c ram s bytes done h is in
    record {
      here = omega (arith, r.span.here, m.source);
      some = r.span.some;
      inside = omega (arith, r.span.here, m.source, r.still_to_read, m.bytes, m.left, r.span.some);
      not_done = r.not_done;
    }

-- ---- no error

in_ram_is : (size bus n : ℕ) → ram_base ≤ bus → bus + n ≤ ram_base + size → in_ram size bus n ≡ true
in_ram_is size bus n low high = grind (arith, nat_tests)

-- the place of bytes that are all in RAM
pub place_known : (size bus n : ℕ) → ram_base ≤ bus → bus + n ≤ ram_base + size → place_of size bus n ≡ Some (bus - ram_base)
place_known size bus n low high = rw (in_ram_is size bus n low high) refl

never : (c : ChannelState) (ram : List ℕ) (at bus len : ℕ) (b : Bool) → (if b then read_at c ram (Some at) else Idle) ≡ Error bus len → ⊥
never c ram at bus len true is = cc
never c ram at bus len false is = cc

no_error : (e : Ends) (f : List ℕ) (w : ℕ) (c : ChannelState) (ram : List ℕ) (bus len : ℕ) → AreEnds (length ram) e → IsMoving e f w c → read_step c ram ≡ Error bus len → ⊥
unfolding read_step
no_error e f w c ram bus len are m is =
    let few : read_len c ≤ to_read c = omega arith in
    let high : c.regs.exec.source + read_len c ≤ ram_base + length ram = omega (arith, few, m.source, m.bytes, m.within, m.left, are.reads) in
    let known = place_known (length ram) c.regs.exec.source (read_len c) (omega (arith, m.source)) high in
    never c ram (c.regs.exec.source - ram_base) bus len (may_read c) (sym (ap (λ (o : Option ℕ). if may_read c then read_at c ram o else Idle) known) ∙ is)

-- ---- what the FIFO has

read_byte : (e : Ends) (f : List ℕ) (w : ℕ) (c : ChannelState) (ram : List ℕ) (s : Span) (bytes : List ℕ) (done : Bool) (i : ℕ) → IsMoving e f w c → IsReadOf c ram s bytes done → ShowsSource e f ram s → length c.fifo ≤ i → i < length c.fifo + s.len
    → byte (c.fifo ++ bytes) i ≡ byte f (e.source + (w + i))
read_byte e f w c ram s bytes done i m r shows low high =
    let k : ℕ = i - length c.fifo in
    let there : s.at ≡ e.reads_at + w + length c.fifo = omega (arith, r.span.here, m.source) in
    let place : e.source + (s.at + k - e.reads_at) ≡ e.source + (w + i) = omega (arith, there, low) in
    get_or-append_right c.fifo bytes (length c.fifo) i 0 refl low
    ∙ ap (λ (bs : List ℕ). byte bs k) r.bytes_are
    ∙ byte-span ram s.at s.len k (omega (arith, low, high))
    ∙ shows (s.at + k) (omega arith) (omega (arith, low, high))
    ∙ ap (byte f) place

moves : (e : Ends) (f : List ℕ) (w : ℕ) (c : ChannelState) (ram : List ℕ) (s : Span) (bytes : List ℕ) (done : Bool) → IsChannel c → IsMoving e f w c → read_step c ram ≡ Moved s bytes done → ShowsSource e f ram s
    → IsMoving e f w (read_next c (read_step c ram))
moves e f w c ram s bytes done h m is shows =
    let r = each_read c ram s bytes done h is in
    let long : length bytes ≡ s.len = ap length r.bytes_are ∙ length-span ram s.at s.len r.span.inside in
    let all : length (c.fifo ++ bytes) ≡ length c.fifo + s.len = omega (arith, length-append c.fifo bytes, long) in
    subst (λ (t : ChanStep). IsMoving e f w (read_next c t)) (sym is) (record {
      claimed = m.claimed;
      runs = m.runs;
      not_done = m.not_done;
      no_error = m.no_error;
      config = m.config;
      source = omega (arith, all, m.source);
      destination = m.destination;
      bytes = m.bytes;
      left = m.left;
      within = omega (arith, all, r.still_to_read, m.bytes, m.within, m.left);
      fifo = λ i lt. elim (cases_lt i (length c.fifo)) [
        | inl old ↦ get_or_append_left c.fifo bytes 0 i old ∙ m.fifo i old
        | inr new ↦ read_byte e f w c ram s bytes done i m r shows new (omega (arith, lt, all))
      ];
      copied = m.copied;
    })

-- ---- a channel that does not run

idle_by : (c : ChannelState) (ram : List ℕ) (o : Option ℕ) (b : Bool) → b ≡ false → (if b then read_at c ram o else Idle) ≡ Idle
idle_by c ram o true is = absurd (cc)
idle_by c ram o false is = refl

pub idle : (c : ChannelState) (ram : List ℕ) → c.regs.control.run ≡ false → read_step c ram ≡ Idle
unfolding read_step
idle c ram is = idle_by c ram (place_of (length ram) c.regs.exec.source (read_len c)) (may_read c) (rw is refl)

pub copies_read : CopiesRead
copies_read = record { takes = takes; no_error = no_error; moves = moves; idle = idle }
