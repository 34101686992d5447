-- What a transaction moves, and where.
use Rattle.std.proofs.Common.{◌≡◌, ◌<◌, ◌≤◌, ℕ, ◌+◌, ◌-◌, ◌*◌, ◌/◌, ◌%◌, ◌==◌, Bool, true, false, List, length, refl, ap, ◌∙◌, arith, subst}
use Rattle.std.specs.Prelude.{◌&&◌, not, nat_lt, nat_le, if◌then◌else◌, Option, Some, None}
use Rattle.std.proofs.lemmas.Bool.{and_parts}
use Rattle.std.proofs.lemmas.Bool.Decides.{nat_tests}
use Rattle.std.proofs.lemmas.Nat.{div-add-mod', div-mul-add, mod_below}
use Rattle.nc_pdma_regs.specs.Config.{order_of, read_size, write_size}
use Rattle.nc_pdma_regs.proofs.PowersOfTwo.{read_size_some, write_size_some}
use Rattle.nc_pdma.specs.declared.channel.ChanStep.{ChanStep}
use Rattle.nc_pdma.specs.declared.channel.ChanStep.TheVariants.{Idle, Moved}
use Rattle.nc_pdma.specs.Bus.{in_ram, place_of, ram_base}
use Rattle.nc_pdma.specs.Channel.{ChannelState, IsChannel, to_read}
use Rattle.nc_pdma.specs.Steps.{may_read, may_write, read_at, read_len, read_step, to_multiple, write_at, write_len, write_step}
use Rattle.nc_pdma.specs.Laws.{IsTransaction, IsReadOf, IsWriteOf, EachReadTakesTheNextBytes, EachWriteGivesTheFirstBytes}

-- a place on the bus
pub record IsPlaceOf (size bus n at : ℕ) : Type 0 where
  pub from : ram_base + at ≡ bus
  pub to : at + n ≤ size

place_by : (b : Bool) (size bus n at : ℕ) → in_ram size bus n ≡ b → (if b then Some (bus - ram_base) else None) ≡ Some at → IsPlaceOf size bus n at
place_by true size bus n at is e =
    let parts = and_parts (nat_le ram_base bus) (nat_le (bus + n) (ram_base + size)) is in
    let low : ram_base ≤ bus = grind (arith, nat_tests, parts.0) in
    let high : bus + n ≤ ram_base + size = grind (arith, nat_tests, parts.1) in
    let here : bus - ram_base ≡ at = cc in
    record { from = omega arith; to = omega arith }
place_by false size bus n at is e = absurd (cc)

pub place_is : (size bus n at : ℕ) → place_of size bus n ≡ Some at → IsPlaceOf size bus n at
place_is size bus n at e = place_by (in_ram size bus n) size bus n at refl e

-- bytes up to the next multiple of a size lie within one multiple
one_multiple : (size bus n : ℕ) → 0 < n → n ≤ to_multiple size bus → (bus + n - 1) / size ≡ bus / size
one_multiple size bus n some le =
    let split = div-add-mod' bus size in
    let e : bus + n - 1 ≡ bus / size * size + (bus % size + n - 1) = omega (arith, split) in
    ap (λ x. x / size) e ∙ div-mul-add (bus / size) size (bus % size + n - 1) (omega arith)

to_multiple_some : (size bus : ℕ) → 0 < size → 0 < to_multiple size bus
to_multiple_some size bus some = omega (arith, mod_below bus size some)

pub transaction_is : (size bus ram n at : ℕ) → 0 < n → n ≤ 64 → n ≤ to_multiple size bus → IsPlaceOf ram bus n at → IsTransaction size bus ram (record { at = at; len = n })
transaction_is size bus ram n at some few le p = record {
  here = p.from;
  some = some;
  few = few;
  inside = p.to;
  one_multiple = one_multiple size bus n some le;
}

-- reads
pub record MayRead (c : ChannelState) : Type 0 where
  pub runs : c.regs.control.run ≡ true
  pub more : 0 < to_read c
  pub room : length c.fifo < 64

pub may_read_is : (c : ChannelState) → may_read c ≡ true → MayRead c
may_read_is c is =
    let run : Bool = c.regs.control.run in
    let more : Bool = nat_lt 0 (to_read c) in
    let room : Bool = nat_lt (length c.fifo) 64 in
    let third = and_parts (run && more && room) (not (order_of c.regs.exec.config && not (length c.fifo == 0))) is in
    let second = and_parts (run && more) room third.0 in
    let first = and_parts run more second.0 in
    record { runs = first.0; more = grind (arith, nat_tests, first.1); room = grind (arith, nat_tests, second.1) }

abbrev OfRead : ChannelState → List ℕ → ChanStep → Type 0
OfRead c ram (Moved s bytes done) = IsReadOf c ram s bytes done
OfRead c ram _ = Unit {0}

read_moves : (c : ChannelState) (ram : List ℕ) (at : ℕ) → MayRead c → IsPlaceOf (length ram) c.regs.exec.source (read_len c) at
    → OfRead c ram (read_at c ram (Some at))
read_moves c ram at m here =
    let size = to_multiple_some (read_size c.regs.exec.config) c.regs.exec.source (read_size_some c.regs.exec.config) in record {
      runs = m.runs;
      span = transaction_is (read_size c.regs.exec.config) c.regs.exec.source (length ram) (read_len c) at (omega (arith, m.more, m.room, size)) (omega arith) (omega arith) here;
      bytes_are = refl;
      still_to_read = omega arith;
      room = omega (arith, m.room);
      not_done = refl;
    }

read_at_is : (c : ChannelState) (ram : List ℕ) (o : Option ℕ) → MayRead c → place_of (length ram) c.regs.exec.source (read_len c) ≡ o → OfRead c ram (read_at c ram o)
read_at_is c ram None m p = tt
read_at_is c ram (Some at) m p = read_moves c ram at m (place_is (length ram) c.regs.exec.source (read_len c) at p)

read_by : (c : ChannelState) (ram : List ℕ) (b : Bool) → may_read c ≡ b
    → OfRead c ram (if b then read_at c ram (place_of (length ram) c.regs.exec.source (read_len c)) else Idle)
read_by c ram true may = read_at_is c ram (place_of (length ram) c.regs.exec.source (read_len c)) (may_read_is c may) refl
read_by c ram false may = tt

of_read : (c : ChannelState) (ram : List ℕ) → OfRead c ram (read_step c ram)
unfolding read_step
of_read c ram = read_by c ram (may_read c) refl

pub each_read : EachReadTakesTheNextBytes
each_read c ram s bytes done h is = subst (λ (t : ChanStep). OfRead c ram t) is (of_read c ram)

-- writes
pub record MayWrite (c : ChannelState) : Type 0 where
  pub runs : c.regs.control.run ≡ true
  pub some : 0 < length c.fifo

pub may_write_is : (c : ChannelState) → may_write c ≡ true → MayWrite c
may_write_is c is =
    let parts = and_parts c.regs.control.run (not (length c.fifo == 0)) is in
    record { runs = parts.0; some = grind (arith, nat_tests, parts.1) }

abbrev OfWrite : ChannelState → ℕ → ChanStep → Type 0
OfWrite c size (Moved s bytes done) = IsWriteOf c size s bytes done
OfWrite c size _ = Unit {0}

write_moves : (c : ChannelState) (size at : ℕ) → IsChannel c → MayWrite c → IsPlaceOf size c.regs.exec.destination (write_len c) at
    → OfWrite c size (write_at c (Some at))
write_moves c size at h m here =
    let more = to_multiple_some (write_size c.regs.exec.config) c.regs.exec.destination (write_size_some c.regs.exec.config) in record {
      runs = m.runs;
      span = transaction_is (write_size c.regs.exec.config) c.regs.exec.destination size (write_len c) at (omega (arith, m.some, more)) (omega (arith, h.short)) (omega arith) here;
      bytes_are = refl;
      in_fifo = omega arith;
      done_is = refl;
    }

write_at_is : (c : ChannelState) (size : ℕ) (o : Option ℕ) → IsChannel c → MayWrite c → place_of size c.regs.exec.destination (write_len c) ≡ o → OfWrite c size (write_at c o)
write_at_is c size None h m p = tt
write_at_is c size (Some at) h m p = write_moves c size at h m (place_is size c.regs.exec.destination (write_len c) at p)

write_by : (c : ChannelState) (size : ℕ) (b : Bool) → IsChannel c → may_write c ≡ b
    → OfWrite c size (if b then write_at c (place_of size c.regs.exec.destination (write_len c)) else Idle)
write_by c size true h may = write_at_is c size (place_of size c.regs.exec.destination (write_len c)) h (may_write_is c may) refl
write_by c size false h may = tt

of_write : (c : ChannelState) (size : ℕ) → IsChannel c → OfWrite c size (write_step c size)
unfolding write_step
of_write c size h = write_by c size (may_write c) h refl

pub each_write : EachWriteGivesTheFirstBytes
each_write c size s bytes done h is = subst (λ (t : ChanStep). OfWrite c size t) is (of_write c size h)
