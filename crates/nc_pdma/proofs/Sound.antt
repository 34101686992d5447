-- What holds of a channel holds after each access and each step.
use Rattle.std.proofs.Common.{◌≡◌, ◌<◌, ◌≤◌, ℕ, ◌-◌, ◌==◌, Bool, true, false, List, [], ◌++◌, length, drop, refl, sym, ap, ◌∙◌, arith, length-append, length-drop}
use Rattle.std.specs.Prelude.{◌&&◌, ◌||◌, not, nat_lt, if◌then◌else◌, Option, Some, None}
use Rattle.std.proofs.lemmas.List.{drop_all}
use Rattle.std.proofs.lemmas.Bool.{and_parts}
use Rattle.std.proofs.lemmas.Bool.Decides.{nat_tests}
use Rattle.std.proofs.lemmas.Grind.{common_steps}
use Rattle.nc_num.specs.Memory.{span}
use Rattle.nc_pdma_regs.specs.declared.config.Transfer.{Transfer}
use Rattle.nc_pdma_regs.specs.declared.table.Register.{Register}
use Rattle.nc_pdma_regs.specs.declared.table.Register.TheVariants.{Control, NextConfig, NextBytes, NextDestination, NextSource, ExecConfig, ExecBytes, ExecDestination, ExecSource}
use Rattle.nc_pdma_regs.specs.Control.{bit}
use Rattle.nc_pdma_regs.specs.Config.{order_of, repeat_of}
use Rattle.nc_pdma_regs.specs.Table.{register_at}
use Rattle.nc_pdma_regs.specs.Registers.{Registers}
use Rattle.nc_pdma_regs.specs.Writes.{claim_after, control_write, empties_fifo, is_empty, low, next_written, starts, written_at, write_of}
use Rattle.nc_pdma_regs.specs.Moves.{bytes_read, bytes_written, finished, starts_again, written_on}
use Rattle.nc_pdma_regs.proofs.Claims.{stays_claimed}
use Rattle.nc_pdma.specs.declared.channel.ChanStep.TheVariants.{Idle}
use Rattle.nc_pdma.specs.Bus.{place_of}
use Rattle.nc_pdma.specs.Channel.{ChannelState, IsChannel, channel_failed, channel_write, fifo_after, new_channel, to_read}
use Rattle.nc_pdma.specs.Steps.{may_read, may_write, read_at, read_len, read_next, read_step, write_at, write_len, write_next, write_step}
use Rattle.nc_pdma.specs.Laws.{ChannelsStaySound}

-- a write to Control, part by part: s says whether it starts a transfer, run and b1 whether one runs and bit 1 is written
fifo_idle : (s run b1 empty : Bool) (fifo : List ℕ) → (run ≡ false → fifo ≡ []) → (if s then not empty else run && b1) ≡ false
    → (if s || (run && not b1) then [] else fifo) ≡ []
fifo_idle true run b1 empty fifo idle is = refl
fifo_idle false true true empty fifo idle is = absurd (cc)
fifo_idle false true false empty fifo idle is = refl
fifo_idle false false b1 empty fifo idle is = idle refl

some_bytes : (n : ℕ) → not (n == 0) ≡ true → 0 < n
some_bytes n is = grind (arith, nat_tests)

bytes_left : (s run b1 : Bool) (next exec : Transfer) → (run ≡ true → 0 < exec.bytes) → (if s then not (is_empty next) else run && b1) ≡ true
    → 0 < (if s then next else exec).bytes
bytes_left true run b1 next exec left is = some_bytes next.bytes is
bytes_left false true b1 next exec left is = left refl
bytes_left false false b1 next exec left is = absurd (cc)

fifo_within : (s e : Bool) (fifo : List ℕ) (next exec : Transfer) → length fifo ≤ exec.bytes → length (if s || e then [] else fifo) ≤ (if s then next else exec).bytes
fifo_within true e fifo next exec h = omega arith
fifo_within false true fifo next exec h = omega arith
fifo_within false false fifo next exec h = h

fifo_short : (e : Bool) (fifo : List ℕ) → length fifo ≤ 64 → length (if e then [] else fifo) ≤ 64
fifo_short true fifo h = omega arith
fifo_short false fifo h = h

control_keeps : (c : ChannelState) (v : ℕ) → IsChannel c → IsChannel (channel_write c 0 4 v)
unfolding control_write
control_keeps c v h =
    let s : Bool = starts c.regs.control (low v) in
    let b1 : Bool = bit (low v) 1 in
    let run : Bool = c.regs.control.run in record {
      claimed = stays_claimed.write c.regs 0 4 v h.claimed;
      idle = λ is. fifo_idle s run b1 (is_empty c.regs.next) c.fifo h.idle is;
      left = λ is. bytes_left s run b1 c.regs.next c.regs.exec h.left is;
      within = fifo_within s (run && not b1) c.fifo c.regs.next c.regs.exec h.within;
      short = fifo_short (s || (run && not b1)) c.fifo h.short;
    }

next_keeps : (c : ChannelState) (t : Transfer) (b : Bool) → IsChannel c → IsChannel (record { regs = if b then record c.regs { next = t } else c.regs; fifo = c.fifo })
next_keeps c t true h = record { claimed = h.claimed; idle = h.idle; left = h.left; within = h.within; short = h.short }
next_keeps c t false h = h

write_keeps : (c : ChannelState) (o : Option Register) (v : ℕ) → IsChannel c → IsChannel (record { regs = written_at c.regs o v; fifo = fifo_after c o v })
write_keeps c None v h = h
write_keeps c (Some Control) v h = control_keeps c v h
write_keeps c (Some NextConfig) v h = next_keeps c (next_written c.regs.next NextConfig v) c.regs.control.claim h
write_keeps c (Some NextBytes) v h = next_keeps c (next_written c.regs.next NextBytes v) c.regs.control.claim h
write_keeps c (Some NextDestination) v h = next_keeps c (next_written c.regs.next NextDestination v) c.regs.control.claim h
write_keeps c (Some NextSource) v h = next_keeps c (next_written c.regs.next NextSource v) c.regs.control.claim h
write_keeps c (Some ExecConfig) v h = next_keeps c c.regs.next c.regs.control.claim h
write_keeps c (Some ExecBytes) v h = next_keeps c c.regs.next c.regs.control.claim h
write_keeps c (Some ExecDestination) v h = next_keeps c c.regs.next c.regs.control.claim h
write_keeps c (Some ExecSource) v h = next_keeps c c.regs.next c.regs.control.claim h

pub write_sound : (c : ChannelState) (off width v : ℕ) → IsChannel c → IsChannel (channel_write c off width v)
write_sound c off width v h = write_keeps c (register_at off width) v h

-- the FIFO after a write, by whether a transfer runs then
fifo_runs : (s run b1 empty : Bool) (fifo : List ℕ) → (s ≡ true → run ≡ false) → (run ≡ false → fifo ≡ []) → (if s then not empty else run && b1) ≡ true
    → (if s || (run && not b1) then [] else fifo) ≡ fifo
fifo_runs true run b1 empty fifo none idle is = sym (idle (none refl))
fifo_runs false true true empty fifo none idle is = refl
fifo_runs false true false empty fifo none idle is = absurd (cc)
fifo_runs false false b1 empty fifo none idle is = absurd (cc)

not_is : (b : Bool) → not b ≡ true → b ≡ false
not_is true is = absurd (cc)
not_is false is = refl

starts_idle : (c : ChannelState) (v : ℕ) → starts c.regs.control v ≡ true → c.regs.control.run ≡ false
starts_idle c v is =
    let run : Bool = c.regs.control.run in
    let claim : Bool = c.regs.control.claim in
    let third = and_parts (not run && bit v 1 && claim) (claim_after c.regs.control v) is in
    let second = and_parts (not run && bit v 1) claim third.0 in
    not_is run (and_parts (not run) (bit v 1) second.0).0

control_runs : (c : ChannelState) (v : ℕ) → IsChannel c → (control_write c.regs v).control.run ≡ true → (if empties_fifo c.regs.control v then [] else c.fifo) ≡ c.fifo
unfolding control_write
control_runs c v h is =
    fifo_runs (starts c.regs.control v) c.regs.control.run (bit v 1) (is_empty c.regs.next) c.fifo (starts_idle c v) h.idle is

fifo_stays_at : (c : ChannelState) (o : Option Register) (v : ℕ) → IsChannel c → (written_at c.regs o v).control.run ≡ true → fifo_after c o v ≡ c.fifo
fifo_stays_at c None v h is = refl
fifo_stays_at c (Some Control) v h is = control_runs c (low v) h is
fifo_stays_at c (Some NextConfig) v h is = refl
fifo_stays_at c (Some NextBytes) v h is = refl
fifo_stays_at c (Some NextDestination) v h is = refl
fifo_stays_at c (Some NextSource) v h is = refl
fifo_stays_at c (Some ExecConfig) v h is = refl
fifo_stays_at c (Some ExecBytes) v h is = refl
fifo_stays_at c (Some ExecDestination) v h is = refl
fifo_stays_at c (Some ExecSource) v h is = refl

-- the channel after a write, with the FIFO emptied unless a transfer runs
pub written_running : (c d : ChannelState) (off width v : ℕ) → IsChannel c → d.regs ≡ write_of c.regs off width v → d.regs.control.run ≡ true → d.fifo ≡ c.fifo
    → d ≡ channel_write c off width v
written_running c d off width v h regs is fifo =
    let kept = fifo_stays_at c (register_at off width) v h (sym (ap (λ (r : Registers). r.control.run) regs) ∙ is) in
    λ i. record { regs = regs i; fifo = (fifo ∙ sym kept) i }

pub written_idle : (c d : ChannelState) (off width v : ℕ) → IsChannel c → d.regs ≡ write_of c.regs off width v → d.regs.control.run ≡ false → d.fifo ≡ []
    → d ≡ channel_write c off width v
written_idle c d off width v h regs is fifo =
    let none = (write_sound c off width v h).idle (sym (ap (λ (r : Registers). r.control.run) regs) ∙ is) in
    λ i. record { regs = regs i; fifo = (fifo ∙ sym none) i }

-- errors
pub failed_sound : (c : ChannelState) → IsChannel (channel_failed c)
failed_sound c = record { claimed = λ is. absurd (cc); idle = λ is. refl; left = λ is. absurd (cc); within = omega arith; short = omega arith }

-- reads
pub may_read_runs : (c : ChannelState) → may_read c ≡ true → c.regs.control.run ≡ true
may_read_runs c is =
    let run : Bool = c.regs.control.run in
    let more : Bool = nat_lt 0 (to_read c) in
    let room : Bool = nat_lt (length c.fifo) 64 in
    let third = and_parts (run && more && room) (not (order_of c.regs.exec.config && not (length c.fifo == 0))) is in
    let second = and_parts (run && more) room third.0 in
    (and_parts run more second.0).0

pub length-span-le : (m : List ℕ) (at n : ℕ) → length (span m at n) ≤ n
unfolding span
length-span-le m at n = grind (arith, common_steps)

pub moved_in_sound : (c : ChannelState) (bs : List ℕ) (n : ℕ) → IsChannel c → c.regs.control.run ≡ true → length bs ≤ to_read c → length bs ≤ 64 - length c.fifo
    → IsChannel (record { regs = bytes_read c.regs n; fifo = c.fifo ++ bs })
moved_in_sound c bs n h runs more room = record {
  claimed = h.claimed;
  idle = λ is. absurd (cc (runs, is));
  left = h.left;
  within = omega (arith, length-append c.fifo bs, h.within);
  short = omega (arith, length-append c.fifo bs, h.short);
}

read_place : (c : ChannelState) (ram : List ℕ) (o : Option ℕ) → IsChannel c → c.regs.control.run ≡ true → IsChannel (read_next c (read_at c ram o))
read_place c ram None h runs = failed_sound c
read_place c ram (Some at) h runs =
    let few = length-span-le ram at (read_len c) in
    moved_in_sound c (span ram at (read_len c)) (read_len c) h runs (omega (arith, few)) (omega (arith, few))

read_by : (c : ChannelState) (ram : List ℕ) (o : Option ℕ) (b : Bool) → IsChannel c → may_read c ≡ b → IsChannel (read_next c (if b then read_at c ram o else Idle))
read_by c ram o true h is = read_place c ram o h (may_read_runs c is)
read_by c ram o false h is = h

pub read_sound : (c : ChannelState) (ram : List ℕ) → IsChannel c → IsChannel (read_next c (read_step c ram))
unfolding read_step
read_sound c ram h = read_by c ram (place_of (length ram) c.regs.exec.source (read_len c)) (may_read c) h refl

-- writes
again_left : (again run : Bool) (next exec : Transfer) → (again ≡ true → 0 < next.bytes) → (again && run) ≡ true → 0 < (if again then next else exec).bytes
again_left true run next exec left is = left refl
again_left false run next exec left is = absurd (cc)

done_sound : (c : ChannelState) (n : ℕ) → IsChannel c → c.regs.exec.bytes ≤ n → IsChannel (record { regs = finished (bytes_written c.regs n); fifo = drop n c.fifo })
done_sound c n h all =
    let again : Bool = starts_again (bytes_written c.regs n) in
    let none : drop n c.fifo ≡ [] = drop_all n c.fifo (omega (arith, h.within)) in
    let empty : length (drop n c.fifo) ≡ 0 = ap length none in
    record {
      claimed = λ is. h.claimed (and_parts again c.regs.control.run is).1;
      idle = λ is. none;
      left = λ is. again_left again c.regs.control.run c.regs.next (bytes_written c.regs n).exec
          (λ go. some_bytes c.regs.next.bytes (and_parts (repeat_of c.regs.exec.config) (not (is_empty c.regs.next)) go).1) is;
      within = omega (arith, empty);
      short = omega (arith, empty);
    }

drop_none : (n : ℕ) (xs : List ℕ) → xs ≡ [] → drop n xs ≡ []
drop_none n xs e = ap (drop n) e ∙ drop_all n [] (omega arith)

more_sound : (c : ChannelState) (n : ℕ) → IsChannel c → n < c.regs.exec.bytes → IsChannel (record { regs = bytes_written c.regs n; fifo = drop n c.fifo })
more_sound c n h more = record {
  claimed = h.claimed;
  idle = λ is. drop_none n c.fifo (h.idle is);
  left = λ is. omega arith;
  within = omega (arith, length-drop n c.fifo, h.within);
  short = omega (arith, length-drop n c.fifo, h.short);
}

moved_out_by : (c : ChannelState) (n : ℕ) (b : Bool) → IsChannel c → (c.regs.exec.bytes - n == 0) ≡ b
    → IsChannel (record { regs = if b then finished (bytes_written c.regs n) else bytes_written c.regs n; fifo = drop n c.fifo })
moved_out_by c n true h is = done_sound c n h (grind (arith, nat_tests))
moved_out_by c n false h is = more_sound c n h (grind (arith, nat_tests))

pub moved_out_sound : (c : ChannelState) (n : ℕ) → IsChannel c → IsChannel (record { regs = written_on c.regs n; fifo = drop n c.fifo })
unfolding written_on
moved_out_sound c n h = moved_out_by c n (c.regs.exec.bytes - n == 0) h refl

write_place : (c : ChannelState) (o : Option ℕ) → IsChannel c → IsChannel (write_next c (write_at c o))
write_place c None h = failed_sound c
write_place c (Some at) h = moved_out_sound c (write_len c) h

written_by : (c : ChannelState) (o : Option ℕ) (b : Bool) → IsChannel c → IsChannel (write_next c (if b then write_at c o else Idle))
written_by c o true h = write_place c o h
written_by c o false h = h

pub written_sound : (c : ChannelState) (size : ℕ) → IsChannel c → IsChannel (write_next c (write_step c size))
unfolding write_step
written_sound c size h = written_by c (place_of size c.regs.exec.destination (write_len c)) (may_write c) h

pub new_sound : IsChannel new_channel
new_sound = record { claimed = λ is. absurd (cc); idle = λ is. refl; left = λ is. absurd (cc); within = omega arith; short = omega arith }

pub channels_stay_sound : ChannelsStaySound
channels_stay_sound = record { at_first = new_sound; write = write_sound; read = read_sound; written = written_sound }
