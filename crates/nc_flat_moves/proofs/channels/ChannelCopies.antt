-- Copies in hand behind a channel's read and write: that of the channel's own hart goes on, and all others stay.
use Rattle.std.specs.Prelude.{None, ◌≢◌, ◌-◌}
use Rattle.std.proofs.Common.{◌≡◌, ℕ, ◌+◌, ◌<◌, ◌≤◌, Bool, true, List, ◌++◌, length, refl, sym, ap, ◌∙◌, inl, inr, subst, arith}
use Rattle.std.proofs.lemmas.Bool.{cases_eq}
use Rattle.nc_num.specs.Memory.{byte}
use Rattle.nc_num.specs.Places.{covers}
use Rattle.nc_num.specs.declared.names.ChanNo.{ChanNo}
use Rattle.nc_num.specs.declared.names.Dir.TheVariants.{ToDev, FromDev}
use Rattle.nc_num.specs.declared.places.Span.{Span}
use Rattle.nc_queue.specs.declared.entry.Entry.{Entry}
use Rattle.nc_pdma.specs.declared.channel.ChanStep.{ChanStep}
use Rattle.nc_pdma.specs.declared.channel.ChanStep.TheVariants.{Idle, Moved, Error}
use Rattle.nc_pdma.specs.Channel.{ChannelState}
use Rattle.nc_pdma.specs.Steps.{read_next, write_next}
use Rattle.nc_model.specs.declared.owners.Access.TheVariants.{Read, Write}
use Rattle.nc_model.proofs.Faults.{covers-from, covers-low, covers-high}
use Rattle.nc_scen.specs.declared.scenario.Scenario.{Scenario}
use Rattle.nc_rules.specs.Calls.{chan_read_step, chan_read_next, chan_write_step, chan_write_next}
use Rattle.nc_rules.specs.Copies.{source, target}
use Rattle.nc_rules.specs.Machine.{MachineState, queue_of, channel_of, grantee_of}
use Rattle.nc_rules.specs.EventTouches.{transaction_touch}
use Rattle.nc_rules.specs.World.{WorldState, driver_of}
use Rattle.nc_calls.specs.PlaceLaws.{ChannelIs, RamAfter}
use Rattle.nc_calls.proofs.SoundSteps.{shape_chan_write}
use Rattle.nc_calls.proofs.StepPlaces.{chan_read_stays, chan_read_is, chan_write_is, chan_write_ram}
use Rattle.nc_transfers.specs.Bytes.{read_for, written_for, ShowsSource, GetsBytes, SameEnds}
use Rattle.nc_transfers.specs.Laws.{IsFlatAfter}
use Rattle.nc_transfers.specs.Transfers.{Ends, AreEnds, IsCopying}
use Rattle.nc_transfers.proofs.Stages.{copies_go_on}
use Rattle.nc_transfers.proofs.Ends.{copies_stay_within}
use Rattle.nc_flatness.specs.Copying.{CopyOp, span_of, registers, registers_coming, IsUnderWay, CopyStands}
use Rattle.nc_flatness.specs.Flatness.{Flatness}
use Rattle.nc_flatness.proofs.worlds.Outcomes.{ran}
use Rattle.nc_flat_moves.proofs.channels.ChannelBytes.{IsWrite, told, read_byte, byte_beside, byte_used}
use Rattle.nc_flat_moves.proofs.drains.CopiesBeside.{copy_ran}
use Rattle.nc_flat_moves.proofs.channels.EndPlaces.{end_place, end_channel}
use Rattle.nc_flat_moves.proofs.channels.Granted.{IsUsed, used}

-- ---- the places of its ends

source_place : (sc : Scenario) (f : List ℕ) (w : WorldState) (h : ℕ) (c : CopyOp) (from to : Span) (chan : ChanNo) (z : ℕ) → Flatness sc f w → (u : IsUnderWay sc f w h c from to) → (k : IsUsed w chan Read z) → u.ends.reads_at ≤ z → z < u.ends.reads_at + u.ends.len
    → k.place ≡ read_for u.ends z
source_place sc f w h c from to chan z flat u k low high =
    let device = span_of u.ends.reads_at u.ends.len in
    end_place sc f w chan Read z h source ToDev c.chan from device flat u.source_at k (covers-from device z low high) ∙ ap (λ (s : Span). s.at + (z - u.ends.reads_at)) u.from_is

target_place : (sc : Scenario) (f : List ℕ) (w : WorldState) (h : ℕ) (c : CopyOp) (from to : Span) (chan : ChanNo) (z : ℕ) → Flatness sc f w → (u : IsUnderWay sc f w h c from to) → (k : IsUsed w chan Write z) → u.ends.writes_at ≤ z → z < u.ends.writes_at + u.ends.len
    → k.place ≡ written_for u.ends z
target_place sc f w h c from to chan z flat u k low high =
    let device = span_of u.ends.writes_at u.ends.len in
    end_place sc f w chan Write z h target FromDev c.chan to device flat u.target_at k (covers-from device z low high) ∙ ap (λ (s : Span). s.at + (z - u.ends.writes_at)) u.to_is

in_ram : (sc : Scenario) (f : List ℕ) (w : WorldState) (e : Ends) → Flatness sc f w → AreEnds sc.ram e → AreEnds (length w.machine.cache.ram) e
in_ram sc f w e flat are = subst (λ (n : ℕ). AreEnds n e) (sym flat.world.of_scenario.ram) are

-- ---- under way, by its channel and its queue

under_by : (sc : Scenario) (f g : List ℕ) (w : WorldState) (k : MachineState) (h : ℕ) (c : CopyOp) (from to : Span) → (u : IsUnderWay sc f w h c from to) → queue_of k h ≡ queue_of w.machine h → IsCopying u.ends g u.stores (channel_of k c.chan.0)
    → grantee_of k c.chan.0 ≡ grantee_of w.machine c.chan.0 → IsUnderWay sc g (ran w k) h c from to
under_by sc f g w k h c from to u queue stage grantee = record {
  ends = u.ends;
  are = u.are;
  from_is = u.from_is;
  to_is = u.to_is;
  source_at = u.source_at;
  target_at = u.target_at;
  stores = u.stores;
  left = ap (λ (q : List Entry). registers q ++ registers_coming (driver_of w h).rest) queue ∙ u.left;
  few = u.few;
  stage = stage;
  granted = grantee ∙ u.granted;
}

-- the channel that moves is its own, or another
channel_by : (m k : MachineState) (c chan : ℕ) (s : ChannelState) (P : ChannelState → Type 0) → ChannelIs m k chan s (grantee_of m chan) → (c ≡ chan → P s) → (c ≢ chan → P (channel_of m c)) → P (channel_of k c) × (grantee_of k c ≡ grantee_of m c)
channel_by m k c chan s P is own other = elim (cases_eq c chan) [
  | inl same ↦ (
    subst (λ (t : ChannelState). P t) (sym (ap (channel_of k) same ∙ is.channel)) (own same),
    ap (grantee_of k) same ∙ is.grantee ∙ ap (grantee_of m) (sym same),
  )
  | inr ne ↦ (subst (λ (t : ChannelState). P t) (sym (is.channels c ne)) (other ne), is.grantees c ne)
]

-- ---- a read

shows_source : (sc : Scenario) (f : List ℕ) (w : WorldState) (h : ℕ) (c : CopyOp) (from to : Span) (chan : ChanNo) (s : Span) (bytes : List ℕ) (done : Bool) → Flatness sc f w → chan.0 < 4 → (u : IsUnderWay sc f w h c from to)
    → IsCopying u.ends f u.stores (channel_of w.machine chan.0) → chan_read_step w.machine chan.0 ≡ Moved s bytes done → transaction_touch w chan Read (chan_read_step w.machine chan.0) ≡ None → ShowsSource u.ends f w.machine.cache.ram s
shows_source sc f w h c from to chan s bytes done flat four u stage told none = λ z low high.
    let m = w.machine in
    let untouched = ap (transaction_touch w chan Read) (sym told) ∙ none in
    let within = copies_stay_within.reads u.ends f (channel_of m chan.0) u.stores m.cache.ram s bytes done u.few (flat.world.machine.granted chan.0 four).channel stage told in
    let k = used sc f w chan Read s z flat untouched (covers-from s z low high) in
    read_byte sc f w chan z flat k ∙ ap (byte f) (k.name ∙ source_place sc f w h c from to chan z flat u k (omega (arith, low, within.0)) (omega (arith, high, within.1)))

read_under : (sc : Scenario) (f : List ℕ) (w : WorldState) (chan : ChanNo) (h : ℕ) (c : CopyOp) (from to : Span) → Flatness sc f w → chan.0 < 4 → transaction_touch w chan Read (chan_read_step w.machine chan.0) ≡ None → IsUnderWay sc f w h c from to
    → IsUnderWay sc f (ran w (chan_read_next w.machine chan.0)) h c from to
read_under sc f w chan h c from to flat four none u =
    let m = w.machine in
    let k = chan_read_next m chan.0 in
    let sound = flat.world.machine in
    let by = channel_by m k c.chan.0 chan.0 (read_next (channel_of m chan.0) (chan_read_step m chan.0)) (IsCopying u.ends f u.stores) (chan_read_is m chan.0 sound four)
    (λ same.
    let stage = subst (λ (j : ℕ). IsCopying u.ends f u.stores (channel_of m j)) same u.stage in
    copies_go_on.read u.ends f (channel_of m chan.0) u.stores m.cache.ram u.few (in_ram sc f w u.ends flat u.are) (sound.granted chan.0 four).channel
    (λ s bytes done told. shows_source sc f w h c from to chan s bytes done flat four u stage told none) stage)
    (λ ne. u.stage) in
    under_by sc f f w k h c from to u ((chan_read_stays m chan.0).queues h) by.0 by.1

pub copies_read_on : (sc : Scenario) (f : List ℕ) (w : WorldState) (chan : ChanNo) → Flatness sc f w → chan.0 < 4 → transaction_touch w chan Read (chan_read_step w.machine chan.0) ≡ None → (h : ℕ) → h < length sc.harts → CopyStands sc f (ran w (chan_read_next w.machine chan.0)) h
copies_read_on sc f w chan flat four none h lt = copy_ran sc f f w (chan_read_next w.machine chan.0) h (λ c from to hand t u. read_under sc f w chan h c from to flat four none u) (flat.bytes.copying h lt)

-- ---- a write

-- flat memory behind it
abbrev pub flat_after : WorldState → ChanNo → List ℕ → ChanStep → List ℕ
flat_after w chan f (Moved span bytes done) = told w chan f span bytes
flat_after w chan f Idle = f
flat_after w chan f (Error bus len) = f

queue_written : (m : MachineState) (c h : ℕ) → queue_of (chan_write_next m c) h ≡ queue_of m h
unfolding chan_write_next
queue_written m c h = refl

writes_of : (sc : Scenario) (f : List ℕ) (w : WorldState) (chan : ChanNo) (span : Span) (bytes : List ℕ) (done : Bool) → Flatness sc f w → chan.0 < 4 → chan_write_step w.machine chan.0 ≡ Moved span bytes done → transaction_touch w chan Write (Moved span bytes done) ≡ None
    → IsWrite sc f w (chan_write_next w.machine chan.0) chan span bytes
writes_of sc f w chan span bytes done flat four is none =
    let m = w.machine in
    let sound = flat.world.machine in
    record {
      flat = flat;
      shape = shape_chan_write m chan.0 sound four;
      writes = subst (λ (t : ChanStep). RamAfter m (chan_write_next m chan.0) t) is (chan_write_ram m chan.0 sound four);
      uses = λ z over. used sc f w chan Write span z flat none over;
    }

-- what the channel of a copy writes is its target's
gets_bytes : (sc : Scenario) (f : List ℕ) (w : WorldState) (h : ℕ) (c : CopyOp) (from to : Span) (chan : ChanNo) (s : Span) (bytes : List ℕ) (done : Bool) → IsWrite sc f w (chan_write_next w.machine chan.0) chan s bytes → (u : IsUnderWay sc f w h c from to)
    → (u.ends.writes_at ≤ s.at) × (s.at + s.len ≤ u.ends.writes_at + u.ends.len) → GetsBytes u.ends f (told w chan f s bytes) s bytes
gets_bytes sc f w h c from to chan s bytes done is u within =
    let k = chan_write_next w.machine chan.0 in
    let place : (z : ℕ) → covers s z ≡ true → (n : IsUsed w chan Write z) → n.place ≡ written_for u.ends z =
    λ z on n. target_place sc f w h c from to chan z is.flat u n (omega (arith, covers-low s z on, within.0)) (omega (arith, covers-high s z on, within.1)) in
    record {
      here = λ z low high.
          let on = covers-from s z low high in
          let n = is.uses z on in
          ap (byte (told w chan f s bytes)) (sym (place z on n)) ∙ byte_used sc f w k chan s bytes z is on n;
      away = λ x out. byte_beside sc f w k chan s bytes x is (λ z on n same.
          let at : x ≡ written_for u.ends z = sym same ∙ place z on n in
          elim out [
            | inl low ↦ omega (arith, low, at, covers-low s z on, within.0)
            | inr high ↦ omega (arith, high, at, covers-low s z on, covers-high s z on, within.0)
          ]);
    }

-- another channel writes none of its ends
same_ends : (sc : Scenario) (f : List ℕ) (w : WorldState) (h : ℕ) (c : CopyOp) (from to : Span) (chan : ChanNo) (s : Span) (bytes : List ℕ) → IsWrite sc f w (chan_write_next w.machine chan.0) chan s bytes → (u : IsUnderWay sc f w h c from to) → c.chan.0 ≢ chan.0
    → SameEnds u.ends f (told w chan f s bytes)
same_ends sc f w h c from to chan s bytes is u ne =
    let k = chan_write_next w.machine chan.0 in
    record {
      source = λ i lt. byte_beside sc f w k chan s bytes (u.ends.source + i) is (λ z on n same.
          let here : covers from n.place ≡ true = subst (λ (y : ℕ). covers from y ≡ true) (sym same) (subst (λ (r : Span). covers r (u.ends.source + i) ≡ true) (sym u.from_is) (covers-from (span_of u.ends.source u.ends.len) (u.ends.source + i) (omega arith) (omega (arith, lt)))) in
          ne (end_channel sc f w chan Write z h source ToDev c.chan from (span_of u.ends.reads_at u.ends.len) is.flat u.source_at n here));
      target = λ i lt. byte_beside sc f w k chan s bytes (u.ends.target + i) is (λ z on n same.
          let here : covers to n.place ≡ true = subst (λ (y : ℕ). covers to y ≡ true) (sym same) (subst (λ (r : Span). covers r (u.ends.target + i) ≡ true) (sym u.to_is) (covers-from (span_of u.ends.target u.ends.len) (u.ends.target + i) (omega arith) (omega (arith, lt)))) in
          ne (end_channel sc f w chan Write z h target FromDev c.chan to (span_of u.ends.writes_at u.ends.len) is.flat u.target_at n here));
    }

own_write : (sc : Scenario) (f : List ℕ) (w : WorldState) (chan : ChanNo) (h : ℕ) (c : CopyOp) (from to : Span) (t : ChanStep) → Flatness sc f w → chan.0 < 4 → chan_write_step w.machine chan.0 ≡ t → transaction_touch w chan Write t ≡ None → (u : IsUnderWay sc f w h c from to)
    → IsCopying u.ends f u.stores (channel_of w.machine chan.0) → IsFlatAfter u.ends f (flat_after w chan f t) t
own_write sc f w chan h c from to Idle flat four is none u stage = record { source = λ i lt. refl; target = λ i lt. refl }
own_write sc f w chan h c from to (Error bus len) flat four is none u stage = tt
own_write sc f w chan h c from to (Moved s bytes done) flat four is none u stage =
    gets_bytes sc f w h c from to chan s bytes done (writes_of sc f w chan s bytes done flat four is none) u
    (copies_stay_within.writes u.ends f (channel_of w.machine chan.0) u.stores (length w.machine.cache.ram) s bytes done u.few (flat.world.machine.granted chan.0 four).channel stage is)

other_write : (sc : Scenario) (f : List ℕ) (w : WorldState) (chan : ChanNo) (h : ℕ) (c : CopyOp) (from to : Span) (t : ChanStep) → Flatness sc f w → chan.0 < 4 → chan_write_step w.machine chan.0 ≡ t → transaction_touch w chan Write t ≡ None → (u : IsUnderWay sc f w h c from to)
    → c.chan.0 ≢ chan.0 → SameEnds u.ends f (flat_after w chan f t)
other_write sc f w chan h c from to Idle flat four is none u ne = record { source = λ i lt. refl; target = λ i lt. refl }
other_write sc f w chan h c from to (Error bus len) flat four is none u ne = record { source = λ i lt. refl; target = λ i lt. refl }
other_write sc f w chan h c from to (Moved s bytes done) flat four is none u ne = same_ends sc f w h c from to chan s bytes (writes_of sc f w chan s bytes done flat four is none) u ne

write_under : (sc : Scenario) (f : List ℕ) (w : WorldState) (chan : ChanNo) (h : ℕ) (c : CopyOp) (from to : Span) → Flatness sc f w → chan.0 < 4 → transaction_touch w chan Write (chan_write_step w.machine chan.0) ≡ None → IsUnderWay sc f w h c from to
    → IsUnderWay sc (flat_after w chan f (chan_write_step w.machine chan.0)) (ran w (chan_write_next w.machine chan.0)) h c from to
write_under sc f w chan h c from to flat four none u =
    let m = w.machine in
    let k = chan_write_next m chan.0 in
    let t = chan_write_step m chan.0 in
    let g = flat_after w chan f t in
    let sound = flat.world.machine in
    let by = channel_by m k c.chan.0 chan.0 (write_next (channel_of m chan.0) t) (IsCopying u.ends g u.stores) (chan_write_is m chan.0 sound four)
    (λ same.
    let stage = subst (λ (j : ℕ). IsCopying u.ends f u.stores (channel_of m j)) same u.stage in
    copies_go_on.write u.ends f g (channel_of m chan.0) u.stores (length m.cache.ram) u.few (in_ram sc f w u.ends flat u.are) (sound.granted chan.0 four).channel
    (own_write sc f w chan h c from to t flat four refl none u stage) stage)
    (λ ne. copies_go_on.stays u.ends f g (channel_of m c.chan.0) u.stores (other_write sc f w chan h c from to t flat four refl none u ne) u.stage) in
    under_by sc f g w k h c from to u (queue_written m chan.0 h) by.0 by.1

pub copies_write_on : (sc : Scenario) (f : List ℕ) (w : WorldState) (chan : ChanNo) → Flatness sc f w → chan.0 < 4 → transaction_touch w chan Write (chan_write_step w.machine chan.0) ≡ None → (h : ℕ) → h < length sc.harts
    → CopyStands sc (flat_after w chan f (chan_write_step w.machine chan.0)) (ran w (chan_write_next w.machine chan.0)) h
copies_write_on sc f w chan flat four none h lt =
    copy_ran sc f (flat_after w chan f (chan_write_step w.machine chan.0)) w (chan_write_next w.machine chan.0) h (λ c from to hand t u. write_under sc f w chan h c from to flat four none u) (flat.bytes.copying h lt)
