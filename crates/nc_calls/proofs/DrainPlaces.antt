-- What a drain does, at one place and as a whole.
use Rattle.std.specs.Prelude.{Option, Some, None, slice_index_or}
use Rattle.std.proofs.Common.{◌≡◌, ◌≢◌, ℕ, ◌<◌, List, length, refl, sym, ap, ◌∙◌, arith, subst}
use Rattle.nc_num.specs.declared.places.Span.{Span}
use Rattle.nc_num.specs.declared.names.HartNo.{HartNo}
use Rattle.nc_num.specs.declared.names.MemType.{MemType}
use Rattle.nc_num.specs.declared.names.MemType.TheVariants.{Pma, Nc, Io}
use Rattle.nc_env.specs.declared.CboOp.{CboOp}
use Rattle.nc_env.specs.declared.CboOp.TheVariants.{Clean, Flush, Inval, Zero}
use Rattle.nc_queue.specs.declared.entry.Entry.{Entry}
use Rattle.nc_queue.specs.declared.entry.Entry.TheVariants.{Store, Cbo, Reg, Mail, Lend, Mark}
use Rattle.nc_queue.proofs.DrainLaws.{seen-drained}
use Rattle.nc_queue.proofs.FenceLaws.{drained-some}
use Rattle.nc_hart.specs.HartState.{HartState}
use Rattle.nc_pdma.specs.Channel.{ChannelState, channel_write}
use Rattle.nc_rules.specs.Machine.{MachineState, no_hart, hart_of, queue_of, channel_of, grantee_of, with_channel, with_grantee}
use Rattle.nc_rules.specs.View.{middle, seen}
use Rattle.nc_rules.specs.Calls.{grantee_after, is_claimed, stored, operated, performed, leaving, without_entry, left_with, drain_next}
use Rattle.nc_rules.specs.Sound.{IsMachine}
use Rattle.nc_calls.specs.MachineLaws.{SameShape, SameDevices}
use Rattle.nc_calls.specs.PlaceLaws.{QueueLoses, ChannelIs, DrainsAt, DevicesAfter, Drains}
use Rattle.nc_calls.proofs.MachineParts.{hart_here, hart_away, channel_here, channel_away, grantee_here, grantee_away, box_here, box_away}
use Rattle.nc_calls.proofs.SoundParts.{there_same}
use Rattle.nc_calls.proofs.SoundWith.{shape_then, devices_same}
use Rattle.nc_calls.proofs.SoundDrain.{leaving_is, without, shape_without, sound_without, shape_performed}
use Rattle.nc_calls.proofs.PlaceParts.{same_at, loses}
use Rattle.nc_calls.proofs.PerformedPlaces.{Performs, fresh_performed, untouched_performed, clear_performed, both_performed, not_held_performed, cleared_performed, written_performed, gone_performed, dropped_performed, quiet_performed}

-- ---- the harts and the devices when an entry is performed

harts_stored : (m : MachineState) (h : ℕ) (span : Span) (bytes : List ℕ) (kind : MemType) → (stored m h span bytes kind).harts ≡ m.harts
harts_stored m h span bytes Pma = refl
harts_stored m h span bytes Nc = refl
harts_stored m h span bytes Io = refl

harts_operated : (m : MachineState) (h : ℕ) (op : CboOp) (b : ℕ) → (operated m h op b).harts ≡ m.harts
harts_operated m h Clean b = refl
harts_operated m h Flush b = refl
harts_operated m h Inval b = refl
harts_operated m h Zero b = refl

harts_performed : (m : MachineState) (h : ℕ) (e : Entry) → (performed m h e).harts ≡ m.harts
unfolding performed
harts_performed m h (Store span bytes kind) = harts_stored m h span bytes kind
harts_performed m h (Cbo block op) = harts_operated m h op block.0
harts_performed m h (Reg chan off width value) = refl
harts_performed m h (Mail buf to) = refl
harts_performed m h (Lend label first count) = refl
harts_performed m h (Mark pred succ) = refl

devices_stored : (m : MachineState) (h : ℕ) (span : Span) (bytes : List ℕ) (kind : MemType) → SameDevices m (stored m h span bytes kind)
devices_stored m h span bytes Pma = record { channels = refl; grantees = refl; boxes = refl }
devices_stored m h span bytes Nc = record { channels = refl; grantees = refl; boxes = refl }
devices_stored m h span bytes Io = record { channels = refl; grantees = refl; boxes = refl }

devices_operated : (m : MachineState) (h : ℕ) (op : CboOp) (b : ℕ) → SameDevices m (operated m h op b)
devices_operated m h Clean b = record { channels = refl; grantees = refl; boxes = refl }
devices_operated m h Flush b = record { channels = refl; grantees = refl; boxes = refl }
devices_operated m h Inval b = record { channels = refl; grantees = refl; boxes = refl }
devices_operated m h Zero b = record { channels = refl; grantees = refl; boxes = refl }

pub channel_is : (m : MachineState) (c : ℕ) (s : ChannelState) (g : Option HartNo) → IsMachine m → c < 4 → ChannelIs m (with_grantee (with_channel m c s) c g) c s g
channel_is m c s g is lt = record {
  channel = channel_here m c c s (omega (arith, is.four)) refl;
  grantee = grantee_here m c c g (omega (arith, is.grants)) refl;
  channels = λ k ne. channel_away m c k s ne;
  grantees = λ k ne. grantee_away m c k g ne;
  boxes = refl;
}

devices_performed : (m : MachineState) (h : ℕ) (e : Entry) → Performs m e → DevicesAfter m (performed m h e) h e
unfolding performed
devices_performed m h (Store span bytes kind) p = devices_stored m h span bytes kind
devices_performed m h (Cbo block op) p = devices_operated m h op block.0
devices_performed m h (Reg chan off width value) p =
    λ s e. rw e (channel_is m chan.0 (channel_write (channel_of m chan.0) off width value)
    (grantee_after (grantee_of m chan.0) (is_claimed (channel_of m chan.0)) (is_claimed (channel_write (channel_of m chan.0) off width value)) h) p.sound p.there.channel)
devices_performed m h (Mail buf to) p = record { box = box_here m buf buf (Some to) p.there.box refl; others = λ k ne. box_away m buf k (Some to) ne; channels = refl; grantees = refl }
devices_performed m h (Lend label first count) p = devices_same m
devices_performed m h (Mark pred succ) p = devices_same m

-- ---- the machine after the drain

abbrev after : MachineState → ℕ → ℕ → Entry → MachineState
after m h i e = performed (without m h i) h e

hart_after : (m : MachineState) (h i g : ℕ) (e : Entry) → hart_of (after m h i e) g ≡ hart_of (without m h i) g
hart_after m h i g e = ap (λ hs. slice_index_or hs g no_hart) (harts_performed (without m h i) h e)

own_after : (m : MachineState) (h i : ℕ) (e : Entry) → h < length m.harts → hart_of (after m h i e) h ≡ without_entry (hart_of m h) i
own_after m h i e lt = hart_after m h i h e ∙ hart_here m h h (without_entry (hart_of m h) i) lt refl

other_after : (m : MachineState) (h i g : ℕ) (e : Entry) → g ≢ h → hart_of (after m h i e) g ≡ hart_of m g
other_after m h i g e ne = hart_after m h i g e ∙ hart_away m h g (without_entry (hart_of m h) i) ne

performs : (m : MachineState) (h i : ℕ) (e : Entry) → IsMachine m → h < length m.harts → leaving m h i ≡ Some e → Performs (without m h i) e
performs m h i e is lt out =
    let from = leaving_is m h i e is lt out in
    record { sound = sound_without m h i is lt; fits = from.fits; there = there_same m (without m h i) e (shape_without m h i) from.there }

shape_after : (m : MachineState) (h i : ℕ) (e : Entry) → IsMachine m → h < length m.harts → leaving m h i ≡ Some e → SameShape m (after m h i e)
shape_after m h i e is lt out =
    let p = performs m h i e is lt out in
    let same = shape_without m h i in
    shape_then m (without m h i) (after m h i e) same (shape_performed (without m h i) h e p.sound (omega (arith, same.harts, lt)) p.fits p.there)

queues_after : (m : MachineState) (h i : ℕ) (e : Entry) → IsMachine m → h < length m.harts → leaving m h i ≡ Some e → QueueLoses m (after m h i e) h i e
queues_after m h i e is lt out =
    loses m (after m h i e) h i e (shape_after m h i e is lt out).size (drained-some m.size (queue_of m h) i e out).0 (ap (λ (s : HartState). s.queue.entries) (own_after m h i e lt))
    (λ g ne. ap (λ (s : HartState). s.queue.entries) (other_after m h i g e ne))

drains_at : (m : MachineState) (h i : ℕ) (e : Entry) (x : ℕ) → IsMachine m → h < length m.harts → leaving m h i ≡ Some e → DrainsAt m (after m h i e) h e x
unfolding middle seen
drains_at m h i e x is lt out =
    let n = after m h i e in
    let w = without m h i in
    let p = performs m h i e is lt out in
    let q = queues_after m h i e is lt out in
    let size = (shape_after m h i e is lt out).size in
    record {
      apart = λ other. same_at m n x size (untouched_performed w h e x p other);
      fresh = λ lone f. let r = fresh_performed w h e x p lone f in (rw size r.0, rw size r.1);
      clear = λ none k. let r = clear_performed w h e x p none k in (rw size r.0, r.1);
      both = λ v none b. rw size (both_performed w h e v x p none b);
      not_held = λ other none. rw size (not_held_performed w h e x p other none);
      cleared = λ has. rw size (cleared_performed w h e x has);
      written = λ has f. written_performed w h e x p has f;
      gone = λ has. rw size (gone_performed w h e x has);
      dropped = λ has. dropped_performed w h e x has;
      own_view = λ lone f.
          let r = fresh_performed w h e x p lone f in
          rw (size, q.own, r.1) (seen-drained m.size (queue_of m h) i e x (middle m x) is.block_size (is.queues h lt).fit out);
      other_views = λ lone f g ne none. let r = fresh_performed w h e x p lone f in rw (size, q.others g ne, r.1, none) refl;
    }

same_without : (m n : MachineState) (h i : ℕ) → SameDevices (without m h i) n → SameDevices m n
same_without m n h i same = record { channels = same.channels; grantees = same.grantees; boxes = same.boxes }

devices_without : (m n : MachineState) (h i : ℕ) (e : Entry) → DevicesAfter (without m h i) n h e → DevicesAfter m n h e
devices_without m n h i (Store span bytes kind) d = same_without m n h i d
devices_without m n h i (Cbo block op) d = same_without m n h i d
devices_without m n h i (Reg chan off width value) d = λ s e. let c = d s e in record { channel = c.channel; grantee = c.grantee; channels = c.channels; grantees = c.grantees; boxes = c.boxes }
devices_without m n h i (Mail buf to) d = record { box = d.box; others = d.others; channels = d.channels; grantees = d.grantees }
devices_without m n h i (Lend label first count) d = same_without m n h i d
devices_without m n h i (Mark pred succ) d = same_without m n h i d

drains : (m : MachineState) (h i : ℕ) (e : Entry) → IsMachine m → h < length m.harts → leaving m h i ≡ Some e → Drains m (after m h i e) h i e
drains m h i e is lt out = record {
  fits = (leaving_is m h i e is lt out).fits;
  there = (leaving_is m h i e is lt out).there;
  queues = queues_after m h i e is lt out;
  last = ap (λ (s : HartState). s.last) (own_after m h i e lt);
  others = λ g ne. other_after m h i g e ne;
  devices = devices_without m (after m h i e) h i e (devices_performed (without m h i) h e (performs m h i e is lt out));
  quiet = λ other. quiet_performed (without m h i) h e other;
  places = λ x. drains_at m h i e x is lt out;
}

pub drain_is : (m : MachineState) (h i : ℕ) (e : Entry) → IsMachine m → h < length m.harts → leaving m h i ≡ Some e → Drains m (drain_next m h i) h i e
unfolding drain_next
drain_is m h i e is lt out = subst (λ (n : MachineState). Drains m n h i e) (sym (ap (left_with m h i) out)) (drains m h i e is lt out)

pub drain_none : (m : MachineState) (h i : ℕ) → leaving m h i ≡ None → drain_next m h i ≡ m
unfolding drain_next
drain_none m h i out = ap (left_with m h i) out
