-- An entry that drains leaves a sound machine.
use Rattle.std.specs.Prelude.{Option, Some, None, Bool, true, false, is_some}
use Rattle.std.proofs.Common.{◌≡◌, ◌⊎◌, ℕ, ◌+◌, ◌*◌, ◌/◌, ◌%◌, ◌<◌, ◌≤◌, List, length, refl, inl, inr, sym, ap, arith}
use Rattle.nc_num.specs.Memory.{splice}
use Rattle.nc_num.specs.declared.places.Span.{Span}
use Rattle.nc_num.specs.declared.names.HartNo.{HartNo}
use Rattle.nc_num.specs.declared.names.MemType.{MemType}
use Rattle.nc_num.specs.declared.names.MemType.TheVariants.{Pma, Nc, Io}
use Rattle.nc_num.proofs.MemoryLaws.{length-splice}
use Rattle.nc_env.specs.declared.CboOp.{CboOp}
use Rattle.nc_env.specs.declared.CboOp.TheVariants.{Clean, Flush, Inval, Zero}
use Rattle.nc_cache.specs.Facts.{Whole}
use Rattle.nc_cache.proofs.Wholes.{whole_store, whole_zero, whole_clean, whole_flush, whole_inval}
use Rattle.nc_queue.specs.Entries.{Fits, StoreFits}
use Rattle.nc_queue.specs.declared.entry.Entry.{Entry}
use Rattle.nc_queue.specs.declared.entry.Entry.TheVariants as entries
use Rattle.nc_queue.proofs.Fit.{fits_at}
use Rattle.nc_queue.proofs.FenceLaws.{drained-some}
use Rattle.nc_pdma.specs.Channel.{ChannelState, IsChannel, channel_write}
use Rattle.nc_pdma.proofs.Sound.{write_sound}
use Rattle.nc_rules.specs.Machine.{MachineState, hart_of, queue_of, channel_of, grantee_of, with_hart}
use Rattle.nc_rules.specs.Calls.{grantee_after, is_claimed, register_stored, stored, operated, performed, leaving, without_entry, left_with, drain_next}
use Rattle.nc_rules.specs.Sound.{IsBlockIn, EntryIsThere, IsMachine}
use Rattle.nc_calls.specs.MachineLaws.{SameShape}
use Rattle.nc_calls.proofs.SoundParts.{queue_remove, there_at, there_same}
use Rattle.nc_calls.proofs.SoundWith.{shape_same, shape_then, shape_hart, sound_hart, shape_cache, sound_cache, whole_with_ram, shape_grant, sound_grant, shape_box, sound_box}
use Rattle.nc_calls.proofs.SoundIssue.{block_in}

-- the grant of a channel after an access, by its claim bit before and after
granted_is : (old : Option HartNo) (was is : Bool) (h : ℕ) → is_some old ≡ was → is_some (grantee_after old was is h) ≡ is
granted_is old true false h same = refl
granted_is old false false h same = refl
granted_is old true true h same = same
granted_is old false true h same = refl

granted_hart : (old : Option HartNo) (was is : Bool) (h : ℕ) (g : HartNo) → grantee_after old was is h ≡ Some g → (old ≡ Some g) ⊎ (g.0 ≡ h)
granted_hart old true false h g e = absurd cc
granted_hart old false false h g e = absurd cc
granted_hart old true true h g e = inl e
granted_hart old false true h g e = inr (let same : record { 0 = h } ≡ g = cc in ap (λ (k : HartNo). k.0) (sym same))

sound_register : (m : MachineState) (h c : ℕ) (s : ChannelState) → IsMachine m → h < length m.harts → c < 4 → IsChannel s → IsMachine (register_stored m h c s)
sound_register m h c s is lt chan sound =
    let old = is.granted c chan in
    let was = is_claimed (channel_of m c) in
    sound_grant m c s (grantee_after (grantee_of m c) was (is_claimed s) h) is chan sound (granted_is (grantee_of m c) was (is_claimed s) h old.claimed)
    (λ g e. elim (granted_hart (grantee_of m c) was (is_claimed s) h g e) [ inl p ↦ old.hart g p | inr p ↦ omega (arith, p, lt) ])

-- a store
pub record StoreIn (s size : ℕ) (span : Span) (bytes : List ℕ) : Type 0 where
  pub one_block : span.at % s + length bytes ≤ s
  pub block : s * (span.at / s) + s ≤ size
  pub inside : span.at + length bytes ≤ size

pub store_in : (m : MachineState) (span : Span) (bytes : List ℕ) → IsMachine m → StoreFits m.size span bytes → span.at + span.len ≤ length m.cache.ram → StoreIn m.size (length m.cache.ram) span bytes
store_in m span bytes is fits there = record {
  one_block = omega (arith, fits.one_block, fits.whole);
  block = block_in m span.at is (omega (arith, fits.some, there));
  inside = omega (arith, fits.whole, there);
}

whole_stored : (m : MachineState) (h : ℕ) (span : Span) (bytes : List ℕ) (kind : MemType) → IsMachine m → h < length m.harts → StoreFits m.size span bytes → span.at + span.len ≤ length m.cache.ram
    → Whole m.size (length m.harts) (length m.cache.ram) (stored m h span bytes kind).cache
whole_stored m h span bytes Pma is lt fits there =
    let at = store_in m span bytes is fits there in whole_store m.size (length m.harts) (length m.cache.ram) m.cache h span.at bytes is.cache lt at.one_block at.block
whole_stored m h span bytes Nc is lt fits there =
    whole_with_ram m (splice m.cache.ram span.at bytes) is (length-splice m.cache.ram span.at bytes (store_in m span bytes is fits there).inside)
whole_stored m h span bytes Io is lt fits there =
    whole_with_ram m (splice m.cache.ram span.at bytes) is (length-splice m.cache.ram span.at bytes (store_in m span bytes is fits there).inside)

-- a cache operation
whole_operated : (m : MachineState) (h : ℕ) (op : CboOp) (b : ℕ) → IsMachine m → h < length m.harts → IsBlockIn m.size (length m.cache.ram) b
    → Whole m.size (length m.harts) (length m.cache.ram) (operated m h op b).cache
whole_operated m h Clean b is lt there = whole_clean m.size (length m.harts) (length m.cache.ram) m.cache b is.cache there
whole_operated m h Flush b is lt there = whole_flush m.size (length m.harts) (length m.cache.ram) m.cache b is.cache there
whole_operated m h Inval b is lt there = whole_inval m.size (length m.harts) (length m.cache.ram) m.cache b is.cache
whole_operated m h Zero b is lt there = whole_zero m.size (length m.harts) (length m.cache.ram) m.cache h b is.cache lt

-- an entry that is performed
pub whole_performed : (m : MachineState) (h : ℕ) (e : Entry) → IsMachine m → h < length m.harts → Fits m.size e → EntryIsThere m e
    → Whole m.size (length m.harts) (length m.cache.ram) (performed m h e).cache
unfolding performed
whole_performed m h (entries.Store span bytes kind) is lt fits there = whole_stored m h span bytes kind is lt fits there
whole_performed m h (entries.Cbo block op) is lt fits there = whole_operated m h op block.0 is lt there
whole_performed m h (entries.Reg chan off width value) is lt fits there = is.cache
whole_performed m h (entries.Mail buf to) is lt fits there = is.cache
whole_performed m h (entries.Lend label first count) is lt fits there = is.cache
whole_performed m h (entries.Mark pred succ) is lt fits there = is.cache

sound_stored : (m : MachineState) (h : ℕ) (span : Span) (bytes : List ℕ) (kind : MemType) → IsMachine m → Whole m.size (length m.harts) (length m.cache.ram) (stored m h span bytes kind).cache → IsMachine (stored m h span bytes kind)
sound_stored m h span bytes Pma is whole = sound_cache m (stored m h span bytes Pma).cache is whole
sound_stored m h span bytes Nc is whole = sound_cache m (stored m h span bytes Nc).cache is whole
sound_stored m h span bytes Io is whole = sound_cache m (stored m h span bytes Io).cache is whole

sound_operated : (m : MachineState) (h : ℕ) (op : CboOp) (b : ℕ) → IsMachine m → Whole m.size (length m.harts) (length m.cache.ram) (operated m h op b).cache → IsMachine (operated m h op b)
sound_operated m h Clean b is whole = sound_cache m (operated m h Clean b).cache is whole
sound_operated m h Flush b is whole = sound_cache m (operated m h Flush b).cache is whole
sound_operated m h Inval b is whole = sound_cache m (operated m h Inval b).cache is whole
sound_operated m h Zero b is whole = sound_cache m (operated m h Zero b).cache is whole

pub sound_performed : (m : MachineState) (h : ℕ) (e : Entry) → IsMachine m → h < length m.harts → Fits m.size e → EntryIsThere m e → IsMachine (performed m h e)
unfolding performed
sound_performed m h (entries.Store span bytes kind) is lt fits there = sound_stored m h span bytes kind is (whole_stored m h span bytes kind is lt fits there)
sound_performed m h (entries.Cbo block op) is lt fits there = sound_operated m h op block.0 is (whole_operated m h op block.0 is lt there)
sound_performed m h (entries.Reg chan off width value) is lt fits there =
    sound_register m h chan.0 (channel_write (channel_of m chan.0) off width value) is lt there.channel (write_sound (channel_of m chan.0) off width value (is.granted chan.0 there.channel).channel)
sound_performed m h (entries.Mail buf to) is lt fits there = sound_box m buf (Some to) is there.box (λ g e. let same : to ≡ g = cc in rw (← same) there.hart)
sound_performed m h (entries.Lend label first count) is lt fits there = is
sound_performed m h (entries.Mark pred succ) is lt fits there = is

shape_stored : (m : MachineState) (h : ℕ) (span : Span) (bytes : List ℕ) (kind : MemType) → IsMachine m → Whole m.size (length m.harts) (length m.cache.ram) (stored m h span bytes kind).cache → SameShape m (stored m h span bytes kind)
shape_stored m h span bytes Pma is whole = shape_cache m (stored m h span bytes Pma).cache is whole
shape_stored m h span bytes Nc is whole = shape_cache m (stored m h span bytes Nc).cache is whole
shape_stored m h span bytes Io is whole = shape_cache m (stored m h span bytes Io).cache is whole

shape_operated : (m : MachineState) (h : ℕ) (op : CboOp) (b : ℕ) → IsMachine m → Whole m.size (length m.harts) (length m.cache.ram) (operated m h op b).cache → SameShape m (operated m h op b)
shape_operated m h Clean b is whole = shape_cache m (operated m h Clean b).cache is whole
shape_operated m h Flush b is whole = shape_cache m (operated m h Flush b).cache is whole
shape_operated m h Inval b is whole = shape_cache m (operated m h Inval b).cache is whole
shape_operated m h Zero b is whole = shape_cache m (operated m h Zero b).cache is whole

pub shape_performed : (m : MachineState) (h : ℕ) (e : Entry) → IsMachine m → h < length m.harts → Fits m.size e → EntryIsThere m e → SameShape m (performed m h e)
unfolding performed
shape_performed m h (entries.Store span bytes kind) is lt fits there = shape_stored m h span bytes kind is (whole_stored m h span bytes kind is lt fits there)
shape_performed m h (entries.Cbo block op) is lt fits there = shape_operated m h op block.0 is (whole_operated m h op block.0 is lt there)
shape_performed m h (entries.Reg chan off width value) is lt fits there = shape_grant m chan.0 (channel_write (channel_of m chan.0) off width value) _
shape_performed m h (entries.Mail buf to) is lt fits there = shape_box m buf (Some to)
shape_performed m h (entries.Lend label first count) is lt fits there = shape_same m
shape_performed m h (entries.Mark pred succ) is lt fits there = shape_same m

-- an entry that leaves its queue fits, and names what is there
pub record LeavesFrom (m : MachineState) (e : Entry) : Type 0 where
  pub fits : Fits m.size e
  pub there : EntryIsThere m e

pub leaving_is : (m : MachineState) (h i : ℕ) (e : Entry) → IsMachine m → h < length m.harts → leaving m h i ≡ Some e → LeavesFrom m e
leaving_is m h i e is lt out =
    let queue = is.queues h lt in
    let at = drained-some m.size (queue_of m h) i e out in
    record { fits = fits_at m.size (queue_of m h) i e queue.fit at.0; there = there_at m (hart_of m h).queue i e queue at.0 }

-- the machine once the entry has left, before it is performed
abbrev pub without : MachineState → ℕ → ℕ → MachineState
without m h i = with_hart m h (without_entry (hart_of m h) i)

pub shape_without : (m : MachineState) (h i : ℕ) → SameShape m (without m h i)
shape_without m h i = shape_hart m h (without_entry (hart_of m h) i)

pub sound_without : (m : MachineState) (h i : ℕ) → IsMachine m → h < length m.harts → IsMachine (without m h i)
sound_without m h i is lt = sound_hart m h (without_entry (hart_of m h) i) is lt (queue_remove m (hart_of m h).queue i (is.queues h lt))

sound_left : (m : MachineState) (h i : ℕ) (o : Option Entry) → IsMachine m → h < length m.harts → leaving m h i ≡ o → IsMachine (left_with m h i o)
sound_left m h i None is lt out = is
sound_left m h i (Some e) is lt out =
    let from = leaving_is m h i e is lt out in
    let same = shape_without m h i in
    sound_performed (without m h i) h e (sound_without m h i is lt) (omega (arith, same.harts, lt)) from.fits (there_same m (without m h i) e same from.there)

pub sound_drain : (m : MachineState) (h i : ℕ) → IsMachine m → h < length m.harts → IsMachine (drain_next m h i)
unfolding drain_next
sound_drain m h i is lt = sound_left m h i (leaving m h i) is lt refl

shape_left : (m : MachineState) (h i : ℕ) (o : Option Entry) → IsMachine m → h < length m.harts → leaving m h i ≡ o → SameShape m (left_with m h i o)
shape_left m h i None is lt out = shape_same m
shape_left m h i (Some e) is lt out =
    let from = leaving_is m h i e is lt out in
    let same = shape_without m h i in
    shape_then m (without m h i) (performed (without m h i) h e) same
    (shape_performed (without m h i) h e (sound_without m h i is lt) (omega (arith, same.harts, lt)) from.fits (there_same m (without m h i) e same from.there))

pub shape_drain : (m : MachineState) (h i : ℕ) → IsMachine m → h < length m.harts → SameShape m (drain_next m h i)
unfolding drain_next
shape_drain m h i is lt = shape_left m h i (leaving m h i) is lt refl
