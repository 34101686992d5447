-- What a fill, an eviction, a step of a channel, a claim and a take do, at one place and as a whole.
use Rattle.std.specs.Prelude.{Option, Some, None, Bool, true, false, not, ◌&&◌, if◌then◌else◌, slice_set}
use Rattle.std.proofs.Common.{◌≡◌, ◌≢◌, ◌⊎◌, ℕ, ◌+◌, ◌*◌, ◌/◌, ◌%◌, ◌<◌, ◌≤◌, List, length, refl, inl, inr, sym, ap, ◌∙◌, arith, subst}
use Rattle.std.proofs.lemmas.Bool.{cases_lt, cases_eq}
use Rattle.std.proofs.lemmas.Bool.Decides.{nat_tests}
use Rattle.std.proofs.lemmas.Nat.{mul-le}
use Rattle.std.proofs.lemmas.List.{get_or_past, length-set}
use Rattle.nc_num.specs.Memory.{splice}
use Rattle.nc_num.specs.declared.places.Span.{Span}
use Rattle.nc_num.specs.declared.names.HartNo.{HartNo}
use Rattle.nc_num.specs.Places.{covers}
use Rattle.nc_num.specs.Sizes.{IsBlockSize}
use Rattle.nc_num.proofs.Blocks.{inside, aligned, block_of-le}
use Rattle.nc_num.proofs.MemoryLaws.{byte-splice_below, byte-splice_in, byte-splice_above}
use Rattle.nc_cache.specs.Cache as caches
use Rattle.nc_cache.specs.Cache.{Cache, line_at, held_by}
use Rattle.nc_cache.specs.Facts.{Keeps}
use Rattle.nc_cache.proofs.Places.{keeps_same, keeps_load, middle-load, keeps_evict}
use Rattle.nc_pdma_regs.specs.Laws as claims
use Rattle.nc_pdma.specs.declared.channel.ChanStep.{ChanStep}
use Rattle.nc_pdma.specs.declared.channel.ChanStep.TheVariants.{Idle, Moved, Error}
use Rattle.nc_pdma.specs.Channel.{ChannelState}
use Rattle.nc_pdma.specs.Steps.{read_next, write_next, ram_after}
use Rattle.nc_pdma.proofs.Transactions.{each_write}
use Rattle.nc_rules.specs.Machine.{MachineState, channel_of, grantee_of, box_of, with_cache, with_ram, with_channel, with_box}
use Rattle.nc_rules.specs.Calls.{is_pooled, may_fill, fill_next, evict_next, chan_read_step, chan_read_next, chan_write_step, chan_write_next, claimed_by, claim_next, may_take, take_next}
use Rattle.nc_rules.specs.Sound.{IsBlockIn, IsMachine}
use Rattle.nc_rules.specs.View.{middle, view}
use Rattle.nc_calls.specs.PlaceLaws.{NotHeld, ChannelIs, BoxIs, Stays, Moves, WritesSpan, RamAfter}
use Rattle.nc_calls.proofs.Spans.{over_span}
use Rattle.nc_calls.proofs.MachineParts.{channel_here, channel_away, box_here, box_away}
use Rattle.nc_calls.proofs.SoundSteps.{written_in}
use Rattle.nc_calls.proofs.CacheFrames.{Untouched, untouched_same, untouched_load, untouched_evict, evict_none}
use Rattle.nc_calls.proofs.PlaceParts.{same_at, same_view, stays, keeps_at}
use Rattle.nc_calls.proofs.DrainPlaces.{channel_is}

-- ---- caches

moves : (m : MachineState) (c : Cache) (b : ℕ) → ((x : ℕ) → Keeps m.size m.cache c x) → ((x : ℕ) → x / m.size ≢ b → Untouched m.size m.cache c x) → Moves m (with_cache m c) b
moves m c b keeps apart = record {
  devices = record { channels = refl; grantees = refl; boxes = refl };
  harts = refl;
  queues = λ g. refl;
  places = λ x. keeps_at m (with_cache m c) x refl (λ g. refl) (keeps x);
  apart = λ x ne. same_at m (with_cache m c) x refl (apart x ne);
}

pub fill_is : (m : MachineState) (h b : ℕ) → IsMachine m → IsBlockIn m.size (length m.cache.ram) b → Moves m (fill_next m h b) b
unfolding fill_next
fill_is m h b is there =
    elim (may_fill m h b) as (λ t. Moves m (if t then with_cache m (caches.load m.size m.cache h b) else m) b) [
      | true ↦ moves m (caches.load m.size m.cache h b) b (λ x. keeps_load m.size (length m.harts) (length m.cache.ram) m.cache h b x is.cache there)
          (λ x ne. untouched_load m.size (length m.harts) (length m.cache.ram) m.cache h b x is.cache there ne)
      | false ↦ moves m m.cache b (λ x. keeps_same m.size m.cache x) (λ x ne. untouched_same m.size m.cache x)
    ]

-- it changes nothing that is seen, whether copies are stale or not
middle_filled : (m : MachineState) (h b x : ℕ) → IsMachine m → IsBlockIn m.size (length m.cache.ram) b → middle (with_cache m (caches.load m.size m.cache h b)) x ≡ middle m x
unfolding middle
middle_filled m h b x is there = middle-load m.size (length m.harts) (length m.cache.ram) m.cache h b x is.cache there

pub fill_views : (m : MachineState) (h b g x : ℕ) → IsMachine m → IsBlockIn m.size (length m.cache.ram) b → view (fill_next m h b) g x ≡ view m g x
unfolding fill_next
fill_views m h b g x is there =
    elim (may_fill m h b) as (λ t. view (if t then with_cache m (caches.load m.size m.cache h b) else m) g x ≡ view m g x) [
      | true ↦ same_view m (with_cache m (caches.load m.size m.cache h b)) g x refl refl (middle_filled m h b x is there)
      | false ↦ refl
    ]

not_both : (held pooled : Bool) → pooled ≡ true → (not held && not pooled) ≡ false
not_both true pooled is = refl
not_both false true is = refl
not_both false false is = absurd cc

-- no fill brings a block of the pool
pub fill_pooled : (m : MachineState) (h b : ℕ) → is_pooled m b ≡ true → fill_next m h b ≡ m
unfolding fill_next
fill_pooled m h b is = ap (λ (t : Bool). if t then with_cache m (caches.load m.size m.cache h b) else m) (not_both (held_by (line_at m.cache b) h) (is_pooled m b) is)

-- so a place of the pool is not held after one
pub pool_block : (m : MachineState) (x : ℕ) → IsBlockSize m.size → m.pool.at % m.size ≡ 0 → covers m.pool x ≡ true → is_pooled m (x / m.size) ≡ true
pool_block m x z from is =
    let over = over_span m.pool x is in
    let at = inside x (x / m.size) z refl in
    let below : m.pool.at / m.size ≤ x / m.size = block_of-le m.pool.at x z over.from in
    let low : m.pool.at ≤ m.size * (x / m.size) = subst (λ (k : ℕ). k ≤ m.size * (x / m.size)) (aligned m.pool.at z from) (mul-le m.size (m.pool.at / m.size) m.size (x / m.size) (omega arith) below) in
    covered m.pool (m.size * (x / m.size)) low (omega (arith, at.low, over.to))
  where
    covered : (span : Span) (y : ℕ) → span.at ≤ y → y < span.at + span.len → covers span y ≡ true
    covered span y from to = grind (arith, nat_tests)

pub fill_not_held : (m : MachineState) (h b x : ℕ) → IsMachine m → IsBlockIn m.size (length m.cache.ram) b → is_pooled m (x / m.size) ≡ true → NotHeld m x → NotHeld (fill_next m h b) x
fill_not_held m h b x is there pooled none = elim (cases_eq (x / m.size) b) [
  | inl e ↦ rw (fill_pooled m h b (subst (λ (k : ℕ). is_pooled m k ≡ true) e pooled)) none
  | inr ne ↦ ((fill_is m h b is there).apart x ne).line ∙ none
]

pub evict_is : (m : MachineState) (h b : ℕ) → IsMachine m → IsBlockIn m.size (length m.cache.ram) b → Moves m (evict_next m h b) b
unfolding evict_next
evict_is m h b is there =
    moves m (caches.evict m.size m.cache h b) b (λ x. keeps_evict m.size (length m.harts) (length m.cache.ram) m.cache h b x is.cache there)
    (λ x ne. untouched_evict m.size (length m.harts) (length m.cache.ram) m.cache h b x is.cache there ne)

-- an eviction brings no block
pub evict_not_held : (m : MachineState) (h b x : ℕ) → IsMachine m → IsBlockIn m.size (length m.cache.ram) b → NotHeld m x → NotHeld (evict_next m h b) x
unfolding evict_next
evict_not_held m h b x is there none = elim (cases_eq (x / m.size) b) [
  | inl e ↦ ap (λ c. line_at c (x / m.size)) (evict_none m.size m.cache h b (subst (λ (k : ℕ). line_at m.cache k ≡ None) e none)) ∙ none
  | inr ne ↦ (untouched_evict m.size (length m.harts) (length m.cache.ram) m.cache h b x is.cache there ne).line ∙ none
]

-- ---- channels

channel_stays : (m : MachineState) (c : ℕ) (s : ChannelState) → Stays m (with_channel m c s)
channel_stays m c s = stays m (with_channel m c s) refl refl refl

channel_set : (m : MachineState) (c : ℕ) (s : ChannelState) → IsMachine m → c < 4 → ChannelIs m (with_channel m c s) c s (grantee_of m c)
channel_set m c s is lt = record { channel = channel_here m c c s (omega (arith, is.four)) refl; grantee = refl; channels = λ k ne. channel_away m c k s ne; grantees = λ k ne. refl; boxes = refl }

pub chan_read_stays : (m : MachineState) (c : ℕ) → Stays m (chan_read_next m c)
unfolding chan_read_next
chan_read_stays m c = channel_stays m c (read_next (channel_of m c) (chan_read_step m c))

pub chan_read_is : (m : MachineState) (c : ℕ) → IsMachine m → c < 4 → ChannelIs m (chan_read_next m c) c (read_next (channel_of m c) (chan_read_step m c)) (grantee_of m c)
unfolding chan_read_next
chan_read_is m c is lt = channel_set m c (read_next (channel_of m c) (chan_read_step m c)) is lt

pub chan_write_is : (m : MachineState) (c : ℕ) → IsMachine m → c < 4 → ChannelIs m (chan_write_next m c) c (write_next (channel_of m c) (chan_write_step m c)) (grantee_of m c)
unfolding chan_write_next
chan_write_is m c is lt = record {
  channel = channel_here m c c (write_next (channel_of m c) (chan_write_step m c)) (omega (arith, is.four)) refl;
  grantee = refl;
  channels = λ k ne. channel_away m c k (write_next (channel_of m c) (chan_write_step m c)) ne;
  grantees = λ k ne. refl;
  boxes = refl;
}

-- memory after a write
record Written (m : MachineState) (span : Span) (bytes : List ℕ) : Type 0 where
  inside : span.at + span.len ≤ length m.cache.ram
  some : 0 < span.len
  long : length bytes ≡ span.len
  fits : span.at + length bytes ≤ length m.cache.ram

written : (m : MachineState) (c : ℕ) (span : Span) (bytes : List ℕ) (done : Bool) → IsMachine m → c < 4 → chan_write_step m c ≡ Moved span bytes done → Written m span bytes
written m c span bytes done is lt told =
    let sound = (is.granted c lt).channel in
    let w = each_write (channel_of m c) (length m.cache.ram) span bytes done sound told in
    let at = written_in (channel_of m c) (length m.cache.ram) (chan_write_step m c) span.at span.len bytes done sound told in
    record { inside = w.span.inside; some = w.span.some; long = at.long; fits = at.inside }

abbrev with_bytes : MachineState → ℕ → ChannelState → Span → List ℕ → MachineState
with_bytes m c s span bytes = with_channel (with_ram m (splice m.cache.ram span.at bytes)) c s

untouched_beside : (m : MachineState) (span : Span) (bytes : List ℕ) (x : ℕ) → Written m span bytes → (x < span.at) ⊎ (span.at + span.len ≤ x)
    → Untouched m.size m.cache (record { ram = splice m.cache.ram span.at bytes; lines = m.cache.lines }) x
untouched_beside m span bytes x w beside = record {
  line = refl;
  memory = elim beside [
    | inl lt ↦ byte-splice_below m.cache.ram span.at bytes x w.fits lt
    | inr le ↦ byte-splice_above m.cache.ram span.at bytes x w.fits (omega (arith, w.long, le))
  ];
}

writes_span : (m : MachineState) (c : ℕ) (s : ChannelState) (span : Span) (bytes : List ℕ) → Written m span bytes → WritesSpan m (with_bytes m c s span bytes) span bytes
writes_span m c s span bytes w =
    let n = with_bytes m c s span bytes in
    record {
      inside = w.inside;
      some = w.some;
      long = w.long;
      lines = refl;
      harts = refl;
      queues = λ g. refl;
      clear = λ x k. record { clear = k.clear };
      not_held = λ x none. none;
      here = λ x from to. byte-splice_in m.cache.ram span.at bytes x w.fits from (omega (arith, w.long, to));
      away = λ x beside. same_at m n x refl (untouched_beside m span bytes x w beside);
      away_views = λ g x beside. same_view m n g x refl refl (same_at m n x refl (untouched_beside m span bytes x w beside)).copy;
    }

ram_by : (m : MachineState) (c : ℕ) (t : ChanStep) → IsMachine m → c < 4 → chan_write_step m c ≡ t → RamAfter m (with_channel (with_ram m (ram_after m.cache.ram t)) c (write_next (channel_of m c) t)) t
ram_by m c Idle is lt told = stays m (with_channel (with_ram m m.cache.ram) c (write_next (channel_of m c) Idle)) refl refl refl
ram_by m c (Moved span bytes done) is lt told = writes_span m c (write_next (channel_of m c) (Moved span bytes done)) span bytes (written m c span bytes done is lt told)
ram_by m c (Error bus len) is lt told = stays m (with_channel (with_ram m m.cache.ram) c (write_next (channel_of m c) (Error bus len))) refl refl refl

pub chan_write_ram : (m : MachineState) (c : ℕ) → IsMachine m → c < 4 → RamAfter m (chan_write_next m c) (chan_write_step m c)
unfolding chan_write_next
chan_write_ram m c is lt = ram_by m c (chan_write_step m c) is lt refl

-- ---- a claim

claimed_stays : (m : MachineState) (h : HartNo) (c : ℕ) (o : Option HartNo) → Stays m (claimed_by m h c o)
claimed_stays m h c None = stays m (claimed_by m h c None) refl refl refl
claimed_stays m h c (Some g) = stays m m refl refl refl

pub claim_stays : (m : MachineState) (h : HartNo) (c : ℕ) → Stays m (claim_next m h c)
unfolding claim_next
claim_stays m h c = claimed_stays m h c (grantee_of m c)

pub claim_free : (m : MachineState) (h : HartNo) (c : ℕ) → IsMachine m → c < 4 → grantee_of m c ≡ None
    → ChannelIs m (claim_next m h c) c (record { regs = claims.claimed (channel_of m c).regs; fifo = (channel_of m c).fifo }) (Some h)
unfolding claim_next
claim_free m h c is lt free =
    subst (λ (n : MachineState). ChannelIs m n c (record { regs = claims.claimed (channel_of m c).regs; fifo = (channel_of m c).fifo }) (Some h)) (sym (ap (claimed_by m h c) free))
    (channel_is m c (record { regs = claims.claimed (channel_of m c).regs; fifo = (channel_of m c).fifo }) (Some h) is lt)

pub claim_granted : (m : MachineState) (h g : HartNo) (c : ℕ) → grantee_of m c ≡ Some g → claim_next m h c ≡ m
unfolding claim_next
claim_granted m h g c taken = ap (claimed_by m h c) taken

-- ---- a take

pub take_stays : (m : MachineState) (h buf : ℕ) → Stays m (take_next m h buf)
unfolding take_next
take_stays m h buf = elim (may_take m h buf) as (λ t. Stays m (if t then with_box m buf None else m)) [ true ↦ stays m (with_box m buf None) refl refl refl | false ↦ stays m m refl refl refl ]

emptied : (m : MachineState) (buf : ℕ) → box_of (with_box m buf None) buf ≡ None
emptied m buf = elim (cases_lt buf (length m.boxes)) [
  | inl lt ↦ box_here m buf buf None lt refl
  | inr le ↦ get_or_past (slice_set m.boxes buf None) buf None (omega (arith, length-set m.boxes buf None, le))
]

pub take_is : (m : MachineState) (h buf : ℕ) → may_take m h buf ≡ true → BoxIs m (take_next m h buf) buf None
unfolding take_next
take_is m h buf may =
    subst (λ (n : MachineState). BoxIs m n buf None) (sym (ap (λ (t : Bool). if t then with_box m buf None else m) may))
    (record { box = emptied m buf; others = λ k ne. box_away m buf k None ne; channels = refl; grantees = refl })

pub take_none : (m : MachineState) (h buf : ℕ) → may_take m h buf ≡ false → take_next m h buf ≡ m
unfolding take_next
take_none m h buf may = ap (λ (t : Bool). if t then with_box m buf None else m) may
