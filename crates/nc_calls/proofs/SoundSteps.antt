-- A fill, an eviction, a step of a channel, a claim and a take leave a sound machine.
use Rattle.std.specs.Prelude.{Option, Some, None, Bool, true, false, if◌then◌else◌, ◌-◌, ◌==◌}
use Rattle.std.proofs.Common.{◌≡◌, ℕ, ◌+◌, ◌<◌, ◌≤◌, List, length, refl, inl, inr, sym, ap, ◌∙◌, arith, length-take, subst}
use Rattle.std.proofs.lemmas.Bool.{cases_lt}
use Rattle.std.proofs.lemmas.List.{set_past}
use Rattle.nc_num.specs.declared.names.HartNo.{HartNo}
use Rattle.nc_num.proofs.MemoryLaws.{length-splice}
use Rattle.nc_cache.specs.Cache as caches
use Rattle.nc_cache.proofs.Wholes.{whole_load, whole_evict}
use Rattle.nc_pdma_regs.specs.Registers.{Registers}
use Rattle.nc_pdma_regs.specs.Moves.{finished, bytes_written, written_on}
use Rattle.nc_pdma_regs.specs.Laws as claims
use Rattle.nc_pdma.specs.declared.channel.ChanStep.{ChanStep}
use Rattle.nc_pdma.specs.declared.channel.ChanStep.TheVariants.{Idle, Moved, Error}
use Rattle.nc_pdma.specs.Channel.{ChannelState, IsChannel}
use Rattle.nc_pdma.specs.Steps.{read_next, write_step, write_next, ram_after}
use Rattle.nc_pdma.proofs.Sound.{read_sound, written_sound}
use Rattle.nc_pdma.proofs.Transactions.{each_write}
use Rattle.nc_rules.specs.Machine.{MachineState, channel_of, grantee_of, with_cache, with_ram, with_box}
use Rattle.nc_rules.specs.Calls.{may_fill, fill_next, evict_next, chan_read_step, chan_read_next, chan_write_step, chan_write_next, claimed_by, claim_next, may_take, take_next}
use Rattle.nc_rules.specs.Sound.{IsBlockIn, IsMachine}
use Rattle.nc_calls.specs.MachineLaws.{SameShape}
use Rattle.nc_calls.proofs.SoundWith.{shape_same, shape_then, shape_cache, sound_cache, whole_with_ram, sound_ram, shape_channel, sound_channel, shape_grant, sound_grant, shape_box, sound_box}

-- ---- caches

pub sound_fill : (m : MachineState) (h b : ℕ) → IsMachine m → h < length m.harts → IsBlockIn m.size (length m.cache.ram) b → IsMachine (fill_next m h b)
unfolding fill_next
sound_fill m h b is lt there =
    elim (may_fill m h b) as (λ t. IsMachine (if t then with_cache m (caches.load m.size m.cache h b) else m)) [
      | true ↦ sound_cache m (caches.load m.size m.cache h b) is (whole_load m.size (length m.harts) (length m.cache.ram) m.cache h b is.cache lt there)
      | false ↦ is
    ]

pub shape_fill : (m : MachineState) (h b : ℕ) → IsMachine m → h < length m.harts → IsBlockIn m.size (length m.cache.ram) b → SameShape m (fill_next m h b)
unfolding fill_next
shape_fill m h b is lt there =
    elim (may_fill m h b) as (λ t. SameShape m (if t then with_cache m (caches.load m.size m.cache h b) else m)) [
      | true ↦ shape_cache m (caches.load m.size m.cache h b) is (whole_load m.size (length m.harts) (length m.cache.ram) m.cache h b is.cache lt there)
      | false ↦ shape_same m
    ]

pub sound_evict : (m : MachineState) (h b : ℕ) → IsMachine m → h < length m.harts → IsBlockIn m.size (length m.cache.ram) b → IsMachine (evict_next m h b)
unfolding evict_next
sound_evict m h b is lt there = sound_cache m (caches.evict m.size m.cache h b) is (whole_evict m.size (length m.harts) (length m.cache.ram) m.cache h b is.cache lt there)

pub shape_evict : (m : MachineState) (h b : ℕ) → IsMachine m → h < length m.harts → IsBlockIn m.size (length m.cache.ram) b → SameShape m (evict_next m h b)
unfolding evict_next
shape_evict m h b is lt there = shape_cache m (caches.evict m.size m.cache h b) is (whole_evict m.size (length m.harts) (length m.cache.ram) m.cache h b is.cache lt there)

-- ---- channels

-- no step of a channel changes its claim
pub claim_read : (c : ChannelState) (t : ChanStep) → (read_next c t).regs.control.claim ≡ c.regs.control.claim
claim_read c Idle = refl
claim_read c (Moved s bytes done) = refl
claim_read c (Error bus len) = refl

claim_written : (r : Registers) (n : ℕ) → (written_on r n).control.claim ≡ r.control.claim
unfolding written_on
claim_written r n = elim (r.exec.bytes - n == 0) as (λ t. (if t then finished (bytes_written r n) else bytes_written r n).control.claim ≡ r.control.claim) [ true ↦ refl | false ↦ refl ]

pub claim_write : (c : ChannelState) (t : ChanStep) → (write_next c t).regs.control.claim ≡ c.regs.control.claim
claim_write c Idle = refl
claim_write c (Moved s bytes done) = claim_written c.regs s.len
claim_write c (Error bus len) = refl

pub sound_chan_read : (m : MachineState) (c : ℕ) → IsMachine m → c < 4 → IsMachine (chan_read_next m c)
unfolding chan_read_next
sound_chan_read m c is lt =
    sound_channel m c (read_next (channel_of m c) (chan_read_step m c)) is lt (read_sound (channel_of m c) m.cache.ram (is.granted c lt).channel) (claim_read (channel_of m c) (chan_read_step m c))

pub shape_chan_read : (m : MachineState) (c : ℕ) → SameShape m (chan_read_next m c)
unfolding chan_read_next
shape_chan_read m c = shape_channel m c (read_next (channel_of m c) (chan_read_step m c))

-- the bytes of a write lie in memory, and are as many as its span has
pub record WrittenIn (c : ChannelState) (size at len : ℕ) (bytes : List ℕ) : Type 0 where
  pub long : length bytes ≡ len
  pub inside : at + length bytes ≤ size

pub written_in : (c : ChannelState) (size : ℕ) (t : ChanStep) (at len : ℕ) (bytes : List ℕ) (done : Bool) → IsChannel c → write_step c size ≡ Moved (record { at = at; len = len }) bytes done → WrittenIn c size at len bytes
written_in c size t at len bytes done sound told =
    let w = each_write c size (record { at = at; len = len }) bytes done sound told in
    let long : length bytes ≡ len = ap length w.bytes_are ∙ omega (arith, length-take len c.fifo, w.in_fifo) in
    record { long = long; inside = omega (arith, long, w.span.inside) }

length_after : (m : MachineState) (c : ℕ) (t : ChanStep) → IsMachine m → c < 4 → chan_write_step m c ≡ t → length (ram_after m.cache.ram t) ≡ length m.cache.ram
length_after m c Idle is lt told = refl
length_after m c (Moved s bytes done) is lt told =
    length-splice m.cache.ram s.at bytes (written_in (channel_of m c) (length m.cache.ram) (chan_write_step m c) s.at s.len bytes done (is.granted c lt).channel told).inside
length_after m c (Error bus len) is lt told = refl

pub length_written : (m : MachineState) (c : ℕ) → IsMachine m → c < 4 → length (ram_after m.cache.ram (chan_write_step m c)) ≡ length m.cache.ram
length_written m c is lt = length_after m c (chan_write_step m c) is lt refl

pub sound_chan_write : (m : MachineState) (c : ℕ) → IsMachine m → c < 4 → IsMachine (chan_write_next m c)
unfolding chan_write_next
sound_chan_write m c is lt =
    let ram = ram_after m.cache.ram (chan_write_step m c) in
    sound_channel (with_ram m ram) c (write_next (channel_of m c) (chan_write_step m c)) (sound_ram m ram is (length_written m c is lt)) lt
    (written_sound (channel_of m c) (length m.cache.ram) (is.granted c lt).channel) (claim_write (channel_of m c) (chan_write_step m c))

pub shape_chan_write : (m : MachineState) (c : ℕ) → IsMachine m → c < 4 → SameShape m (chan_write_next m c)
unfolding chan_write_next
shape_chan_write m c is lt =
    let ram = ram_after m.cache.ram (chan_write_step m c) in
    shape_then m (with_ram m ram) (chan_write_next m c) (shape_cache m (record { ram = ram; lines = m.cache.lines }) is (whole_with_ram m ram is (length_written m c is lt)))
    (shape_channel (with_ram m ram) c (write_next (channel_of m c) (chan_write_step m c)))

-- a claim
claimed_channel : (c : ChannelState) → IsChannel c → IsChannel (record { regs = claims.claimed c.regs; fifo = c.fifo })
claimed_channel c is = record { claimed = λ runs. refl; idle = is.idle; left = is.left; within = is.within; short = is.short }

sound_claimed : (m : MachineState) (h : HartNo) (c : ℕ) (o : Option HartNo) → IsMachine m → h.0 < length m.harts → c < 4 → IsMachine (claimed_by m h c o)
sound_claimed m h c None is lt chan =
    sound_grant m c (record { regs = claims.claimed (channel_of m c).regs; fifo = (channel_of m c).fifo }) (Some h) is chan (claimed_channel (channel_of m c) (is.granted c chan).channel) refl
    (λ g e. let same : h ≡ g = cc in rw (← same) lt)
sound_claimed m h c (Some g) is lt chan = is

pub sound_claim : (m : MachineState) (h : HartNo) (c : ℕ) → IsMachine m → h.0 < length m.harts → c < 4 → IsMachine (claim_next m h c)
unfolding claim_next
sound_claim m h c is lt chan = sound_claimed m h c (grantee_of m c) is lt chan

shape_claimed : (m : MachineState) (h : HartNo) (c : ℕ) (o : Option HartNo) → SameShape m (claimed_by m h c o)
shape_claimed m h c None = shape_grant m c (record { regs = claims.claimed (channel_of m c).regs; fifo = (channel_of m c).fifo }) (Some h)
shape_claimed m h c (Some g) = shape_same m

pub shape_claim : (m : MachineState) (h : HartNo) (c : ℕ) → SameShape m (claim_next m h c)
unfolding claim_next
shape_claim m h c = shape_claimed m h c (grantee_of m c)

-- ---- the mailbox

pub shape_take : (m : MachineState) (h buf : ℕ) → SameShape m (take_next m h buf)
unfolding take_next
shape_take m h buf = elim (may_take m h buf) as (λ t. SameShape m (if t then with_box m buf None else m)) [ true ↦ shape_box m buf None | false ↦ shape_same m ]

sound_emptied : (m : MachineState) (buf : ℕ) → IsMachine m → IsMachine (with_box m buf None)
sound_emptied m buf is = elim (cases_lt buf (length m.boxes)) [
  | inl lt ↦ sound_box m buf None is lt (λ h e. absurd (let p : None ≡ Some h = e in cc))
  | inr le ↦ subst IsMachine (sym (ap (λ (bs : List (Option HartNo)). record m { boxes = bs }) (set_past m.boxes buf None le))) is
]

pub sound_take : (m : MachineState) (h buf : ℕ) → IsMachine m → IsMachine (take_next m h buf)
unfolding take_next
sound_take m h buf is = elim (may_take m h buf) as (λ t. IsMachine (if t then with_box m buf None else m)) [ true ↦ sound_emptied m buf is | false ↦ is ]
