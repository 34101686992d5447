-- Where the machine answers nothing, nothing has changed.
use Rattle.std.proofs.Common.{◌≡◌, ℕ, Bool, true, false, List, refl, sym, ap, ◌∙◌}
use Rattle.std.specs.Prelude.{Option, Some, None, if◌then◌else◌, slice_index_or, slice_set}
use Rattle.std.proofs.lemmas.List.{set-get_or}
use Rattle.nc_cache.specs.declared.line.Line.{Line}
use Rattle.nc_cache.specs.declared.line.BusRec.{BusRec}
use Rattle.nc_cache.specs.Cache as caches
use Rattle.nc_cache.specs.Cache.{Cache, line_at, held_by, holds}
use Rattle.nc_cache.specs.Bus.{evict_bus}
use Rattle.nc_model.specs.declared.owners.Access.{Access}
use Rattle.nc_model.specs.declared.owners.Access.TheVariants.{Read, Write}
use Rattle.nc_pdma.specs.declared.channel.ChanStep.{ChanStep}
use Rattle.nc_pdma.specs.declared.channel.ChanStep.TheVariants.{Idle, Moved, Error}
use Rattle.nc_pdma.specs.Channel.{ChannelState, new_channel}
use Rattle.nc_pdma.specs.Steps.{read_next, write_next, ram_after}
use Rattle.nc_rules.specs.Calls.{may_fill, fill_next, fill_answer, evict_next, evict_answer, chan_read_step, chan_read_next, chan_write_step, chan_write_next}
use Rattle.nc_rules.specs.Events.{is_idle_step}
use Rattle.nc_rules.specs.Machine.{MachineState, channel_of, with_cache, with_channel, with_ram}
use Rattle.nc_world.specs.Looks.{chan_step, chan_next}

-- ---- caches: what is answered by a test

some_test : (t : Bool) (ts bus : List BusRec) → (if t then Some ts else None) ≡ Some bus → t ≡ true
some_test true ts bus e = refl
some_test false ts bus e = absurd (cc)

none_test : (t : Bool) (ts : List BusRec) → (if t then Some ts else None) ≡ None → t ≡ false
none_test true ts e = absurd (cc)
none_test false ts e = refl

pub fill_may : (m : MachineState) (h b : ℕ) (bus : List BusRec) → fill_answer m h b ≡ Some bus → may_fill m h b ≡ true
fill_may m h b bus e = some_test (may_fill m h b) _ bus e

pub fill_may_not : (m : MachineState) (h b : ℕ) → fill_answer m h b ≡ None → may_fill m h b ≡ false
fill_may_not m h b e = none_test (may_fill m h b) _ e

pub fill_none : (m n : MachineState) (h b : ℕ) → fill_answer m h b ≡ None → n ≡ fill_next m h b → n ≡ m
unfolding fill_next
fill_none m n h b e state = state ∙ ap (λ (t : Bool). if t then with_cache m (caches.load m.size m.cache h b) else m) (fill_may_not m h b e)

held_line : (h b : ℕ) (o : Option Line) (bus : List BusRec) → evict_bus h b o ≡ Some bus → held_by o h ≡ true
held_line h b None bus e = absurd (cc)
held_line h b (Some l) bus e = some_test (holds l.held h) _ bus e

not_held_line : (h b : ℕ) (o : Option Line) → evict_bus h b o ≡ None → held_by o h ≡ false
not_held_line h b None e = refl
not_held_line h b (Some l) e = none_test (holds l.held h) _ e

pub evict_held : (m : MachineState) (h b : ℕ) (bus : List BusRec) → evict_answer m h b ≡ Some bus → held_by (line_at m.cache b) h ≡ true
evict_held m h b bus e = held_line h b (line_at m.cache b) bus e

pub evict_not_held : (m : MachineState) (h b : ℕ) → evict_answer m h b ≡ None → held_by (line_at m.cache b) h ≡ false
evict_not_held m h b e = not_held_line h b (line_at m.cache b) e

evict_line : (s : ℕ) (c : Cache) (h b : ℕ) (o : Option Line) → held_by o h ≡ false → caches.evict_of s c h b o ≡ c
evict_line s c h b None e = refl
evict_line s c h b (Some l) e = ap (λ (t : Bool). if t then caches.put c (caches.back s c.ram b l.bytes l.held) b (caches.without h l.bytes l.held) else c) e

pub evict_none : (m n : MachineState) (h b : ℕ) → evict_answer m h b ≡ None → n ≡ evict_next m h b → n ≡ m
unfolding evict_next caches.evict
evict_none m n h b e state = state ∙ ap (with_cache m) (evict_line m.size m.cache h b (line_at m.cache b) (evict_not_held m h b e))

-- ---- channels

set_same : (cs : List ChannelState) (c : ℕ) → slice_set cs c (slice_index_or cs c new_channel) ≡ cs
set_same cs c = set-get_or cs c new_channel

read_idle : (m : MachineState) (c : ℕ) → chan_read_step m c ≡ Idle → chan_read_next m c ≡ m
unfolding chan_read_next
read_idle m c e =
    ap (λ (t : ChanStep). with_channel m c (read_next (channel_of m c) t)) e ∙ ap (λ (cs : List ChannelState). record m { channels = cs }) (set_same m.channels c)

write_idle : (m : MachineState) (c : ℕ) → chan_write_step m c ≡ Idle → chan_write_next m c ≡ m
unfolding chan_write_next
write_idle m c e =
    ap (λ (t : ChanStep). with_channel (with_ram m (ram_after m.cache.ram t)) c (write_next (channel_of m c) t)) e ∙ ap (λ (cs : List ChannelState). record m { channels = cs }) (set_same m.channels c)

idle_next : (m : MachineState) (c : ℕ) (access : Access) → chan_step m c access ≡ Idle → chan_next m c access ≡ m
idle_next m c Read e = read_idle m c e
idle_next m c Write e = write_idle m c e

idle_is : (t : ChanStep) → is_idle_step t ≡ true → t ≡ Idle
idle_is Idle e = refl
idle_is (Moved span bytes done) e = absurd (cc)
idle_is (Error bus len) e = absurd (cc)

pub transact_none : (m n : MachineState) (c : ℕ) (access : Access) (t : ChanStep) → t ≡ chan_step m c access → is_idle_step t ≡ true → n ≡ chan_next m c access → n ≡ m
transact_none m n c access t step idle state = state ∙ idle_next m c access (sym step ∙ idle_is t idle)
