-- What the machine answers names places.
use Rattle.std.proofs.Common.{◌≡◌, ℕ, ◌<◌, List, length, refl, sym, ◌∙◌, subst}
use Rattle.std.specs.Prelude.{All, Option, Some, None, IfSome, option_map}
use Rattle.nc_cache.specs.declared.line.BusRec.{BusRec}
use Rattle.nc_model.specs.declared.owners.Access.{Access}
use Rattle.nc_model.specs.declared.owners.Access.TheVariants.{Read, Write}
use Rattle.nc_pdma.specs.declared.channel.ChanStep.{ChanStep}
use Rattle.nc_pdma.specs.declared.channel.ChanStep.TheVariants.{Idle, Moved, Error}
use Rattle.nc_pdma.specs.Channel.{ChannelState, IsChannel}
use Rattle.nc_pdma.specs.Steps as channels
use Rattle.nc_pdma.proofs.Transactions.{each_read, each_write}
use Rattle.nc_queue.specs.declared.entry.Entry.{Entry}
use Rattle.nc_queue.specs.declared.entry.Entry.TheVariants as entries
use Rattle.nc_rules.specs.Calls.{leaving, drain_transfers, drain_answer}
use Rattle.nc_rules.specs.Machine.{MachineState, channel_of}
use Rattle.nc_rules.specs.Sound.{IsMachine, EntryIsThere}
use Rattle.nc_calls.proofs.SoundDrain.{leaving_is}
use Rattle.nc_log.specs.Logs.{HasPlace, EntryHasPlace}
use Rattle.nc_world.specs.Looks.{IsTransactionIn, chan_step}
use Rattle.nc_world.proofs.Transfers.{SomeHavePlaces, block_small, drain_places}

-- ---- drains

entry_place : (m : MachineState) (e : Entry) → IsMachine m → EntryIsThere m e → EntryHasPlace m.size e
entry_place m (entries.Store span bytes kind) is there = tt
entry_place m (entries.Cbo block op) is there = block_small m block.0 is there
entry_place m (entries.Reg chan off width value) is there = tt
entry_place m (entries.Mail buf to) is there = tt
entry_place m (entries.Lend label first count) is there = tt
entry_place m (entries.Mark pred succ) is there = tt

abbrev answer_of : MachineState → ℕ → Option Entry → Option (Entry × List BusRec)
answer_of m h o = option_map (λ e. (e, drain_transfers m h e)) o

place_by : (m : MachineState) (h i : ℕ) (o : Option Entry) (r : Option (Entry × List BusRec)) → IsMachine m → h < length m.harts → leaving m h i ≡ o → r ≡ answer_of m h o
    → IfSome r (λ p. EntryHasPlace m.size p.0)
place_by m h i None r is lt out e = rw e tt
place_by m h i (Some entry) r is lt out e = rw e (entry_place m entry is (leaving_is m h i entry is lt out).there)

places_by : (m : MachineState) (h i : ℕ) (o : Option Entry) (r : Option (Entry × List BusRec)) → IsMachine m → h < length m.harts → leaving m h i ≡ o → r ≡ answer_of m h o
    → IfSome r (λ p. All (HasPlace m.size) p.1)
places_by m h i None r is lt out e = rw e tt
places_by m h i (Some entry) r is lt out e = rw e (drain_places m h entry is (leaving_is m h i entry is lt out).there)

pub drain_place : (m : MachineState) (h i : ℕ) (r : Option (Entry × List BusRec)) → IsMachine m → h < length m.harts → r ≡ drain_answer m h i → IfSome r (λ p. EntryHasPlace m.size p.0)
drain_place m h i r is lt e = place_by m h i (leaving m h i) r is lt refl e

pub drain_bus_places : (m : MachineState) (h i : ℕ) (r : Option (Entry × List BusRec)) → IsMachine m → h < length m.harts → r ≡ drain_answer m h i → IfSome r (λ p. All (HasPlace m.size) p.1)
drain_bus_places m h i r is lt e = places_by m h i (leaving m h i) r is lt refl e

-- ---- fills and evictions

-- the transfers of an answer whose transfers have places
pub bus_places : (m : MachineState) {s : ℕ} {r a : Option (List BusRec)} {bus ts : List BusRec} → s ≡ m.size → SomeHavePlaces m.size a → r ≡ a → r ≡ Some bus → ts ≡ bus → All (HasPlace s) ts
bus_places m size placed answer some same =
    rw (size, same) (subst (SomeHavePlaces m.size) (sym answer ∙ some) placed)

-- ---- channels

read_by : (c : ChannelState) (ram : List ℕ) (t : ChanStep) → IsChannel c → channels.read_step c ram ≡ t → IsTransactionIn (length ram) t
read_by c ram Idle is e = tt
read_by c ram (Moved span bytes done) is e = let r = each_read c ram span bytes done is e in record { some = r.span.some; inside = r.span.inside }
read_by c ram (Error bus len) is e = tt

write_by : (c : ChannelState) (size : ℕ) (t : ChanStep) → IsChannel c → channels.write_step c size ≡ t → IsTransactionIn size t
write_by c size Idle is e = tt
write_by c size (Moved span bytes done) is e = let w = each_write c size span bytes done is e in record { some = w.span.some; inside = w.span.inside }
write_by c size (Error bus len) is e = tt

pub transaction_inside : (m : MachineState) (c : ℕ) (access : Access) (t : ChanStep) → IsMachine m → c < 4 → t ≡ chan_step m c access → IsTransactionIn (length m.cache.ram) t
transaction_inside m c Read t is lt e = read_by (channel_of m c) m.cache.ram t (is.granted c lt).channel (sym e)
transaction_inside m c Write t is lt e = write_by (channel_of m c) (length m.cache.ram) t (is.granted c lt).channel (sym e)
