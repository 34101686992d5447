-- A channel's read and write in flat memory: a touch, or what is read is flat memory's, and what is written stands.
use Rattle.std.proofs.Common.{◌≡◌, ℕ, ◌<◌, Bool, true, false, List, [], ◌∷◌, length, refl, sym, subst, None}
use Rattle.nc_num.specs.declared.names.ChanNo.{ChanNo}
use Rattle.nc_num.specs.declared.places.Place.{Place}
use Rattle.nc_num.specs.declared.places.Span.{Span}
use Rattle.nc_pdma.specs.declared.channel.ChanStep.{ChanStep}
use Rattle.nc_pdma.specs.declared.channel.ChanStep.TheVariants.{Idle, Moved, Error}
use Rattle.nc_pdma.proofs.Transactions.{each_read}
use Rattle.nc_model.specs.Flat.{named_from, channel_name, written, TraceItem, Did}
use Rattle.nc_model.specs.declared.deeds.Deed.TheVariants as deeds
use Rattle.nc_model.specs.declared.owners.Access.TheVariants.{Read, Write}
use Rattle.nc_model.specs.declared.owners.Grant.{Grant}
use Rattle.nc_scen.specs.declared.events.Event.TheVariants as events
use Rattle.nc_scen.specs.declared.scenario.Scenario.{Scenario}
use Rattle.nc_rules.specs.Machine.{MachineState, channel_of}
use Rattle.nc_rules.specs.Calls.{chan_read_step, chan_read_next, chan_write_step, chan_write_next}
use Rattle.nc_rules.specs.Flat.{records_trace}
use Rattle.nc_rules.specs.Outcomes.{outcome}
use Rattle.nc_rules.specs.Records.{read_records, write_records}
use Rattle.nc_rules.specs.EventTouches.{transaction_touch}
use Rattle.nc_rules.specs.World.{WorldState}
use Rattle.nc_calls.specs.MachineLaws.{SameShape}
use Rattle.nc_calls.specs.PlaceLaws.{RamAfter}
use Rattle.nc_calls.proofs.SoundSteps.{shape_chan_read, shape_chan_write}
use Rattle.nc_calls.proofs.StepPlaces.{chan_read_stays, chan_write_ram}
use Rattle.nc_flatness.specs.Copying.{CopyStands}
use Rattle.nc_flatness.specs.Flatness.{BytesStand, Flatness}
use Rattle.nc_flatness.specs.Steps.{GoesTo, IsNow, Goes}
use Rattle.nc_flatness.proofs.worlds.Outcomes.{ran, goes_silent, runs_go}
use Rattle.nc_flat_moves.proofs.channels.ChannelBytes.{stay_bytes, read_shows, write_bytes}
use Rattle.nc_flat_moves.proofs.channels.ChannelCopies.{copies_read_on, flat_after, copies_write_on}
use Rattle.nc_flat_moves.proofs.channels.Granted.{used}

-- ---- a read

read_by : (sc : Scenario) (f : List ℕ) (w : WorldState) (chan : ChanNo) (k : MachineState) (t : ChanStep) → Flatness sc f w → chan.0 < 4 → chan_read_step w.machine chan.0 ≡ t → BytesStand sc f (ran w k) → transaction_touch w chan Read t ≡ None
    → GoesTo sc f (records_trace w.machine.size w.grants (read_records chan t)) (ran w k)
read_by sc f w chan k Idle flat four told bytes none = goes_silent sc f _ (ran w k) refl bytes
read_by sc f w chan k (Error bus len) flat four told bytes none = goes_silent sc f _ (ran w k) refl bytes
read_by sc f w chan k (Moved span seen done) flat four told bytes none =
    let m = w.machine in
    let is = each_read (channel_of m chan.0) m.cache.ram span seen done (flat.world.machine.granted chan.0 four).channel told in
    record {
      untouched = tt;
      latest = (read_shows sc f w chan span seen flat (λ x over. used sc f w chan Read span x flat none over) is.span.inside is.bytes_are, tt);
      bytes = bytes;
    }

pub read_goes : (sc : Scenario) (f : List ℕ) (w : WorldState) (chan : ChanNo) → IsNow sc f w (events.ChanRead chan) → Goes sc f w (events.ChanRead chan)
unfolding outcome
read_goes sc f w chan now =
    let m = w.machine in
    let told = chan_read_step m chan.0 in
    runs_go sc f w (events.ChanRead chan) (chan_read_next m chan.0) (transaction_touch w chan Read told) (read_records chan told) now.may refl
    (λ none. read_by sc f w chan (chan_read_next m chan.0) told now.flat now.there refl (stay_bytes sc f w (chan_read_next m chan.0) now.flat (shape_chan_read m chan.0) (chan_read_stays m chan.0) (copies_read_on sc f w chan now.flat now.there none)) none)

-- ---- a write

write_trace : (s : ℕ) (grants : List Grant) (chan : ChanNo) (span : Span) (bytes : List ℕ) (done : Bool) → records_trace s grants (write_records chan (Moved span bytes done)) ≡ Did (deeds.Write (named_from (channel_name grants chan) span.at bytes)) ∷ []
write_trace s grants chan span bytes true = refl
write_trace s grants chan span bytes false = refl

wrote : (sc : Scenario) (f : List ℕ) (w : WorldState) (ps : List (Place × ℕ)) → BytesStand sc (written f ps) w → GoesTo sc f (Did (deeds.Write ps) ∷ []) w
wrote sc f w ps bytes = record { untouched = tt; latest = tt; bytes = bytes }

write_by : (sc : Scenario) (f : List ℕ) (w : WorldState) (chan : ChanNo) (k : MachineState) (t : ChanStep) → Flatness sc f w → SameShape w.machine k → RamAfter w.machine k t → transaction_touch w chan Write t ≡ None → ((h : ℕ) → h < length sc.harts → CopyStands sc (flat_after w chan f t) (ran w k) h)
    → GoesTo sc f (records_trace w.machine.size w.grants (write_records chan t)) (ran w k)
write_by sc f w chan k Idle flat shape stays none copying = goes_silent sc f _ (ran w k) refl (stay_bytes sc f w k flat shape stays copying)
write_by sc f w chan k (Error bus len) flat shape stays none copying = goes_silent sc f _ (ran w k) refl (stay_bytes sc f w k flat shape stays copying)
write_by sc f w chan k (Moved span bytes done) flat shape writes none copying =
    subst (λ (ms : List TraceItem). GoesTo sc f ms (ran w k)) (sym (write_trace w.machine.size w.grants chan span bytes done))
    (wrote sc f (ran w k) (named_from (channel_name w.grants chan) span.at bytes) (write_bytes sc f w k chan span bytes flat shape writes (λ x over. used sc f w chan Write span x flat none over) copying))

pub write_goes : (sc : Scenario) (f : List ℕ) (w : WorldState) (chan : ChanNo) → IsNow sc f w (events.ChanWrite chan) → Goes sc f w (events.ChanWrite chan)
unfolding outcome
write_goes sc f w chan now =
    let m = w.machine in
    let sound = now.flat.world.machine in
    let told = chan_write_step m chan.0 in
    runs_go sc f w (events.ChanWrite chan) (chan_write_next m chan.0) (transaction_touch w chan Write told) (write_records chan told) now.may refl
    (λ none. write_by sc f w chan (chan_write_next m chan.0) told now.flat (shape_chan_write m chan.0 sound now.there) (chan_write_ram m chan.0 sound now.there) none (copies_write_on sc f w chan now.flat now.there none))
