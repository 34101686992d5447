-- A drain in flat memory: a touch of a register, or the bytes stand as they did.
use Rattle.nc_calls.proofs.DrainPlaces as drain_places
use Rattle.std.specs.Prelude.{Option, Some, None, is_some, ◌==◌, ◌&&◌}
use Rattle.std.proofs.Common.{◌≡◌, ℕ, ◌<◌, Bool, true, false, List, [], ◌++◌, length, refl, ap, ◌∙◌, arith}
use Rattle.std.proofs.lemmas.Bool.{false≢true}
use Rattle.nc_num.specs.Memory.{byte}
use Rattle.nc_num.specs.declared.names.HartNo.{HartNo}
use Rattle.nc_num.specs.declared.names.Label.{Label}
use Rattle.nc_num.specs.declared.names.MapId.{MapId}
use Rattle.nc_queue.specs.declared.entry.Entry.{Entry}
use Rattle.nc_queue.specs.declared.entry.Entry.TheVariants as entries
use Rattle.nc_plan.specs.Plans.{In}
use Rattle.nc_model.specs.Flat.{TraceItem}
use Rattle.nc_model.specs.declared.owners.Owner.{Owner}
use Rattle.nc_model.specs.declared.owners.Owner.TheVariants.{Thread, Passing, Lending, Device, Returning, Synced, Pool}
use Rattle.nc_model.specs.declared.touches.Touch.{Touch}
use Rattle.nc_scen.specs.declared.events.Event.TheVariants as events
use Rattle.nc_scen.specs.declared.scenario.Scenario.{Scenario}
use Rattle.nc_rules.specs.declared.records.Record.{Record}
use Rattle.nc_rules.specs.Machine.{MachineState, queue_of}
use Rattle.nc_rules.specs.Calls.{leaving, drain_next, drain_transfers}
use Rattle.nc_rules.specs.Events.{enabled}
use Rattle.nc_rules.specs.Flat.{records_trace}
use Rattle.nc_rules.specs.Driver.{lent}
use Rattle.nc_rules.specs.Outcomes.{goes, runs, leaves, drain_outcome, outcome}
use Rattle.nc_rules.specs.Records.{transfer_records, drain_records}
use Rattle.nc_rules.specs.EventTouches.{owner_of, drain_touch}
use Rattle.nc_rules.specs.World.{WorldState, driver_of}
use Rattle.nc_holds.specs.Tokens.{token_of}
use Rattle.nc_holds.proofs.lists.Members.{all_at, at_get}
use Rattle.nc_rows.specs.Ahead.{names, is_full}
use Rattle.nc_rows.specs.Parts.{IsQueued}
use Rattle.nc_row_moves.specs.Laws.{is_token, IsDrain}
use Rattle.nc_row_moves.proofs.PartMoves.{parts_stay}
use Rattle.nc_row_moves.proofs.PlaceDrains.{leaves as entry_leaves}
use Rattle.nc_row_moves.proofs.RowDrains.{rows_drain}
use Rattle.nc_flatness.specs.Books.{book_of}
use Rattle.nc_flatness.specs.Copying.{CopyStands}
use Rattle.nc_flatness.specs.Flatness.{BytesStand, Flatness}
use Rattle.nc_flatness.specs.Steps.{IsNow, Goes}
use Rattle.nc_flatness.proofs.worlds.Trace.{transfers_silent, entry_silent}
use Rattle.nc_flatness.proofs.worlds.Outcomes.{ran, goes_silent, runs_go, goes_go}
use Rattle.nc_flat_moves.proofs.drains.LosesRows.{loses_row}
use Rattle.nc_flat_moves.proofs.drains.Calm.{calm_of}
use Rattle.nc_flat_moves.proofs.drains.RegisterDrains.{copies_drained}
use Rattle.nc_flat_moves.proofs.tokens.Tokens.{tokens_drained}
use Rattle.nc_flat_moves.proofs.tokens.GivenWorld.{given_world, IsGiving}
use Rattle.nc_flat_moves.proofs.tokens.SentLots.{sent}
use Rattle.nc_flat_moves.proofs.tokens.TokenBytes.{given_bytes}
use Rattle.nc_flat_moves.proofs.WorldNow.{has_pieces, whole_pool}

-- ---- an entry that is no token

unnamed : (n : MapId) (e : Entry) → token_of e ≡ None → names n e ≡ false
unnamed n (entries.Lend label first count) none = absurd cc
unnamed n (entries.Store span bytes kind) none = refl
unnamed n (entries.Cbo block op) none = refl
unnamed n (entries.Reg chan off width value) none = refl
unnamed n (entries.Mail buf to) none = refl
unnamed n (entries.Mark pred succ) none = refl

neither : (b c : Bool) → c ≡ false → (b && c) ≡ false
neither true c none = none
neither false c none = refl

not_named : (o : Owner) (h : ℕ) (e : Entry) → token_of e ≡ None → is_token o h e ≡ false
not_named (Lending n) h e none = neither (n.hart.0 == h) (names n e) (unnamed n e none)
not_named (Thread k) h e none = refl
not_named (Passing k g) h e none = refl
not_named (Device n) h e none = refl
not_named (Returning n) h e none = refl
not_named (Synced n) h e none = refl
not_named Pool h e none = refl

leaves_runs : (w : WorldState) (h : HartNo) (m : MachineState) (touch : Option Touch) (rs : List Record) (e : Entry) → token_of e ≡ None → leaves w h m touch rs e ≡ runs w m touch rs
leaves_runs w h m touch rs (entries.Lend label first count) none = absurd cc
leaves_runs w h m touch rs (entries.Store span bytes kind) none = refl
leaves_runs w h m touch rs (entries.Cbo block op) none = refl
leaves_runs w h m touch rs (entries.Reg chan off width value) none = refl
leaves_runs w h m touch rs (entries.Mail buf to) none = refl
leaves_runs w h m touch rs (entries.Mark pred succ) none = refl

drain_is : (w : WorldState) (h : HartNo) (i : ℕ) (e : Entry) → leaving w.machine h.0 i ≡ Some e → token_of e ≡ None
    → outcome w (events.Drain h i) ≡ runs w (drain_next w.machine h.0 i) (drain_touch w h e) (drain_records w.machine h e)
unfolding outcome drain_outcome
drain_is w h i e out none = ap (drain_outcome w h i) out ∙ leaves_runs w h (drain_next w.machine h.0 i) (drain_touch w h e) (drain_records w.machine h e) e none

drain_silent : (w : WorldState) (h : HartNo) (e : Entry) → records_trace w.machine.size w.grants (drain_records w.machine h e) ≡ []
drain_silent w h e =
    ap (λ (ms : List TraceItem). ms ++ records_trace w.machine.size w.grants (transfer_records w.machine.size (drain_transfers w.machine h.0 e))) (entry_silent w.machine.size w.machine.size w.grants h e)
    ∙ transfers_silent w.machine.size w.machine.size w.grants (drain_transfers w.machine h.0 e)

drains : (sc : Scenario) (f : List ℕ) (w : WorldState) (h : HartNo) (i : ℕ) (e : Entry) → IsNow sc f w (events.Drain h i) → leaving w.machine h.0 i ≡ Some e → IsDrain w.machine h.0 i e
drains sc f w h i e now out = record { sound = now.flat.world.machine; hart = omega (arith, now.flat.world.of_scenario.harts, now.there); out = out }

-- ---- the bytes

drained_bytes : (sc : Scenario) (f : List ℕ) (w : WorldState) (h i : ℕ) (e : Entry) → Flatness sc f w → IsDrain w.machine h i e → In e (queue_of w.machine h) → token_of e ≡ None
    → ((g : ℕ) → g < length sc.harts → CopyStands sc f (ran w (drain_next w.machine h i)) g) → BytesStand sc f (ran w (drain_next w.machine h i))
drained_bytes sc f w h i e flat is here none copying =
    let a = book_of w in
    let m = w.machine in
    let b = flat.bytes in
    let queued = all_at (IsQueued a (owner_of w) m.pool m.size h) (queue_of m h) e (b.queued h) here in
    record {
      flat_size = b.flat_size;
      drives = b.drives;
      placed = b.placed;
      pooled = b.pooled;
      slotted = b.slotted;
      rows = λ x lt off. rows_drain.kept a (owner_of w x) (byte f x) m h i e x is (loses_row sc f w h e x flat lt off here queued) (has_pieces sc f w x (owner_of w x) flat) (not_named (owner_of w x) h e none) (b.rows x lt off);
      calm = λ z on unseen. calm_of m (drain_next m h i) z (rows_drain.kept a Pool (byte m.cache.ram z) m h i e z is tt tt refl (b.calm z on unseen));
      queued = parts_stay.queued_drain a (owner_of w) m h i e is b.queued;
      unfenced = λ g. (drain_places.drain_is m h i e is.sound is.hart is.out).queues.none is_full g (b.unfenced g);
      uncached = parts_stay.uncached_drain a (owner_of w) m h i e is (whole_pool sc f w flat) b.queued b.uncached;
      lasts = parts_stay.lasts_drain a f m h i e is b.lasts;
      tokens = tokens_drained sc f w (drain_next m h i) h i e flat (entry_leaves m h i e is).drains.queues none;
      copying = copying;
    }

-- ---- the event

plain_goes : (sc : Scenario) (f : List ℕ) (w : WorldState) (h : HartNo) (i : ℕ) (e : Entry) → IsNow sc f w (events.Drain h i) → leaving w.machine h.0 i ≡ Some e → token_of e ≡ None → Goes sc f w (events.Drain h i)
plain_goes sc f w h i e now out none =
    let flat = now.flat in
    let is = drains sc f w h i e now out in
    let here : In e (queue_of w.machine h.0) = at_get (queue_of w.machine h.0) i e (entry_leaves w.machine h.0 i e is).drains.queues.stood in
    runs_go sc f w (events.Drain h i) (drain_next w.machine h.0 i) (drain_touch w h e) (drain_records w.machine h e) now.may (drain_is w h i e out none)
    (λ untouched. goes_silent sc f (records_trace w.machine.size w.grants (drain_records w.machine h e)) (ran w (drain_next w.machine h.0 i)) (drain_silent w h e)
    (drained_bytes sc f w h.0 i e flat is here none (copies_drained sc f w h i e flat is none untouched)))

-- with a token its lot is its channel's
token_is : (w : WorldState) (h : HartNo) (i : ℕ) (label : Label) (first count : ℕ) → leaving w.machine h.0 i ≡ Some (entries.Lend label first count)
    → outcome w (events.Drain h i) ≡ goes w h (drain_next w.machine h.0 i) (lent (driver_of w h.0) label first) w.slots (drain_touch w h (entries.Lend label first count)) (drain_records w.machine h (entries.Lend label first count))
unfolding outcome drain_outcome
token_is w h i label first count out = ap (drain_outcome w h i) out

token_goes : (sc : Scenario) (f : List ℕ) (w : WorldState) (h : HartNo) (i : ℕ) (label : Label) (first count : ℕ) → IsNow sc f w (events.Drain h i) → leaving w.machine h.0 i ≡ Some (entries.Lend label first count) → Goes sc f w (events.Drain h i)
token_goes sc f w h i label first count now out =
    let e = entries.Lend label first count in
    let m = drain_next w.machine h.0 i in
    let is = drains sc f w h i e now out in
    let stood = (entry_leaves w.machine h.0 i e is).drains.queues.stood in
    let giving : IsGiving sc f w h i label first count =
    record { flat = now.flat; lt = now.there; there = is.hart; is = is; sent = sent sc f w h.0 i label first count now.flat now.there is.hart stood } in
    goes_go sc f w (events.Drain h i) h m (lent (driver_of w h.0) label first) w.slots (drain_touch w h e) (drain_records w.machine h e) now.may (token_is w h i label first count out)
    (λ untouched. goes_silent sc f (records_trace w.machine.size w.grants (drain_records w.machine h e)) (given_world w h i label first) (drain_silent w h e) (given_bytes sc f w h i label first count giving))

entry_goes : (sc : Scenario) (f : List ℕ) (w : WorldState) (h : HartNo) (i : ℕ) (e : Entry) → IsNow sc f w (events.Drain h i) → leaving w.machine h.0 i ≡ Some e → Goes sc f w (events.Drain h i)
entry_goes sc f w h i (entries.Lend label first count) now out = token_goes sc f w h i label first count now out
entry_goes sc f w h i (entries.Store span bytes kind) now out = plain_goes sc f w h i (entries.Store span bytes kind) now out refl
entry_goes sc f w h i (entries.Cbo block op) now out = plain_goes sc f w h i (entries.Cbo block op) now out refl
entry_goes sc f w h i (entries.Reg chan off width value) now out = plain_goes sc f w h i (entries.Reg chan off width value) now out refl
entry_goes sc f w h i (entries.Mail buf to) now out = plain_goes sc f w h i (entries.Mail buf to) now out refl
entry_goes sc f w h i (entries.Mark pred succ) now out = plain_goes sc f w h i (entries.Mark pred succ) now out refl

drain_by : (sc : Scenario) (f : List ℕ) (w : WorldState) (h : HartNo) (i : ℕ) (o : Option Entry) → IsNow sc f w (events.Drain h i) → leaving w.machine h.0 i ≡ o → is_some o ≡ true → Goes sc f w (events.Drain h i)
drain_by sc f w h i None now out some = absurd (false≢true some)
drain_by sc f w h i (Some e) now out some = entry_goes sc f w h i e now out

pub drain_goes : (sc : Scenario) (f : List ℕ) (w : WorldState) (h : HartNo) (i : ℕ) → IsNow sc f w (events.Drain h i) → Goes sc f w (events.Drain h i)
unfolding enabled
drain_goes sc f w h i now = drain_by sc f w h i (leaving w.machine h.0 i) now refl now.may
