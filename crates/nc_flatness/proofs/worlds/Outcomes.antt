-- An event by its outcome: a touch comes first, or the machine or a driver goes on, and the bytes of flat memory stand
-- behind it.
use Rattle.std.proofs.Common.{◌≡◌, ℕ, Bool, true, false, List, [], ◌∷◌, ◌++◌, refl, sym, ap, ◌∙◌, inl, inr, subst, Option, Some, None}
use Rattle.std.specs.Prelude.{if◌then◌else◌, slice_set}
use Rattle.std.proofs.lemmas.Bool.{false≢true}
use Rattle.nc_num.specs.declared.names.HartNo.{HartNo}
use Rattle.nc_model.specs.Flat.{TraceItem, flat, deeds}
use Rattle.nc_model.specs.declared.touches.Touch.{Touch}
use Rattle.nc_scen.specs.declared.events.Event.{Event}
use Rattle.nc_scen.specs.declared.scenario.Scenario.{Scenario}
use Rattle.nc_rules.specs.declared.records.Record.{Record}
use Rattle.nc_rules.specs.declared.records.Record.TheVariants as records
use Rattle.nc_rules.specs.Machine.{MachineState}
use Rattle.nc_rules.specs.Driver.{Went}
use Rattle.nc_rules.specs.Events.{enabled}
use Rattle.nc_rules.specs.Flat.{records_trace, event_trace}
use Rattle.nc_rules.specs.Next.{after_outcome, performed, counted, next, event_records}
use Rattle.nc_rules.specs.Outcomes.{Outcome, goes, runs, outcome}
use Rattle.nc_rules.specs.Records.{moves_records}
use Rattle.nc_rules.specs.World.{WorldState, driver_of, owners_moved}
use Rattle.nc_flatness.specs.Flatness.{BytesStand}
use Rattle.nc_flatness.specs.Steps.{GoesTo, EventGoes, Goes}
use Rattle.nc_flatness.proofs.plans.Copies.{copy_as}
use Rattle.nc_flatness.proofs.worlds.Trace.{append_none, trace-append, moves_silent}

-- the world behind a machine that goes on alone
abbrev pub ran : WorldState → MachineState → WorldState
ran w machine = record w { machine = machine }

-- and behind a driver that goes on: what it moves beside owners is of no row
abbrev pub gone : WorldState → HartNo → MachineState → Went → WorldState
gone w h machine went = record w { machine = machine; drivers = slice_set w.drivers h.0 went.driver; owners = owners_moved w.owners went.moves.transfers }

-- the bytes stand by machine, drivers and owners alone
pub stand_as : (sc : Scenario) (f : List ℕ) (w v : WorldState) → BytesStand sc f (record v { machine = w.machine; drivers = w.drivers; owners = w.owners }) → BytesStand sc f w
stand_as sc f w v s = record {
  flat_size = s.flat_size;
  drives = s.drives;
  placed = s.placed;
  pooled = s.pooled;
  slotted = s.slotted;
  rows = s.rows;
  calm = s.calm;
  queued = s.queued;
  unfenced = s.unfenced;
  uncached = s.uncached;
  lasts = s.lasts;
  tokens = s.tokens;
  copying = λ h lt. copy_as sc f w v h (s.copying h lt);
}

goes_as : (sc : Scenario) (f : List ℕ) (ms : List TraceItem) (w v : WorldState) → GoesTo sc f ms (record v { machine = w.machine; drivers = w.drivers; owners = w.owners }) → GoesTo sc f ms w
goes_as sc f ms w v g = record { untouched = g.untouched; latest = g.latest; bytes = stand_as sc (flat f (deeds ms)) w v g.bytes }

-- no access, and the bytes stand as they did
pub goes_silent : (sc : Scenario) (f : List ℕ) (ms : List TraceItem) (w : WorldState) → ms ≡ [] → BytesStand sc f w → GoesTo sc f ms w
goes_silent sc f ms w none s = subst (λ (k : List TraceItem). GoesTo sc f k w) (sym none) (record { untouched = tt; latest = tt; bytes = s })

-- ---- an outcome

abbrev pub Follows : Scenario → List ℕ → WorldState → Outcome → Type 0
Follows sc f w o = EventGoes sc f (records_trace w.machine.size w.grants o.records) (after_outcome w o)

runs_by : (sc : Scenario) (f : List ℕ) (w : WorldState) (machine : MachineState) (touch : Option Touch) (rs : List Record) → (touch ≡ None → GoesTo sc f (records_trace w.machine.size w.grants rs) (ran w machine))
    → Follows sc f w (runs w machine touch rs)
runs_by sc f w machine (Some t) rs on = inl (record { rest = records_trace w.machine.size w.grants rs; first = refl })
runs_by sc f w machine None rs on = inr (goes_as sc f (records_trace w.machine.size w.grants rs) (after_outcome w (runs w machine None rs)) (ran w machine) (on refl))

goes_by : (sc : Scenario) (f : List ℕ) (w : WorldState) (h : HartNo) (machine : MachineState) (went : Went) (slots : List (Option HartNo)) (touch : Option Touch) (rs : List Record)
    → (touch ≡ None → GoesTo sc f (records_trace w.machine.size w.grants rs) (gone w h machine went)) → Follows sc f w (goes w h machine went slots touch rs)
goes_by sc f w h machine went slots (Some t) rs on = inl (record {
  rest = records_trace w.machine.size w.grants (rs ++ moves_records h (driver_of w h.0).op went.moves);
  first = refl;
})
goes_by sc f w h machine went slots None rs on =
    let moves = moves_records h (driver_of w h.0).op went.moves in
    let same : records_trace w.machine.size w.grants (rs ++ moves) ≡ records_trace w.machine.size w.grants rs =
    trace-append w.machine.size w.grants rs moves
    ∙ ap (λ (ms : List TraceItem). records_trace w.machine.size w.grants rs ++ ms) (moves_silent w.machine.size w.grants h (driver_of w h.0).op went.moves) ∙ append_none (records_trace w.machine.size w.grants rs) in
    let world = after_outcome w (goes w h machine went slots None rs) in
    inr (subst (λ (ms : List TraceItem). GoesTo sc f ms world) (sym same) (goes_as sc f (records_trace w.machine.size w.grants rs) world (gone w h machine went) (on refl)))

-- ---- an event that may happen

counted_goes : (sc : Scenario) (f : List ℕ) (ms : List TraceItem) (w : WorldState) → EventGoes sc f ms w → EventGoes sc f ms (counted w)
counted_goes sc f ms w (inl touch) = inl touch
counted_goes sc f ms w (inr g) = inr (goes_as sc f ms (counted w) w g)

event_by : (sc : Scenario) (f : List ℕ) (w : WorldState) (e : Event) (t : Bool) → t ≡ true → Follows sc f w (outcome w e)
    → EventGoes sc f (records_trace w.machine.size w.grants (if t then records.Event e ∷ (outcome w e).records else [])) (if t then counted (performed w e) else w)
unfolding performed
event_by sc f w e true on follows = counted_goes sc f (records_trace w.machine.size w.grants (outcome w e).records) (after_outcome w (outcome w e)) follows
event_by sc f w e false on follows = absurd (false≢true on)

pub event_follows : (sc : Scenario) (f : List ℕ) (w : WorldState) (e : Event) → enabled w e ≡ true → Follows sc f w (outcome w e) → Goes sc f w e
unfolding event_trace event_records next
event_follows sc f w e may follows = event_by sc f w e (enabled w e) may follows

-- the machine goes on alone
pub runs_go : (sc : Scenario) (f : List ℕ) (w : WorldState) (e : Event) (machine : MachineState) (touch : Option Touch) (rs : List Record) → enabled w e ≡ true → outcome w e ≡ runs w machine touch rs
    → (touch ≡ None → GoesTo sc f (records_trace w.machine.size w.grants rs) (ran w machine)) → Goes sc f w e
runs_go sc f w e machine touch rs may is on =
    event_follows sc f w e may (subst (λ (o : Outcome). Follows sc f w o) (sym is) (runs_by sc f w machine touch rs on))

-- hart h's driver goes on
pub goes_go : (sc : Scenario) (f : List ℕ) (w : WorldState) (e : Event) (h : HartNo) (machine : MachineState) (went : Went) (slots : List (Option HartNo)) (touch : Option Touch) (rs : List Record) → enabled w e ≡ true → outcome w e ≡ goes w h machine went slots touch rs
    → (touch ≡ None → GoesTo sc f (records_trace w.machine.size w.grants rs) (gone w h machine went)) → Goes sc f w e
goes_go sc f w e h machine went slots touch rs may is on =
    event_follows sc f w e may (subst (λ (o : Outcome). Follows sc f w o) (sym is) (goes_by sc f w h machine went slots touch rs on))
