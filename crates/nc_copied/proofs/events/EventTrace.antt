-- The trace of an event that may happen, and a byte of flat memory that it leaves.
use Rattle.std.specs.Prelude.{Option, Some, None, Bool, true, false, if◌then◌else◌}
use Rattle.std.proofs.Common.{◌≡◌, ℕ, List, [], ◌∷◌, ◌++◌, refl, sym, ap, ◌∙◌}
use Rattle.std.proofs.lemmas.Bool.{false≢true}
use Rattle.nc_num.specs.Memory.{byte}
use Rattle.nc_num.specs.declared.names.HartNo.{HartNo}
use Rattle.nc_model.specs.Flat.{TraceItem, Untouched, flat, deeds}
use Rattle.nc_model.specs.declared.owners.Grant.{Grant}
use Rattle.nc_model.specs.declared.touches.Touch.{Touch}
use Rattle.nc_scen.specs.declared.events.Event.{Event}
use Rattle.nc_rules.specs.declared.records.Record.{Record}
use Rattle.nc_rules.specs.declared.records.Record.TheVariants as records
use Rattle.nc_rules.specs.Driver.{Went}
use Rattle.nc_rules.specs.Events.{enabled}
use Rattle.nc_rules.specs.Flat.{records_trace, event_trace}
use Rattle.nc_rules.specs.Machine.{MachineState}
use Rattle.nc_rules.specs.Next.{event_records}
use Rattle.nc_rules.specs.Outcomes.{goes, runs, outcome}
use Rattle.nc_rules.specs.Records.{moves_records}
use Rattle.nc_rules.specs.World.{WorldState, driver_of}
use Rattle.nc_flatness.proofs.worlds.Trace.{append_none, trace-append, moves_silent}

-- the byte of flat memory at a place stays
abbrev pub Leaves : List ℕ → List TraceItem → ℕ → Type 0
Leaves f ms x = byte (flat f (deeds ms)) x ≡ byte f x

pub leaves_as : (f : List ℕ) (ms ns : List TraceItem) (x : ℕ) → ms ≡ ns → Leaves f ns x → Leaves f ms x
leaves_as f ms ns x same left = ap (λ (k : List TraceItem). byte (flat f (deeds k)) x) same ∙ left

-- ---- an event that may happen, and one that may not

trace_by : (w : WorldState) (e : Event) (t : Bool) → t ≡ true → records_trace w.machine.size w.grants (if t then records.Event e ∷ (outcome w e).records else []) ≡ records_trace w.machine.size w.grants (outcome w e).records
trace_by w e true may = refl
trace_by w e false may = absurd (false≢true may)

pub trace_on : (w : WorldState) (e : Event) → enabled w e ≡ true → event_trace w e ≡ records_trace w.machine.size w.grants (outcome w e).records
unfolding event_trace event_records
trace_on w e may = trace_by w e (enabled w e) may

none_by : (w : WorldState) (e : Event) (t : Bool) → t ≡ false → records_trace w.machine.size w.grants (if t then records.Event e ∷ (outcome w e).records else []) ≡ []
none_by w e true off = absurd (false≢true (sym off))
none_by w e false off = refl

pub trace_off : (w : WorldState) (e : Event) → enabled w e ≡ false → event_trace w e ≡ []
unfolding event_trace event_records
trace_off w e off = none_by w e (enabled w e) off

-- ---- an outcome

-- the trace of a driver that goes on, where it has no touch
pub record IsPlainTrace (ms ns : List TraceItem) (touch : Option Touch) : Type 0 where
  pub none : touch ≡ None
  pub same : ms ≡ ns

pub goes_trace : (w : WorldState) (s : ℕ) (grants : List Grant) (h : HartNo) (machine : MachineState) (went : Went) (slots : List (Option HartNo)) (touch : Option Touch) (rs : List Record) → Untouched (records_trace s grants (goes w h machine went slots touch rs).records)
    → IsPlainTrace (records_trace s grants (goes w h machine went slots touch rs).records) (records_trace s grants rs) touch
goes_trace w s grants h machine went slots (Some t) rs untouched = absurd untouched
goes_trace w s grants h machine went slots None rs untouched =
    let moves = moves_records h (driver_of w h.0).op went.moves in
    record {
      none = refl;
      same = trace-append s grants rs moves ∙ ap (λ (ms : List TraceItem). records_trace s grants rs ++ ms) (moves_silent s grants h (driver_of w h.0).op went.moves) ∙ append_none (records_trace s grants rs);
    }

pub runs_trace : (w : WorldState) (s : ℕ) (grants : List Grant) (machine : MachineState) (touch : Option Touch) (rs : List Record) → Untouched (records_trace s grants (runs w machine touch rs).records) → IsPlainTrace (records_trace s grants (runs w machine touch rs).records) (records_trace s grants rs) touch
runs_trace w s grants machine (Some t) rs untouched = absurd untouched
runs_trace w s grants machine None rs untouched = record { none = refl; same = refl }
