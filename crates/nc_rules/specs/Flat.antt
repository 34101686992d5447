-- Flat memory of a run: the accesses and touches among its records, and what the laws of flat memory say of them.
use Rattle.std.specs.Prelude.{ℕ, Bool, List, [], ◌∷◌, ◌++◌, length, take, replicate, All, is_some}
use Rattle.std.specs.List.{list_any, range_with_len}
use Rattle.nc_num.specs.Memory.{byte}
use Rattle.nc_env.specs.declared.CboOp.{CboOp}
use Rattle.nc_env.specs.declared.CboOp.TheVariants as cbos
use Rattle.nc_queue.specs.Rules.{gives}
use Rattle.nc_model.specs.Flat.{named, named_from, channel_name, TraceItem, Did, Touched, Latest, Untouched, flat, deeds}
use Rattle.nc_model.specs.Kept.{Kept}
use Rattle.nc_model.specs.declared.deeds.Deed.TheVariants.{Read, Write}
use Rattle.nc_model.specs.declared.owners.Grant.{Grant}
use Rattle.nc_scen.specs.Events.{IsThere}
use Rattle.nc_scen.specs.Regions.{slots_of}
use Rattle.nc_scen.specs.declared.events.Event.{Event}
use Rattle.nc_scen.specs.declared.scenario.Scenario.{Scenario}
use Rattle.nc_rules.specs.declared.records.Record.{Record}
use Rattle.nc_rules.specs.declared.records.Record.TheVariants as records
use Rattle.nc_rules.specs.Machine.{MachineState, queue_of}
use Rattle.nc_rules.specs.View as view
use Rattle.nc_rules.specs.Start.{memory}
use Rattle.nc_rules.specs.World.{WorldState, start}
use Rattle.nc_rules.specs.EventTouches.{owner_of}
use Rattle.nc_rules.specs.Next.{next, event_records}
use Rattle.nc_rules.specs.Run.{after}

-- a zero writes zeros over its block of s bytes; the other cache operations are no accesses
abbrev pub cbo_trace : ℕ → CboOp → ℕ → List TraceItem
cbo_trace s cbos.Zero at = Did (Write (named at (replicate s 0))) ∷ []
cbo_trace s cbos.Clean at = []
cbo_trace s cbos.Flush at = []
cbo_trace s cbos.Inval at = []

-- what a record is, where blocks have s bytes and these are the grants: a script's load or a channel's read, a script's
-- store or zero or a channel's write, or a touch. What a plan does, and what drains, are no accesses
abbrev pub record_trace : ℕ → List Grant → Record → List TraceItem
record_trace s grants (records.Touched t) = Touched ∷ []
record_trace s grants (records.Ld h at bytes) = Did (Read (named at.0 bytes)) ∷ []
record_trace s grants (records.St h at bytes) = Did (Write (named at.0 bytes)) ∷ []
record_trace s grants (records.Cbo h op at) = cbo_trace s op at.0
record_trace s grants (records.Cr chan at bytes) = Did (Read (named_from (channel_name grants chan) at.0 bytes)) ∷ []
record_trace s grants (records.Cw chan at bytes) = Did (Write (named_from (channel_name grants chan) at.0 bytes)) ∷ []
record_trace s grants _ = []

abbrev pub records_trace : ℕ → List Grant → List Record → List TraceItem
records_trace s grants [] = []
records_trace s grants (r ∷ rs) = record_trace s grants r ++ records_trace s grants rs

-- what an event does and touches
unfoldable pub event_trace : WorldState → Event → List TraceItem
event_trace w e = records_trace w.machine.size w.grants (event_records w e)

-- and a run
unfoldable pub run_trace : WorldState → List Event → List TraceItem
run_trace w [] = []
run_trace w (e ∷ es) = event_trace w e ++ run_trace (next w e) es

-- each event names what is there
abbrev pub AreThere : Scenario → List Event → Type 0
AreThere sc es = All (IsThere (length sc.harts) sc.block_size sc.ram) es

-- each load and each channel read before the first touch shows flat memory
abbrev pub IsLatest : Scenario → List Event → Type 0
IsLatest sc es = Latest (memory sc) (run_trace (start sc) es)

-- some queue gives the byte
abbrev pub is_given : MachineState → ℕ → Bool
is_given m x = list_any (λ h. is_some (gives m.size (queue_of m h) x)) (range_with_len 0 (length m.harts))

-- flat memory after a run
abbrev pub flat_after : Scenario → List Event → List ℕ
flat_after sc es = flat (memory sc) (deeds (run_trace (start sc) es))

-- where the run had no touch, the bytes of threads, and those that are passed or nobody's, are flat memory's after it, but
-- for those that a queue still has and those of the bounce slots
abbrev pub IsKeptAfter : Scenario → List Event → Type 0
IsKeptAfter sc es =
    Untouched (run_trace (start sc) es)
    → Kept sc.ram (slots_of sc) (owner_of (after (start sc) es)) (is_given (after (start sc) es).machine) (view.middle (after (start sc) es).machine) (byte (flat_after sc es))

-- the same after each prefix of the events, the whole of them too
abbrev pub IsKept : Scenario → List Event → Type 0
IsKept sc es = (n : ℕ) → IsKeptAfter sc (take n es)
