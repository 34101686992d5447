-- What an answer that a copy is done tells: by its poll the source's bytes had come to the destination. This project's
-- own.
use Rattle.std.specs.Prelude.{ℕ, ◌≡◌, ◌+◌, ◌<◌, true, List, [], ◌∷◌, ◌++◌, map, Option, Some, slice_get, slice_index_or}
use Rattle.nc_num.specs.Memory.{byte}
use Rattle.nc_num.specs.declared.bytes.Bytes.{Bytes}
use Rattle.nc_num.specs.declared.names.ChanNo.{ChanNo}
use Rattle.nc_num.specs.declared.names.HartNo.{HartNo}
use Rattle.nc_num.specs.declared.places.Place.{Place}
use Rattle.nc_plan.specs.Plans.{In}
use Rattle.nc_model.specs.Flat.{Untouched}
use Rattle.nc_model.specs.Kept.{Copied}
use Rattle.nc_ops.specs.declared.ops.Op.{Op}
use Rattle.nc_ops.specs.declared.ops.Op.TheVariants.{Copy}
use Rattle.nc_scen.specs.declared.events.Event.{Event}
use Rattle.nc_scen.specs.declared.events.Event.TheVariants.{Issue}
use Rattle.nc_scen.specs.declared.scenario.Scenario.{Scenario}
use Rattle.nc_rules.specs.declared.answers.Answer.{Answer}
use Rattle.nc_rules.specs.declared.answers.Answer.TheVariants.{CopyDone, CopyFailed}
use Rattle.nc_rules.specs.declared.records.Record.TheVariants as records
use Rattle.nc_rules.specs.declared.steps.Next.TheVariants.{Poll}
use Rattle.nc_rules.specs.Driver.{next_of}
use Rattle.nc_rules.specs.Events.{enabled}
use Rattle.nc_rules.specs.Flat.{run_trace, flat_after}
use Rattle.nc_rules.specs.Next.{event_records}
use Rattle.nc_rules.specs.Run as run
use Rattle.nc_rules.specs.Start.{hart_spec}
use Rattle.nc_rules.specs.View.{view}
use Rattle.nc_rules.specs.World.{driver_of, start}

-- the operation of a hart's script with this number
abbrev pub op_at : Scenario → HartNo → ℕ → Option Op
op_at sc h n = slice_get (hart_spec sc h.0).script n

-- the place of an offset in a buffer
abbrev pub place_in : Scenario → ℕ → ℕ → ℕ
place_in sc buf off = (slice_index_or (map (λ b. b.span) sc.buffers) buf (record { at = 0; len = 0 })).at + off

-- the prefix of a run ends with the poll of that operation of the hart, which saw the channel done
pub record IsPolled (sc : Scenario) (prefix : List Event) (h : HartNo) (n : ℕ) (chan : ChanNo) : Type 0 where
  pub before : List Event
  pub is : prefix ≡ before ++ Issue h ∷ []
  pub may : enabled (run.after (start sc) before) (Issue h) ≡ true
  pub op : (driver_of (run.after (start sc) before) h.0).op ≡ n
  pub polls : next_of (driver_of (run.after (start sc) before) h.0) ≡ Poll chan

-- the channel writes nothing in the events behind that prefix
abbrev pub WritesNone : Scenario → List Event → List Event → ChanNo → Type 0
WritesNone sc prefix behind chan = (at : Place) (bytes : Bytes) → In (records.Cw chan at bytes) (run.records (run.after (start sc) prefix) behind) → ⊥

-- in the run to the answer that a copy of len bytes from place s to place t was done: with the poll the destination has
-- the source's bytes in flat memory; at the answer the hart sees flat memory in the destination; and if the channel wrote
-- nothing in between, the destination still has the source's bytes then
pub record IsDone (sc : Scenario) (es : List Event) (h : HartNo) (n : ℕ) (chan : ChanNo) (len s t : ℕ) : Type 0 where
  pub prefix : List Event
  pub behind : List Event
  pub is : es ≡ prefix ++ behind
  pub polled : IsPolled sc prefix h n chan
  pub left : (i : ℕ) → i < len → byte (flat_after sc prefix) (t + i) ≡ byte (flat_after sc prefix) (s + i)
  pub seen : (i : ℕ) → i < len → view (run.after (start sc) es).machine h.0 (t + i) ≡ byte (flat_after sc es) (t + i)
  pub stays : WritesNone sc prefix behind chan → Copied len s t (view (run.after (start sc) es).machine h.0) (byte (flat_after sc es))

-- what an answer tells of the run to its event; a copy does not fail
abbrev pub TellsCopied : Scenario → List Event → HartNo → ℕ → Answer → Type 0
TellsCopied sc es h n CopyDone = (chan : ChanNo) (src src_off dst dst_off len cfg : ℕ) → op_at sc h n ≡ Some (Copy chan src src_off dst dst_off len cfg) → IsDone sc es h n chan len (place_in sc src src_off) (place_in sc dst dst_off)
TellsCopied sc es h n (CopyFailed control) = ⊥
TellsCopied sc es h n _ = Unit {0}

-- so does each answer before the first touch
abbrev pub IsEachCopied : Scenario → List Event → Type 0
IsEachCopied sc es =
    (before behind : List Event) (e : Event) (h : HartNo) (n : ℕ) (a : Answer) → es ≡ before ++ e ∷ behind → Untouched (run_trace (start sc) (before ++ e ∷ []))
    → In (records.Ans h n a) (event_records (run.after (start sc) before) e) → TellsCopied sc (before ++ e ∷ []) h n a
