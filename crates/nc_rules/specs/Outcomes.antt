-- What an event does that may happen: one value, of which the state after it and its records are made. This project's
-- own.
use Rattle.std.specs.Prelude.{ℕ, Bool, true, false, List, [], ◌++◌, Option, Some, None, is_none, slice_set}
use Rattle.nc_num.specs.declared.names.ChanNo.{ChanNo}
use Rattle.nc_num.specs.declared.names.HartNo.{HartNo}
use Rattle.nc_queue.specs.declared.entry.Entry.{Entry}
use Rattle.nc_queue.specs.declared.entry.Entry.TheVariants as entries
use Rattle.nc_plan.specs.declared.ops.HartOp.{HartOp}
use Rattle.nc_slots.specs.SlotWords.{holder_of, tried}
use Rattle.nc_model.specs.declared.owners.Access.TheVariants.{Read, Write}
use Rattle.nc_model.specs.declared.touches.Touch.{Touch}
use Rattle.nc_scen.specs.declared.events.Event.{Event}
use Rattle.nc_scen.specs.declared.events.Event.TheVariants as events
use Rattle.nc_rules.specs.declared.answers.Issued.{Issued}
use Rattle.nc_rules.specs.declared.answers.Issued.TheVariants as issued
use Rattle.nc_rules.specs.declared.records.Record.{Record}
use Rattle.nc_rules.specs.declared.steps.Next.{Next}
use Rattle.nc_rules.specs.declared.steps.Next.TheVariants as nexts
use Rattle.nc_rules.specs.declared.steps.Seen.{Seen}
use Rattle.nc_rules.specs.declared.steps.Seen.TheVariants as seen
use Rattle.nc_rules.specs.Machine.{MachineState, grantee_of}
use Rattle.nc_rules.specs.Calls.{issue_next, issue_answer, leaving, drain_next, fill_next, fill_answer, evict_next, evict_answer, chan_read_next, chan_read_step, chan_write_next, chan_write_step, control_of, claim_next, take_next}
use Rattle.nc_rules.specs.Turns.{Moved, moved}
use Rattle.nc_rules.specs.Driver.{DriverState, Went, next_of, searching, is_script, started, told, done, lent}
use Rattle.nc_rules.specs.World.{WorldState, driver_of}
use Rattle.nc_rules.specs.EventTouches.{issue_touch, poll_touch, drain_touch, transaction_touch}
use Rattle.nc_rules.specs.Records.{touch_records, op_records, drain_records, answer_records, read_records, write_records, try_records, told_records, moves_records}

pub record Outcome : Type 0 where
  -- the machine, the drivers and the slot words after it, before the moves
  pub machine : MachineState
  pub drivers : List DriverState
  pub slots : List (Option HartNo)
  -- what it moves
  pub moves : Moved
  -- the touch that it is
  pub touch : Option Touch
  -- what it records behind its own line
  pub records : List Record

-- a driver goes on: this is the machine after it, this the driver with its moves, these are the slot words, the touch,
-- and the records of what the machine and the slot words did
abbrev pub goes : WorldState → HartNo → MachineState → Went → List (Option HartNo) → Option Touch → List Record → Outcome
goes w h machine went slots touch records = record {
  machine = machine;
  drivers = slice_set w.drivers h.0 went.driver;
  slots = slots;
  moves = went.moves;
  touch = touch;
  records = touch_records touch ++ records ++ moves_records h (driver_of w h.0).op went.moves;
}

-- the machine alone goes on
abbrev pub runs : WorldState → MachineState → Option Touch → List Record → Outcome
runs w machine touch records = record {
  machine = machine;
  drivers = w.drivers;
  slots = w.slots;
  moves = moved [] None;
  touch = touch;
  records = touch_records touch ++ records;
}

-- nothing happens
abbrev pub nothing : WorldState → Outcome
nothing w = runs w w.machine None []

-- ---- a driver's step

-- a load of a register shows its value
abbrev pub seen_of : Issued → Seen
seen_of (issued.Value value) = seen.Value value
seen_of (issued.Loaded bytes bus) = seen.Nothing
seen_of issued.Queued = seen.Nothing
seen_of issued.Passed = seen.Nothing

abbrev pub claim_seen : Option HartNo → Seen
claim_seen None = seen.Claimed
claim_seen (Some g) = seen.Busy g

-- a start step, or the refusal of a step
unfoldable pub start_outcome : WorldState → HartNo → Outcome
start_outcome w h = goes w h w.machine (started (driver_of w h.0) w.owners w.pages) w.slots None []

-- an operation of the hart, of its script or of a plan
unfoldable pub op_outcome : WorldState → HartNo → HartOp → Outcome
op_outcome w h op =
    goes w h (issue_next w.machine h.0 op) (done (driver_of w h.0) (seen_of (issue_answer w.machine h.0 op))) w.slots (issue_touch w h (is_script (driver_of w h.0).phase) op) (op_records w.machine h (is_script (driver_of w h.0).phase) op)

unfoldable pub claim_outcome : WorldState → HartNo → ChanNo → Outcome
claim_outcome w h chan =
    goes w h (claim_next w.machine h chan.0) (done (driver_of w h.0) (claim_seen (grantee_of w.machine chan.0))) w.slots None []

unfoldable pub poll_outcome : WorldState → HartNo → ChanNo → Outcome
poll_outcome w h chan =
    goes w h w.machine (done (driver_of w h.0) (seen.Control (control_of w.machine chan.0))) w.slots (poll_touch w h chan) []

unfoldable pub take_outcome : WorldState → HartNo → ℕ → Outcome
take_outcome w h buf = goes w h (take_next w.machine h.0 buf) (done (driver_of w h.0) seen.Nothing) w.slots None []

-- the step of hart h's driver, by its kind; one that is at its end or at a slot search makes none
unfoldable pub step_outcome : WorldState → HartNo → Next → Outcome
step_outcome w h nexts.End = nothing w
step_outcome w h (nexts.Search k) = nothing w
step_outcome w h nexts.Start = start_outcome w h
step_outcome w h (nexts.Op op) = op_outcome w h op
step_outcome w h (nexts.Claim chan) = claim_outcome w h chan
step_outcome w h (nexts.Poll chan) = poll_outcome w h chan
step_outcome w h (nexts.Take buf) = take_outcome w h buf

-- ---- a slot search

-- a try takes the word where it is free
unfoldable pub try_outcome : WorldState → HartNo → ℕ → Outcome
try_outcome w h k =
    goes w h w.machine (told (driver_of w h.0) (is_none (holder_of w.slots k))) (tried w.slots h k) None (try_records h k (holder_of w.slots k))

-- a told answer: the word is taken where it was told as got and is free
abbrev pub got_word : Bool → Option HartNo → Bool
got_word true holder = is_none holder
got_word false holder = false

abbrev pub told_slots : Bool → List (Option HartNo) → HartNo → ℕ → List (Option HartNo)
told_slots true slots h k = tried slots h k
told_slots false slots h k = slots

unfoldable pub told_outcome : WorldState → HartNo → Bool → ℕ → Outcome
told_outcome w h got k =
    goes w h w.machine (told (driver_of w h.0) (got_word got (holder_of w.slots k))) (told_slots got w.slots h k) None (told_records h k got (holder_of w.slots k))

abbrev pub at_word : WorldState → (ℕ → Outcome) → Option ℕ → Outcome
at_word w f None = nothing w
at_word w f (Some k) = f k

-- ---- a drain

-- an entry leaves hart h's queue: with a token a lot is the device's, and with any other the machine alone goes on
abbrev pub leaves : WorldState → HartNo → MachineState → Option Touch → List Record → Entry → Outcome
leaves w h machine touch records (entries.Lend label first count) = goes w h machine (lent (driver_of w h.0) label first) w.slots touch records
leaves w h machine touch records (entries.Store span bytes kind) = runs w machine touch records
leaves w h machine touch records (entries.Cbo block op) = runs w machine touch records
leaves w h machine touch records (entries.Reg chan off width value) = runs w machine touch records
leaves w h machine touch records (entries.Mail buf to) = runs w machine touch records
leaves w h machine touch records (entries.Mark pred succ) = runs w machine touch records

unfoldable pub drain_outcome : WorldState → HartNo → ℕ → Option Entry → Outcome
drain_outcome w h i None = nothing w
drain_outcome w h i (Some e) = leaves w h (drain_next w.machine h.0 i) (drain_touch w h e) (drain_records w.machine h e) e

-- ---- all events

unfoldable pub outcome : WorldState → Event → Outcome
outcome w (events.Issue h) = step_outcome w h (next_of (driver_of w h.0))
outcome w (events.Try h) = at_word w (try_outcome w h) (searching (driver_of w h.0))
outcome w (events.Told h got) = at_word w (told_outcome w h got) (searching (driver_of w h.0))
outcome w (events.Drain h i) = drain_outcome w h i (leaving w.machine h.0 i)
outcome w (events.Fill h b) = runs w (fill_next w.machine h.0 b.0) None (answer_records w.machine.size (fill_answer w.machine h.0 b.0))
outcome w (events.Evict h b) = runs w (evict_next w.machine h.0 b.0) None (answer_records w.machine.size (evict_answer w.machine h.0 b.0))
outcome w (events.ChanRead chan) =
    runs w (chan_read_next w.machine chan.0) (transaction_touch w chan Read (chan_read_step w.machine chan.0)) (read_records chan (chan_read_step w.machine chan.0))
outcome w (events.ChanWrite chan) =
    runs w (chan_write_next w.machine chan.0) (transaction_touch w chan Write (chan_write_step w.machine chan.0)) (write_records chan (chan_write_step w.machine chan.0))
