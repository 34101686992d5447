-- Which events may happen. This project's own.
use Rattle.std.specs.Prelude.{ℕ, ◌&&◌, ◌||◌, not, Bool, true, false, Option, Some, None, is_some}
use Rattle.nc_num.specs.declared.names.HartNo.{HartNo}
use Rattle.nc_num.specs.declared.names.Label.{Label}
use Rattle.nc_cache.specs.Cache.{line_at, held_by}
use Rattle.nc_pdma_regs.specs.Control.{bit}
use Rattle.nc_pdma.specs.declared.channel.ChanStep.{ChanStep}
use Rattle.nc_pdma.specs.declared.channel.ChanStep.TheVariants.{Idle, Moved, Error}
use Rattle.nc_scen.specs.declared.events.Event.{Event}
use Rattle.nc_scen.specs.declared.events.Event.TheVariants as events
use Rattle.nc_rules.specs.declared.steps.Next.{Next}
use Rattle.nc_rules.specs.declared.steps.Next.TheVariants as nexts
use Rattle.nc_rules.specs.Calls.{may_issue, io_waits, may_take, control_of, lends, leaving, may_fill, chan_read_step, chan_write_step}
use Rattle.nc_rules.specs.Machine.{MachineState}
use Rattle.nc_rules.specs.Driver.{next_of, searching, waits_for}
use Rattle.nc_rules.specs.World.{WorldState, driver_of}

-- bit 30 or bit 31 of Control is set: done or error
abbrev pub is_over : ℕ → Bool
is_over control = bit control 30 || bit control 31

-- a driver's next step may be made: an operation that its hart may issue; a claim, a poll and a take wait until no
-- entry of class O is queued, a poll until the transfer is over, and a take until the buffer's message is there
abbrev pub may_go_on : WorldState → HartNo → Next → Bool
may_go_on w h nexts.End = false
may_go_on w h nexts.Start = true
may_go_on w h (nexts.Search k) = false
may_go_on w h (nexts.Op op) = may_issue w.machine h.0 op
may_go_on w h (nexts.Claim chan) = not (io_waits w.machine h.0)
may_go_on w h (nexts.Poll chan) = not (io_waits w.machine h.0) && is_over (control_of w.machine chan.0)
may_go_on w h (nexts.Take buf) = not (io_waits w.machine h.0) && may_take w.machine h.0 buf

abbrev pub is_idle_step : ChanStep → Bool
is_idle_step Idle = true
is_idle_step (Moved span bytes done) = false
is_idle_step (Error bus len) = false

-- with light fences a driver waits until the token of a label that its next operation names is out of its queue
abbrev pub is_out : MachineState → HartNo → Option Label → Bool
is_out m h None = true
is_out m h (Some label) = not (lends m h.0 label.0)

abbrev pub may_issue_step : WorldState → HartNo → Bool
may_issue_step w h = is_out w.machine h (waits_for (driver_of w h.0)) && may_go_on w h (next_of (driver_of w h.0))

-- an event that may happen: any other changes nothing, and is skipped
unfoldable pub enabled : WorldState → Event → Bool
enabled w (events.Issue h) = may_issue_step w h
enabled w (events.Try h) = is_some (searching (driver_of w h.0))
enabled w (events.Told h got) = is_some (searching (driver_of w h.0))
enabled w (events.Drain h i) = is_some (leaving w.machine h.0 i)
enabled w (events.Fill h b) = may_fill w.machine h.0 b.0
enabled w (events.Evict h b) = held_by (line_at w.machine.cache b.0) h.0
enabled w (events.ChanRead chan) = not (is_idle_step (chan_read_step w.machine chan.0))
enabled w (events.ChanWrite chan) = not (is_idle_step (chan_write_step w.machine chan.0))
