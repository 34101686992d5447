-- What is looked up in a world, beside the definitions of nc_rules.
use Rattle.std.specs.Prelude.{ℕ, ◌+◌, ◌<◌, ◌≤◌, ◌==◌, ◌&&◌, Bool, true, false, List, length, Option, Some, None}
use Rattle.std.specs.List.{list_all}
use Rattle.nc_num.specs.declared.names.ChanNo.{ChanNo}
use Rattle.nc_num.specs.declared.places.Span.{Span}
use Rattle.nc_model.specs.declared.touches.Touch.{Touch}
use Rattle.nc_model.specs.declared.owners.Access.{Access}
use Rattle.nc_model.specs.declared.owners.Access.TheVariants.{Read, Write}
use Rattle.nc_model.specs.declared.owners.Grant.{Grant}
use Rattle.nc_model.specs.declared.owners.Owner.{Owner}
use Rattle.nc_model.specs.Touches.{channel_touch}
use Rattle.nc_own.specs.Books.{owner_in}
use Rattle.nc_pdma.specs.declared.channel.ChanStep.{ChanStep}
use Rattle.nc_pdma.specs.declared.channel.ChanStep.TheVariants.{Idle, Moved, Error}
use Rattle.nc_queue.specs.declared.entry.Entry.{Entry}
use Rattle.nc_queue.specs.declared.entry.Entry.TheVariants as entries
use Rattle.nc_scen.specs.declared.events.Event.{Event}
use Rattle.nc_scen.specs.declared.events.Event.TheVariants as events
use Rattle.nc_rules.specs.declared.records.Record.{Record}
use Rattle.nc_rules.specs.Calls.{chan_read_next, chan_read_step, chan_write_next, chan_write_step}
use Rattle.nc_rules.specs.Lines.{at_end}
use Rattle.nc_rules.specs.Machine.{MachineState}
use Rattle.nc_rules.specs.Records.{read_records, write_records}
use Rattle.nc_rules.specs.World.{WorldState, one_more}

-- every script is at its end, and every store queue is empty
abbrev pub is_ended : WorldState → Bool
is_ended w = at_end w && list_all (λ h. length h.queue.entries == 0) w.machine.harts

-- a token of a lot
abbrev pub is_token : Entry → Bool
is_token (entries.Lend label first count) = true
is_token (entries.Store span bytes kind) = false
is_token (entries.Cbo block op) = false
is_token (entries.Reg chan off width value) = false
is_token (entries.Mail buf to) = false
is_token (entries.Mark pred succ) = false

-- ---- channels

-- what a channel does by an access: the event, the step, the machine after it, and the records
abbrev pub transaction : ChanNo → Access → Event
transaction chan Read = events.ChanRead chan
transaction chan Write = events.ChanWrite chan

abbrev pub chan_step : MachineState → ℕ → Access → ChanStep
chan_step m c Read = chan_read_step m c
chan_step m c Write = chan_write_step m c

abbrev pub chan_next : MachineState → ℕ → Access → MachineState
chan_next m c Read = chan_read_next m c
chan_next m c Write = chan_write_next m c

abbrev pub chan_records : ChanNo → Access → ChanStep → List Record
chan_records chan Read t = read_records chan t
chan_records chan Write t = write_records chan t

-- one more touch, where there is one
abbrev pub touches_after : ℕ → Option Touch → ℕ
touches_after n None = n
touches_after n (Some t) = one_more n

-- a channel's transaction, over these owners and grants
abbrev pub transaction_touch_in : List Owner → List Grant → ChanNo → Access → ChanStep → Option Touch
transaction_touch_in owners grants chan access (Moved span bytes done) = channel_touch (owner_in owners) grants chan access span
transaction_touch_in owners grants chan access Idle = None
transaction_touch_in owners grants chan access (Error bus len) = None

-- some bytes of a RAM of this size
pub record IsSome (ram : ℕ) (span : Span) : Type 0 where
  pub some : 0 < span.len
  pub inside : span.at + span.len ≤ ram

abbrev pub IsTransactionIn : ℕ → ChanStep → Type 0
IsTransactionIn ram (Moved span bytes done) = IsSome ram span
IsTransactionIn ram Idle = Unit {0}
IsTransactionIn ram (Error bus len) = Unit {0}
