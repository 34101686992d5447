-- Which accesses of a world's event are touches: the definitions of nc_model, over the owners and grants as they are
-- before the event. This project's own.
use Rattle.std.specs.Prelude.{ℕ, ◌*◌, Bool, if◌then◌else◌, Option, Some, None}
use Rattle.nc_num.specs.declared.names.ChanNo.{ChanNo}
use Rattle.nc_num.specs.declared.names.HartNo.{HartNo}
use Rattle.nc_num.specs.declared.places.Span.{Span}
use Rattle.nc_env.specs.declared.CboOp.{CboOp}
use Rattle.nc_env.specs.declared.CboOp.TheVariants as cbos
use Rattle.nc_queue.specs.declared.entry.Entry.{Entry}
use Rattle.nc_queue.specs.declared.entry.Entry.TheVariants as entries
use Rattle.nc_plan.specs.declared.ops.HartOp.{HartOp}
use Rattle.nc_plan.specs.declared.ops.HartOp.TheVariants.{Load, Store, Cbo, Fence, IoLoad, IoStore, Mark}
use Rattle.nc_pdma.specs.declared.channel.ChanStep.{ChanStep}
use Rattle.nc_pdma.specs.declared.channel.ChanStep.TheVariants.{Idle, Moved, Error}
use Rattle.nc_model.specs.Touches.{piece_touch, discard_touch, zero_touch, register_touch, channel_touch}
use Rattle.nc_model.specs.declared.owners.Access.{Access}
use Rattle.nc_model.specs.declared.owners.Access.TheVariants.{Read, Write}
use Rattle.nc_model.specs.declared.owners.Owner.{Owner}
use Rattle.nc_model.specs.declared.touches.Touch.{Touch}
use Rattle.nc_own.specs.Books.{owner_in}
use Rattle.nc_rules.specs.Machine.{grantee_of}
use Rattle.nc_rules.specs.World.{WorldState}

abbrev pub owner_of : WorldState → ℕ → Owner
owner_of w x = owner_in w.owners x

-- the bytes of a block
abbrev pub block_span : ℕ → ℕ → Span
block_span size b = record { at = size * b; len = size }

-- an access to a register, by its offset and width
abbrev pub register_touch_by : WorldState → HartNo → ChanNo → ℕ → ℕ → Option Touch
register_touch_by w h chan off width = register_touch h chan off width (grantee_of w.machine chan.0)

-- a script's cache operation, by its effect
abbrev pub cbo_touch : WorldState → HartNo → CboOp → ℕ → Option Touch
cbo_touch w h cbos.Clean b = None
cbo_touch w h cbos.Flush b = None
cbo_touch w h cbos.Inval b = Some (discard_touch (owner_of w) h (block_span w.machine.size b))
cbo_touch w h cbos.Zero b = zero_touch (owner_of w) w.grants h (block_span w.machine.size b)

-- a script's operation; a store to a register counts when it drains
unfoldable pub op_touch : WorldState → HartNo → HartOp → Option Touch
op_touch w h (Load span kind) = piece_touch (owner_of w) w.grants w.machine.pool h Read span kind
op_touch w h (Store span kind bytes) = piece_touch (owner_of w) w.grants w.machine.pool h Write span kind
op_touch w h (Cbo op block) = cbo_touch w h op block.0
op_touch w h (Fence pred succ) = None
op_touch w h (IoLoad chan off width) = register_touch_by w h chan off width
op_touch w h (IoStore target) = None
op_touch w h (Mark pred succ) = None

-- a plan's operations are no touches
abbrev pub issue_touch : WorldState → HartNo → Bool → HartOp → Option Touch
issue_touch w h by_script op = if by_script then op_touch w h op else None

-- a poll is a load of Control
abbrev pub poll_touch : WorldState → HartNo → ChanNo → Option Touch
poll_touch w h chan = register_touch_by w h chan 0 4

-- an entry that drains
abbrev pub drain_touch : WorldState → HartNo → Entry → Option Touch
drain_touch w h (entries.Reg chan off width value) = register_touch_by w h chan off width
drain_touch w h (entries.Store span bytes kind) = None
drain_touch w h (entries.Cbo block op) = None
drain_touch w h (entries.Mail buf to) = None
drain_touch w h (entries.Lend label first count) = None
drain_touch w h (entries.Mark pred succ) = None

-- a channel's transaction in RAM
abbrev pub transaction_touch : WorldState → ChanNo → Access → ChanStep → Option Touch
transaction_touch w chan access (Moved span bytes done) = channel_touch (owner_of w) w.grants chan access span
transaction_touch w chan access Idle = None
transaction_touch w chan access (Error bus len) = None
