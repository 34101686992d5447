-- A copy by a channel that a hart has in hand: its ends, how far its channel is while the poll is to come, and what the poll
-- saw. This project's own.
use Rattle.std.specs.Prelude.{ℕ, ◌≡◌, ◌⊎◌, ◌<◌, ◌/◌, ◌%◌, ◌^◌, ◌==◌, ◌&&◌, not, Bool, true, false, List, [], ◌∷◌, ◌++◌, filter, flat_map, drop, Some, Ok, All}
use Rattle.std.specs.List.{list_any}
use Rattle.nc_num.specs.Places.{covers}
use Rattle.nc_num.specs.declared.names.ChanNo.{ChanNo}
use Rattle.nc_num.specs.declared.names.Dir.{Dir}
use Rattle.nc_num.specs.declared.names.Dir.TheVariants.{ToDev, FromDev}
use Rattle.nc_num.specs.declared.places.Span.{Span}
use Rattle.nc_queue.specs.declared.entry.Entry.{Entry as QueueEntry}
use Rattle.nc_queue.specs.declared.entry.Entry.TheVariants as entries
use Rattle.nc_model.specs.declared.owners.Owner.{Owner}
use Rattle.nc_model.specs.declared.owners.Owner.TheVariants.{Thread, Passing, Lending, Device, Returning, Synced, Pool}
use Rattle.nc_sg.specs.declared.list.Entry.{Entry}
use Rattle.nc_ops.specs.declared.ops.Op.{Op}
use Rattle.nc_ops.specs.declared.ops.Op.TheVariants as ops
use Rattle.nc_scen.specs.declared.scenario.Scenario.{Scenario}
use Rattle.nc_rules.specs.declared.lots.Lot.{Lot}
use Rattle.nc_rules.specs.declared.lots.LotId.{LotId}
use Rattle.nc_rules.specs.declared.steps.Act.{Act}
use Rattle.nc_rules.specs.declared.steps.Act.TheVariants as acts
use Rattle.nc_rules.specs.declared.steps.Phase.{Phase}
use Rattle.nc_rules.specs.declared.steps.Phase.TheVariants.{Steps, Search, Work}
use Rattle.nc_rules.specs.declared.steps.Seen.{Seen}
use Rattle.nc_rules.specs.declared.steps.Seen.TheVariants as seen
use Rattle.nc_rules.specs.declared.steps.Step.{Step}
use Rattle.nc_rules.specs.Copies.{source, target}
use Rattle.nc_rules.specs.Driver.{in_hand}
use Rattle.nc_rules.specs.Lots.{DriverConfig, is_lot, is_wanted}
use Rattle.nc_rules.specs.Machine.{queue_of, channel_of, grantee_of}
use Rattle.nc_rules.specs.Refusals.{buffer_of, part_of}
use Rattle.nc_rules.specs.EventTouches.{owner_of}
use Rattle.nc_rules.specs.World.{WorldState, driver_of, hart}
use Rattle.nc_scripts.specs.Drivers.{is_claim}
use Rattle.nc_holds.specs.Held.{SharesNone}
use Rattle.nc_rows.specs.Ahead.{op_coming, act_coming}
use Rattle.nc_transfers.specs.Transfers.{Ends, AreEnds, register_stores, IsCopying}
use Rattle.nc_flatness.specs.Plans.{device_of, IsCopyEnd}

-- ---- the operation

-- a copy: its channel, the places of its two ranges in buffers, which are as long, and the value for Config
pub record CopyOp : Type 0 where
  pub chan : ChanNo
  pub src : ℕ
  pub src_off : ℕ
  pub dst : ℕ
  pub dst_off : ℕ
  pub len : ℕ
  pub config : ℕ

abbrev pub copy_op : CopyOp → Op
copy_op k = ops.Copy k.chan k.src k.src_off k.dst k.dst_off k.len k.config

-- its ranges
abbrev pub source_range : DriverConfig → CopyOp → Span → Type 0
source_range f k range = part_of (buffer_of f k.src) k.src_off k.len ≡ Ok range

abbrev pub target_range : DriverConfig → CopyOp → Span → Type 0
target_range f k range = part_of (buffer_of f k.dst) k.dst_off k.len ≡ Ok range

-- ---- its steps

abbrev pub is_poll : Act → Bool
is_poll (acts.Op op) = false
is_poll (acts.Claim chan) = false
is_poll (acts.Poll chan) = true
is_poll (acts.Take buf) = false

abbrev pub polls : List Step → Bool
polls rest = list_any (λ s. is_poll s.act) rest

abbrev pub claims : List Step → Bool
claims rest = list_any (λ s. is_claim s.act) rest

-- its channel is claimed, and the poll is still to come
abbrev pub transfers : List Step → Bool
transfers rest = polls rest && not (claims rest)

-- ---- its channel's registers

abbrev pub is_register : QueueEntry → Bool
is_register (entries.Reg chan off width value) = true
is_register (entries.Store span bytes kind) = false
is_register (entries.Cbo block op) = false
is_register (entries.Mail buf to) = false
is_register (entries.Lend label first count) = false
is_register (entries.Mark pred succ) = false

-- those of a queue, those that a rest is still to put there, and all that the plan puts there
abbrev pub registers : List QueueEntry → List QueueEntry
registers q = filter is_register q

abbrev pub registers_coming : List Step → List QueueEntry
registers_coming rest = registers (flat_map (λ s. act_coming s.act) rest)

abbrev pub register_entries : ChanNo → Ends → List QueueEntry
register_entries chan e = flat_map op_coming (register_stores chan e)

-- ---- its ends

-- the lot has one entry, of this range
pub record IsOneRange (lot : Lot) (dir : Dir) (chan : ChanNo) (range : Span) : Type 0 where
  pub dir_is : lot.list.dir ≡ dir
  pub chan_is : lot.chan ≡ chan
  pub entry : Entry
  pub only : lot.list.entries ≡ entry ∷ []
  pub range_is : entry.span ≡ range

-- its ends, as far as they are there, are of its ranges
abbrev pub AreItsEnds : CopyOp → Span → Span → List Lot → Type 0
AreItsEnds k from to lots =
    All (λ lot. (is_lot source lot ≡ true → IsOneRange lot ToDev k.chan from) × (is_lot target lot ≡ true → IsOneRange lot FromDev k.chan to)) lots

-- an end that is lent: its range, and where the channel sees it
pub record IsEndAt (f : DriverConfig) (lots : List Lot) (id : LotId) (dir : Dir) (chan : ChanNo) (range device : Span) : Type 0 where
  pub lot : Lot
  pub is : IsCopyEnd lots lot id dir chan
  pub lent : is_wanted lot.side ≡ false
  pub entry : Entry
  pub only : lot.list.entries ≡ entry ∷ []
  pub range_is : entry.span ≡ range
  pub device_is : device_of f entry ≡ device

-- ---- the copy while its channel is claimed and the poll is to come: both ends are lent, and the channel is as far as its
-- registers are

abbrev pub span_of : ℕ → ℕ → Span
span_of at len = record { at = at; len = len }

pub record IsUnderWay (sc : Scenario) (f : List ℕ) (w : WorldState) (h : ℕ) (k : CopyOp) (from to : Span) : Type 0 where
  pub ends : Ends
  pub are : AreEnds sc.ram ends
  pub from_is : from ≡ span_of ends.source ends.len
  pub to_is : to ≡ span_of ends.target ends.len
  pub source_at : IsEndAt (driver_of w h).fixed (driver_of w h).lots source ToDev k.chan from (span_of ends.reads_at ends.len)
  pub target_at : IsEndAt (driver_of w h).fixed (driver_of w h).lots target FromDev k.chan to (span_of ends.writes_at ends.len)
  -- how many of its stores have reached the channel's registers
  pub stores : ℕ
  pub left : registers (queue_of w.machine h) ++ registers_coming (driver_of w h).rest ≡ drop stores (register_entries k.chan ends)
  pub few : stores < 6
  pub stage : IsCopying ends f stores (channel_of w.machine k.chan.0)
  pub granted : grantee_of w.machine k.chan.0 ≡ Some (hart h)

-- ---- the whole

-- the hart's own, or lent by it for the copy
abbrev pub IsItsOwn : ℕ → Owner → Type 0
IsItsOwn h (Thread g) = g.0 ≡ h
IsItsOwn h (Lending n) = (n.hart.0 ≡ h) × (n.label.0 ≡ 1000)
IsItsOwn h (Device n) = (n.hart.0 ≡ h) × (n.label.0 ≡ 1000)
IsItsOwn h (Returning n) = (n.hart.0 ≡ h) × (n.label.0 ≡ 1000)
IsItsOwn h (Passing g k) = ⊥
IsItsOwn h (Synced n) = (n.hart.0 ≡ h) × (n.label.0 ≡ 1000)
IsItsOwn h Pool = ⊥

-- what the poll saw: the error bit of Control is not set
pub record SawDone (saw : Seen) : Type 0 where
  pub control : ℕ
  pub saw_is : saw ≡ seen.Control control
  pub no_error : (control / 2 ^ 31 % 2 == 1) ≡ false

-- hart h has the copy in hand, from its start step on
pub record IsCopyNow (sc : Scenario) (f : List ℕ) (w : WorldState) (h : ℕ) (k : CopyOp) : Type 0 where
  pub from : Span
  pub to : Span
  pub from_is : source_range (driver_of w h).fixed k from
  pub to_is : target_range (driver_of w h).fixed k to
  pub ends : AreItsEnds k from to (driver_of w h).lots
  pub under : transfers (driver_of w h).rest ≡ true → IsUnderWay sc f w h k from to
  -- behind the poll
  pub polled : (driver_of w h).phase ≡ Work → polls (driver_of w h).rest ≡ false → SawDone (driver_of w h).saw
  pub apart : SharesNone from to
  pub owned : (x : ℕ) → (covers from x ≡ true) ⊎ (covers to x ≡ true) → IsItsOwn h (owner_of w x)

-- its start step is made
abbrev pub IsBegun : Phase → Type 0
IsBegun (Steps n) = ⊥
IsBegun (Search k) = Unit {0}
IsBegun Work = Unit {0}

-- where hart h has a copy in hand
abbrev pub CopyStands : Scenario → List ℕ → WorldState → ℕ → Type 0
CopyStands sc f w h = (k : CopyOp) → in_hand (driver_of w h) ≡ Some (copy_op k) → IsBegun (driver_of w h).phase → IsCopyNow sc f w h k
