-- The calls of the machine: for each the next state, the answer, and the bus transfers in order.
use Rattle.std.specs.Prelude.{ℕ, ◌*◌, ◌==◌, ◌&&◌, not, Bool, true, false, if◌then◌else◌, List, [], length, Option, Some, None, Result, Ok, Err, remove, option_map}
use Rattle.std.specs.List.{list_any}
use Rattle.std.specs.Result.{result_unwrap_or}
use Rattle.nc_num.specs.Memory.{splice}
use Rattle.nc_num.specs.Places.{block_at, covers}
use Rattle.nc_num.specs.declared.places.Span.{Span}
use Rattle.nc_num.specs.declared.names.HartNo.{HartNo}
use Rattle.nc_num.specs.declared.names.MemType.{MemType}
use Rattle.nc_num.specs.declared.names.MemType.TheVariants.{Pma, Nc, Io}
use Rattle.nc_env.specs.declared.CboOp.{CboOp}
use Rattle.nc_env.specs.declared.CboOp.TheVariants as cbos
use Rattle.nc_cache.specs.declared.line.BusRec.{BusRec}
use Rattle.nc_cache.specs.Cache as caches
use Rattle.nc_cache.specs.Cache.{Cache, line_at, held_by}
use Rattle.nc_cache.specs.Bus.{load_bus, own_bus, clean_bus, flush_bus, inval_bus, evict_bus}
use Rattle.nc_queue.specs.Entries.{is_o}
use Rattle.nc_queue.specs.Rules.{drained}
use Rattle.nc_queue.specs.Rules as queues
use Rattle.nc_queue.specs.declared.entry.Entry.{Entry}
use Rattle.nc_queue.specs.declared.entry.Entry.TheVariants as entries
use Rattle.nc_plan.specs.declared.ops.HartOp.{HartOp}
use Rattle.nc_plan.specs.declared.ops.HartOp.TheVariants.{Load, Store, Cbo, Fence, IoLoad, IoStore, Mark}
use Rattle.nc_hart.specs.HartState.{HartState}
use Rattle.nc_hart.specs.Issue as harts
use Rattle.nc_pdma_regs.specs.Control.{number_of}
use Rattle.nc_pdma_regs.specs.Registers.{read_of}
use Rattle.nc_pdma_regs.specs.Laws as claims
use Rattle.nc_pdma.specs.Channel.{ChannelState, channel_write}
use Rattle.nc_pdma.specs.Steps.{read_step, read_next, write_step, write_next, ram_after}
use Rattle.nc_pdma.specs.declared.channel.ChanStep.{ChanStep}
use Rattle.nc_rules.specs.declared.answers.Issued.{Issued}
use Rattle.nc_rules.specs.declared.answers.Issued.TheVariants.{Loaded, Queued, Passed, Value}
use Rattle.nc_rules.specs.Machine.{MachineState, hart_of, queue_of, channel_of, grantee_of, box_of, with_hart, with_channel, with_grantee, with_box, with_cache, with_ram}
use Rattle.nc_rules.specs.View.{bytes_seen, reaches_below}

-- ---- a hart's operation

-- the operation may be issued now
abbrev pub may_issue : MachineState → ℕ → HartOp → Bool
may_issue m h op = harts.can_issue (hart_of m h) op

-- a load of main memory asks the caches where some byte comes from no entry, and gets its block
abbrev pub asks_caches : MachineState → ℕ → Span → MemType → Bool
asks_caches m h span Pma = reaches_below m h span
asks_caches m h span Nc = false
asks_caches m h span Io = false

abbrev pub cache_loaded : MachineState → ℕ → Span → MemType → Cache
cache_loaded m h span kind =
    if asks_caches m h span kind then caches.load m.size m.cache h (block_at span.at m.size) else m.cache

abbrev pub load_transfers : MachineState → ℕ → Span → MemType → List BusRec
load_transfers m h span kind =
    if asks_caches m h span kind then load_bus m.size m.cache.ram h (block_at span.at m.size) (line_at m.cache (block_at span.at m.size)) else []

-- a hart that has loaded these bytes
abbrev pub has_loaded : HartState → List ℕ → HartState
has_loaded s bytes = record { queue = s.queue; last = bytes }

-- the machine after an operation: a load may bring its block, a load of a register changes nothing, and every other
-- operation has its entry, where it needs one, behind the others of its queue
unfoldable pub issue_next : MachineState → ℕ → HartOp → MachineState
issue_next m h (Load span kind) =
    with_hart (with_cache m (cache_loaded m h span kind)) h (has_loaded (hart_of m h) (bytes_seen m h kind span))
issue_next m h (IoLoad chan off width) = m
issue_next m h (Store span kind bytes) = with_hart m h (harts.issued (hart_of m h) (Store span kind bytes))
issue_next m h (Cbo op block) = with_hart m h (harts.issued (hart_of m h) (Cbo op block))
issue_next m h (Fence pred succ) = with_hart m h (harts.issued (hart_of m h) (Fence pred succ))
issue_next m h (IoStore target) = with_hart m h (harts.issued (hart_of m h) (IoStore target))
issue_next m h (Mark pred succ) = with_hart m h (harts.issued (hart_of m h) (Mark pred succ))

-- what a register holds
abbrev pub register_value : MachineState → ℕ → ℕ → ℕ → ℕ
register_value m c off width = result_unwrap_or (read_of (channel_of m c).regs off width) 0

abbrev pub issue_answer : MachineState → ℕ → HartOp → Issued
issue_answer m h (Load span kind) = Loaded (bytes_seen m h kind span) (load_transfers m h span kind)
issue_answer m h (IoLoad chan off width) = Value (register_value m chan.0 off width)
issue_answer m h (Store span kind bytes) = Queued
issue_answer m h (Cbo op block) = Queued
issue_answer m h (Fence pred succ) = if harts.marks pred succ then Queued else Passed
issue_answer m h (IoStore target) = Queued
issue_answer m h (Mark pred succ) = Queued

-- ---- a drain

-- the hart to which a channel is granted behind an access of hart h: `was` and `is` tell whether the claim bit is set
-- before and behind it
abbrev pub grantee_after : Option HartNo → Bool → Bool → ℕ → Option HartNo
grantee_after old was is h = if is then (if was then old else Some (record { 0 = h })) else None

abbrev pub is_claimed : ChannelState → Bool
is_claimed c = c.regs.control.claim

-- a store to a register of a channel by hart h
abbrev pub register_stored : MachineState → ℕ → ℕ → ChannelState → MachineState
register_stored m h c s = with_grantee (with_channel m c s) c (grantee_after (grantee_of m c) (is_claimed (channel_of m c)) (is_claimed s) h)

-- a store of main memory goes to the caches, one of another type to memory
abbrev pub stored : MachineState → ℕ → Span → List ℕ → MemType → MachineState
stored m h span bytes Pma = with_cache m (caches.store m.size m.cache h span.at bytes)
stored m h span bytes Nc = with_ram m (splice m.cache.ram span.at bytes)
stored m h span bytes Io = with_ram m (splice m.cache.ram span.at bytes)

-- a cache operation by its effect (CMO 1.0)
abbrev pub operated : MachineState → ℕ → CboOp → ℕ → MachineState
operated m h cbos.Clean b = with_cache m (caches.clean m.size m.cache b)
operated m h cbos.Flush b = with_cache m (caches.flush m.size m.cache b)
operated m h cbos.Inval b = with_cache m (caches.inval m.cache b)
operated m h cbos.Zero b = with_cache m (caches.zero_block m.size m.cache h b)

-- an entry of hart h's queue is performed
unfoldable pub performed : MachineState → ℕ → Entry → MachineState
performed m h (entries.Store span bytes kind) = stored m h span bytes kind
performed m h (entries.Cbo block op) = operated m h op block.0
performed m h (entries.Reg chan off width value) = register_stored m h chan.0 (channel_write (channel_of m chan.0) off width value)
performed m h (entries.Mail buf to) = with_box m buf (Some to)
performed m h (entries.Lend label first count) = m
performed m h (entries.Mark pred succ) = m

abbrev pub store_transfers : MachineState → ℕ → ℕ → MemType → List BusRec
store_transfers m h b Pma = own_bus m.size m.cache.ram h b (line_at m.cache b)
store_transfers m h b Nc = []
store_transfers m h b Io = []

abbrev pub operation_transfers : MachineState → ℕ → CboOp → ℕ → List BusRec
operation_transfers m h cbos.Clean b = clean_bus b (line_at m.cache b)
operation_transfers m h cbos.Flush b = flush_bus b (line_at m.cache b)
operation_transfers m h cbos.Inval b = inval_bus b (line_at m.cache b)
operation_transfers m h cbos.Zero b = own_bus m.size m.cache.ram h b (line_at m.cache b)

abbrev pub drain_transfers : MachineState → ℕ → Entry → List BusRec
drain_transfers m h (entries.Store span bytes kind) = store_transfers m h (block_at span.at m.size) kind
drain_transfers m h (entries.Cbo block op) = operation_transfers m h op block.0
drain_transfers m h (entries.Reg chan off width value) = []
drain_transfers m h (entries.Mail buf to) = []
drain_transfers m h (entries.Lend label first count) = []
drain_transfers m h (entries.Mark pred succ) = []

-- entry i of hart h's queue, where it may drain
abbrev pub leaving : MachineState → ℕ → ℕ → Option Entry
leaving m h i = drained m.size (queue_of m h) i

-- a hart without entry i
abbrev pub without_entry : HartState → ℕ → HartState
without_entry s i = record { queue = record { size = s.queue.size; entries = remove s.queue.entries i }; last = s.last }

abbrev pub left_with : MachineState → ℕ → ℕ → Option Entry → MachineState
left_with m h i None = m
left_with m h i (Some e) = performed (with_hart m h (without_entry (hart_of m h) i)) h e

unfoldable pub drain_next : MachineState → ℕ → ℕ → MachineState
drain_next m h i = left_with m h i (leaving m h i)

abbrev pub drain_answer : MachineState → ℕ → ℕ → Option (Entry × List BusRec)
drain_answer m h i = option_map (λ e. (e, drain_transfers m h e)) (leaving m h i)

-- ---- caches, at any moment

-- a block lies in the coherent pool
abbrev pub is_pooled : MachineState → ℕ → Bool
is_pooled m b = covers m.pool (m.size * b)

abbrev pub may_fill : MachineState → ℕ → ℕ → Bool
may_fill m h b = not (held_by (line_at m.cache b) h) && not (is_pooled m b)

unfoldable pub fill_next : MachineState → ℕ → ℕ → MachineState
fill_next m h b = if may_fill m h b then with_cache m (caches.load m.size m.cache h b) else m

abbrev pub fill_answer : MachineState → ℕ → ℕ → Option (List BusRec)
fill_answer m h b = if may_fill m h b then Some (load_bus m.size m.cache.ram h b (line_at m.cache b)) else None

unfoldable pub evict_next : MachineState → ℕ → ℕ → MachineState
evict_next m h b = with_cache m (caches.evict m.size m.cache h b)

abbrev pub evict_answer : MachineState → ℕ → ℕ → Option (List BusRec)
evict_answer m h b = evict_bus h b (line_at m.cache b)

-- ---- channels

abbrev pub chan_read_step : MachineState → ℕ → ChanStep
chan_read_step m c = read_step (channel_of m c) m.cache.ram

unfoldable pub chan_read_next : MachineState → ℕ → MachineState
chan_read_next m c = with_channel m c (read_next (channel_of m c) (chan_read_step m c))

abbrev pub chan_write_step : MachineState → ℕ → ChanStep
chan_write_step m c = write_step (channel_of m c) (length m.cache.ram)

unfoldable pub chan_write_next : MachineState → ℕ → MachineState
chan_write_next m c =
    with_channel (with_ram m (ram_after m.cache.ram (chan_write_step m c))) c (write_next (channel_of m c) (chan_write_step m c))

-- Control as a number
abbrev pub control_of : MachineState → ℕ → ℕ
control_of m c = number_of (channel_of m c).regs.control

-- a claim that finds the channel granted is answered with the hart that has it, and changes nothing
abbrev pub claim_answer : Option HartNo → Result (Unit {0}) HartNo
claim_answer None = Ok tt
claim_answer (Some g) = Err g

abbrev pub claimed_by : MachineState → HartNo → ℕ → Option HartNo → MachineState
claimed_by m h c None =
    with_grantee (with_channel m c (record { regs = claims.claimed (channel_of m c).regs; fifo = (channel_of m c).fifo })) c (Some h)
claimed_by m h c (Some g) = m

unfoldable pub claim_next : MachineState → HartNo → ℕ → MachineState
claim_next m h c = claimed_by m h c (grantee_of m c)

-- ---- the mailbox

abbrev pub is_for : ℕ → Option HartNo → Bool
is_for h None = false
is_for h (Some g) = g.0 == h

-- a message for this hart waits in the buffer's box
abbrev pub may_take : MachineState → ℕ → ℕ → Bool
may_take m h buf = is_for h (box_of m buf)

unfoldable pub take_next : MachineState → ℕ → ℕ → MachineState
take_next m h buf = if may_take m h buf then with_box m buf None else m

-- ---- looks

-- an entry of class O is queued
abbrev pub io_waits : MachineState → ℕ → Bool
io_waits m h = list_any is_o (queue_of m h)

-- a token of the label is queued
abbrev pub lends : MachineState → ℕ → ℕ → Bool
lends m h label = queues.lends (queue_of m h) label
