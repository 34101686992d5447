-- The laws of the calls, gathered: at places, in queues, of channels and boxes, and of what is seen.
use Rattle.std.specs.Prelude.{ℕ, ◌≡◌, ◌≢◌, ◌⊎◌, ◌+◌, ◌-◌, ◌/◌, ◌%◌, ◌<◌, ◌≤◌, Bool, true, false, List, [], ◌∷◌, length, filter, Some, None}
use Rattle.std.specs.List.{list_any}
use Rattle.nc_num.specs.Memory as memory
use Rattle.nc_num.specs.Memory.{byte}
use Rattle.nc_num.specs.Places.{covers}
use Rattle.nc_num.specs.Sizes.{IsBlockSize}
use Rattle.nc_num.specs.declared.places.Span.{Span}
use Rattle.nc_num.specs.declared.names.ChanNo.{ChanNo}
use Rattle.nc_num.specs.declared.names.HartNo.{HartNo}
use Rattle.nc_num.specs.declared.names.MemType.{MemType}
use Rattle.nc_queue.specs.Entries.{is_w, is_o, is_wo, Fits}
use Rattle.nc_queue.specs.Rules.{gives}
use Rattle.nc_queue.specs.Laws.{Covered}
use Rattle.nc_queue.specs.declared.entry.Entry.{Entry}
use Rattle.nc_plan.specs.declared.ops.HartOp.{HartOp}
use Rattle.nc_plan.specs.declared.ops.HartOp.TheVariants.{Load, Fence, IoLoad}
use Rattle.nc_hart.specs.Issue.{entry_of}
use Rattle.nc_pdma_regs.specs.Laws as claims
use Rattle.nc_pdma.specs.Channel.{new_channel}
use Rattle.nc_pdma.specs.Laws.{IsReadOf, IsWriteOf}
use Rattle.nc_pdma.specs.Steps.{read_next, write_next}
use Rattle.nc_pdma.specs.declared.channel.ChanStep.TheVariants.{Moved}
use Rattle.nc_scen.specs.declared.scenario.Scenario.{Scenario}
use Rattle.nc_scen.specs.Accepted.{IsAccepted}
use Rattle.nc_scen.specs.Regions.{pool_of}
use Rattle.nc_rules.specs.Machine.{MachineState, hart_of, queue_of, channel_of, grantee_of, box_of}
use Rattle.nc_rules.specs.View.{middle, seen, view, bytes_seen, bytes_of}
use Rattle.nc_rules.specs.Calls.{leaving, issue_next, drain_next, is_pooled, fill_next, evict_next, chan_read_step, chan_read_next, chan_write_step, chan_write_next, claim_next, may_take, take_next}
use Rattle.nc_rules.specs.Sound.{IsBlockIn, IsPieceIn, IsMachine, EntryIsThere, OpIsThere}
use Rattle.nc_rules.specs.Start.{first_machine}
use Rattle.nc_rules.specs.Start as start
use Rattle.nc_calls.specs.MachineLaws.{IsMove}
use Rattle.nc_calls.specs.PlaceLaws.{FreshAt, ClearAt, NotHeld, SameAt, ChannelIs, BoxIs, Stays, Loads, Pushes, may_leave_stale_copy, Drains, Moves, RamAfter}

-- ---- the start: nobody holds a block, no entry is queued, no channel is granted, and no box has a message
pub record StartIsEmpty : Type 0 where
  pub size_is : (sc : Scenario) → (first_machine sc).size ≡ sc.block_size
  pub pool_is : (sc : Scenario) → (first_machine sc).pool ≡ pool_of sc
  pub harts_are : (sc : Scenario) → length (first_machine sc).harts ≡ length sc.harts
  pub boxes_are : (sc : Scenario) → length (first_machine sc).boxes ≡ length sc.buffers
  pub queues : (sc : Scenario) (h : ℕ) → queue_of (first_machine sc) h ≡ []
  pub memory_is : (sc : Scenario) → (first_machine sc).cache.ram ≡ start.memory sc
  pub long : (sc : Scenario) → IsAccepted sc → length (start.memory sc) ≡ sc.ram
  pub not_held : (sc : Scenario) (x : ℕ) → NotHeld (first_machine sc) x
  pub fresh : (sc : Scenario) (x : ℕ) → FreshAt (first_machine sc) x
  pub clear : (sc : Scenario) (x : ℕ) → ClearAt (first_machine sc) x
  pub views : (sc : Scenario) (h x : ℕ) → view (first_machine sc) h x ≡ byte (start.memory sc) x
  pub channels : (sc : Scenario) (c : ℕ) → channel_of (first_machine sc) c ≡ new_channel
  pub grantees : (sc : Scenario) (c : ℕ) → grantee_of (first_machine sc) c ≡ None
  pub boxes : (sc : Scenario) (buf : ℕ) → box_of (first_machine sc) buf ≡ None

-- ---- what a load shows
pub record LoadsShowWhatIsSeen : Type 0 where
  pub long : (m : MachineState) (h : ℕ) (kind : MemType) (span : Span) → length (bytes_seen m h kind span) ≡ span.len
  pub byte_is : (m : MachineState) (h : ℕ) (kind : MemType) (span : Span) (i : ℕ) → i < span.len → byte (bytes_seen m h kind span) i ≡ seen m h kind (span.at + i)
  pub copies_long : (m : MachineState) (span : Span) → length (bytes_of m span) ≡ span.len
  pub copy_is : (m : MachineState) (span : Span) (i : ℕ) → i < span.len → byte (bytes_of m span) i ≡ middle m (span.at + i)
  -- where each byte of the span is seen as another memory has it, the load shows that memory's span
  pub shows : (m : MachineState) (h : ℕ) (kind : MemType) (span : Span) (flat : List ℕ) → span.at + span.len ≤ length flat
      → ((x : ℕ) → span.at ≤ x → x < span.at + span.len → seen m h kind x ≡ byte flat x) → bytes_seen m h kind span ≡ memory.span flat span.at span.len
  -- the types agree at a place where the copies have memory's byte, as where nobody holds the block
  pub types_agree : (m : MachineState) (h : ℕ) (kind : MemType) (x : ℕ) → middle m x ≡ byte m.cache.ram x → seen m h kind x ≡ view m h x
  pub not_held : (m : MachineState) (x : ℕ) → NotHeld m x → middle m x ≡ byte m.cache.ram x
  pub settled : (m : MachineState) (x : ℕ) → FreshAt m x → ClearAt m x → middle m x ≡ byte m.cache.ram x

-- ---- an issue
pub record IssuesByPlace : Type 0 where
  pub load : (m : MachineState) (h : ℕ) (span : Span) (kind : MemType) → IsMachine m → h < length m.harts → IsPieceIn (length m.cache.ram) span → Loads m (issue_next m h (Load span kind)) h span kind
  pub entry : (m : MachineState) (h : ℕ) (op : HartOp) (e : Entry) → h < length m.harts → entry_of (hart_of m h).last op ≡ Some e → Pushes m (issue_next m h op) h e
  pub fits : (m : MachineState) (h : ℕ) (op : HartOp) (e : Entry) → IsMachine m → OpIsThere m h op → entry_of (hart_of m h).last op ≡ Some e → Fits m.size e
  pub there : (m : MachineState) (h : ℕ) (op : HartOp) (e : Entry) → OpIsThere m h op → entry_of (hart_of m h).last op ≡ Some e → EntryIsThere m e
  -- a fence that puts no marker, and a load of a register
  pub fence : (m : MachineState) (h pred succ : ℕ) → entry_of (hart_of m h).last (Fence pred succ) ≡ None → issue_next m h (Fence pred succ) ≡ m
  pub register : (m : MachineState) (h : ℕ) (chan : ChanNo) (off width : ℕ) → issue_next m h (IoLoad chan off width) ≡ m

-- ---- a drain
pub record DrainsByPlace : Type 0 where
  pub entry : (m : MachineState) (h i : ℕ) (e : Entry) → IsMachine m → h < length m.harts → leaving m h i ≡ Some e → Drains m (drain_next m h i) h i e
  pub none : (m : MachineState) (h i : ℕ) → leaving m h i ≡ None → drain_next m h i ≡ m

-- ---- fills and evictions
pub record MovesByPlace : Type 0 where
  pub fill : (m : MachineState) (h b : ℕ) → IsMachine m → IsBlockIn m.size (length m.cache.ram) b → Moves m (fill_next m h b) b
  pub pooled : (m : MachineState) (h b : ℕ) → is_pooled m b ≡ true → fill_next m h b ≡ m
  -- so a place of the pool, which starts with a block, is not held after it
  pub pool_block : (m : MachineState) (x : ℕ) → IsBlockSize m.size → m.pool.at % m.size ≡ 0 → covers m.pool x ≡ true → is_pooled m (x / m.size) ≡ true
  pub fill_not_held : (m : MachineState) (h b x : ℕ) → IsMachine m → IsBlockIn m.size (length m.cache.ram) b → is_pooled m (x / m.size) ≡ true → NotHeld m x → NotHeld (fill_next m h b) x
  pub evict : (m : MachineState) (h b : ℕ) → IsMachine m → IsBlockIn m.size (length m.cache.ram) b → Moves m (evict_next m h b) b
  pub evict_not_held : (m : MachineState) (h b x : ℕ) → IsMachine m → IsBlockIn m.size (length m.cache.ram) b → NotHeld m x → NotHeld (evict_next m h b) x

-- ---- channels and boxes
pub record ChannelsByPlace : Type 0 where
  pub read_stays : (m : MachineState) (c : ℕ) → Stays m (chan_read_next m c)
  pub read : (m : MachineState) (c : ℕ) → IsMachine m → c < 4 → ChannelIs m (chan_read_next m c) c (read_next (channel_of m c) (chan_read_step m c)) (grantee_of m c)
  pub read_moves : (m : MachineState) (c : ℕ) (span : Span) (bytes : List ℕ) (done : Bool) → IsMachine m → c < 4 → chan_read_step m c ≡ Moved span bytes done → IsReadOf (channel_of m c) m.cache.ram span bytes done
  pub written : (m : MachineState) (c : ℕ) → IsMachine m → c < 4 → RamAfter m (chan_write_next m c) (chan_write_step m c)
  pub write : (m : MachineState) (c : ℕ) → IsMachine m → c < 4 → ChannelIs m (chan_write_next m c) c (write_next (channel_of m c) (chan_write_step m c)) (grantee_of m c)
  pub write_moves : (m : MachineState) (c : ℕ) (span : Span) (bytes : List ℕ) (done : Bool) → IsMachine m → c < 4 → chan_write_step m c ≡ Moved span bytes done
      → IsWriteOf (channel_of m c) (length m.cache.ram) span bytes done
  pub claim_stays : (m : MachineState) (h : HartNo) (c : ℕ) → Stays m (claim_next m h c)
  pub claim : (m : MachineState) (h : HartNo) (c : ℕ) → IsMachine m → c < 4 → grantee_of m c ≡ None
      → ChannelIs m (claim_next m h c) c (record { regs = claims.claimed (channel_of m c).regs; fifo = (channel_of m c).fifo }) (Some h)
  pub granted : (m : MachineState) (h g : HartNo) (c : ℕ) → grantee_of m c ≡ Some g → claim_next m h c ≡ m
  pub take_stays : (m : MachineState) (h buf : ℕ) → Stays m (take_next m h buf)
  pub take : (m : MachineState) (h buf : ℕ) → may_take m h buf ≡ true → BoxIs m (take_next m h buf) buf None
  pub nothing : (m : MachineState) (h buf : ℕ) → may_take m h buf ≡ false → take_next m h buf ≡ m

-- ---- what is seen, in short

-- no entry of hart h parts memory and the copies at the place, or nobody holds its block
abbrev pub PartsNone : MachineState → ℕ → ℕ → Type 0
PartsNone m h x = (list_any (λ e. may_leave_stale_copy m.size e x) (queue_of m h) ≡ false) ⊎ NotHeld m x

-- a load and a fill change nothing that any hart sees at any place. Where no copy of the place is stale, an eviction
-- changes nothing that is seen there, and a drain of a queue none of whose entries parts memory and copies there keeps
-- what its own hart sees, and what another sees where that queue gives nothing. A channel's write changes exactly the
-- places that it tells
pub record ViewsStay : Type 0 where
  pub of_drain : (m : MachineState) (h i x : ℕ) → IsMachine m → h < length m.harts → FreshAt m x → PartsNone m h x → view (drain_next m h i) h x ≡ view m h x
  pub of_drain_others : (m : MachineState) (h i g x : ℕ) → IsMachine m → h < length m.harts → FreshAt m x → PartsNone m h x → g ≢ h → gives m.size (queue_of m h) x ≡ None
      → view (drain_next m h i) g x ≡ view m g x
  pub of_load : (m : MachineState) (h : ℕ) (span : Span) (kind : MemType) (g x : ℕ) → IsMachine m → h < length m.harts → IsPieceIn (length m.cache.ram) span → view (issue_next m h (Load span kind)) g x ≡ view m g x
  pub of_fill : (m : MachineState) (h b g x : ℕ) → IsMachine m → IsMove m h b → view (fill_next m h b) g x ≡ view m g x
  pub of_evict : (m : MachineState) (h b g x : ℕ) → IsMachine m → IsMove m h b → FreshAt m x → view (evict_next m h b) g x ≡ view m g x
  pub of_write : (m : MachineState) (c : ℕ) (span : Span) (bytes : List ℕ) (done : Bool) (x : ℕ) → IsMachine m → c < 4 → chan_write_step m c ≡ Moved span bytes done → span.at ≤ x → x < span.at + span.len
      → byte (chan_write_next m c).cache.ram x ≡ byte bytes (x - span.at)
  pub of_write_beside : (m : MachineState) (c : ℕ) (span : Span) (bytes : List ℕ) (done : Bool) (x : ℕ) → IsMachine m → c < 4 → chan_write_step m c ≡ Moved span bytes done → (x < span.at) ⊎ (span.at + span.len ≤ x)
      → SameAt m (chan_write_next m c) x

-- ---- the order that markers keep, and that of class O, in each hart's queue
pub record QueuesKeepOrder : Type 0 where
  -- entries of p, all of class W, keep their marker of W before O as entries drain
  pub covered : (m : MachineState) (h i g : ℕ) (p t : Entry → Bool) → IsMachine m → h < length m.harts → ((a : Entry) → p a ≡ true → is_w a ≡ true)
      → Covered p is_wo t (queue_of m g) → Covered p is_wo t (queue_of (drain_next m h i) g)
  -- an entry of t and class O that drains leaves none of them
  pub emptied : (m : MachineState) (h i : ℕ) (e : Entry) (p t : Entry → Bool) → IsMachine m → h < length m.harts → ((a : Entry) → p a ≡ true → is_w a ≡ true)
      → Covered p is_wo t (queue_of m h) → leaving m h i ≡ Some e → t e ≡ true → is_o e ≡ true → list_any p (queue_of (drain_next m h i) h) ≡ false
  -- another entry that comes leaves them covered
  pub pushed : (m : MachineState) (h g : ℕ) (op : HartOp) (e : Entry) (p t : Entry → Bool) → h < length m.harts → entry_of (hart_of m h).last op ≡ Some e → p e ≡ false
      → Covered p is_wo t (queue_of m g) → Covered p is_wo t (queue_of (issue_next m h op) g)
  -- a marker of W before O covers all that stands before it
  pub marked : (m : MachineState) (h : ℕ) (op : HartOp) (e : Entry) (p t : Entry → Bool) → h < length m.harts → entry_of (hart_of m h).last op ≡ Some e → list_any t (queue_of m h) ≡ false → is_wo e ≡ true → p e ≡ false
      → Covered p is_wo t (queue_of (issue_next m h op) h)
  -- entries of class O drain in order
  pub in_order : (m : MachineState) (h i : ℕ) (e : Entry) → IsMachine m → h < length m.harts → leaving m h i ≡ Some e → is_o e ≡ true
      → filter is_o (queue_of m h) ≡ e ∷ filter is_o (queue_of (drain_next m h i) h)
