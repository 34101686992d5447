-- An operation that is issued leaves a sound machine.
use Rattle.std.specs.Prelude.{Option, Some, None, Bool, true, false, if◌then◌else◌}
use Rattle.std.proofs.Common.{◌≡◌, ℕ, ◌+◌, ◌*◌, ◌<◌, ◌≤◌, length, refl, inl, inr, arith, subst}
use Rattle.nc_num.specs.Places.{block_at}
use Rattle.nc_num.specs.declared.places.Span.{Span}
use Rattle.nc_num.specs.declared.names.MemType.{MemType}
use Rattle.nc_num.proofs.Blocks.{whole_block}
use Rattle.nc_cache.specs.Cache as caches
use Rattle.nc_cache.specs.Cache.{Cache}
use Rattle.nc_cache.specs.Facts.{Whole}
use Rattle.nc_cache.proofs.Wholes.{whole_load}
use Rattle.nc_queue.specs.Entries.{Fits}
use Rattle.nc_queue.specs.declared.entry.Entry.{Entry}
use Rattle.nc_plan.specs.declared.ops.HartOp.{HartOp}
use Rattle.nc_plan.specs.declared.ops.HartOp.TheVariants.{Load, Store, Cbo, Fence, IoLoad, IoStore, Mark}
use Rattle.nc_plan.specs.declared.ops.IoTarget.{IoTarget}
use Rattle.nc_plan.specs.declared.ops.IoTarget.TheVariants as targets
use Rattle.nc_hart.specs.Issue.{entry_of, marks, marker, io_entry, pushed, issued, OpFits}
use Rattle.nc_hart.proofs.Issued.{entry_fits, finds_room}
use Rattle.nc_rules.specs.Machine.{MachineState, hart_of, with_hart, with_cache}
use Rattle.nc_rules.specs.Calls.{may_issue, asks_caches, cache_loaded, issue_next}
use Rattle.nc_rules.specs.Sound.{IsPieceIn, EntryIsThere, IsQueueIn, IsMachine, OpIsThere}
use Rattle.nc_calls.specs.MachineLaws.{SameShape}
use Rattle.nc_calls.proofs.SoundParts.{queue_same, queue_push}
use Rattle.nc_calls.proofs.SoundWith.{shape_same, shape_then, shape_hart, sound_hart, shape_cache, sound_cache}

-- ---- a load

-- the block of a place of RAM is in RAM
pub block_in : (m : MachineState) (x : ℕ) → IsMachine m → x < length m.cache.ram → m.size * block_at x m.size + m.size ≤ length m.cache.ram
block_in m x is lt = whole_block (length m.cache.ram) x is.block_size is.cache.blocks lt

piece_some : (size : ℕ) (span : Span) → IsPieceIn size span → span.at < size
piece_some size span is = elim is.len [
  | inl e ↦ omega (arith, e, is.inside)
  | inr r ↦ elim r [ inl e ↦ omega (arith, e, is.inside) | inr s ↦ elim s [ inl e ↦ omega (arith, e, is.inside) | inr e ↦ omega (arith, e, is.inside) ] ]
]

pub piece_block : (m : MachineState) (span : Span) → IsMachine m → IsPieceIn (length m.cache.ram) span → m.size * block_at span.at m.size + m.size ≤ length m.cache.ram
piece_block m span is piece = block_in m span.at is (piece_some (length m.cache.ram) span piece)

pub whole_loaded : (m : MachineState) (h : ℕ) (span : Span) (kind : MemType) → IsMachine m → h < length m.harts → IsPieceIn (length m.cache.ram) span
    → Whole m.size (length m.harts) (length m.cache.ram) (cache_loaded m h span kind)
whole_loaded m h span kind is lt piece =
    elim (asks_caches m h span kind) as (λ t. Whole m.size (length m.harts) (length m.cache.ram) (if t then caches.load m.size m.cache h (block_at span.at m.size) else m.cache)) [
      | true ↦ whole_load m.size (length m.harts) (length m.cache.ram) m.cache h (block_at span.at m.size) is.cache lt (piece_block m span is piece)
      | false ↦ is.cache
    ]

-- ---- an entry

target_there : (m : MachineState) (target : IoTarget) → OpIsThere m 0 (IoStore target) → EntryIsThere m (io_entry target)
target_there m (targets.Reg chan off width value) is = is
target_there m (targets.Mail buf to) is = is
target_there m (targets.Lend label first count) is = tt

fence_there : (m : MachineState) (pred succ : ℕ) (e : Entry) (b : Bool) → (if b then Some (marker pred succ) else None) ≡ Some e → EntryIsThere m e
fence_there m pred succ e true is = let same : marker pred succ ≡ e = cc in subst (EntryIsThere m) same tt
fence_there m pred succ e false is = absurd cc

some_same : (a e : Entry) → Some a ≡ Some e → a ≡ e
some_same a e is = cc

pub entry_there : (m : MachineState) (h : ℕ) (op : HartOp) (e : Entry) → OpIsThere m h op → entry_of (hart_of m h).last op ≡ Some e → EntryIsThere m e
entry_there m h (Load span kind) e there is = absurd cc
entry_there m h (Store span kind bytes) e there is = subst (EntryIsThere m) (some_same _ e is) there.piece.inside
entry_there m h (Cbo op block) e there is = subst (EntryIsThere m) (some_same _ e is) there
entry_there m h (Fence pred succ) e there is = fence_there m pred succ e (marks pred succ) is
entry_there m h (IoLoad chan off width) e there is = absurd cc
entry_there m h (IoStore target) e there is = subst (EntryIsThere m) (some_same _ e is) (target_there m target there)
entry_there m h (Mark pred succ) e there is = subst (EntryIsThere m) (some_same _ e is) tt

op_fits : (m : MachineState) (h : ℕ) (op : HartOp) → OpIsThere m h op → OpFits (hart_of m h).last op
op_fits m h (Load span kind) there = tt
op_fits m h (Store span kind bytes) there = record { size = there.piece.len; aligned = there.piece.aligned; whole = there.whole }
op_fits m h (Cbo op block) there = tt
op_fits m h (Fence pred succ) there = tt
op_fits m h (IoLoad chan off width) there = tt
op_fits m h (IoStore target) there = tt
op_fits m h (Mark pred succ) there = tt

pub issued_fits : (m : MachineState) (h : ℕ) (op : HartOp) (e : Entry) → IsMachine m → OpIsThere m h op → entry_of (hart_of m h).last op ≡ Some e → Fits m.size e
issued_fits m h op e is there of = entry_fits {s = m.size} is.block_size (hart_of m h).last op e (op_fits m h op there) of

queue_pushed : (m : MachineState) (h : ℕ) (op : HartOp) (o : Option Entry) → IsMachine m → h < length m.harts → OpIsThere m h op → may_issue m h op ≡ true → entry_of (hart_of m h).last op ≡ o → IsQueueIn m (pushed (hart_of m h).queue o)
queue_pushed m h op None is lt there may of = is.queues h lt
queue_pushed m h op (Some e) is lt there may of =
    queue_push m (hart_of m h).queue e (is.queues h lt) (finds_room (hart_of m h) op e may of) (issued_fits m h op e is there of) (entry_there m h op e there of)

queue_issued : (m : MachineState) (h : ℕ) (op : HartOp) → IsMachine m → h < length m.harts → OpIsThere m h op → may_issue m h op ≡ true → IsQueueIn m (issued (hart_of m h) op).queue
unfolding issued
queue_issued m h op is lt there may = queue_pushed m h op (entry_of (hart_of m h).last op) is lt there may refl

hart_issued : (m : MachineState) (h : ℕ) (op : HartOp) → IsMachine m → h < length m.harts → OpIsThere m h op → may_issue m h op ≡ true → IsMachine (with_hart m h (issued (hart_of m h) op))
hart_issued m h op is lt there may = sound_hart m h (issued (hart_of m h) op) is lt (queue_issued m h op is lt there may)

-- ---- an operation

pub sound_issue : (m : MachineState) (h : ℕ) (op : HartOp) → IsMachine m → h < length m.harts → OpIsThere m h op → may_issue m h op ≡ true → IsMachine (issue_next m h op)
unfolding issue_next
sound_issue m h (Load span kind) is lt there may =
    let whole = whole_loaded m h span kind is lt there in
    let c = cache_loaded m h span kind in
    sound_hart (with_cache m c) h _ (sound_cache m c is whole) lt (queue_same m (with_cache m c) (hart_of m h).queue (shape_cache m c is whole) (is.queues h lt))
sound_issue m h (Store span kind bytes) is lt there may = hart_issued m h (Store span kind bytes) is lt there may
sound_issue m h (Cbo op block) is lt there may = hart_issued m h (Cbo op block) is lt there may
sound_issue m h (Fence pred succ) is lt there may = hart_issued m h (Fence pred succ) is lt there may
sound_issue m h (IoLoad chan off width) is lt there may = is
sound_issue m h (IoStore target) is lt there may = hart_issued m h (IoStore target) is lt there may
sound_issue m h (Mark pred succ) is lt there may = hart_issued m h (Mark pred succ) is lt there may

pub shape_issue : (m : MachineState) (h : ℕ) (op : HartOp) → IsMachine m → h < length m.harts → OpIsThere m h op → SameShape m (issue_next m h op)
unfolding issue_next
shape_issue m h (Load span kind) is lt there =
    let c = cache_loaded m h span kind in
    shape_then m (with_cache m c) (issue_next m h (Load span kind)) (shape_cache m c is (whole_loaded m h span kind is lt there)) (shape_hart (with_cache m c) h _)
shape_issue m h (Store span kind bytes) is lt there = shape_hart m h (issued (hart_of m h) (Store span kind bytes))
shape_issue m h (Cbo op block) is lt there = shape_hart m h (issued (hart_of m h) (Cbo op block))
shape_issue m h (Fence pred succ) is lt there = shape_hart m h (issued (hart_of m h) (Fence pred succ))
shape_issue m h (IoLoad chan off width) is lt there = shape_same m
shape_issue m h (IoStore target) is lt there = shape_hart m h (issued (hart_of m h) (IoStore target))
shape_issue m h (Mark pred succ) is lt there = shape_hart m h (issued (hart_of m h) (Mark pred succ))
