-- When an operation may be issued, and what it puts in the store queue (RISC-V, FENCE; which fences wait and which put
-- a marker is this project's own).
use Rattle.std.specs.Prelude.{◌≡◌, ℕ, ◌+◌, ◌*◌, ◌/◌, ◌%◌, ◌^◌, Bool, true, false, ◌&&◌, ◌||◌, not, nat_lt, if◌then◌else◌, List, [], ◌∷◌, ◌++◌, length, Option, Some, None}
use Rattle.std.specs.List.{list_any}
use Rattle.nc_num.specs.Places.{IsPieceLen}
use Rattle.nc_num.specs.declared.places.Span.{Span}
use Rattle.nc_queue.specs.Entries.{has_w, has_r, has_o, has_i, is_o}
use Rattle.nc_queue.specs.Rules.{any_in, may_load}
use Rattle.nc_queue.specs.QueueState.{QueueState}
use Rattle.nc_queue.specs.declared.entry.Entry.{Entry}
use Rattle.nc_queue.specs.declared.entry.Entry.TheVariants.{Store as store_entry, Cbo as cbo_entry, Reg as reg_entry, Mail as mail_entry, Lend as lend_entry, Mark as mark_entry}
use Rattle.nc_plan.specs.declared.ops.Payload.{Payload}
use Rattle.nc_plan.specs.declared.ops.Payload.TheVariants.{Given, Last}
use Rattle.nc_plan.specs.declared.ops.IoTarget.{IoTarget}
use Rattle.nc_plan.specs.declared.ops.IoTarget.TheVariants.{Reg, Mail, Lend}
use Rattle.nc_plan.specs.declared.ops.HartOp.{HartOp}
use Rattle.nc_plan.specs.declared.ops.HartOp.TheVariants.{Load, Store, Cbo, Fence, IoLoad, IoStore, Mark}
use Rattle.nc_hart.specs.HartState.{HartState}

-- a set cut to the queue's classes, W 1 and O 4
abbrev pub cut : ℕ → ℕ
cut set = set % 2 + set / 2 ^ 2 % 2 * 4

abbrev pub has_class : ℕ → Bool
has_class set = has_w set || has_o set

-- a fence waits: later loads or inputs come behind earlier entries of the queue
abbrev pub waits : ℕ → ℕ → Bool
waits pred succ = has_class pred && (has_r succ || has_i succ)

-- a fence puts a marker: it does not wait, and has W or O on both sides
abbrev pub marks : ℕ → ℕ → Bool
marks pred succ = not (waits pred succ) && (has_class pred && has_class succ)

abbrev pub marker : ℕ → ℕ → Entry
marker pred succ = mark_entry (cut pred) (cut succ)

-- the bytes of a store
abbrev pub payload : List ℕ → Payload → List ℕ
payload last (Given bytes) = bytes
payload last Last = last

abbrev pub io_entry : IoTarget → Entry
io_entry (Reg chan off width value) = reg_entry chan off width value
io_entry (Mail buf to) = mail_entry buf to
io_entry (Lend label first count) = lend_entry label first count

-- the entry that an operation puts in the queue of a hart whose last load gave these bytes
abbrev pub entry_of : List ℕ → HartOp → Option Entry
entry_of last (Load span kind) = None
entry_of last (Store span kind bytes) = Some (store_entry span (payload last bytes) kind)
entry_of last (Cbo op block) = Some (cbo_entry block op)
entry_of last (Fence pred succ) = if marks pred succ then Some (marker pred succ) else None
entry_of last (IoLoad chan off width) = None
entry_of last (IoStore target) = Some (io_entry target)
entry_of last (Mark pred succ) = Some (marker pred succ)

-- an operation that puts one
abbrev pub needs_entry : HartOp → Bool
needs_entry (Load span kind) = false
needs_entry (Store span kind bytes) = true
needs_entry (Cbo op block) = true
needs_entry (Fence pred succ) = marks pred succ
needs_entry (IoLoad chan off width) = false
needs_entry (IoStore target) = true
needs_entry (Mark pred succ) = true

-- a fence that waits finds no entry of its predecessor set
abbrev pub fence_clear : List Entry → HartOp → Bool
fence_clear q (Fence pred succ) = not (waits pred succ && any_in q pred)
fence_clear q (Load span kind) = true
fence_clear q (Store span kind bytes) = true
fence_clear q (Cbo op block) = true
fence_clear q (IoLoad chan off width) = true
fence_clear q (IoStore target) = true
fence_clear q (Mark pred succ) = true

-- an IO load, from memory or from a register, finds no entry of class O
abbrev pub load_clear : List Entry → HartOp → Bool
load_clear q (Load span kind) = may_load q kind
load_clear q (IoLoad chan off width) = not (list_any is_o q)
load_clear q (Store span kind bytes) = true
load_clear q (Cbo op block) = true
load_clear q (Fence pred succ) = true
load_clear q (IoStore target) = true
load_clear q (Mark pred succ) = true

-- the queue has room where one is needed
abbrev pub has_room : List Entry → HartOp → Bool
has_room q op = not (needs_entry op) || nat_lt (length q) 8

unfoldable pub can_issue : HartState → HartOp → Bool
can_issue h op = has_room h.queue.entries op && fence_clear h.queue.entries op && load_clear h.queue.entries op

-- the queue with an entry more, if there is one
abbrev pub pushed : QueueState → Option Entry → QueueState
pushed q None = q
pushed q (Some e) = record { size = q.size; entries = q.entries ++ e ∷ [] }

unfoldable pub issued : HartState → HartOp → HartState
issued h op = record { queue = pushed h.queue (entry_of h.last op); last = h.last }

-- a store's condition: it is one piece, and has the bytes of its span
pub record IsPieceStore (span : Span) (bytes : List ℕ) : Type 0 where
  pub size : IsPieceLen span.len
  pub aligned : span.at % span.len ≡ 0
  pub whole : length bytes ≡ span.len

abbrev pub OpFits : List ℕ → HartOp → Type 0
OpFits last (Store span kind bytes) = IsPieceStore span (payload last bytes)
OpFits last (Load span kind) = Unit {0}
OpFits last (Cbo op block) = Unit {0}
OpFits last (Fence pred succ) = Unit {0}
OpFits last (IoLoad chan off width) = Unit {0}
OpFits last (IoStore target) = Unit {0}
OpFits last (Mark pred succ) = Unit {0}
