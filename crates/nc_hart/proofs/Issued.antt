-- An operation that may be issued finds room, and its entry meets the queue's condition.
use Rattle.std.specs.Prelude.{Some, None, ◌&&◌, not, nat_lt, if◌then◌else◌}
use Rattle.std.proofs.Common.{◌≡◌, ℕ, ◌<◌, ◌≤◌, Bool, true, false, List, [], ◌∷◌, ◌++◌, length, refl, subst, arith, inl, inr}
use Rattle.std.proofs.lemmas.Bool.{and_parts, or_cases, not-true, both_ways, ltb-true}
use Rattle.nc_num.specs.Sizes.{IsBlockSize}
use Rattle.nc_num.specs.Places.{IsPieceLen}
use Rattle.nc_num.specs.declared.places.Span.{Span}
use Rattle.nc_num.proofs.Blocks.{piece_in_block}
use Rattle.nc_queue.specs.Entries.{Fits, StoreFits}
use Rattle.nc_queue.specs.QueueState.{QueueState}
use Rattle.nc_queue.specs.declared.entry.Entry.{Entry}
use Rattle.nc_plan.specs.declared.ops.IoTarget.{IoTarget}
use Rattle.nc_plan.specs.declared.ops.IoTarget.TheVariants.{Reg, Mail, Lend}
use Rattle.nc_plan.specs.declared.ops.HartOp.{HartOp}
use Rattle.nc_plan.specs.declared.ops.HartOp.TheVariants.{Load, Store, Cbo, Fence, IoLoad, IoStore, Mark}
use Rattle.nc_hart.specs.HartState.{HartState}
use Rattle.nc_hart.specs.Issue.{marks, marker, entry_of, needs_entry, has_room, fence_clear, load_clear, can_issue, issued, IsPieceStore, OpFits, io_entry, payload}

some_len : (n : ℕ) → IsPieceLen n → (0 < n) × (n ≤ 8)
some_len n (inl e) = (omega arith, omega arith)
some_len n (inr (inl e)) = (omega arith, omega arith)
some_len n (inr (inr (inl e))) = (omega arith, omega arith)
some_len n (inr (inr (inr e))) = (omega arith, omega arith)

pub store_fits : {s : ℕ} → IsBlockSize s → (span : Span) (bytes : List ℕ) → IsPieceStore span bytes → StoreFits s span bytes
store_fits {s = s} z span bytes piece = record {
  some = (some_len span.len piece.size).0;
  short = (some_len span.len piece.size).1;
  one_block = piece_in_block {s = s} span.at span.len z piece.size piece.aligned;
  whole = piece.whole;
}

io_fits : (s : ℕ) (target : IoTarget) → Fits s (io_entry target)
io_fits s (Reg chan off width value) = tt
io_fits s (Mail buf to) = tt
io_fits s (Lend label first count) = tt

fence_fits : (s pred succ : ℕ) (e : Entry) (b : Bool) → (if b then Some (marker pred succ) else None) ≡ Some e → Fits s e
fence_fits s pred succ e true is = let same : marker pred succ ≡ e = cc in subst (Fits s) same tt
fence_fits s pred succ e false is = absurd cc

some_same : (a e : Entry) → Some a ≡ Some e → a ≡ e
some_same a e is = cc

-- the entry of an operation meets the condition of a push
pub entry_fits : {s : ℕ} → IsBlockSize s → (last : List ℕ) (op : HartOp) (e : Entry) → OpFits last op → entry_of last op ≡ Some e → Fits s e
entry_fits {s = s} z last (Load span kind) e fits is = absurd cc
entry_fits {s = s} z last (Store span kind bytes) e fits is = subst (Fits s) (some_same _ e is) (store_fits {s = s} z span (payload last bytes) fits)
entry_fits {s = s} z last (Cbo op block) e fits is = subst (Fits s) (some_same _ e is) tt
entry_fits {s = s} z last (Fence pred succ) e fits is = fence_fits s pred succ e (marks pred succ) is
entry_fits {s = s} z last (IoLoad chan off width) e fits is = absurd cc
entry_fits {s = s} z last (IoStore target) e fits is = subst (Fits s) (some_same _ e is) (io_fits s target)
entry_fits {s = s} z last (Mark pred succ) e fits is = subst (Fits s) (some_same _ e is) tt

fence_needs : (pred succ : ℕ) (e : Entry) (b : Bool) → (if b then Some (marker pred succ) else None) ≡ Some e → b ≡ true
fence_needs pred succ e true is = refl
fence_needs pred succ e false is = absurd cc

needs_one : (last : List ℕ) (op : HartOp) (e : Entry) → entry_of last op ≡ Some e → needs_entry op ≡ true
needs_one last (Load span kind) e is = absurd cc
needs_one last (Store span kind bytes) e is = refl
needs_one last (Cbo op block) e is = refl
needs_one last (Fence pred succ) e is = fence_needs pred succ e (marks pred succ) is
needs_one last (IoLoad chan off width) e is = absurd cc
needs_one last (IoStore target) e is = refl
needs_one last (Mark pred succ) e is = refl

-- an operation that may be issued finds room for its entry
pub finds_room : (h : HartState) (op : HartOp) (e : Entry) → can_issue h op ≡ true → entry_of h.last op ≡ Some e → length h.queue.entries < 8
unfolding can_issue
finds_room h op e can is =
    let q = h.queue.entries in
    let outer = and_parts (has_room q op && fence_clear q op) (load_clear q op) can in
    let inner = and_parts (has_room q op) (fence_clear q op) outer.0 in
    elim (or_cases (not (needs_entry op)) (nat_lt (length q) 8) inner.0) [
      | inl other ↦ absurd (both_ways (needs_entry op) (not-true (needs_entry op) other) (needs_one h.last op e is))
      | inr room ↦ ltb-true (length q) 8 room
    ]

-- the hart after an operation with an entry, and after one without
pub issued-some : (h : HartState) (op : HartOp) (e : Entry) (q : QueueState) → entry_of h.last op ≡ Some e → q ≡ record { size = h.queue.size; entries = h.queue.entries ++ e ∷ [] } → record { queue = q; last = h.last } ≡ issued h op
unfolding issued
issued-some h op e q is after = rw (is, after) refl

pub issued-none : (h : HartState) (op : HartOp) → entry_of h.last op ≡ None → h ≡ issued h op
unfolding issued
issued-none h op is = rw is refl
