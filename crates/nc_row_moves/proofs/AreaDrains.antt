-- A coherent area that is being lent, after an entry drained.
use Rattle.std.specs.Prelude.{Option, Some, None, ◌/◌, unwrap_or}
use Rattle.std.specs.List.{list_any}
use Rattle.std.proofs.Common.{◌≡◌, ◌≢◌, ◌⊎◌, ℕ, Bool, true, false, List, refl, sym, ap, ◌∙◌, inl, inr, subst}
use Rattle.std.proofs.lemmas.Bool.{cases_eq, cases_Bool, both_ways}
use Rattle.nc_num.specs.Memory.{byte}
use Rattle.nc_num.specs.declared.names.MapId.{MapId}
use Rattle.nc_env.specs.declared.CboOp.{CboOp}
use Rattle.nc_env.specs.declared.CboOp.TheVariants as cbos
use Rattle.nc_queue.specs.Entries.{has_op, gives_in, is_wo, writes_back}
use Rattle.nc_queue.specs.Laws.{Stands, Covered}
use Rattle.nc_queue.specs.declared.entry.Entry.{Entry}
use Rattle.nc_queue.specs.declared.entry.Entry.TheVariants.{Store, Cbo, Reg, Mail, Lend, Mark}
use Rattle.nc_lines.specs.Lines.{bare, line, gives_at}
use Rattle.nc_lines.specs.Laws.{OfBlock}
use Rattle.nc_lines.proofs.LineLaws as lines
use Rattle.nc_lines.proofs.Marks.{stands_or_not, uncovered}
use Rattle.nc_rules.specs.Machine.{MachineState, queue_of}
use Rattle.nc_calls.specs.PlaceLaws.{NotHeld, KeepsCoherence, may_leave_stale_copy, brings, drops_copies}
use Rattle.nc_rules.specs.View.{middle}
use Rattle.nc_calls.proofs.StartPlaces.{loads_show}
use Rattle.nc_rows.proofs.PlaceFrames.{view_is}
use Rattle.nc_rows.specs.Ahead.{names}
use Rattle.nc_rows.specs.Places.{given, ThreadRow, PoolRow, Alone}
use Rattle.nc_rows.specs.Rows.{is_flush, flushes, zeroes, gives_here, gives_block, AllocatingRow, GivingRow}
use Rattle.nc_row_moves.proofs.Tests.{bare_in, bare_op, bare_names, gives_w, in_unnamed, op_block, wider_op, brings_not, names_o, none_in, in_in_block}
use Rattle.nc_row_moves.proofs.PlaceDrains.{Leaves, not_there, still_none, thread_drained, pool_drained, alone_drained}
use Rattle.nc_row_moves.proofs.LineDrains.{block_cover, marked_cover, gone_by, loses, line_here}
use Rattle.nc_row_moves.proofs.LendingDrains.{Written, written_by, pool_written, none_of_queue, fit_after}

flush_back : (op : CboOp) → is_flush op ≡ true → writes_back op ≡ true
flush_back cbos.Flush is = refl
flush_back cbos.Clean is = absurd cc
flush_back cbos.Inval is = absurd cc
flush_back cbos.Zero is = absurd cc

flush_drops : (op : CboOp) → is_flush op ≡ true → drops_copies op ≡ true
flush_drops cbos.Flush is = refl
flush_drops cbos.Clean is = absurd cc
flush_drops cbos.Inval is = absurd cc
flush_drops cbos.Zero is = absurd cc

flush_block : (m : MachineState) (x : ℕ) → OfBlock m.size (x / m.size) (flushes m x)
flush_block m x a is = op_block m.size is_flush (x / m.size) a is

-- whichever hart drains, its entry gives no byte of the block
absent : (m k : MachineState) (h i : ℕ) (e : Entry) (g x : ℕ) → Leaves m k h i e → list_any (gives_in m.size (x / m.size)) (queue_of m g) ≡ false → Alone g m x → gives_in m.size (x / m.size) e ≡ false
absent m k h i e g x l own alone = elim (cases_eq h g) [
  | inl same ↦ not_there m k h i e (gives_in m.size (x / m.size)) l (rw same own)
  | inr ne ↦ not_there m k h i e (gives_in m.size (x / m.size)) l (alone h ne)
]

still_not_held : (m k : MachineState) (h i : ℕ) (e : Entry) (g x : ℕ) → Leaves m k h i e → list_any (gives_in m.size (x / m.size)) (queue_of m g) ≡ false → Alone g m x → NotHeld m x → NotHeld k x
still_not_held m k h i e g x l own alone held = (l.drains.places x).not_held (brings_not m.size (x / m.size) e (absent m k h i e g x l own alone)) held

-- the flush of the block
zero_settled : (m k : MachineState) (h i : ℕ) (e : Entry) (n : MapId) (v x : ℕ) (ahead : List Entry) → Leaves m k h i e → ThreadRow n.hart.0 v m x → n.hart.0 ≡ h → has_op is_flush (x / m.size) e ≡ true
    → list_any (gives_block m x) (line (queue_of k n.hart.0) ahead) ≡ false → PoolRow v k x × NotHeld k x
zero_settled m k h i e n v x ahead l row own op none =
    let b = x / m.size in
    let here : list_any (gives_in m.size b) (queue_of k n.hart.0) ≡ false = lines.lines_cover.of_queue (gives_block m x) (queue_of k n.hart.0) ahead (bare_in m.size b) none in
    let empty : given k h x ≡ None = rw (l.size, ← own) (none_in {s = m.size} l.drain.sound.block_size (queue_of k n.hart.0) x (rw own (fit_after m k h i e l)) here) in
    let written = written_by m k h i e v x l (wider_op is_flush writes_back b e flush_back op) empty (subst (λ (g : ℕ). ThreadRow g v m x) own row) in
    (pool_written m k v x written, (l.drains.places x).gone (wider_op is_flush drops_copies b e flush_drops op))

pub allocating_drained : (m k : MachineState) (h i : ℕ) (e : Entry) (n : MapId) (v x : ℕ) (ahead : List Entry) → Leaves m k h i e → KeepsCoherence m e x → AllocatingRow n v ahead m x → AllocatingRow n v ahead k x
allocating_drained m k h i e n v x ahead l loses row =
    let g = n.hart.0 in
    let b = x / m.size in
    let p = gives_block m x in
    let w = flushes m x in
    let apart = λ (a : Entry) (is : p a ≡ true). in_unnamed n m.size b a is in
    let behind = block_cover m k h i e g ahead p w (names n) b l (in_in_block m.size b (queue_of m h)) (flush_block m x) row.behind in
    let after : (Stands w (names n) (line (queue_of k g) ahead) → ⊥) → PoolRow v k x × NotHeld k x = λ none. elim (stands_or_not w (names n) (line (queue_of m g) ahead)) [
      | inl stood ↦
          let by = gone_by m k h i e g ahead w (names n) l stood none in
          zero_settled m k h i e n v x ahead l row.buffer by.0 (sym (bare_op is_flush b e) ∙ by.1) (uncovered p w (names n) (line (queue_of k g) ahead) apart behind none)
      | inr not_stood ↦
          let was = row.settled not_stood in
          let own = lines.lines_cover.of_queue p (queue_of m g) ahead (bare_in m.size b) (uncovered p w (names n) (line (queue_of m g) ahead) apart row.behind not_stood) in
          (pool_drained m k h i e v x l was.0, still_not_held m k h i e g x l own row.alone was.1)
    ] in
    record {
      buffer = thread_drained m k h i e g v x l loses row.buffer;
      alone = alone_drained m k h i e g x l row.alone;
      whole = λ j. rw l.size (l.drains.queues.none (λ a. may_leave_stale_copy m.size a x) j (row.whole j));
      behind = rw l.size behind;
      unzeroed = λ coming.
          let was = row.unzeroed (rw (← l.size) coming) in
          (still_not_held m k h i e g x l was.1 row.alone was.0, rw l.size (l.drains.queues.none (gives_in m.size b) g was.1));
      settled = λ none. after (rw (← l.size) none);
    }

pub giving_drained : (m k : MachineState) (h i : ℕ) (e : Entry) (n : MapId) (v x : ℕ) (ahead : List Entry) → Leaves m k h i e → KeepsCoherence m e x → GivingRow n v ahead m x → GivingRow n v ahead k x
giving_drained m k h i e n v x ahead l loses row = record {
  buffer = thread_drained m k h i e n.hart.0 v x l loses row.buffer;
  covered = rw l.size (marked_cover m k h i e n.hart.0 ahead (gives_here m x) (names n) l (λ a is. gives_w m.size x a is) row.covered);
}

-- ---- the token of an area that is given

names_bring : (n : MapId) (s b : ℕ) (e : Entry) → names n e ≡ true → brings s b e ≡ false
names_bring n s b (Lend label first count) is = refl
names_bring n s b (Store span bytes kind) is = absurd cc
names_bring n s b (Cbo block op) is = absurd cc
names_bring n s b (Reg chan off width value) is = absurd cc
names_bring n s b (Mail buf to) is = absurd cc
names_bring n s b (Mark pred succ) is = absurd cc

pub area_given : (m k : MachineState) (h i : ℕ) (e : Entry) (n : MapId) (v x : ℕ) (ahead : List Entry) → Leaves m k h i e → KeepsCoherence m e x → n.hart.0 ≡ h → names n e ≡ true → NotHeld m x → GivingRow n v ahead m x → PoolRow v k x
area_given m k h i e n v x ahead l loses_x own is held row =
    let covered = subst (λ (g : ℕ). Covered (gives_here m x) is_wo (names n) (line (queue_of m g) ahead)) own row.covered in
    let none = (loses m k h i e ahead l).none_left (gives_here m x) (names n) (λ a gives. gives_w m.size x a gives) (bare_names n e ∙ is) (names_o n e is) covered in
    let empty : given k h x ≡ None = rw l.size (none_of_queue m.size x (queue_of k h) ahead (ap (list_any (gives_here m x)) (line_here m k h i e ahead l) ∙ none)) in
    let after = thread_drained m k h i e h v x l loses_x (subst (λ (g : ℕ). ThreadRow g v m x) own row.buffer) in
    let free = (l.drains.places x).not_held (names_bring n m.size (x / m.size) e is) held in
    let copy : middle k x ≡ v = sym (ap (λ (o : Option ℕ). unwrap_or o (middle k x)) empty) ∙ sym (view_is k h x) ∙ after.shows in
    pool_written k k v x (record {
      memory = sym (loads_show.not_held k x free) ∙ copy;
      copy = copy;
      none = λ g. elim (cases_eq g h) [ inl same ↦ rw same empty | inr ne ↦ after.quiet.others g ne ];
    })
