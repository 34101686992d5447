-- A mapping that is being lent, after an entry drained.
use Rattle.std.specs.Prelude.{Option, Some, None, ◌/◌, remove, unwrap_or, is_some, All}
use Rattle.std.specs.List.{list_any}
use Rattle.std.proofs.Common.{◌≡◌, ◌≢◌, ◌⊎◌, ℕ, ◌<◌, Bool, true, false, List, length, refl, sym, ap, ◌∙◌, inl, inr, subst}
use Rattle.std.proofs.lemmas.Bool.{cases_eq, cases_Bool, both_ways}
use Rattle.nc_num.specs.Memory.{byte}
use Rattle.nc_num.specs.declared.names.MapId.{MapId}
use Rattle.nc_queue.specs.Entries.{has_op, gives_in, writes_back, AllFit}
use Rattle.nc_queue.specs.Laws.{Stands, Covered}
use Rattle.nc_queue.specs.Rules.{gives}
use Rattle.nc_queue.specs.declared.entry.Entry.{Entry}
use Rattle.nc_queue.proofs.Fit.{fits-remove}
use Rattle.nc_queue.proofs.GivesLaws.{gives-none, gives-remove_silent}
use Rattle.nc_lines.specs.Lines.{bare, line, gives_at, Marked}
use Rattle.nc_lines.specs.Laws.{OfW, OfBlock, InBlock, Apart}
use Rattle.nc_lines.proofs.LineLaws.{line_loses}
use Rattle.nc_lines.proofs.LineLaws as lines
use Rattle.nc_lines.proofs.Marks.{stands_or_not, uncovered}
use Rattle.nc_rules.specs.Machine.{MachineState, queue_of}
use Rattle.nc_calls.specs.PlaceLaws.{NotHeld, KeepsCoherence, may_leave_stale_copy}
use Rattle.nc_rules.specs.View.{middle, view}
use Rattle.nc_rows.specs.Ahead.{names}
use Rattle.nc_rows.specs.Places.{given, ThreadRow, PoolRow, CalmRow, OpenRow, Alone}
use Rattle.nc_rows.specs.Rows.{back, gives_here, gives_block, SlotRow, LendingRow, LendingTo, LendingFrom}
use Rattle.nc_rows.proofs.PlaceFrames.{view_is}
use Rattle.nc_row_moves.specs.Laws.{InBlock as PieceInBlock}
use Rattle.nc_row_moves.proofs.Tests.{bare_gives, bare_in, bare_op, bare_names, gives_w, op_w, w_unnamed, in_unnamed, op_block, back_silent, back_whole, none_in, none_wider, gives_in_block, in_in_block}
use Rattle.nc_row_moves.proofs.PlaceDrains.{Leaves, still_none, thread_drained, pool_drained, calm_drained, open_drained, alone_drained}
use Rattle.nc_row_moves.proofs.LineDrains.{block_cover, still_marked, gone_by}

slot_drained : (m k : MachineState) (h i : ℕ) (e : Entry) (g v y : ℕ) (ahead : List Entry) → Leaves m k h i e → KeepsCoherence m e y → SlotRow g v ahead m y → SlotRow g v ahead k y
slot_drained m k h i e g v y ahead l loses row = record {
  unstored = λ coming. calm_drained m k h i e y l (row.unstored (rw (← l.size) coming));
  stored = λ none. thread_drained m k h i e g v y l loses (row.stored (rw (← l.size) none));
}

pub back_w : (m : MachineState) (y : ℕ) → OfW (back m y)
back_w m y a is = op_w writes_back (y / m.size) a is

back_block : (m : MachineState) (y : ℕ) → OfBlock m.size (y / m.size) (back m y)
back_block m y a is = op_block m.size writes_back (y / m.size) a is

-- What changes is told by four things: what p is of, what is settled, and how it comes to be so with the clean or the
-- flush of the block.
lending_drained : (p : MachineState → ℕ → Entry → Bool) (S : MachineState → Type 0) (m k : MachineState) (h i : ℕ) (e : Entry) (n : MapId) (v x y : ℕ) (ahead : List Entry) → Leaves m k h i e → KeepsCoherence m e x → KeepsCoherence m e y
    → (n.hart.0 ≡ h → names n e ≡ false) → p k y ≡ p m y → InBlock m.size (y / m.size) (p m y) (queue_of m h) → Apart (p m y) (names n) → (S m → S k)
    → (n.hart.0 ≡ h → has_op writes_back (y / m.size) e ≡ true → list_any (p m y) (line (queue_of k n.hart.0) ahead) ≡ false → S k) → LendingRow (p m y) (S m) n v ahead m x y → LendingRow (p k y) (S k) n v ahead k x y
lending_drained p S m k h i e n v x y ahead l loses_x loses_y other same of_p apart keep settle row =
    let g = n.hart.0 in
    let w = back m y in
    let behind = block_cover m k h i e g ahead (p m y) w (names n) (y / m.size) l of_p (back_block m y) row.behind in
    let after : (Stands w (names n) (line (queue_of k g) ahead) → ⊥) → S k = λ none. elim (stands_or_not w (names n) (line (queue_of m g) ahead)) [
      | inl stood ↦
          let by = gone_by m k h i e g ahead w (names n) l stood none in
          settle by.0 (sym (bare_op writes_back (y / m.size) e) ∙ by.1) (uncovered (p m y) w (names n) (line (queue_of k g) ahead) apart behind none)
      | inr not_stood ↦ keep (row.settled not_stood)
    ] in
    record {
      buffer = thread_drained m k h i e g v x l loses_x row.buffer;
      slot = elim row.slot [ inl direct ↦ inl direct | inr slot ↦ inr (slot_drained m k h i e g v y ahead l loses_y slot) ];
      behind = rw (same, l.size) behind;
      marked = rw l.size (still_marked m k h i e g ahead w (names n) l (back_w m y) (λ own. bare_names n e ∙ other own) row.marked);
      settled = λ none. after (rw (← l.size) none);
    }

-- ---- the block is written back

-- the byte at the device's place, once no copy into its slot is to come
pub thread_there : (h v : ℕ) (ahead : List Entry) (m : MachineState) (x y : ℕ) → ThreadRow h v m x → (x ≡ y) ⊎ SlotRow h v ahead m y → list_any (gives_here m y) ahead ≡ false → ThreadRow h v m y
thread_there h v ahead m x y buffer (inl direct) none = subst (λ (z : ℕ). ThreadRow h v m z) direct buffer
thread_there h v ahead m x y buffer (inr slot) none = slot.stored none

-- with a clean or a flush of its block memory gets the byte that its hart sees, where its queue gives none
pub record Written (m k : MachineState) (v y : ℕ) : Type 0 where
  pub memory : byte k.cache.ram y ≡ v
  pub copy : middle k y ≡ v
  pub none : (g : ℕ) → given k g y ≡ None

pub written_by : (m k : MachineState) (h i : ℕ) (e : Entry) (v y : ℕ) → Leaves m k h i e → has_op writes_back (y / m.size) e ≡ true → given k h y ≡ None → ThreadRow h v m y → Written m k v y
written_by m k h i e v y l op none row =
    let silent = back_silent m.size (y / m.size) e y op in
    let loses : KeepsCoherence m e y = λ is. absurd (both_ways (may_leave_stale_copy m.size e y) (back_whole m.size (y / m.size) e y op) is) in
    let after = thread_drained m k h i e h v y l loses row in
    let before : given m h y ≡ None = sym (gives-remove_silent m.size (queue_of m h) i e y l.drains.queues.stood silent) ∙ ap (λ (q : List Entry). gives m.size q y) (sym l.drains.queues.own) ∙ ap (λ (s : ℕ). gives s (queue_of k h) y) (sym l.size) ∙ none in
    let below : middle m y ≡ v = sym (ap (λ (o : Option ℕ). unwrap_or o (middle m y)) before) ∙ sym (view_is m h y) ∙ row.shows in
    record {
      memory = (l.drains.places y).written op row.quiet.fresh ∙ below;
      copy = sym (ap (λ (o : Option ℕ). unwrap_or o (middle k y)) none) ∙ sym (view_is k h y) ∙ after.shows;
      none = λ g. elim (cases_eq g h) [ inl same ↦ rw same none | inr ne ↦ after.quiet.others g ne ];
    }

pub pool_written : (m k : MachineState) (v y : ℕ) → Written m k v y → PoolRow v k y
unfolding middle
pool_written m k v y w = record { both = record { memory = w.memory; copy = w.copy }; none = w.none }

-- what a line has not, its queue has not
pub none_of_queue : (s y : ℕ) (q ahead : List Entry) → list_any (gives_at s y) (line q ahead) ≡ false → gives s q y ≡ None
none_of_queue s y q ahead none = gives-none s q y (lines.lines_cover.of_queue (gives_at s y) q ahead (bare_gives s y) none)

pub here_alike : (m k : MachineState) (y : ℕ) → k.size ≡ m.size → gives_here k y ≡ gives_here m y
here_alike m k y size = ap {B = Entry → Bool} (λ (s : ℕ). λ (e : Entry). gives_at s y e) size

pub block_alike : (m k : MachineState) (y : ℕ) → k.size ≡ m.size → gives_block k y ≡ gives_block m y
block_alike m k y size = ap {B = Entry → Bool} (λ (s : ℕ). λ (e : Entry). gives_in s (y / s) e) size

-- what is left fits
pub fit_after : (m k : MachineState) (h i : ℕ) (e : Entry) → Leaves m k h i e → AllFit m.size (queue_of k h)
fit_after m k h i e l = rw l.drains.queues.own (fits-remove m.size (queue_of m h) i (l.drain.sound.queues h l.drain.hart).fit)

-- ---- both directions

to_settled : (m k : MachineState) (h i : ℕ) (e : Entry) (n : MapId) (v x y : ℕ) (ahead : List Entry) → Leaves m k h i e → LendingTo n v ahead m x y → n.hart.0 ≡ h → has_op writes_back (y / m.size) e ≡ true
    → list_any (gives_here m y) (line (queue_of k n.hart.0) ahead) ≡ false → PoolRow v k y
to_settled m k h i e n v x y ahead l row own op none =
    let thread = thread_there n.hart.0 v ahead m x y row.buffer row.slot (lines.lines_cover.of_coming (gives_here m y) (queue_of k n.hart.0) ahead none) in
    let empty : given k h y ≡ None = rw (l.size, ← own) (none_of_queue m.size y (queue_of k n.hart.0) ahead none) in
    pool_written m k v y (written_by m k h i e v y l op empty (subst (λ (g : ℕ). ThreadRow g v m y) own thread))

pub to_drained : (m k : MachineState) (h i : ℕ) (e : Entry) (n : MapId) (v x y : ℕ) (ahead : List Entry) → Leaves m k h i e → KeepsCoherence m e x → KeepsCoherence m e y → (n.hart.0 ≡ h → names n e ≡ false) → LendingTo n v ahead m x y → LendingTo n v ahead k x y
to_drained m k h i e n v x y ahead l loses_x loses_y other row =
    let z = l.drain.sound.block_size in
    lending_drained gives_here (λ j. PoolRow v j y) m k h i e n v x y ahead l loses_x loses_y other (here_alike m k y l.size) (gives_in_block {s = m.size} z (queue_of m h) y (l.drain.sound.queues h l.drain.hart).fit)
    (λ a is. w_unnamed n a (gives_w m.size y a is)) (pool_drained m k h i e v y l) (λ own op none. to_settled m k h i e n v x y ahead l row own op none) row

from_settled : (m k : MachineState) (h i : ℕ) (e : Entry) (n : MapId) (v x y : ℕ) (ahead : List Entry) → Leaves m k h i e → All (PieceInBlock m y) ahead → LendingFrom n v ahead m x y → n.hart.0 ≡ h → has_op writes_back (y / m.size) e ≡ true
    → list_any (gives_block m y) (line (queue_of k n.hart.0) ahead) ≡ false → OpenRow v k y
from_settled m k h i e n v x y ahead l pieces row own op none =
    let coming = lines.lines_cover.of_coming (gives_block m y) (queue_of k n.hart.0) ahead none in
    let thread = thread_there n.hart.0 v ahead m x y row.lending.buffer row.lending.slot (none_wider (gives_here m y) (gives_block m y) ahead pieces coming) in
    let here : list_any (gives_in m.size (y / m.size)) (queue_of k n.hart.0) ≡ false = lines.lines_cover.of_queue (gives_block m y) (queue_of k n.hart.0) ahead (bare_in m.size (y / m.size)) none in
    let empty : given k h y ≡ None = rw (l.size, ← own) (none_in {s = m.size} l.drain.sound.block_size (queue_of k n.hart.0) y (rw own (fit_after m k h i e l)) here) in
    let written = written_by m k h i e v y l op empty (subst (λ (g : ℕ). ThreadRow g v m y) own thread) in
    record {
      clear = (l.drains.places y).cleared op;
      memory = written.memory;
      none = λ g. rw l.size (elim (cases_eq g n.hart.0) [
        | inl same ↦ rw same here
        | inr ne ↦ l.drains.queues.none (gives_in m.size (y / m.size)) g (row.alone g ne)
      ]);
    }

pub from_drained : (m k : MachineState) (h i : ℕ) (e : Entry) (n : MapId) (v x y : ℕ) (ahead : List Entry) → Leaves m k h i e → KeepsCoherence m e x → KeepsCoherence m e y → All (PieceInBlock m y) ahead → (n.hart.0 ≡ h → names n e ≡ false)
    → LendingFrom n v ahead m x y → LendingFrom n v ahead k x y
from_drained m k h i e n v x y ahead l loses_x loses_y pieces other row = record {
  lending =
      lending_drained gives_block (λ j. OpenRow v j y) m k h i e n v x y ahead l loses_x loses_y other (block_alike m k y l.size) (in_in_block m.size (y / m.size) (queue_of m h))
      (λ a is. in_unnamed n m.size (y / m.size) a is) (open_drained m k h i e v y l) (λ own op none. from_settled m k h i e n v x y ahead l pieces row own op none) row.lending;
  alone = alone_drained m k h i e n.hart.0 y l row.alone;
}
