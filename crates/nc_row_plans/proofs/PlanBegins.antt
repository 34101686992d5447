-- How a row begins.
use Rattle.std.specs.Prelude.{Option, Some, None, ◌/◌, unwrap_or, map, ◌||◌}
use Rattle.std.specs.List.{list_any}
use Rattle.std.proofs.Common.{◌≡◌, ◌≢◌, ◌⊎◌, ℕ, Bool, true, false, List, [], ◌∷◌, ◌++◌, refl, sym, ap, ◌∙◌, inl, inr, subst}
use Rattle.std.proofs.lemmas.Bool.{cases_eq, both_ways, or_parts, or_right}
use Rattle.std.proofs.lemmas.List.Folds.{list_any-append}
use Rattle.nc_num.specs.declared.names.MapId.{MapId}
use Rattle.nc_queue.specs.Entries.{gives_in, is_wo}
use Rattle.nc_queue.specs.Laws.{Stands, Covered}
use Rattle.nc_queue.specs.declared.entry.Entry.{Entry}
use Rattle.nc_queue.specs.declared.entry.Entry.TheVariants.{Store, Cbo, Reg, Mail, Lend, Mark}
use Rattle.nc_lines.specs.Lines.{bare, line, Marked}
use Rattle.nc_lines.proofs.Bared.{any_bare}
use Rattle.nc_rules.specs.declared.steps.Step.{Step}
use Rattle.nc_rules.specs.Machine.{MachineState, queue_of}
use Rattle.nc_calls.specs.PlaceLaws.{NotHeld, may_leave_stale_copy}
use Rattle.nc_rules.specs.View.{middle}
use Rattle.nc_rows.specs.Ahead.{names, is_full, is_mail, sending}
use Rattle.nc_rows.specs.Places.{given, ThreadRow, PoolRow, CalmRow, OpenRow, Alone}
use Rattle.nc_rows.specs.Rows.{back, drop, flushes, gives_here, gives_block, PassingRow, SlotRow, LendingRow, LendingTo, LendingFrom, AllocatingRow, GivingRow, DeviceFrom, DroppingRow}
use Rattle.nc_rows.proofs.PlaceFrames.{view_is}
use Rattle.nc_row_moves.proofs.Tests.{bare_names}
use Rattle.nc_row_plans.specs.Begins.{LendsAhead, IsReady, NoneQueued, RowsBegin}
use Rattle.nc_row_plans.proofs.PlanEnds.{pool_thread}

-- ---- what comes behind a queue with none of t

pub stands_behind : (w t : Entry → Bool) (q c : List Entry) → list_any t q ≡ false → Stands w t c → Stands w t (q ++ c)
stands_behind w t [] c none stands = stands
stands_behind w t (a ∷ q) c none stands = let parts = or_parts (t a) (list_any t q) none in inr (parts.0, stands_behind w t q c parts.1 stands)

pub covered_behind : (p w t : Entry → Bool) (q c : List Entry) → list_any t q ≡ false → Stands w t c → Covered p w t c → Covered p w t (q ++ c)
covered_behind p w t [] c none stands covered = covered
covered_behind p w t (a ∷ q) c none stands covered =
    let parts = or_parts (t a) (list_any t q) none in
    (λ pa. stands_behind w t q c parts.1 stands, λ ta. absurd (both_ways (t a) parts.0 ta), covered_behind p w t q c parts.1 stands covered)

pub marked_behind : (w t : Entry → Bool) (q c : List Entry) → list_any t q ≡ false → Stands is_wo t c → Marked w t c → Marked w t (q ++ c)
marked_behind w t [] c none stands marked = marked
marked_behind w t (a ∷ q) c none stands marked =
    let parts = or_parts (t a) (list_any t q) none in inr (λ wa. stands_behind is_wo t q c parts.1 stands, marked_behind w t q c parts.1 stands marked)

unnamed : (m : MachineState) (n : MapId) → NoneQueued (names n) m n.hart.0 → list_any (names n) (map bare (queue_of m n.hart.0)) ≡ false
unnamed m n none = any_bare (names n) (bare_names n) (queue_of m n.hart.0) ∙ none

bare_full : (e : Entry) → is_full (bare e) ≡ is_full e
bare_full (Store span bytes kind) = refl
bare_full (Cbo block op) = refl
bare_full (Reg chan off width value) = refl
bare_full (Mail buf to) = refl
bare_full (Lend label first count) = refl
bare_full (Mark pred succ) = refl

bare_mail : (b : ℕ) (e : Entry) → is_mail b (bare e) ≡ is_mail b e
bare_mail b (Store span bytes kind) = refl
bare_mail b (Cbo block op) = refl
bare_mail b (Reg chan off width value) = refl
bare_mail b (Mail buf to) = refl
bare_mail b (Lend label first count) = refl
bare_mail b (Mark pred succ) = refl

-- ---- a mapping is lent

ready : (m : MachineState) (h v x y : ℕ) (ahead : List Entry) → IsReady m x y ahead → (x ≡ y) ⊎ SlotRow h v ahead m y
ready m h v x y ahead (inl direct) = inl direct
ready m h v x y ahead (inr slot) = inr (record { unstored = λ coming. slot.0; stored = λ lacks. absurd (both_ways (list_any (gives_here m y) ahead) lacks slot.1) })

lending : (p : Entry → Bool) (S : Type 0) (m : MachineState) (n : MapId) (v x y : ℕ) (ahead : List Entry) → NoneQueued (names n) m n.hart.0 → LendsAhead p (back m y) n ahead → IsReady m x y ahead → ThreadRow n.hart.0 v m x
    → LendingRow p S n v ahead m x y
lending p S m n v x y ahead none lends is row =
    let q = map bare (queue_of m n.hart.0) in
    let free = unnamed m n none in
    record {
      buffer = row;
      slot = ready m n.hart.0 v x y ahead is;
      behind = covered_behind p (back m y) (names n) q ahead free lends.written lends.behind;
      marked = marked_behind (back m y) (names n) q ahead free lends.marker lends.marked;
      settled = λ none_stands. absurd (none_stands (stands_behind (back m y) (names n) q ahead free lends.written));
    }

allocating : (m : MachineState) (n : MapId) (v x : ℕ) (ahead : List Entry) → Covered (gives_block m x) (flushes m x) (names n) ahead → Stands (flushes m x) (names n) ahead → NotHeld m x → ((g : ℕ) → NoneQueued (gives_block m x) m g)
    → ((g : ℕ) → list_any (λ e. may_leave_stale_copy m.size e x) (queue_of m g) ≡ false) → NoneQueued (names n) m n.hart.0 → PoolRow v m x → AllocatingRow n v ahead m x
allocating m n v x ahead behind flushed free empty whole none row =
    let q = map bare (queue_of m n.hart.0) in
    let unlent = unnamed m n none in
    record {
      buffer = pool_thread m n.hart.0 v x row;
      alone = λ g ne. empty g;
      whole = whole;
      behind = covered_behind (gives_block m x) (flushes m x) (names n) q ahead unlent flushed behind;
      unzeroed = λ coming. (free, empty n.hart.0);
      settled = λ none_stands. absurd (none_stands (stands_behind (flushes m x) (names n) q ahead unlent flushed));
    }

-- ---- a buffer is passed on, and taken

passing : (m : MachineState) (h v b x : ℕ) (rest : List Step) → NoneQueued (is_mail b) m h → Covered (gives_here m x) is_wo (is_mail b) (sending b rest) → Stands is_wo (is_mail b) (sending b rest) → list_any (is_mail b) (sending b rest) ≡ true → ThreadRow h v m x
    → PassingRow h v b rest m x
passing m h v b x rest none covered stands mail row =
    let q = map bare (queue_of m h) in
    record {
      giver = row;
      covered = covered_behind (gives_here m x) is_wo (is_mail b) q (sending b rest) (any_bare (is_mail b) (bare_mail b) (queue_of m h) ∙ none) stands covered;
      sent = λ lacks. absurd (both_ways (list_any (is_mail b) (sending b rest)) (or_parts (list_any (is_mail b) q) (list_any (is_mail b) (sending b rest)) (sym (list_any-append (is_mail b) q (sending b rest)) ∙ lacks)).1 mail);
    }

taken : (m : MachineState) (h g v b x : ℕ) (rest : List Step) → list_any (is_mail b) (line (queue_of m h) (sending b rest)) ≡ false → PassingRow h v b rest m x → ThreadRow g v m x
taken m h g v b x rest out row =
    let none = row.sent out in
    let all : (j : ℕ) → given m j x ≡ None = λ j. elim (cases_eq j h) [ inl same ↦ rw same none | inr ne ↦ row.giver.quiet.others j ne ] in
    let below : middle m x ≡ v = sym (ap (λ (o : Option ℕ). unwrap_or o (middle m x)) none) ∙ sym (view_is m h x) ∙ row.giver.shows in
    record {
      shows = view_is m g x ∙ ap (λ (o : Option ℕ). unwrap_or o (middle m x)) (all g) ∙ below;
      quiet = record { fresh = row.giver.quiet.fresh; others = λ j ne. all j };
    }

pub rows_begin : RowsBegin
rows_begin = record {
  lend_to = λ m n v x y ahead none lends is row. lending (gives_here m y) (PoolRow v m y) m n v x y ahead none lends is row;
  lend_from = λ m n v x y ahead none lends is alone row. record { lending = lending (gives_block m y) (OpenRow v m y) m n v x y ahead none lends is row; alone = alone };
  allocate = allocating;
  give = λ m n v x ahead none covered stands row. record {
    buffer = row;
    covered = covered_behind (gives_here m x) is_wo (names n) (map bare (queue_of m n.hart.0)) ahead (unnamed m n none) stands covered;
  };
  take_back = λ m n v x y ahead none stands row. record {
    device = row.device;
    dropped = λ none_stands. absurd (none_stands (stands_behind (drop m y) is_full (map bare (queue_of m n.hart.0)) ahead (any_bare is_full bare_full (queue_of m n.hart.0) ∙ none) stands));
    buffer = row.buffer;
  };
  take_area = pool_thread;
  pass = passing;
  take = taken;
}
