-- A full fence ends a mapping's stay with its owner, or the last copy back does.
use Rattle.std.specs.Prelude.{Option, Some, None, ◌/◌, ◌==◌, ◌&&◌, nat_le, nat_lt, unwrap_or}
use Rattle.std.specs.List.{list_any}
use Rattle.std.proofs.Common.{◌≡◌, ◌≢◌, ◌⊎◌, ℕ, ◌+◌, ◌<◌, ◌≤◌, Bool, true, false, List, [], ◌∷◌, length, refl, sym, ap, ◌∙◌, inl, inr, subst, arith}
use Rattle.std.proofs.lemmas.Bool.{cases_eq, cases_lt, both_ways, or_parts, and_from, eq-eqb, le-leb, lt-ltb}
use Rattle.std.proofs.lemmas.List.{get_or_past}
use Rattle.nc_num.specs.Memory.{byte}
use Rattle.nc_num.specs.declared.names.MapId.{MapId}
use Rattle.nc_cache.proofs.Places.{fresh_both}
use Rattle.nc_env.specs.declared.CboOp.{CboOp}
use Rattle.nc_queue.specs.Entries.{has_op, is_w, is_wo, writes_back}
use Rattle.nc_queue.specs.Laws.{Stands, Covered}
use Rattle.nc_queue.specs.declared.entry.Entry.{Entry}
use Rattle.nc_queue.specs.declared.entry.Entry.TheVariants.{Mark}
use Rattle.nc_queue.proofs.GivesLaws.{gives-no_w}
use Rattle.nc_lines.specs.Lines.{bare, line}
use Rattle.nc_queue.specs.Rules.{gives}
use Rattle.nc_hart.specs.HartState.{HartState}
use Rattle.nc_rules.specs.Machine.{MachineState, no_hart, queue_of}
use Rattle.nc_rules.specs.Sound.{IsMachine}
use Rattle.nc_calls.specs.PlaceLaws.{FreshAt, NotHeld, drops_copies}
use Rattle.nc_rules.specs.View.{middle}
use Rattle.nc_calls.proofs.StartPlaces.{loads_show}
use Rattle.nc_rows.specs.Ahead.{names, token, is_full}
use Rattle.nc_rows.specs.Places.{given, ThreadRow, QuietRow, PoolRow, OpenRow}
use Rattle.nc_rows.specs.Rows.{is_flush, back, drop, flushes, gives_here, LendingTo, LendingFrom, AllocatingRow, GivingRow, DeviceTo, DeviceFrom, DroppingRow, HomeRow, ComingRow}
use Rattle.nc_rows.proofs.PlaceFrames.{view_is}
use Rattle.nc_row_moves.proofs.Tests.{bare_op, op_w, none_in}
use Rattle.nc_row_plans.specs.Laws.{RowsPlan}
use Rattle.nc_row_plans.proofs.PlanPushes.{lend_to, lend_from, allocate, give, drops, come, send}

-- without a write no cache operation is queued, so that one that stands is still to come
stands_ahead : (p : CboOp → Bool) (b : ℕ) (t : Entry → Bool) (q c : List Entry) → list_any is_w q ≡ false → Stands (has_op p b) t (line q c) → Stands (has_op p b) t c
stands_ahead p b t [] c none stands = stands
stands_ahead p b t (a ∷ q) c none (inl here) = let parts = or_parts (is_w a) (list_any is_w q) none in absurd (both_ways (is_w a) parts.0 (op_w p b a (sym (bare_op p b a) ∙ here)))
stands_ahead p b t (a ∷ q) c none (inr later) = stands_ahead p b t q c (or_parts (is_w a) (list_any is_w q) none).1 later.1

-- nothing stands between a full fence and the token
none_fenced : (p : CboOp → Bool) (b : ℕ) (n : MapId) (c : List Entry) → names n (token n) ≡ true → Stands (has_op p b) (names n) (Mark 15 15 ∷ token n ∷ c) → ⊥
none_fenced p b n c named (inl here) = absurd cc
none_fenced p b n c named (inr (on, inl here)) = absurd cc
none_fenced p b n c named (inr (on, inr later)) = both_ways (names n (token n)) later.0 named

none_last : (p : CboOp → Bool) (b : ℕ) (t : Entry → Bool) → Stands (has_op p b) t (Mark 15 15 ∷ []) → ⊥
none_last p b t (inl here) = absurd cc
none_last p b t (inr later) = later.1

-- nor before a full fence that comes next
none_before : (p : CboOp → Bool) (b : ℕ) (c : List Entry) → Stands (has_op p b) is_full (Mark 15 15 ∷ c) → ⊥
none_before p b c (inl here) = absurd cc
none_before p b c (inr later) = absurd cc

-- a mapping's token is its own
pub named : (n : MapId) → names n (token n) ≡ true
named n =
    and_from (n.label.0 == n.label.0) (nat_le n.entry n.entry && nat_lt n.entry (n.entry + 1)) (eq-eqb n.label.0 n.label.0 refl)
    (and_from (nat_le n.entry n.entry) (nat_lt n.entry (n.entry + 1)) (le-leb n.entry n.entry (omega arith)) (lt-ltb n.entry (n.entry + 1) (omega arith)))

pub lent_to : (m : MachineState) (n : MapId) (v x y : ℕ) (ahead : List Entry) → list_any is_w (queue_of m n.hart.0) ≡ false → LendingTo n v (Mark 15 15 ∷ token n ∷ ahead) m x y → DeviceTo n v m x y
lent_to m n v x y ahead none row = record {
  device = row.settled (λ stands. none_fenced writes_back (y / m.size) n ahead (named n) (stands_ahead writes_back (y / m.size) (names n) (queue_of m n.hart.0) (Mark 15 15 ∷ token n ∷ ahead) none stands));
  buffer = row.buffer;
}

pub lent_from : (m : MachineState) (n : MapId) (v x y : ℕ) (ahead : List Entry) → list_any is_w (queue_of m n.hart.0) ≡ false → LendingFrom n v (Mark 15 15 ∷ token n ∷ ahead) m x y → DeviceFrom n v m x y
lent_from m n v x y ahead none row = record {
  device = row.lending.settled (λ stands. none_fenced writes_back (y / m.size) n ahead (named n) (stands_ahead writes_back (y / m.size) (names n) (queue_of m n.hart.0) (Mark 15 15 ∷ token n ∷ ahead) none stands));
  buffer = inr row.lending.buffer.quiet;
}

-- a place that no queue gives is as good as any hart's
pub pool_thread : (m : MachineState) (h v x : ℕ) → PoolRow v m x → ThreadRow h v m x
unfolding middle
pool_thread m h v x row = record {
  shows = view_is m h x ∙ ap (λ (o : Option ℕ). unwrap_or o (middle m x)) (row.none h) ∙ row.both.copy;
  quiet = record { fresh = fresh_both m.size m.cache v x row.both; others = λ g ne. row.none g };
}

pub allocated : (m : MachineState) (n : MapId) (v x : ℕ) → list_any is_w (queue_of m n.hart.0) ≡ false → AllocatingRow n v (Mark 15 15 ∷ []) m x → ThreadRow n.hart.0 v m x × NotHeld m x
allocated m n v x none row =
    let settled = row.settled (λ stands. none_last is_flush (x / m.size) (names n) (stands_ahead is_flush (x / m.size) (names n) (queue_of m n.hart.0) (Mark 15 15 ∷ []) none stands)) in
    (row.buffer, settled.1)

pool_made : (m : MachineState) (v x : ℕ) → byte m.cache.ram x ≡ v → middle m x ≡ v → ((g : ℕ) → given m g x ≡ None) → PoolRow v m x
unfolding middle
pool_made m v x memory copy none = record { both = record { memory = memory; copy = copy }; none = none }

pub given_area : (m : MachineState) (n : MapId) (v x : ℕ) (ahead : List Entry) → list_any is_w (queue_of m n.hart.0) ≡ false → NotHeld m x → GivingRow n v ahead m x → PoolRow v m x
given_area m n v x ahead none free row =
    let h = n.hart.0 in
    let own : given m h x ≡ None = gives-no_w m.size (queue_of m h) x none in
    let copy : middle m x ≡ v = sym (ap (λ (o : Option ℕ). unwrap_or o (middle m x)) own) ∙ sym (view_is m h x) ∙ row.buffer.shows in
    pool_made m v x (sym (loads_show.not_held m x free) ∙ copy) copy (λ g. elim (cases_eq g h) [ inl same ↦ rw same own | inr ne ↦ row.buffer.quiet.others g ne ])

-- a hart that is not there has no queue
nobody : (m : MachineState) (g y : ℕ) → length m.harts ≤ g → given m g y ≡ None
unfolding gives
nobody m g y past = ap (λ (s : HartState). gives m.size s.queue.entries y) (get_or_past m.harts g no_hart past)

none_given : (m : MachineState) (y g : ℕ) (v : ℕ) → IsMachine m → OpenRow v m y → given m g y ≡ None
none_given m y g v sound row = elim (cases_lt g (length m.harts)) [
  | inl lt ↦ none_in {s = m.size} sound.block_size (queue_of m g) y (sound.queues g lt).fit (row.none g)
  | inr past ↦ nobody m g y past
]

home_open : (m : MachineState) (h v x y : ℕ) (ahead : List Entry) → (x ≡ y) ⊎ (list_any (gives_here m x) ahead ≡ true) → (x ≡ y) ⊎ QuietRow h m x → (x ≡ y) ⊎ HomeRow h v ahead m x
home_open m h v x y ahead why (inl direct) = inl direct
home_open m h v x y ahead (inl direct) (inr quiet) = inl direct
home_open m h v x y ahead (inr coming) (inr quiet) = inr (record { unstored = λ _. quiet; stored = λ lacks. absurd (both_ways (list_any (gives_here m x) ahead) lacks coming) })

pub dropped : (m : MachineState) (n : MapId) (v x y : ℕ) (ahead : List Entry) → IsMachine m → list_any is_w (queue_of m n.hart.0) ≡ false → (x ≡ y) ⊎ (list_any (gives_here m x) ahead ≡ true) → DroppingRow n v (Mark 15 15 ∷ ahead) m x y
    → ComingRow n v ahead m x y
dropped m n v x y ahead sound none why row =
    let fresh = row.dropped (λ stands. none_before drops_copies (y / m.size) ahead (stands_ahead drops_copies (y / m.size) is_full (queue_of m n.hart.0) (Mark 15 15 ∷ ahead) none stands)) in
    let copy : middle m y ≡ v = loads_show.settled m y fresh row.device.clear ∙ row.device.memory in
    record { device = pool_made m v y row.device.memory copy (λ g. none_given m y g v sound row.device); buffer = home_open m n.hart.0 v x y ahead why row.buffer }

pub back_again : (m : MachineState) (n : MapId) (v x y : ℕ) → ComingRow n v [] m x y → ThreadRow n.hart.0 v m x
back_again m n v x y row = elim row.buffer [
  | inl direct ↦ subst (λ (z : ℕ). ThreadRow n.hart.0 v m z) (sym direct) (pool_thread m n.hart.0 v y row.device)
  | inr home ↦ home.stored refl
]

pub rows_plan : RowsPlan
rows_plan = record {
  lend_to = lend_to;
  lend_from = lend_from;
  allocate = allocate;
  give = give;
  drop = drops;
  come = come;
  lent_to = lent_to;
  lent_from = lent_from;
  allocated = allocated;
  given = given_area;
  dropped = dropped;
  back = back_again;
  send = send;
}
