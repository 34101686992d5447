-- An entry of its own plan comes into the queue of a mapping's hart: the line stays.
use Rattle.std.specs.Prelude.{Option, Some, None, ◌/◌, unwrap_or, is_some, ◌||◌}
use Rattle.std.specs.List.{list_any}
use Rattle.std.proofs.Common.{◌≡◌, ◌≢◌, ◌⊎◌, ℕ, Bool, true, false, List, [], ◌∷◌, ◌++◌, refl, sym, ap, ◌∙◌, inl, inr, subst}
use Rattle.std.proofs.lemmas.Bool.{cases_eq, cases_Bool, both_ways, or_parts, or_from, or_left, or_right, or_cases}
use Rattle.nc_num.specs.Memory.{byte}
use Rattle.nc_num.specs.declared.names.MapId.{MapId}
use Rattle.nc_cache.proofs.Places.{fresh_both}
use Rattle.nc_queue.specs.Entries.{entry_gives, gives_in, is_wo, Fits}
use Rattle.nc_queue.specs.Laws.{Stands, Covered}
use Rattle.nc_queue.specs.declared.entry.Entry.{Entry}
use Rattle.nc_lines.specs.Lines.{bare, line, gives_at, Marked}
use Rattle.nc_lines.proofs.LineLaws as lines
use Rattle.nc_lines.proofs.Marks.{uncovered}
use Rattle.nc_lines.proofs.Gains.{push_line}
use Rattle.nc_rules.specs.declared.steps.Step.{Step}
use Rattle.nc_rules.specs.Machine.{MachineState, queue_of}
use Rattle.nc_rules.specs.Sound.{IsMachine}
use Rattle.nc_calls.specs.PlaceLaws.{FreshAt, NotHeld, may_leave_stale_copy}
use Rattle.nc_rules.specs.View.{view}
use Rattle.nc_rows.specs.Ahead.{names, is_full, is_mail, sending}
use Rattle.nc_rows.specs.Places.{given, ThreadRow, QuietRow, PoolRow, CalmRow, OpenRow}
use Rattle.nc_rows.specs.Rows.{back, drop, flushes, zeroes, gives_here, gives_block, PassingRow, SlotRow, LendingRow, LendingTo, LendingFrom, AllocatingRow, GivingRow, DroppingRow, HomeRow, ComingRow}
use Rattle.nc_row_moves.proofs.Tests.{bare_gives, bare_in, gives_w, w_unnamed, in_unnamed, silent_in}
use Rattle.nc_row_moves.proofs.LendingDrains.{here_alike, block_alike}
use Rattle.nc_row_issues.specs.Laws.{Enters, NoByte, NoBlock, NoBuffer}
use Rattle.nc_row_issues.proofs.PlacePushes.{given_pushed, quiet_pushed, thread_pushed, pool_pushed, calm_pushed, block_pushed, open_pushed, thread_stored}
use Rattle.nc_row_issues.proofs.LentPushes.{buffer_pushed}
use Rattle.nc_row_plans.specs.Laws.{Puts, PutsDevice, Zeroes}

-- what was to come is queued, and the line stays
line_same : (m k : MachineState) (e : Entry) (h : ℕ) (ahead : List Entry) → Enters m k h e → line (queue_of k h) ahead ≡ line (queue_of m h) (bare e ∷ ahead)
line_same m k e h ahead by = ap (λ (q : List Entry). line q ahead) by.pushes.queues.own ∙ push_line (queue_of m h) ahead e

by_line : (m k : MachineState) (e : Entry) (h : ℕ) (ahead : List Entry) (P : List Entry → Type 0) → Enters m k h e → P (line (queue_of m h) (bare e ∷ ahead)) → P (line (queue_of k h) ahead)
by_line m k e h ahead P by was = subst P (sym (line_same m k e h ahead by)) was

to_line : (m k : MachineState) (e : Entry) (h : ℕ) (ahead : List Entry) (P : List Entry → Type 0) → Enters m k h e → P (line (queue_of k h) ahead) → P (line (queue_of m h) (bare e ∷ ahead))
to_line m k e h ahead P by is = subst P (line_same m k e h ahead by) is

-- the hart's byte over a calm or a quiet place
thread_put : (m k : MachineState) (h : ℕ) (e : Entry) (v z : ℕ) → Enters m k h e → entry_gives m.size e z ≡ Some v → QuietRow h m z → ThreadRow h v k z
thread_put m k h e v z by puts row = record {
  shows = by.pushes.own_view z ∙ ap (λ (o : Option ℕ). unwrap_or o (view m h z)) puts;
  quiet = record {
    fresh = (by.pushes.places z).fresh row.fresh;
    others = λ g ne. rw (by.shape.size, by.pushes.queues.others g ne) (row.others g ne);
  };
}

calm_quiet : (m : MachineState) (h z : ℕ) → CalmRow m z → QuietRow h m z
calm_quiet m h z row = record { fresh = fresh_both m.size m.cache (byte m.cache.ram z) z row.both; others = λ g ne. row.none g }

gives_is : (m : MachineState) (e : Entry) (v z : ℕ) → entry_gives m.size e z ≡ Some v → gives_here m z (bare e) ≡ true
gives_is m e v z puts = bare_gives m.size z e ∙ ap (λ (o : Option ℕ). is_some o) puts

gives_not : (m : MachineState) (e : Entry) (z : ℕ) → NoByte m e z → gives_here m z (bare e) ≡ false
gives_not m e z none = bare_gives m.size z e ∙ ap (λ (o : Option ℕ). is_some o) none

none_if : (o : Option ℕ) → is_some o ≡ false → o ≡ None
none_if None is = refl
none_if (Some v) is = absurd cc

silent : (m : MachineState) (e : Entry) (z : ℕ) → gives_here m z (bare e) ≡ false → NoByte m e z
silent m e z other = none_if (entry_gives m.size e z) (sym (bare_gives m.size z e) ∙ other)

-- ---- a mapping that is being lent

slot_planned : (m k : MachineState) (h : ℕ) (e : Entry) (v y : ℕ) (ahead : List Entry) → Enters m k h e → Puts m e v y ahead → SlotRow h v (bare e ∷ ahead) m y → SlotRow h v ahead k y
slot_planned m k h e v y ahead by (inl none) row = record {
  unstored = λ coming. calm_pushed m k h e y by none (row.unstored (or_right (gives_here m y (bare e)) (list_any (gives_here m y) ahead) (rw (← by.shape.size) coming)));
  stored = λ lacks. thread_pushed m k h e h v y by none (row.stored (or_from (gives_here m y (bare e)) (list_any (gives_here m y) ahead) (gives_not m e y none) (rw (← by.shape.size) lacks)));
}
slot_planned m k h e v y ahead by (inr puts) row = record {
  unstored = λ coming. absurd (both_ways (list_any (gives_here m y) ahead) puts.1 (rw (← by.shape.size) coming));
  stored = λ lacks. thread_put m k h e v y by puts.0 (calm_quiet m h y (row.unstored (or_left (gives_here m y (bare e)) (list_any (gives_here m y) ahead) (gives_is m e v y puts.0))));
}

both_slots : (m k : MachineState) (h : ℕ) (e : Entry) (v x y : ℕ) (ahead : List Entry) → Enters m k h e → PutsDevice m e v x y ahead → (x ≡ y) ⊎ SlotRow h v (bare e ∷ ahead) m y → (x ≡ y) ⊎ SlotRow h v ahead k y
both_slots m k h e v x y ahead by puts (inl direct) = inl direct
both_slots m k h e v x y ahead by (inl direct) (inr slot) = inl direct
both_slots m k h e v x y ahead by (inr puts) (inr slot) = inr (slot_planned m k h e v y ahead by puts slot)

-- where nothing stands before the token the entry is none of p
lending_planned : (p : MachineState → ℕ → Entry → Bool) (S : MachineState → Type 0) (m k : MachineState) (e : Entry) (n : MapId) (v x y : ℕ) (ahead : List Entry) → Enters m k n.hart.0 e → NoByte m e x → PutsDevice m e v x y ahead
    → p k y ≡ p m y → ((a : Entry) → p m y a ≡ true → names n a ≡ false) → (p m y (bare e) ≡ false → S m → S k) → LendingRow (p m y) (S m) n v (bare e ∷ ahead) m x y → LendingRow (p k y) (S k) n v ahead k x y
lending_planned p S m k e n v x y ahead by none puts same apart keep row =
    let g = n.hart.0 in
    let w = back m y in
    let next : (Stands w (names n) (line (queue_of m g) (bare e ∷ ahead)) → ⊥) → p m y (bare e) ≡ false =
    λ not_stood. (or_parts (p m y (bare e)) (list_any (p m y) ahead) (lines.lines_cover.of_coming (p m y) (queue_of m g) (bare e ∷ ahead) (uncovered (p m y) w (names n) (line (queue_of m g) (bare e ∷ ahead)) apart row.behind not_stood))).0 in
    let after : (Stands w (names n) (line (queue_of k g) ahead) → ⊥) → S k =
    λ none_stands. let before = to_line m k e g ahead (λ l. Stands w (names n) l → ⊥) by none_stands in keep (next before) (row.settled before) in
    record {
      buffer = thread_pushed m k g e g v x by none row.buffer;
      slot = both_slots m k g e v x y ahead by puts row.slot;
      behind = rw (same, by.shape.size) (by_line m k e g ahead (Covered (p m y) w (names n)) by row.behind);
      marked = rw by.shape.size (by_line m k e g ahead (Marked w (names n)) by row.marked);
      settled = λ none_stands. after (rw (← by.shape.size) none_stands);
    }

pub lend_to : (m k : MachineState) (e : Entry) (n : MapId) (v x y : ℕ) (ahead : List Entry) → Enters m k n.hart.0 e → NoByte m e x → PutsDevice m e v x y ahead → LendingTo n v (bare e ∷ ahead) m x y → LendingTo n v ahead k x y
lend_to m k e n v x y ahead by none puts row =
    lending_planned gives_here (λ j. PoolRow v j y) m k e n v x y ahead by none puts (here_alike m k y by.shape.size) (λ a is. w_unnamed n a (gives_w m.size y a is))
    (λ other pool. pool_pushed m k n.hart.0 e v y by (silent m e y other) pool) row

pub lend_from : (m k : MachineState) (e : Entry) (n : MapId) (v x y : ℕ) (ahead : List Entry) → Enters m k n.hart.0 e → NoByte m e x → PutsDevice m e v x y ahead → LendingFrom n v (bare e ∷ ahead) m x y → LendingFrom n v ahead k x y
lend_from m k e n v x y ahead by none puts row = record {
  lending =
      lending_planned gives_block (λ j. OpenRow v j y) m k e n v x y ahead by none puts (block_alike m k y by.shape.size) (λ a is. in_unnamed n m.size (y / m.size) a is)
      (λ other open_row. open_pushed m k n.hart.0 e v y by (sym (bare_in m.size (y / m.size) e) ∙ other) open_row) row.lending;
  alone = λ g ne. rw (by.shape.size, by.pushes.queues.others g ne) (row.alone g ne);
}

-- ---- an area

pub allocate : (m k : MachineState) (e : Entry) (n : MapId) (v x : ℕ) (ahead : List Entry) → IsMachine m → Enters m k n.hart.0 e → Zeroes m e x ahead → AllocatingRow n v (bare e ∷ ahead) m x
    → AllocatingRow n (unwrap_or (entry_gives m.size e x) v) ahead k x
allocate m k e n v x ahead sound by zero row =
    let g = n.hart.0 in
    let b = x / m.size in
    let u = unwrap_or (entry_gives m.size e x) v in
    let free : NotHeld m x → NotHeld k x = λ held. (by.pushes.places x).line ∙ held in
    let settle : (Stands (flushes m x) (names n) (line (queue_of k g) ahead) → ⊥) → PoolRow u k x × NotHeld k x = λ none_stands.
    let before = to_line m k e g ahead (λ l. Stands (flushes m x) (names n) l → ⊥) by none_stands in
    let lacks = uncovered (gives_block m x) (flushes m x) (names n) (line (queue_of m g) (bare e ∷ ahead)) (λ a is. in_unnamed n m.size b a is) row.behind before in
    let other = (or_parts (gives_block m x (bare e)) (list_any (gives_block m x) ahead) (lines.lines_cover.of_coming (gives_block m x) (queue_of m g) (bare e ∷ ahead) lacks)).0 in
    let none : NoByte m e x = silent_in {s = m.size} sound.block_size e x zero.fits (sym (bare_in m.size b e) ∙ other) in
    let was = row.settled before in
    (subst (λ (d : ℕ). PoolRow d k x) (sym (ap (λ (o : Option ℕ). unwrap_or o v) none)) (pool_pushed m k g e v x by none was.0), free was.1) in
    record {
      buffer = thread_stored m k g e v x by row.buffer;
      alone = λ j ne. rw (by.shape.size, by.pushes.queues.others j ne) (row.alone j ne);
      whole = λ j. rw by.shape.size (by.pushes.queues.none (λ a. may_leave_stale_copy m.size a x) j zero.whole (row.whole j));
      behind = rw by.shape.size (by_line m k e g ahead (Covered (gives_block m x) (flushes m x) (names n)) by row.behind);
      unzeroed = λ coming.
          let more : list_any (zeroes m x) ahead ≡ true = rw (← by.shape.size) coming in
          let was = row.unzeroed (or_right (zeroes m x (bare e)) (list_any (zeroes m x) ahead) more) in
          elim zero.once [
            | inl other ↦ (free was.0, block_pushed m k g e g x by other was.1)
            | inr once ↦ absurd (both_ways (list_any (zeroes m x) ahead) once more)
          ];
      settled = λ none_stands. settle (rw (← by.shape.size) none_stands);
    }

pub give : (m k : MachineState) (e : Entry) (n : MapId) (v x : ℕ) (ahead : List Entry) → Enters m k n.hart.0 e → NoByte m e x → GivingRow n v (bare e ∷ ahead) m x → GivingRow n v ahead k x
give m k e n v x ahead by none row = record {
  buffer = thread_pushed m k n.hart.0 e n.hart.0 v x by none row.buffer;
  covered = rw by.shape.size (by_line m k e n.hart.0 ahead (Covered (gives_here m x) is_wo (names n)) by row.covered);
}

-- ---- a mapping that is taken back

pub drops : (m k : MachineState) (e : Entry) (n : MapId) (v x y : ℕ) (ahead : List Entry) → Enters m k n.hart.0 e → NoBlock m e y → NoBuffer m e x y → DroppingRow n v (bare e ∷ ahead) m x y → DroppingRow n v ahead k x y
drops m k e n v x y ahead by none beside row = record {
  device = open_pushed m k n.hart.0 e v y by none row.device;
  dropped = λ none_stands. (by.pushes.places y).fresh (row.dropped (to_line m k e n.hart.0 ahead (λ l. Stands (drop m y) is_full l → ⊥) by (rw (← by.shape.size) none_stands)));
  buffer = buffer_pushed m k n.hart.0 e n.hart.0 x y by beside row.buffer;
}

home_planned : (m k : MachineState) (h : ℕ) (e : Entry) (v x : ℕ) (ahead : List Entry) → Enters m k h e → Puts m e v x ahead → HomeRow h v (bare e ∷ ahead) m x → HomeRow h v ahead k x
home_planned m k h e v x ahead by (inl none) row = record {
  unstored = λ coming. quiet_pushed m k h e h x by none (row.unstored (or_right (gives_here m x (bare e)) (list_any (gives_here m x) ahead) (rw (← by.shape.size) coming)));
  stored = λ lacks. thread_pushed m k h e h v x by none (row.stored (or_from (gives_here m x (bare e)) (list_any (gives_here m x) ahead) (gives_not m e x none) (rw (← by.shape.size) lacks)));
}
home_planned m k h e v x ahead by (inr puts) row = record {
  unstored = λ coming. absurd (both_ways (list_any (gives_here m x) ahead) puts.1 (rw (← by.shape.size) coming));
  stored = λ lacks. thread_put m k h e v x by puts.0 (row.unstored (or_left (gives_here m x (bare e)) (list_any (gives_here m x) ahead) (gives_is m e v x puts.0)));
}

both_homes : (m k : MachineState) (h : ℕ) (e : Entry) (v x y : ℕ) (ahead : List Entry) → Enters m k h e → (x ≡ y) ⊎ Puts m e v x ahead → (x ≡ y) ⊎ HomeRow h v (bare e ∷ ahead) m x → (x ≡ y) ⊎ HomeRow h v ahead k x
both_homes m k h e v x y ahead by puts (inl direct) = inl direct
both_homes m k h e v x y ahead by (inl direct) (inr home) = inl direct
both_homes m k h e v x y ahead by (inr puts) (inr home) = inr (home_planned m k h e v x ahead by puts home)

pub come : (m k : MachineState) (e : Entry) (n : MapId) (v x y : ℕ) (ahead : List Entry) → Enters m k n.hart.0 e → NoByte m e y → (x ≡ y) ⊎ Puts m e v x ahead → ComingRow n v (bare e ∷ ahead) m x y → ComingRow n v ahead k x y
come m k e n v x y ahead by none puts row = record { device = pool_pushed m k n.hart.0 e v y by none row.device; buffer = both_homes m k n.hart.0 e v x y ahead by puts row.buffer }

-- ---- a buffer that is passed on

pub send : (m k : MachineState) (e : Entry) (h v b x : ℕ) (rest left : List Step) → Enters m k h e → NoByte m e x → sending b rest ≡ bare e ∷ sending b left → PassingRow h v b rest m x → PassingRow h v b left k x
send m k e h v b x rest left by none next row = record {
  giver = thread_pushed m k h e h v x by none row.giver;
  covered = rw by.shape.size (by_line m k e h (sending b left) (Covered (gives_here m x) is_wo (is_mail b)) by (subst (λ (c : List Entry). Covered (gives_here m x) is_wo (is_mail b) (line (queue_of m h) c)) next row.covered));
  sent = λ lacks. given_pushed m k h e h x by none
      ∙ row.sent (ap (λ (c : List Entry). list_any (is_mail b) (line (queue_of m h) c)) next ∙ to_line m k e h (sending b left) (λ l. list_any (is_mail b) l ≡ false) by lacks);
}
