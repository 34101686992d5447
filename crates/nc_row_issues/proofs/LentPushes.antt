-- A mapping, and a buffer that is passed on, after an entry came into a queue that its row lets pass.
use Rattle.std.specs.Prelude.{Option, Some, None, ◌/◌, map, is_some}
use Rattle.std.specs.List.{list_any}
use Rattle.std.proofs.Common.{◌≡◌, ◌≢◌, ◌⊎◌, ℕ, Bool, true, false, List, [], ◌∷◌, ◌++◌, refl, sym, ap, ◌∙◌, inl, inr, subst}
use Rattle.std.proofs.lemmas.Bool.{cases_eq, cases_Bool, both_ways}
use Rattle.nc_num.specs.declared.names.MapId.{MapId}
use Rattle.nc_queue.specs.Entries.{gives_in, is_wo}
use Rattle.nc_queue.specs.Laws.{Stands, Covered}
use Rattle.nc_queue.specs.declared.entry.Entry.{Entry}
use Rattle.nc_lines.specs.Lines.{bare, line, gives_at, Marked}
use Rattle.nc_rules.specs.declared.steps.Step.{Step}
use Rattle.nc_rules.specs.Machine.{MachineState, queue_of}
use Rattle.nc_calls.specs.PlaceLaws.{FreshAt, NotHeld, may_leave_stale_copy}
use Rattle.nc_rows.specs.Ahead.{names, is_full, is_mail, sending}
use Rattle.nc_rows.specs.Places.{given, ThreadRow, QuietRow, PoolRow, OpenRow}
use Rattle.nc_rows.specs.Rows.{back, drop, flushes, gives_here, gives_block, PassingRow, SlotRow, LendingRow, LendingTo, LendingFrom, AllocatingRow, GivingRow, DeviceTo, DeviceFrom, DroppingRow, HomeRow, ComingRow}
use Rattle.nc_row_moves.proofs.Tests.{bare_gives, bare_in}
use Rattle.nc_row_moves.proofs.LendingDrains.{here_alike, block_alike}
use Rattle.nc_row_issues.specs.Laws.{Enters, NoByte, NoBlock, NoBuffer, NoToken, NoBack, PassesTo, PassesFrom, PassesAllocating, PassesGiving, PassesDevice, PassesOpen, PassesDropping, PassesComing, PassesPassing}
use Rattle.nc_row_issues.proofs.PlacePushes.{given_pushed, quiet_pushed, thread_pushed, pool_pushed, calm_pushed, block_pushed, open_pushed, alone_pushed, gains, of_line}

-- ---- lines

covered_pushed : (m k : MachineState) (h : ℕ) (e : Entry) (g : ℕ) (c : List Entry) (p w t : Entry → Bool) → Enters m k h e → p (bare e) ≡ false → (g ≡ h → t (bare e) ≡ false) → Covered p w t (line (queue_of m g) c) → Covered p w t (line (queue_of k g) c)
covered_pushed m k h e g c p w t by not_p not_t covered = of_line m k h e g c (Covered p w t) by (λ own. (gains m g e c).still_covered p w t not_p (not_t own)) covered

marked_pushed : (m k : MachineState) (h : ℕ) (e : Entry) (g : ℕ) (c : List Entry) (w t : Entry → Bool) → Enters m k h e → (g ≡ h → t (bare e) ≡ false) → (g ≡ h → (w (bare e) ≡ false) ⊎ (list_any t (map bare (queue_of m g)) ≡ true))
    → Marked w t (line (queue_of m g) c) → Marked w t (line (queue_of k g) c)
marked_pushed m k h e g c w t by not_t why marked = of_line m k h e g c (Marked w t) by (λ own. (gains m g e c).still_marked w t (not_t own) (why own)) marked

-- what does not stand did not
not_stood : (m k : MachineState) (h : ℕ) (e : Entry) (g : ℕ) (c : List Entry) (w t : Entry → Bool) → Enters m k h e → (g ≡ h → t (bare e) ≡ false) → (Stands w t (line (queue_of k g) c) → ⊥) → Stands w t (line (queue_of m g) c) → ⊥
not_stood m k h e g c w t by not_t none stood = none (of_line m k h e g c (Stands w t) by (λ own. (gains m g e c).still_stands w t (not_t own)) stood)

-- ---- a mapping that is being lent

slot_pushed : (m k : MachineState) (h : ℕ) (e : Entry) (g v y : ℕ) (ahead : List Entry) → Enters m k h e → NoByte m e y → SlotRow g v ahead m y → SlotRow g v ahead k y
slot_pushed m k h e g v y ahead by none row = record {
  unstored = λ coming. calm_pushed m k h e y by none (row.unstored (rw (← by.shape.size) coming));
  stored = λ lacks. thread_pushed m k h e g v y by none (row.stored (rw (← by.shape.size) lacks));
}

lending_pushed : (p : MachineState → ℕ → Entry → Bool) (S : MachineState → Type 0) (m k : MachineState) (h : ℕ) (e : Entry) (n : MapId) (v x y : ℕ) (ahead : List Entry) → Enters m k h e → PassesTo n m h e x y → p m y (bare e) ≡ false → p k y ≡ p m y
    → (S m → S k) → LendingRow (p m y) (S m) n v ahead m x y → LendingRow (p k y) (S k) n v ahead k x y
lending_pushed p S m k h e n v x y ahead by pass not_p same keep row =
    let g = n.hart.0 in
    record {
      buffer = thread_pushed m k h e g v x by pass.buffer row.buffer;
      slot = elim row.slot [ inl direct ↦ inl direct | inr slot ↦ inr (slot_pushed m k h e g v y ahead by pass.device slot) ];
      behind = rw (same, by.shape.size) (covered_pushed m k h e g ahead (p m y) (back m y) (names n) by not_p pass.token row.behind);
      marked = rw by.shape.size (marked_pushed m k h e g ahead (back m y) (names n) by pass.token pass.back row.marked);
      settled = λ none. keep (row.settled (not_stood m k h e g ahead (back m y) (names n) by pass.token (rw (← by.shape.size) none)));
    }

gives_not : (m : MachineState) (e : Entry) (y : ℕ) → NoByte m e y → gives_here m y (bare e) ≡ false
gives_not m e y none = bare_gives m.size y e ∙ ap (λ (o : Option ℕ). is_some o) none

pub to_pushed : (m k : MachineState) (h : ℕ) (e : Entry) (n : MapId) (v x y : ℕ) (ahead : List Entry) → Enters m k h e → PassesTo n m h e x y → LendingTo n v ahead m x y → LendingTo n v ahead k x y
to_pushed m k h e n v x y ahead by pass row =
    lending_pushed gives_here (λ j. PoolRow v j y) m k h e n v x y ahead by pass (gives_not m e y pass.device) (here_alike m k y by.shape.size) (pool_pushed m k h e v y by pass.device) row

pub from_pushed : (m k : MachineState) (h : ℕ) (e : Entry) (n : MapId) (v x y : ℕ) (ahead : List Entry) → Enters m k h e → PassesFrom n m h e x y → LendingFrom n v ahead m x y → LendingFrom n v ahead k x y
from_pushed m k h e n v x y ahead by pass row = record {
  lending =
      lending_pushed gives_block (λ j. OpenRow v j y) m k h e n v x y ahead by pass.to (bare_in m.size (y / m.size) e ∙ pass.block) (block_alike m k y by.shape.size) (open_pushed m k h e v y by pass.block)
      row.lending;
  alone = alone_pushed m k h e n.hart.0 y by pass.block row.alone;
}

pub allocating_pushed : (m k : MachineState) (h : ℕ) (e : Entry) (n : MapId) (v x : ℕ) (ahead : List Entry) → Enters m k h e → PassesAllocating n m h e x → AllocatingRow n v ahead m x → AllocatingRow n v ahead k x
allocating_pushed m k h e n v x ahead by pass row =
    let g = n.hart.0 in
    let free : NotHeld m x → NotHeld k x = λ held. (by.pushes.places x).line ∙ held in
    record {
      buffer = thread_pushed m k h e g v x by pass.place row.buffer;
      alone = alone_pushed m k h e g x by pass.block row.alone;
      whole = λ j. rw by.shape.size (by.pushes.queues.none (λ a. may_leave_stale_copy m.size a x) j pass.whole (row.whole j));
      behind = rw by.shape.size (covered_pushed m k h e g ahead (gives_block m x) (flushes m x) (names n) by (bare_in m.size (x / m.size) e ∙ pass.block) pass.token row.behind);
      unzeroed = λ coming. let was = row.unzeroed (rw (← by.shape.size) coming) in (free was.0, block_pushed m k h e g x by pass.block was.1);
      settled = λ none.
          let was = row.settled (not_stood m k h e g ahead (flushes m x) (names n) by pass.token (rw (← by.shape.size) none)) in
          (pool_pushed m k h e v x by pass.place was.0, free was.1);
    }

pub giving_pushed : (m k : MachineState) (h : ℕ) (e : Entry) (n : MapId) (v x : ℕ) (ahead : List Entry) → Enters m k h e → PassesGiving n m h e x → GivingRow n v ahead m x → GivingRow n v ahead k x
giving_pushed m k h e n v x ahead by pass row = record {
  buffer = thread_pushed m k h e n.hart.0 v x by pass.place row.buffer;
  covered = rw by.shape.size (covered_pushed m k h e n.hart.0 ahead (gives_here m x) is_wo (names n) by (gives_not m e x pass.place) pass.token row.covered);
}

-- ---- the device's, and what is taken back

pub device_to_pushed : (m k : MachineState) (h : ℕ) (e : Entry) (n : MapId) (v x y : ℕ) → Enters m k h e → PassesDevice m e x y → DeviceTo n v m x y → DeviceTo n v k x y
device_to_pushed m k h e n v x y by pass row = record { device = pool_pushed m k h e v y by pass.device row.device; buffer = thread_pushed m k h e n.hart.0 v x by pass.buffer row.buffer }

pub buffer_pushed : (m k : MachineState) (h : ℕ) (e : Entry) (g x y : ℕ) → Enters m k h e → NoBuffer m e x y → (x ≡ y) ⊎ QuietRow g m x → (x ≡ y) ⊎ QuietRow g k x
buffer_pushed m k h e g x y by pass (inl direct) = inl direct
buffer_pushed m k h e g x y by (inl direct) (inr quiet) = inl direct
buffer_pushed m k h e g x y by (inr none) (inr quiet) = inr (quiet_pushed m k h e g x by none quiet)

pub device_from_pushed : (m k : MachineState) (h : ℕ) (e : Entry) (n : MapId) (v x y : ℕ) → Enters m k h e → PassesOpen m e x y → DeviceFrom n v m x y → DeviceFrom n v k x y
device_from_pushed m k h e n v x y by pass row = record { device = open_pushed m k h e v y by pass.device row.device; buffer = buffer_pushed m k h e n.hart.0 x y by pass.buffer row.buffer }

pub dropping_pushed : (m k : MachineState) (h : ℕ) (e : Entry) (n : MapId) (v x y : ℕ) (ahead : List Entry) → Enters m k h e → PassesDropping n m h e x y → DroppingRow n v ahead m x y → DroppingRow n v ahead k x y
dropping_pushed m k h e n v x y ahead by pass row = record {
  device = open_pushed m k h e v y by pass.opened.device row.device;
  dropped = λ none. (by.pushes.places y).fresh (row.dropped (not_stood m k h e n.hart.0 ahead (drop m y) is_full by pass.fence (rw (← by.shape.size) none)));
  buffer = buffer_pushed m k h e n.hart.0 x y by pass.opened.buffer row.buffer;
}

home_pushed : (m k : MachineState) (h : ℕ) (e : Entry) (g v x : ℕ) (ahead : List Entry) → Enters m k h e → NoByte m e x → HomeRow g v ahead m x → HomeRow g v ahead k x
home_pushed m k h e g v x ahead by none row = record {
  unstored = λ coming. quiet_pushed m k h e g x by none (row.unstored (rw (← by.shape.size) coming));
  stored = λ lacks. thread_pushed m k h e g v x by none (row.stored (rw (← by.shape.size) lacks));
}

back_pushed : (m k : MachineState) (h : ℕ) (e : Entry) (g v x y : ℕ) (ahead : List Entry) → Enters m k h e → NoBuffer m e x y → (x ≡ y) ⊎ HomeRow g v ahead m x → (x ≡ y) ⊎ HomeRow g v ahead k x
back_pushed m k h e g v x y ahead by pass (inl direct) = inl direct
back_pushed m k h e g v x y ahead by (inl direct) (inr home) = inl direct
back_pushed m k h e g v x y ahead by (inr none) (inr home) = inr (home_pushed m k h e g v x ahead by none home)

pub coming_pushed : (m k : MachineState) (h : ℕ) (e : Entry) (n : MapId) (v x y : ℕ) (ahead : List Entry) → Enters m k h e → PassesComing m e x y → ComingRow n v ahead m x y → ComingRow n v ahead k x y
coming_pushed m k h e n v x y ahead by pass row = record { device = pool_pushed m k h e v y by pass.device row.device; buffer = back_pushed m k h e n.hart.0 v x y ahead by pass.buffer row.buffer }

-- ---- a buffer that is passed on

was_unsent : (m k : MachineState) (h : ℕ) (e : Entry) (j b : ℕ) (ahead : List Entry) → Enters m k h e → list_any (is_mail b) (line (queue_of k j) ahead) ≡ false → list_any (is_mail b) (line (queue_of m j) ahead) ≡ false
was_unsent m k h e j b ahead by none = elim (cases_eq j h) [
  | inl same ↦
      let here : queue_of k j ≡ queue_of m j ++ e ∷ [] = ap (queue_of k) same ∙ by.pushes.queues.own ∙ ap (λ (i : ℕ). queue_of m i ++ e ∷ []) (sym same) in
      (gains m j e ahead).was_none (is_mail b) (ap (λ (q : List Entry). list_any (is_mail b) (line q ahead)) (sym here) ∙ none)
  | inr ne ↦ ap (λ (q : List Entry). list_any (is_mail b) (line q ahead)) (sym (by.pushes.queues.others j ne)) ∙ none
]

pub passing_pushed : (m k : MachineState) (h : ℕ) (e : Entry) (j v b x : ℕ) (rest : List Step) → Enters m k h e → PassesPassing j b m h e x → PassingRow j v b rest m x → PassingRow j v b rest k x
passing_pushed m k h e j v b x rest by pass row =
    let ahead = sending b rest in
    record {
      giver = thread_pushed m k h e j v x by pass.place row.giver;
      covered = rw by.shape.size (covered_pushed m k h e j ahead (gives_here m x) is_wo (is_mail b) by (gives_not m e x pass.place) pass.message row.covered);
      sent = λ none. given_pushed m k h e j x by pass.place ∙ row.sent (was_unsent m k h e j b ahead by none);
    }
