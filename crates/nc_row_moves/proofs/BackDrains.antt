-- A mapping that the device has, one that is taken back, and a buffer that is passed on, after an entry drained.
use Rattle.std.specs.Prelude.{Option, Some, None, ◌/◌}
use Rattle.std.specs.List.{list_any}
use Rattle.std.proofs.Common.{◌≡◌, ◌≢◌, ◌⊎◌, ℕ, Bool, true, false, List, refl, sym, ap, ◌∙◌, inl, inr, subst}
use Rattle.std.proofs.lemmas.Bool.{cases_eq, cases_Bool, both_ways}
use Rattle.nc_num.specs.declared.names.MapId.{MapId}
use Rattle.nc_env.specs.declared.CboOp.{CboOp}
use Rattle.nc_env.specs.declared.CboOp.TheVariants as cbos
use Rattle.nc_queue.specs.Entries.{has_op, is_inval, gives_in, is_wo}
use Rattle.nc_queue.specs.Laws.{Stands, Covered}
use Rattle.nc_queue.specs.declared.entry.Entry.{Entry}
use Rattle.nc_lines.specs.Lines.{bare, line, gives_at}
use Rattle.nc_rules.specs.declared.steps.Step.{Step}
use Rattle.nc_rules.specs.Machine.{MachineState, queue_of}
use Rattle.nc_calls.specs.PlaceLaws.{FreshAt, NotHeld, KeepsCoherence, may_leave_stale_copy, drops_copies}
use Rattle.nc_rows.specs.Ahead.{is_full, is_mail, sending}
use Rattle.nc_rows.specs.Places.{given, ThreadRow, QuietRow, PoolRow, OpenRow}
use Rattle.nc_rows.specs.Rows.{drop, gives_here, PassingRow, DeviceTo, DeviceFrom, DroppingRow, HomeRow, ComingRow}
use Rattle.nc_row_moves.specs.Laws.{LosesFrom}
use Rattle.nc_row_moves.proofs.Tests.{bare_op, gives_w, mail_o, wider_op, none_in, parted}
use Rattle.nc_row_moves.proofs.PlaceDrains.{Leaves, not_given, still_none, quiet_drained, thread_drained, pool_drained, open_drained}
use Rattle.nc_row_moves.proofs.LineDrains.{of_line, marked_cover, left_by, loses, line_here}
use Rattle.nc_row_moves.proofs.LendingDrains.{none_of_queue}

pub device_to_drained : (m k : MachineState) (h i : ℕ) (e : Entry) (n : MapId) (v x y : ℕ) → Leaves m k h i e → KeepsCoherence m e x → DeviceTo n v m x y → DeviceTo n v k x y
device_to_drained m k h i e n v x y l loses_x row = record { device = pool_drained m k h i e v y l row.device; buffer = thread_drained m k h i e n.hart.0 v x l loses_x row.buffer }

buffer_drained : (m k : MachineState) (h i : ℕ) (e : Entry) (g x y : ℕ) → Leaves m k h i e → LosesFrom m e x y → (x ≡ y) ⊎ QuietRow g m x → (x ≡ y) ⊎ QuietRow g k x
buffer_drained m k h i e g x y l loses_x (inl direct) = inl direct
buffer_drained m k h i e g x y l (inl direct) (inr quiet) = inl direct
buffer_drained m k h i e g x y l (inr loses_x) (inr quiet) = inr (quiet_drained m k h i e g x l loses_x quiet)

pub device_from_drained : (m k : MachineState) (h i : ℕ) (e : Entry) (n : MapId) (v x y : ℕ) → Leaves m k h i e → LosesFrom m e x y → DeviceFrom n v m x y → DeviceFrom n v k x y
device_from_drained m k h i e n v x y l loses_x row = record { device = open_drained m k h i e v y l row.device; buffer = buffer_drained m k h i e n.hart.0 x y l loses_x row.buffer }

-- ---- blocks that are dropped

inval_drops : (op : CboOp) → is_inval op ≡ true → drops_copies op ≡ true
inval_drops cbos.Inval is = refl
inval_drops cbos.Clean is = absurd cc
inval_drops cbos.Flush is = absurd cc
inval_drops cbos.Zero is = absurd cc

-- an entry that drops no copy of an open block loses none
open_loses : (m k : MachineState) (h i : ℕ) (e : Entry) (v y : ℕ) → Leaves m k h i e → OpenRow v m y → has_op drops_copies (y / m.size) e ≡ false → KeepsCoherence m e y
open_loses m k h i e v y l row other = λ is. absurd (elim (parted m.size y e is) [
  | inl inval ↦ both_ways (has_op drops_copies (y / m.size) e) other (wider_op is_inval drops_copies (y / m.size) e inval_drops inval)
  | inr gives ↦ gives (not_given m k h i e y l (none_in {s = m.size} l.drain.sound.block_size (queue_of m h) y (l.drain.sound.queues h l.drain.hart).fit (row.none h)))
])

fresh_free : (k : MachineState) (y : ℕ) → NotHeld k y → FreshAt k y
fresh_free k y free = record { agrees = rw free tt }

pub dropping_drained : (m k : MachineState) (h i : ℕ) (e : Entry) (n : MapId) (v x y : ℕ) (ahead : List Entry) → Leaves m k h i e → LosesFrom m e x y → DroppingRow n v ahead m x y → DroppingRow n v ahead k x y
dropping_drained m k h i e n v x y ahead l loses_x row =
    let after : (Stands (drop m y) is_full (line (queue_of k n.hart.0) ahead) → ⊥) → FreshAt k y = λ none. elim (cases_Bool (has_op drops_copies (y / m.size) e)) [
      | inl gone ↦ fresh_free k y ((l.drains.places y).gone gone)
      | inr other ↦
          let before : Stands (drop m y) is_full (line (queue_of m n.hart.0) ahead) → ⊥ =
          λ stood. none (of_line m k h i e n.hart.0 ahead (Stands (drop m y) is_full) l (λ own. (loses m k h i e ahead l).still_stands (drop m y) is_full (bare_op drops_copies (y / m.size) e ∙ other)) stood) in
          ((l.drains.places y).fresh (open_loses m k h i e v y l row.device other) (row.dropped before)).0
    ] in
    record {
      device = open_drained m k h i e v y l row.device;
      dropped = λ none. after (rw (← l.size) none);
      buffer = buffer_drained m k h i e n.hart.0 x y l loses_x row.buffer;
    }

-- ---- bytes that come back

home_drained : (m k : MachineState) (h i : ℕ) (e : Entry) (g v x : ℕ) (ahead : List Entry) → Leaves m k h i e → KeepsCoherence m e x → HomeRow g v ahead m x → HomeRow g v ahead k x
home_drained m k h i e g v x ahead l loses_x row = record {
  unstored = λ coming. quiet_drained m k h i e g x l loses_x (row.unstored (rw (← l.size) coming));
  stored = λ none. thread_drained m k h i e g v x l loses_x (row.stored (rw (← l.size) none));
}

back_home : (m k : MachineState) (h i : ℕ) (e : Entry) (g v x y : ℕ) (ahead : List Entry) → Leaves m k h i e → LosesFrom m e x y → (x ≡ y) ⊎ HomeRow g v ahead m x → (x ≡ y) ⊎ HomeRow g v ahead k x
back_home m k h i e g v x y ahead l loses_x (inl direct) = inl direct
back_home m k h i e g v x y ahead l (inl direct) (inr home) = inl direct
back_home m k h i e g v x y ahead l (inr loses_x) (inr home) = inr (home_drained m k h i e g v x ahead l loses_x home)

pub coming_drained : (m k : MachineState) (h i : ℕ) (e : Entry) (n : MapId) (v x y : ℕ) (ahead : List Entry) → Leaves m k h i e → LosesFrom m e x y → ComingRow n v ahead m x y → ComingRow n v ahead k x y
coming_drained m k h i e n v x y ahead l loses_x row = record { device = pool_drained m k h i e v y l row.device; buffer = back_home m k h i e n.hart.0 v x y ahead l loses_x row.buffer }

-- ---- a buffer that is passed on

-- the message is out, and with it what the hart stored
sent_now : (m k : MachineState) (h i : ℕ) (e : Entry) (g b x : ℕ) (ahead : List Entry) → Leaves m k h i e → Covered (gives_here m x) is_wo (is_mail b) (line (queue_of m g) ahead) → list_any (is_mail b) (line (queue_of m g) ahead) ≡ true
    → list_any (is_mail b) (line (queue_of k g) ahead) ≡ false → given k g x ≡ None
sent_now m k h i e g b x ahead l covered some none =
    let by = left_by m k h i e g ahead (is_mail b) l some none in
    let here = subst (λ (j : ℕ). Covered (gives_here m x) is_wo (is_mail b) (line (queue_of m j) ahead)) by.0 covered in
    let left = (loses m k h i e ahead l).none_left (gives_here m x) (is_mail b) (λ a gives. gives_w m.size x a gives) by.1 (mail_o b e by.1) here in
    rw (by.0, l.size) (none_of_queue m.size x (queue_of k h) ahead (ap (list_any (gives_here m x)) (line_here m k h i e ahead l) ∙ left))

pub passing_drained : (m k : MachineState) (h i : ℕ) (e : Entry) (g v b x : ℕ) (rest : List Step) → Leaves m k h i e → KeepsCoherence m e x → PassingRow g v b rest m x → PassingRow g v b rest k x
passing_drained m k h i e g v b x rest l loses_x row =
    let ahead = sending b rest in
    record {
      giver = thread_drained m k h i e g v x l loses_x row.giver;
      covered = rw l.size (marked_cover m k h i e g ahead (gives_here m x) (is_mail b) l (λ a gives. gives_w m.size x a gives) row.covered);
      sent = λ none. elim (cases_Bool (list_any (is_mail b) (line (queue_of m g) ahead))) [
        | inl some ↦ sent_now m k h i e g b x ahead l row.covered some none
        | inr before ↦ still_none m k h i e g x l (row.sent before)
      ];
    }
