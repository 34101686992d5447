-- Each row, after an entry drained.
use Rattle.std.specs.Prelude.{Option, Some, None, ◌/◌, ◌==◌, ◌&&◌, All}
use Rattle.std.specs.List.{list_any}
use Rattle.std.proofs.Common.{◌≡◌, ◌⊎◌, ℕ, Bool, true, false, List, refl, sym, ap, ◌∙◌, inl, inr, subst}
use Rattle.std.proofs.lemmas.Bool.{cases_Bool, both_ways, and_parts, and_from, eqb-true, eq-eqb}
use Rattle.nc_num.specs.declared.names.Dir.{Dir}
use Rattle.nc_num.specs.declared.names.Dir.TheVariants.{Both, ToDev, FromDev}
use Rattle.nc_num.specs.declared.names.MapId.{MapId}
use Rattle.nc_queue.specs.declared.entry.Entry.{Entry}
use Rattle.nc_queue.specs.Laws.{Stands}
use Rattle.nc_lines.specs.Lines.{line, Marked}
use Rattle.nc_model.specs.declared.owners.Owner.{Owner}
use Rattle.nc_model.specs.declared.owners.Owner.TheVariants.{Thread, Passing, Lending, Device, Returning, Synced, Pool}
use Rattle.nc_rules.specs.Machine.{MachineState, queue_of}
use Rattle.nc_rules.specs.Calls.{drain_next}
use Rattle.nc_calls.specs.PlaceLaws.{NotHeld, KeepsCoherence}
use Rattle.nc_rows.specs.Ahead.{names, is_full, settling}
use Rattle.nc_rows.specs.Places.{ThreadRow, PoolRow, OpenRow}
use Rattle.nc_rows.specs.Rows.{Loan, Book, device_place, back, LendingRow, LendingTo, LendingFrom, AllocatingRow, GivingRow, DeviceTo, DeviceFrom, Either, ByDir, ahead_of, LentRow, DeviceRow, BackRow, SyncedRow, Row}
use Rattle.nc_rows.proofs.Kept.{either_map}
use Rattle.nc_row_moves.specs.Laws.{LosesFrom, LosesLent, LosesDevice, LosesNoRow, InBlock, PiecesOf, HasPieces, is_token_of, is_token, IsDrain, IsGiven, RowsDrain}
use Rattle.nc_row_moves.proofs.Tests.{bare_names, op_w, w_unnamed, names_o}
use Rattle.nc_row_moves.proofs.PlaceDrains.{Leaves, leaves, thread_drained, pool_drained, open_drained}
use Rattle.nc_row_moves.proofs.LineDrains.{loses}
use Rattle.nc_row_moves.proofs.LendingDrains.{to_drained, from_drained, back_w}
use Rattle.nc_row_moves.proofs.AreaDrains.{allocating_drained, giving_drained, area_given}
use Rattle.nc_row_moves.proofs.BackDrains.{device_to_drained, device_from_drained, dropping_drained, coming_drained, passing_drained}

-- both of two are told by one test
pub either_both : (b : Bool) (a c p q r s : Type 0) → (a → p → r) → (c → q → s) → Either b a c → Either b p q → Either b r s
either_both true a c p q r s first second told row = first told row
either_both false a c p q r s first second told row = second told row

pub dir_both : (d : Dir) (a c p q r s : Type 0) → (a → p → r) → (c → q → s) → ByDir d a c → ByDir d p q → ByDir d r s
dir_both ToDev a c p q r s first second told row = first told row
dir_both Both a c p q r s first second told row = second told row
dir_both FromDev a c p q r s first second told row = second told row

pub dir_either : (d : Dir) (p q r s : Type 0) → (p → r) → (q → s) → ByDir d p q → ByDir d r s
dir_either ToDev p q r s first second row = first row
dir_either Both p q r s first second row = second row
dir_either FromDev p q r s first second row = second row

-- ---- no token of its own

own_other : (n : MapId) (h : ℕ) (e : Entry) → is_token_of n h e ≡ false → n.hart.0 ≡ h → names n e ≡ false
own_other n h e other own = elim (cases_Bool (names n e)) [
  | inl is ↦ absurd (both_ways (n.hart.0 == h && names n e) other (and_from (n.hart.0 == h) (names n e) (eq-eqb n.hart.0 h own) is))
  | inr not_so ↦ not_so
]

lent_drained : (a : Book) (n : MapId) (o : Option Loan) (v : ℕ) (m k : MachineState) (h i : ℕ) (e : Entry) (x : ℕ) → Leaves m k h i e → LosesLent o m e x → PiecesOf a n o m x → is_token_of n h e ≡ false → LentRow a n o v m x → LentRow a n o v k x
lent_drained a n None v m k h i e x l loses_row pieces other row = absurd row
lent_drained a n (Some loan) v m k h i e x l loses_row pieces other row =
    let ahead = ahead_of a n loan in
    let y = device_place loan x in
    either_map loan.area _ _ _ _
    (either_map (settling loan.lot (a.rest n.hart.0)) _ _ _ _ (allocating_drained m k h i e n v x ahead l loses_row.0) (giving_drained m k h i e n v x ahead l loses_row.0))
    (dir_either loan.grant.dir _ _ _ _ (to_drained m k h i e n v x y ahead l loses_row.0 loses_row.1 (own_other n h e other)) (from_drained m k h i e n v x y ahead l loses_row.0 loses_row.1 pieces (own_other n h e other))) row

device_drained : (n : MapId) (o : Option Loan) (v : ℕ) (m k : MachineState) (h i : ℕ) (e : Entry) (x : ℕ) → Leaves m k h i e → LosesDevice o m e x → DeviceRow n o v m x → DeviceRow n o v k x
device_drained n None v m k h i e x l loses_row row = absurd row
device_drained n (Some loan) v m k h i e x l loses_row row =
    let y = device_place loan x in
    either_both loan.area _ _ _ _ _ _ (λ _ pool. pool_drained m k h i e v x l pool) (dir_both loan.grant.dir _ _ _ _ _ _ (device_to_drained m k h i e n v x y l) (device_from_drained m k h i e n v x y l)) loses_row row

back_drained : (a : Book) (n : MapId) (o : Option Loan) (v : ℕ) (m k : MachineState) (h i : ℕ) (e : Entry) (x : ℕ) → Leaves m k h i e → LosesDevice o m e x → BackRow a n o v m x → BackRow a n o v k x
back_drained a n None v m k h i e x l loses_row row = absurd row
back_drained a n (Some loan) v m k h i e x l loses_row row =
    let ahead = ahead_of a n loan in
    let y = device_place loan x in
    either_both loan.area _ _ _ _ _ _ (thread_drained m k h i e n.hart.0 v x l)
    (dir_both loan.grant.dir _ _ _ _ _ _ (device_to_drained m k h i e n v x y l)
    (λ loses_x. either_map (list_any is_full ahead) _ _ _ _ (dropping_drained m k h i e n v x y ahead l loses_x) (coming_drained m k h i e n v x y ahead l loses_x))) loses_row row

synced_drained : (n : MapId) (o : Option Loan) (v : ℕ) (m k : MachineState) (h i : ℕ) (e : Entry) (x : ℕ) → Leaves m k h i e → KeepsCoherence m e x → SyncedRow n o v m x → SyncedRow n o v k x
synced_drained n None v m k h i e x l loses_x row = absurd row
synced_drained n (Some loan) v m k h i e x l loses_x row = thread_drained m k h i e n.hart.0 v x l loses_x row

kept_by : (a : Book) (o : Owner) (v : ℕ) (m k : MachineState) (h i : ℕ) (e : Entry) (x : ℕ) → Leaves m k h i e → LosesNoRow a o m e x → HasPieces a o m x → is_token o h e ≡ false → Row a o v m x → Row a o v k x
kept_by a (Thread j) v m k h i e x l loses_row pieces other row = thread_drained m k h i e j.0 v x l loses_row row
kept_by a (Passing j g) v m k h i e x l loses_row pieces other row = passing_drained m k h i e j.0 v (a.buffer x) x (a.rest j.0) l loses_row row
kept_by a (Lending n) v m k h i e x l loses_row pieces other row = lent_drained a n (a.loan n) v m k h i e x l loses_row pieces other row
kept_by a (Device n) v m k h i e x l loses_row pieces other row = device_drained n (a.loan n) v m k h i e x l loses_row row
kept_by a (Returning n) v m k h i e x l loses_row pieces other row = back_drained a n (a.loan n) v m k h i e x l loses_row row
kept_by a (Synced n) v m k h i e x l loses_row pieces other row = synced_drained n (a.loan n) v m k h i e x l loses_row row
kept_by a Pool v m k h i e x l loses_row pieces other row = pool_drained m k h i e v x l row

-- ---- its token

none_marked : (m k : MachineState) (h i : ℕ) (e : Entry) (n : MapId) (y : ℕ) (ahead : List Entry) → Leaves m k h i e → n.hart.0 ≡ h → names n e ≡ true → Marked (back m y) (names n) (line (queue_of m n.hart.0) ahead)
    → Stands (back m y) (names n) (line (queue_of m n.hart.0) ahead) → ⊥
none_marked m k h i e n y ahead l own is marked stands =
    (loses m k h i e ahead l).none_before (back m y) (names n) (back_w m y) (λ a op. w_unnamed n a (back_w m y a op)) (bare_names n e ∙ is) (names_o n e is)
    (subst (λ (g : ℕ). Marked (back m y) (names n) (line (queue_of m g) ahead)) own marked) (subst (λ (g : ℕ). Stands (back m y) (names n) (line (queue_of m g) ahead)) own stands)

to_lent : (m k : MachineState) (h i : ℕ) (e : Entry) (n : MapId) (v x y : ℕ) (ahead : List Entry) → Leaves m k h i e → KeepsCoherence m e x → n.hart.0 ≡ h → names n e ≡ true → LendingTo n v ahead m x y → DeviceTo n v k x y
to_lent m k h i e n v x y ahead l loses_x own is row = record {
  device = pool_drained m k h i e v y l (row.settled (none_marked m k h i e n y ahead l own is row.marked));
  buffer = thread_drained m k h i e n.hart.0 v x l loses_x row.buffer;
}

from_lent : (m k : MachineState) (h i : ℕ) (e : Entry) (n : MapId) (v x y : ℕ) (ahead : List Entry) → Leaves m k h i e → KeepsCoherence m e x → n.hart.0 ≡ h → names n e ≡ true → LendingFrom n v ahead m x y → DeviceFrom n v k x y
from_lent m k h i e n v x y ahead l loses_x own is row = record {
  device = open_drained m k h i e v y l (row.lending.settled (none_marked m k h i e n y ahead l own is row.lending.marked));
  buffer = inr (thread_drained m k h i e n.hart.0 v x l loses_x row.lending.buffer).quiet;
}

given_by : (m k : MachineState) (h i : ℕ) (e : Entry) (n : MapId) (v x : ℕ) (ahead : List Entry) (t : Bool) → Leaves m k h i e → KeepsCoherence m e x → n.hart.0 ≡ h → names n e ≡ true → t ≡ false → NotHeld m x
    → Either t (AllocatingRow n v ahead m x) (GivingRow n v ahead m x) → PoolRow v k x
given_by m k h i e n v x ahead true l loses_x own is other held row = absurd cc
given_by m k h i e n v x ahead false l loses_x own is other held row = area_given m k h i e n v x ahead l loses_x own is held row

lent_by : (a : Book) (n : MapId) (o : Option Loan) (v : ℕ) (m k : MachineState) (h i : ℕ) (e : Entry) (x : ℕ) → Leaves m k h i e → LosesLent o m e x → n.hart.0 ≡ h → names n e ≡ true → IsGiven a n o m x → LentRow a n o v m x → DeviceRow n o v k x
lent_by a n None v m k h i e x l loses_row own is free row = absurd row
lent_by a n (Some loan) v m k h i e x l loses_row own is free row =
    let ahead = ahead_of a n loan in
    let y = device_place loan x in
    either_both loan.area _ _ _ _ _ _ (λ told area. given_by m k h i e n v x ahead (settling loan.lot (a.rest n.hart.0)) l loses_row.0 own is told.0 told.1 area)
    (λ _. dir_either loan.grant.dir _ _ _ _ (to_lent m k h i e n v x y ahead l loses_row.0 own is) (from_lent m k h i e n v x y ahead l loses_row.0 own is)) free row

pub rows_drain : RowsDrain
rows_drain = record {
  kept = λ a o v m h i e x is loses_row pieces other row. kept_by a o v m (drain_next m h i) h i e x (leaves m h i e is) loses_row pieces other row;
  lent = λ a n v m h i e x is loses_row named free row.
      let parts = and_parts (n.hart.0 == h) (names n e) named in
      lent_by a n (a.loan n) v m (drain_next m h i) h i e x (leaves m h i e is) loses_row (eqb-true n.hart.0 h parts.0) parts.1 free row;
}
