-- Each row, after a load and after a push.
use Rattle.std.specs.Prelude.{Option, Some, None, ◌/◌, unwrap_or}
use Rattle.std.specs.List.{list_any}
use Rattle.std.proofs.Common.{◌≡◌, ◌≢◌, ◌⊎◌, ℕ, Bool, true, false, List, refl, sym, ap, ◌∙◌, subst}
use Rattle.nc_num.specs.Places.{block_at}
use Rattle.nc_num.specs.declared.names.MapId.{MapId}
use Rattle.nc_num.specs.declared.names.MemType.{MemType}
use Rattle.nc_num.specs.declared.names.MemType.TheVariants.{Pma}
use Rattle.nc_num.specs.declared.places.Span.{Span}
use Rattle.nc_queue.specs.Entries.{entry_gives}
use Rattle.nc_queue.specs.declared.entry.Entry.{Entry}
use Rattle.nc_model.specs.declared.owners.Owner.{Owner}
use Rattle.nc_model.specs.declared.owners.Owner.TheVariants.{Thread, Passing, Lending, Device, Returning, Synced, Pool}
use Rattle.nc_rules.specs.Machine.{MachineState}
use Rattle.nc_calls.specs.PlaceLaws.{Loads}
use Rattle.nc_calls.specs.MachineLaws.{SameShape}
use Rattle.nc_rows.specs.Ahead.{is_full, settling}
use Rattle.nc_rows.specs.Places.{ThreadRow}
use Rattle.nc_rows.specs.Rows.{Loan, Book, device_place, ahead_of, LentRow, DeviceRow, BackRow, SyncedRow, Row}
use Rattle.nc_rows.specs.Laws.{is_lent_area, seen_at}
use Rattle.nc_rows.proofs.PlaceFrames.{of_keeps}
use Rattle.nc_rows.proofs.Kept.{kept}
use Rattle.nc_row_moves.proofs.RowDrains.{either_both, dir_both}
use Rattle.nc_row_issues.specs.Laws.{Enters, NoByte, PassesLent, PassesLoan, PassesBack, Passes, IsSyncedOf, IsOwn, RowsIssue}
use Rattle.nc_row_issues.proofs.PlacePushes.{thread_pushed, pool_pushed, thread_stored}
use Rattle.nc_row_issues.proofs.LentPushes.{to_pushed, from_pushed, allocating_pushed, giving_pushed, device_to_pushed, device_from_pushed, dropping_pushed, coming_pushed, passing_pushed}

loaded : (a : Book) (o : Owner) (v : ℕ) (m k : MachineState) (h : ℕ) (span : Span) (kind : MemType) (x : ℕ) → SameShape m k → Loads m k h span kind → (is_lent_area a o ≡ true → kind ≡ Pma → x / m.size ≢ block_at span.at m.size)
    → Row a o v m x → Row a o v k x
loaded a o v m k h span kind x shape loads beside row =
    kept a o v m k x (record { size = shape.size; queues = loads.queues }) (of_keeps m k x (loads.places x)) (of_keeps m k (seen_at a o x) (loads.places (seen_at a o x))) (λ area none. (loads.apart x (beside area)).line ∙ none) row

lent_passed : (a : Book) (n : MapId) (o : Option Loan) (v : ℕ) (m k : MachineState) (h : ℕ) (e : Entry) (x : ℕ) → Enters m k h e → PassesLent a n o m h e x → LentRow a n o v m x → LentRow a n o v k x
lent_passed a n None v m k h e x by pass row = absurd row
lent_passed a n (Some l) v m k h e x by pass row =
    let ahead = ahead_of a n l in
    let y = device_place l x in
    either_both l.area _ _ _ _ _ _ (either_both (settling l.lot (a.rest n.hart.0)) _ _ _ _ _ _ (allocating_pushed m k h e n v x ahead by) (giving_pushed m k h e n v x ahead by))
    (dir_both l.grant.dir _ _ _ _ _ _ (to_pushed m k h e n v x y ahead by) (from_pushed m k h e n v x y ahead by)) pass row

device_passed : (n : MapId) (o : Option Loan) (v : ℕ) (m k : MachineState) (h : ℕ) (e : Entry) (x : ℕ) → Enters m k h e → PassesLoan n o m h e x → DeviceRow n o v m x → DeviceRow n o v k x
device_passed n None v m k h e x by pass row = absurd row
device_passed n (Some l) v m k h e x by pass row =
    let y = device_place l x in
    either_both l.area _ _ _ _ _ _ (pool_pushed m k h e v x by) (dir_both l.grant.dir _ _ _ _ _ _ (device_to_pushed m k h e n v x y by) (device_from_pushed m k h e n v x y by)) pass row

back_passed : (a : Book) (n : MapId) (o : Option Loan) (v : ℕ) (m k : MachineState) (h : ℕ) (e : Entry) (x : ℕ) → Enters m k h e → PassesBack a n o m h e x → BackRow a n o v m x → BackRow a n o v k x
back_passed a n None v m k h e x by pass row = absurd row
back_passed a n (Some l) v m k h e x by pass row =
    let ahead = ahead_of a n l in
    let y = device_place l x in
    either_both l.area _ _ _ _ _ _ (thread_pushed m k h e n.hart.0 v x by)
    (dir_both l.grant.dir _ _ _ _ _ _ (device_to_pushed m k h e n v x y by)
    (either_both (list_any is_full ahead) _ _ _ _ _ _ (dropping_pushed m k h e n v x y ahead by) (coming_pushed m k h e n v x y ahead by))) pass row

synced_passed : (n : MapId) (o : Option Loan) (v : ℕ) (m k : MachineState) (h : ℕ) (e : Entry) (x : ℕ) → Enters m k h e → NoByte m e x → SyncedRow n o v m x → SyncedRow n o v k x
synced_passed n None v m k h e x by pass row = absurd row
synced_passed n (Some l) v m k h e x by pass row = thread_pushed m k h e n.hart.0 v x by pass row

passed : (a : Book) (o : Owner) (v : ℕ) (m k : MachineState) (h : ℕ) (e : Entry) (x : ℕ) → Enters m k h e → Passes a o m h e x → Row a o v m x → Row a o v k x
passed a (Thread j) v m k h e x by pass row = thread_pushed m k h e j.0 v x by pass row
passed a (Passing j g) v m k h e x by pass row = passing_pushed m k h e j.0 v (a.buffer x) x (a.rest j.0) by pass row
passed a (Lending n) v m k h e x by pass row = lent_passed a n (a.loan n) v m k h e x by pass row
passed a (Device n) v m k h e x by pass row = device_passed n (a.loan n) v m k h e x by pass row
passed a (Returning n) v m k h e x by pass row = back_passed a n (a.loan n) v m k h e x by pass row
passed a (Synced n) v m k h e x by pass row = synced_passed n (a.loan n) v m k h e x by pass row
passed a Pool v m k h e x by pass row = pool_pushed m k h e v x by pass row

-- ---- the hart's own places

synced_shows : (n : MapId) (o : Option Loan) (v : ℕ) (m : MachineState) (h x : ℕ) → IsSyncedOf h n o → SyncedRow n o v m x → ThreadRow h v m x
synced_shows n None v m h x own row = absurd row
synced_shows n (Some l) v m h x own row = subst (λ (g : ℕ). ThreadRow g v m x) own row

shows : (a : Book) (o : Owner) (v : ℕ) (m : MachineState) (h x : ℕ) → IsOwn a h o → Row a o v m x → ThreadRow h v m x
shows a (Thread j) v m h x own row = subst (λ (g : ℕ). ThreadRow g v m x) own row
shows a (Synced n) v m h x own row = synced_shows n (a.loan n) v m h x own row
shows a (Passing j g) v m h x own row = absurd own
shows a (Lending n) v m h x own row = absurd own
shows a (Device n) v m h x own row = absurd own
shows a (Returning n) v m h x own row = absurd own
shows a Pool v m h x own row = absurd own

synced_again : (n : MapId) (o : Option Loan) (v : ℕ) (m : MachineState) (h x : ℕ) → IsSyncedOf h n o → ThreadRow h v m x → SyncedRow n o v m x
synced_again n None v m h x own row = absurd own
synced_again n (Some l) v m h x own row = subst (λ (g : ℕ). ThreadRow g v m x) (sym own) row

-- a place that is the hart's own has its row
pub again : (a : Book) (o : Owner) (v : ℕ) (m : MachineState) (h x : ℕ) → IsOwn a h o → ThreadRow h v m x → Row a o v m x
again a (Thread j) v m h x own row = subst (λ (g : ℕ). ThreadRow g v m x) (sym own) row
again a (Synced n) v m h x own row = synced_again n (a.loan n) v m h x own row
again a (Passing j g) v m h x own row = absurd own
again a (Lending n) v m h x own row = absurd own
again a (Device n) v m h x own row = absurd own
again a (Returning n) v m h x own row = absurd own
again a Pool v m h x own row = absurd own

pub rows_issue : RowsIssue
rows_issue = record {
  loaded = loaded;
  passed = passed;
  stored = λ a o v m k h e x by own row. again a o (unwrap_or (entry_gives m.size e x) v) k h x own (thread_stored m k h e v x by (shows a o v m h x own row));
  shows = shows;
}
