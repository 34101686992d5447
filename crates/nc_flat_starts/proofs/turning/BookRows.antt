-- A row stays where its books say the same of it.
use Rattle.std.specs.Prelude.{Option, Some, None}
use Rattle.std.specs.List.{list_any}
use Rattle.std.proofs.Common.{◌≡◌, ℕ, Bool, List, sym, ap, ◌∙◌, subst}
use Rattle.nc_num.specs.declared.names.MapId.{MapId}
use Rattle.nc_queue.specs.declared.entry.Entry.{Entry}
use Rattle.nc_model.specs.declared.owners.Owner.{Owner}
use Rattle.nc_model.specs.declared.owners.Owner.TheVariants.{Thread, Passing, Lending, Device, Returning, Synced, Pool}
use Rattle.nc_rules.specs.declared.steps.Step.{Step}
use Rattle.nc_rules.specs.Machine.{MachineState}
use Rattle.nc_rows.specs.Ahead.{is_full, settling, sending}
use Rattle.nc_rows.specs.Places.{ThreadRow}
use Rattle.nc_rows.specs.Rows.{Loan, Book, device_place, PassingRow, LendingTo, LendingFrom, AllocatingRow, GivingRow, DeviceTo, DroppingRow, ComingRow, Either, ByDir, ahead_of, LentRow, DeviceRow, BackRow, SyncedRow, Row}
use Rattle.nc_flat_starts.specs.Books.{SameLoan, ReadsAlike, BooksCarry}

passing_same : (h v b d : ℕ) (rest left : List Step) (m : MachineState) (x : ℕ) → d ≡ b → sending b left ≡ sending b rest → PassingRow h v b rest m x → PassingRow h v d left m x
passing_same h v b d rest left m x buffer same row =
    let now : sending d left ≡ sending b rest = ap (λ (c : ℕ). sending c left) buffer ∙ same in
    record {
      giver = row.giver;
      covered = rw (buffer, same) row.covered;
      sent = rw (buffer, same) row.sent;
    }

-- the row of a mapping that is being lent, by what is to come
abbrev pub LentBy : MapId → Loan → Bool → List Entry → ℕ → MachineState → ℕ → Type 0
LentBy n l settles ahead v m x =
    Either l.area (Either settles (AllocatingRow n v ahead m x) (GivingRow n v ahead m x)) (ByDir l.grant.dir (LendingTo n v ahead m x (device_place l x)) (LendingFrom n v ahead m x (device_place l x)))

abbrev pub BackBy : MapId → Loan → List Entry → ℕ → MachineState → ℕ → Type 0
BackBy n l ahead v m x =
    Either l.area (ThreadRow n.hart.0 v m x)
    (ByDir l.grant.dir (DeviceTo n v m x (device_place l x)) (Either (list_any is_full ahead) (DroppingRow n v ahead m x (device_place l x)) (ComingRow n v ahead m x (device_place l x))))

lent_same : (a c : Book) (n : MapId) (o : Option Loan) (v : ℕ) (m : MachineState) (x : ℕ) → SameLoan a c n o → LentRow a n o v m x → LentRow c n o v m x
lent_same a c n None v m x same row = absurd row
lent_same a c n (Some l) v m x same row =
    subst (λ (es : List Entry). LentBy n l (settling l.lot (c.rest n.hart.0)) es v m x) (sym same.ahead)
    (subst (λ (b : Bool). LentBy n l b (ahead_of a n l) v m x) (sym same.settles) row)

back_same : (a c : Book) (n : MapId) (o : Option Loan) (v : ℕ) (m : MachineState) (x : ℕ) → SameLoan a c n o → BackRow a n o v m x → BackRow c n o v m x
back_same a c n None v m x same row = absurd row
back_same a c n (Some l) v m x same row = subst (λ (es : List Entry). BackBy n l es v m x) (sym same.ahead) row

pub row_same : (a c : Book) (o : Owner) (v : ℕ) (m : MachineState) (x : ℕ) → ReadsAlike a c o x → Row a o v m x → Row c o v m x
row_same a c (Thread h) v m x same row = row
row_same a c (Passing h g) v m x same row = passing_same h.0 v (a.buffer x) (c.buffer x) (a.rest h.0) (c.rest h.0) m x same.0 same.1 row
row_same a c (Lending n) v m x same row = subst (λ (o : Option Loan). LentRow c n o v m x) (sym same.0) (lent_same a c n (a.loan n) v m x same.1 row)
row_same a c (Device n) v m x same row = subst (λ (o : Option Loan). DeviceRow n o v m x) (sym same) row
row_same a c (Returning n) v m x same row = subst (λ (o : Option Loan). BackRow c n o v m x) (sym same.0) (back_same a c n (a.loan n) v m x same.1 row)
row_same a c (Synced n) v m x same row = subst (λ (o : Option Loan). SyncedRow n o v m x) (sym same) row
row_same a c Pool v m x same row = row

pub books_carry : BooksCarry
books_carry = record { row = row_same }
