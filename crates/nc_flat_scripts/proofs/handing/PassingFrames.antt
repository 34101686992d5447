-- The bytes of flat memory behind a step with which a hart passes a buffer on, or takes one.
use Rattle.std.specs.Prelude.{Option, Some, None, Bool, true, false, filter}
use Rattle.std.specs.List.{list_any}
use Rattle.std.proofs.Common.{◌≡◌, ◌≢◌, ℕ, ◌<◌, List, length, refl, sym, ap, ◌∙◌, inl, inr, subst}
use Rattle.std.proofs.lemmas.Bool.{cases_eq}
use Rattle.nc_num.specs.Memory.{byte}
use Rattle.nc_num.specs.Places.{covers}
use Rattle.nc_num.specs.declared.names.HartNo.{HartNo}
use Rattle.nc_num.specs.declared.names.MapId.{MapId}
use Rattle.nc_num.specs.declared.places.Span.{Span}
use Rattle.nc_queue.specs.declared.entry.Entry.{Entry}
use Rattle.nc_model.specs.declared.owners.Owner.{Owner}
use Rattle.nc_model.specs.declared.owners.Owner.TheVariants.{Thread, Passing, Lending, Device, Returning, Synced, Pool}
use Rattle.nc_scen.specs.Regions.{slots_of}
use Rattle.nc_scen.specs.declared.scenario.Scenario.{Scenario}
use Rattle.nc_rules.specs.declared.lots.LotId.{LotId}
use Rattle.nc_rules.specs.declared.steps.Step.{Step}
use Rattle.nc_rules.specs.Machine.{MachineState, hart_of, queue_of}
use Rattle.nc_rules.specs.Driver.{Went}
use Rattle.nc_rules.specs.EventTouches.{owner_of}
use Rattle.nc_rules.specs.World.{WorldState, driver_of}
use Rattle.nc_calls.specs.MachineLaws.{SameShape}
use Rattle.nc_calls.specs.PlaceLaws.{NotHeld}
use Rattle.nc_rows.specs.Ahead.{is_full, settling, coming, sending}
use Rattle.nc_rows.specs.Places.{CalmRow}
use Rattle.nc_rows.specs.Rows.{Loan, Book, device_place, PassingRow, LendingTo, LendingFrom, AllocatingRow, GivingRow, Either, ByDir, LentRow, Row}
use Rattle.nc_rows.specs.Parts.{Queued}
use Rattle.nc_flatness.specs.Books.{book_of}
use Rattle.nc_flatness.specs.Copying.{IsItsOwn, CopyStands}
use Rattle.nc_flatness.specs.Flatness.{BytesStand}
use Rattle.nc_flatness.specs.Tokens.{is_lot_token}
use Rattle.nc_flatness.proofs.books.BookReads.{loan_gone, rest_away, rest_here, buffer_gone, row_alike, queued_to, zeroed_to}
use Rattle.nc_flatness.proofs.worlds.Outcomes.{gone}
use Rattle.nc_flatness.proofs.tokens.Tokens.{unended_settling}
use Rattle.nc_flat_scripts.proofs.copies.OtherCopies.{CopiesNone, none_stands, KeepsCopy, copy_kept}
use Rattle.nc_flat_scripts.proofs.steps.StepFrames.{drives_set, driver_here, driver_away}
use Rattle.nc_flat_scripts.proofs.steps.StillLots.{EndsNone, none_comes, untaken_at}
use Rattle.nc_flat_scripts.proofs.handing.PassingParts.{Passes, there, OwnerMoves, placed_by, pooled_by, slotted_by, dropped_by, allocates_by, held_by, unseen_before, lasts_passed, tokens_passed}

-- ---- a row of which the buffer is another

pub passing_alike : (h v c : ℕ) (r s : List Step) (m : MachineState) (x : ℕ) → sending c s ≡ sending c r → PassingRow h v c r m x → PassingRow h v c s m x
passing_alike h v c r s m x same row = record { giver = row.giver; covered = rw same row.covered; sent = λ none. row.sent (rw (← same) none) }

-- what the hart has to send of the buffer of the place is the same
abbrev pub SendsSame : WorldState → HartNo → Went → ℕ → Type 0
SendsSame w h went x = sending ((book_of w).buffer x) went.driver.rest ≡ sending ((book_of w).buffer x) (driver_of w h.0).rest

rest_sends : (sc : Scenario) (f : List ℕ) (w : WorldState) (h : HartNo) (n : MachineState) (went : Went) (j x : ℕ) → Passes sc f w h went → (j ≡ h.0 → SendsSame w h went x)
    → sending ((book_of w).buffer x) ((book_of (gone w h n went)).rest j) ≡ sending ((book_of w).buffer x) ((book_of w).rest j)
rest_sends sc f w h n went j x p same =
    let c = (book_of w).buffer x in
    elim (cases_eq j h.0) [
      | inl own ↦
          ap (λ (k : ℕ). sending c ((book_of (gone w h n went)).rest k)) own ∙ ap (sending c) (rest_here w h n went (there sc f w h went p)) ∙ same own ∙ ap (λ (k : ℕ). sending c ((book_of w).rest k)) (sym own)
      | inr ne ↦ ap (sending c) (rest_away w h n went j ne)
    ]

-- ---- a row of a mapping that is being lent

-- so nothing of it is to come of the hart's plan, before and behind
rest_ends : (sc : Scenario) (f : List ℕ) (w : WorldState) (h : HartNo) (n : MachineState) (went : Went) → Passes sc f w h went → EndsNone ((book_of (gone w h n went)).rest h.0)
rest_ends sc f w h n went p = subst EndsNone (sym (rest_here w h n went (there sc f w h went p))) p.left

abbrev pub LentBy : MapId → Loan → Bool → List Entry → ℕ → MachineState → ℕ → Type 0
LentBy n l settles ahead v m x =
    Either l.area (Either settles (AllocatingRow n v ahead m x) (GivingRow n v ahead m x)) (ByDir l.grant.dir (LendingTo n v ahead m x (device_place l x)) (LendingFrom n v ahead m x (device_place l x)))

lent_ended : (a b : Book) (n : MapId) (o : Option Loan) (v : ℕ) (m : MachineState) (x : ℕ) → EndsNone (a.rest n.hart.0) → EndsNone (b.rest n.hart.0) → LentRow a n o v m x → LentRow b n o v m x
lent_ended a b n None v m x was left row = row
lent_ended a b n (Some l) v m x was left row =
    let r = a.rest n.hart.0 in
    let s = b.rest n.hart.0 in
    let settles : settling l.lot r ≡ settling l.lot s = unended_settling l.lot r (was l.lot) ∙ sym (unended_settling l.lot s (left l.lot)) in
    let ahead : coming n l.lot r ≡ coming n l.lot s = none_comes n l.lot r was ∙ sym (none_comes n l.lot s left) in
    subst (λ (t : Bool). LentBy n l t (coming n l.lot s) v m x) settles (subst (λ (es : List Entry). LentBy n l (settling l.lot r) es v m x) ahead row)

-- in machine m, be it the one before or behind
pub row_over : (sc : Scenario) (f : List ℕ) (w : WorldState) (h : HartNo) (n m : MachineState) (went : Went) (o : Owner) (v x : ℕ) → Passes sc f w h went → x < sc.ram → owner_of w x ≡ o → ((j g : HartNo) → o ≡ Passing j g → j.0 ≡ h.0 → SendsSame w h went x)
    → Row (book_of w) o v m x → Row (book_of (gone w h n went)) o v m x
row_over sc f w h n m went (Thread j) v x p lt is same row = row
row_over sc f w h n m went (Passing j g) v x p lt is same row =
    let b = book_of (gone w h n went) in
    subst (λ (c : ℕ). PassingRow j.0 v c (b.rest j.0) m x) (ap (λ (k : ℕ → ℕ). k x) (sym (buffer_gone w h n went (there sc f w h went p) p.fixed)))
    (passing_alike j.0 v ((book_of w).buffer x) ((book_of w).rest j.0) (b.rest j.0) m x (rest_sends sc f w h n went j.0 x p (same j g refl)) row)
row_over sc f w h n m went (Lending k) v x p lt is same row =
    let a = book_of w in
    let b = book_of (gone w h n went) in
    let loan = loan_gone w h n went k (there sc f w h went p) p.fixed p.lots in
    elim (cases_eq k.hart.0 h.0) [
      | inl own ↦
          let was : EndsNone (a.rest k.hart.0) = subst (λ (j : ℕ). EndsNone (a.rest j)) (sym own) p.was in
          let left : EndsNone (b.rest k.hart.0) = subst (λ (j : ℕ). EndsNone (b.rest j)) (sym own) (rest_ends sc f w h n went p) in
          subst (λ (o : Option Loan). LentRow b k o v m x) (sym loan) (lent_ended a b k (a.loan k) v m x was left row)
      | inr ne ↦ row_alike a b (Lending k) v m x (sym loan, sym (rest_away w h n went k.hart.0 ne)) row
    ]
row_over sc f w h n m went (Device k) v x p lt is same row = row_alike (book_of w) (book_of (gone w h n went)) (Device k) v m x (sym (loan_gone w h n went k (there sc f w h went p) p.fixed p.lots)) row
row_over sc f w h n m went (Returning k) v x p lt is same row =
    row_alike (book_of w) (book_of (gone w h n went)) (Returning k) v m x
    (sym (loan_gone w h n went k (there sc f w h went p) p.fixed p.lots), sym (rest_away w h n went k.hart.0 (untaken_at sc f w h.0 x k p.flat p.still lt is))) row
row_over sc f w h n m went (Synced k) v x p lt is same row = row_alike (book_of w) (book_of (gone w h n went)) (Synced k) v m x (sym (loan_gone w h n went k (there sc f w h went p) p.fixed p.lots)) row
row_over sc f w h n m went Pool v x p lt is same row = row

-- ---- all bytes

-- the machine behind it, with its rows
pub record PassedIn (sc : Scenario) (f : List ℕ) (w : WorldState) (h : HartNo) (n : MachineState) (went : Went) : Type 0 where
  pub shape : SameShape w.machine n
  pub held : (x : ℕ) → NotHeld w.machine x → NotHeld n x
  pub queued : Queued (book_of w) (owner_of w) n
  pub unfenced : (g : ℕ) → list_any is_full (queue_of n g) ≡ false
  pub tokens : (g : ℕ) (id : LotId) → filter (is_lot_token id) (queue_of n g) ≡ filter (is_lot_token id) (queue_of w.machine g)
  pub owners : (x : ℕ) → OwnerMoves sc w (gone w h n went) x
  pub rows : (x : ℕ) → x < sc.ram → covers (slots_of sc) x ≡ false → Row (book_of (gone w h n went)) (owner_of (gone w h n went) x) (byte f x) n x
  pub calm : (z : ℕ) → covers (slots_of sc) z ≡ true → CalmRow w.machine z → CalmRow n z
  pub lasts : (k : ℕ) → (hart_of n k).last ≡ (hart_of w.machine k).last
  -- what another hart's copy has
  pub keeps : (k : ℕ) → k ≢ h.0 → KeepsCopy w.machine n k
  pub owned : (k x : ℕ) → k ≢ h.0 → IsItsOwn k (owner_of w x) → IsItsOwn k (owner_of (gone w h n went) x)

passed_copies : (sc : Scenario) (f : List ℕ) (w : WorldState) (h : HartNo) (n : MachineState) (went : Went) → Passes sc f w h went → PassedIn sc f w h n went → (k : ℕ) → k < length sc.harts → CopyStands sc f (gone w h n went) k
passed_copies sc f w h n went p is k few =
    let v = gone w h n went in
    elim (cases_eq k h.0) [
      | inl own ↦ none_stands sc f v k (subst CopiesNone (sym (driver_here w h n went k (there sc f w h went p) own)) p.uncopied)
      | inr ne ↦ copy_kept sc f f w v k (driver_away w h n went k ne) (is.keeps k ne) (record { owned = λ x own. is.owned k x ne own; bytes = λ x own. refl }) (p.flat.bytes.copying k few)
    ]

pub stands_passed : (sc : Scenario) (f : List ℕ) (w : WorldState) (h : HartNo) (n : MachineState) (went : Went) → Passes sc f w h went → PassedIn sc f w h n went → BytesStand sc f (gone w h n went)
stands_passed sc f w h n went p is =
    let v = gone w h n went in
    let flat = p.flat in
    let drives = drives_set sc f w h n went flat p.lt p.drives in
    let size = is.shape.size in
    record {
      flat_size = flat.bytes.flat_size;
      drives = drives;
      placed = λ x k lt e. placed_by sc w v x k (is.owners x) (loan_gone w h n went k (there sc f w h went p) p.fixed p.lots) (flat.bytes.placed x k lt) e;
      pooled = λ x over. pooled_by sc w v x (is.owners x) (λ m. loan_gone w h n went m (there sc f w h went p) p.fixed p.lots) over (flat.bytes.pooled x over);
      slotted = λ x over. slotted_by sc w v x (is.owners x) over (flat.bytes.slotted x over);
      rows = is.rows;
      calm = λ z on unseen. is.calm z on (flat.bytes.calm z on (unseen_before sc w v z (λ m. loan_gone w h n went m (there sc f w h went p) p.fixed p.lots) is.owners unseen));
      queued = queued_to (book_of w) (book_of v) (owner_of w) (owner_of v) n (λ j k. dropped_by sc f w h n went n.size j k p is.owners) (λ j k. zeroed_to (book_of w) (book_of v) (owner_of w) (owner_of v) n.size j k (allocates_by sc f w h n went j p is.owners)) is.queued;
      uncached = λ x over. elim (flat.bytes.uncached x (subst (λ (s : Span). covers s x ≡ true) is.shape.pool over)) [
        | inl none ↦ inl (is.held x none)
        | inr may ↦ inr (held_by sc f w h n went x p is.owners may)
      ];
      unfenced = is.unfenced;
      tokens = tokens_passed sc f w h n went p is.tokens;
      lasts = lasts_passed sc f w h n went p is.lasts;
      copying = passed_copies sc f w h n went p is;
    }
