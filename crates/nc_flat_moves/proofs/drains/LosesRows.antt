-- An entry that drains loses no byte that a row tells: what it may lose is of a block that its own mapping drops.
use Rattle.std.specs.Prelude.{Option, Some, None, ◌/◌}
use Rattle.std.proofs.Common.{◌≡◌, ◌⊎◌, ℕ, ◌<◌, true, false, List, refl, sym, ap, ◌∙◌, inl, inr, subst}
use Rattle.std.proofs.lemmas.Bool.{eqb-true, both_ways}
use Rattle.nc_num.specs.Places.{covers}
use Rattle.nc_num.specs.declared.names.Dir.{Dir}
use Rattle.nc_num.specs.declared.names.Dir.TheVariants.{Both, ToDev, FromDev}
use Rattle.nc_num.specs.declared.names.MapId.{MapId}
use Rattle.nc_num.specs.declared.names.MemType.TheVariants.{Pma, Nc, Io}
use Rattle.nc_env.specs.declared.CboOp.TheVariants as cbos
use Rattle.nc_queue.specs.declared.entry.Entry.{Entry}
use Rattle.nc_queue.specs.declared.entry.Entry.TheVariants.{Store, Cbo, Reg, Mail, Lend, Mark}
use Rattle.nc_plan.specs.Parts.{comes_back}
use Rattle.nc_plan.specs.Plans.{In}
use Rattle.nc_model.specs.declared.owners.Owner.{Owner}
use Rattle.nc_model.specs.declared.owners.Owner.TheVariants.{Thread, Passing, Lending, Device, Returning, Synced, Pool}
use Rattle.nc_scen.specs.Regions.{slots_of}
use Rattle.nc_scen.specs.declared.scenario.Scenario.{Scenario}
use Rattle.nc_rules.specs.Machine.{MachineState, queue_of}
use Rattle.nc_rules.specs.EventTouches.{owner_of}
use Rattle.nc_rules.specs.World.{WorldState}
use Rattle.nc_calls.specs.PlaceLaws.{KeepsCoherence, may_leave_stale_copy}
use Rattle.nc_rows.specs.Rows.{Loan, device_place, ByDir}
use Rattle.nc_rows.specs.Parts.{IsDropped, IsQueued}
use Rattle.nc_row_moves.specs.Laws.{LosesFrom, LosesLent, LosesDevice, LosesNoRow}
use Rattle.nc_flatness.specs.Books.{book_of, mapping_in}
use Rattle.nc_flatness.specs.Flatness.{Flatness}
use Rattle.nc_flatness.proofs.books.Owned.{mapped, owned_ram}
use Rattle.nc_flatness.proofs.books.Seen.{seen, seen_lent, device_same, place_ways, slot_block, seen_whole}
use Rattle.nc_flatness.proofs.books.WholeBlocks.{mapped_block}
use Rattle.nc_flat_moves.proofs.drains.Pooled.{either_by, one_loan, loan_pooled, pool_loses}

-- ---- what an entry loses

abbrev LosesNowhere : MachineState → Entry → Type 0
LosesNowhere m e = (x : ℕ) → KeepsCoherence m e x

-- a block that hart h drops
abbrev DropsBlock : WorldState → ℕ → ℕ → Type 0
DropsBlock w h b = IsDropped (book_of w) (owner_of w) w.machine.size h b

-- it loses bytes in a block that is dropped, at most
record LosesBlock (w : WorldState) (h : ℕ) (e : Entry) : Type 0 where
  block : ℕ
  dropped : DropsBlock w h block
  only : (x : ℕ) → may_leave_stale_copy w.machine.size e x ≡ true → x / w.machine.size ≡ block

loses_where : (sc : Scenario) (f : List ℕ) (w : WorldState) (h : ℕ) (e : Entry) → Flatness sc f w → In e (queue_of w.machine h) → IsQueued (book_of w) (owner_of w) w.machine.pool w.machine.size h e → LosesNowhere w.machine e ⊎ LosesBlock w h e
loses_where sc f w h (Store span bytes Pma) flat here queued = inl (λ x over. absurd cc)
loses_where sc f w h (Store span bytes Nc) flat here queued = inl (λ x over. pool_loses sc f w h (Store span bytes Nc) x flat here (queued x over) over)
loses_where sc f w h (Store span bytes Io) flat here queued = absurd queued
loses_where sc f w h (Cbo block cbos.Clean) flat here queued = inl (λ x over. absurd cc)
loses_where sc f w h (Cbo block cbos.Flush) flat here queued = inl (λ x over. absurd cc)
loses_where sc f w h (Cbo block cbos.Zero) flat here queued = inl (λ x over. absurd cc)
loses_where sc f w h (Cbo block cbos.Inval) flat here queued = inr (record { block = block.0; dropped = queued; only = λ x over. eqb-true (x / w.machine.size) block.0 over })
loses_where sc f w h (Reg chan off width value) flat here queued = inl (λ x over. absurd cc)
loses_where sc f w h (Mail buf to) flat here queued = inl (λ x over. absurd cc)
loses_where sc f w h (Lend label first count) flat here queued = inl (λ x over. absurd cc)
loses_where sc f w h (Mark pred succ) flat here queued = inl (λ x over. absurd cc)

-- ---- nothing is lost anywhere

dir_of : (dir : Dir) (p q : Type 0) → p → q → ByDir dir p q
dir_of ToDev p q first second = first
dir_of Both p q first second = second
dir_of FromDev p q first second = second

nowhere_lent : (o : Option Loan) (m : MachineState) (e : Entry) (x : ℕ) → LosesNowhere m e → LosesLent o m e x
nowhere_lent None m e x none = tt
nowhere_lent (Some l) m e x none = (none x, none (device_place l x))

nowhere_device : (o : Option Loan) (m : MachineState) (e : Entry) (x : ℕ) → LosesNowhere m e → LosesDevice o m e x
nowhere_device None m e x none = tt
nowhere_device (Some l) m e x none = either_by l.area _ _ (λ area. none x) (λ single. dir_of l.grant.dir _ _ (none x) (inr (none x)))

pub nowhere : (w : WorldState) (o : Owner) (m : MachineState) (e : Entry) (x : ℕ) → LosesNowhere m e → LosesNoRow (book_of w) o m e x
nowhere w (Thread h) m e x none = none x
nowhere w (Passing h g) m e x none = none x
nowhere w (Lending n) m e x none = nowhere_lent ((book_of w).loan n) m e x none
nowhere w (Device n) m e x none = nowhere_device ((book_of w).loan n) m e x none
nowhere w (Returning n) m e x none = nowhere_device ((book_of w).loan n) m e x none
nowhere w (Synced n) m e x none = none x
nowhere w Pool m e x none = tt

-- ---- a block is dropped: its bytes are those of one mapping that is taken back

-- a place that is seen in it is of the mapping
dropped_seen : (sc : Scenario) (f : List ℕ) (w : WorldState) (h b x : ℕ) → Flatness sc f w → (l : DropsBlock w h b) → x < sc.ram → covers (slots_of sc) x ≡ false → seen w x / w.machine.size ≡ b → owner_of w x ≡ Returning l.id
dropped_seen sc f w h b x flat l lt off at =
    let mine = ap mapping_in l.owned in
    let here : seen w l.place ≡ device_place l.loan l.place = seen_lent w l.id l.loan l.place l.lent (inr (inr l.owned)) in
    seen_whole sc f w l.id l.loan l.place x flat (owned_ram sc f w l.place l.id flat mine) lt mine l.lent l.back here off (ap (λ (y : ℕ). y / w.machine.size) here ∙ l.here ∙ sym at) ∙ l.owned

-- so is one in it that is none of the slots, and the channel sees it where it is
record IsBackHere (w : WorldState) (n : MapId) (l : Loan) (x : ℕ) : Type 0 where
  owner : owner_of w x ≡ Returning n
  here : device_place l x ≡ x

dropped_here : (sc : Scenario) (f : List ℕ) (w : WorldState) (h b x : ℕ) → Flatness sc f w → (l : DropsBlock w h b) → x < sc.ram → covers (slots_of sc) x ≡ false → x / w.machine.size ≡ b → IsBackHere w l.id l.loan x
dropped_here sc f w h b x flat l lt off at =
    let mine = ap mapping_in l.owned in
    let is = mapped sc f w l.id l.place flat (owned_ram sc f w l.place l.id flat mine) mine in
    let same : is.loan ≡ l.loan = one_loan ((book_of w).loan l.id) is.loan l.loan is.known l.lent in
    let at_block : device_place is.loan l.place / w.machine.size ≡ x / w.machine.size = ap (λ (k : Loan). device_place k l.place / w.machine.size) same ∙ l.here ∙ sym at in
    elim (place_ways sc f w l.id l.place flat is) [
      | inl way ↦
          let block = mapped_block sc f w l.id l.place x flat is way.1 (ap (λ (k : Loan). comes_back k.grant.dir) same ∙ l.back) (sym at_block ∙ ap (λ (y : ℕ). y / w.machine.size) way.0) in
          record {
            owner = block.1 ∙ l.owned;
            here = ap (λ (k : Loan). device_place k x) (sym same) ∙ device_same w l.id is.loan x is.is way.1 block.0;
          }
      | inr way ↦ absurd (both_ways (covers (slots_of sc) x) off (slot_block sc f w (device_place is.loan l.place) x flat way.0 at_block))
    ]

-- at a place of another owner
other_loses : (sc : Scenario) (f : List ℕ) (w : WorldState) (h : ℕ) (e : Entry) (x : ℕ) → Flatness sc f w → x < sc.ram → covers (slots_of sc) x ≡ false → (l : LosesBlock w h e) → (owner_of w x ≡ Returning l.dropped.id → ⊥) → KeepsCoherence w.machine e x
other_loses sc f w h e x flat lt off l other = λ over. absurd (other (dropped_here sc f w h l.block x flat l.dropped lt off (l.only x over)).owner)

-- a place of a mapping that is being lent, and where it is seen
lent_loses : (sc : Scenario) (f : List ℕ) (w : WorldState) (h : ℕ) (e : Entry) (x : ℕ) (n : MapId) (o : Option Loan) → Flatness sc f w → x < sc.ram → covers (slots_of sc) x ≡ false → LosesBlock w h e → owner_of w x ≡ Lending n → (book_of w).loan n ≡ o
    → LosesLent o w.machine e x
lent_loses sc f w h e x n None flat lt off l own is = tt
lent_loses sc f w h e x n (Some loan) flat lt off l own is = (
  other_loses sc f w h e x flat lt off l (λ back. let no = sym own ∙ back in cc),
  λ over. absurd (let back = dropped_seen sc f w h l.block x flat l.dropped lt off (ap (λ (y : ℕ). y / w.machine.size) (seen_lent w n loan x is (inl own)) ∙ l.only (device_place loan x) over) in
      let no = sym own ∙ back in cc),
)

by_dir : (dir : Dir) (p q : Type 0) → (comes_back dir ≡ false → p) → q → ByDir dir p q
by_dir ToDev p q first second = first refl
by_dir Both p q first second = second
by_dir FromDev p q first second = second

-- a place of one that the device has, or that is taken back
device_loses : (sc : Scenario) (f : List ℕ) (w : WorldState) (e : Entry) (x : ℕ) (n : MapId) (o : Option Loan) → Flatness sc f w → (book_of w).loan n ≡ o → ((loan : Loan) → o ≡ Some loan → loan.area ≡ true → KeepsCoherence w.machine e x)
    → ((loan : Loan) → o ≡ Some loan → comes_back loan.grant.dir ≡ false → KeepsCoherence w.machine e x) → ((loan : Loan) → o ≡ Some loan → LosesFrom w.machine e x (device_place loan x)) → LosesDevice o w.machine e x
device_loses sc f w e x n None flat is area to from = tt
device_loses sc f w e x n (Some loan) flat is area to from =
    either_by loan.area (KeepsCoherence w.machine e x) (ByDir loan.grant.dir (KeepsCoherence w.machine e x) (LosesFrom w.machine e x (device_place loan x))) (area loan refl)
    (λ single. by_dir loan.grant.dir (KeepsCoherence w.machine e x) (LosesFrom w.machine e x (device_place loan x)) (to loan refl) (from loan refl))

-- a place that is taken back, where its device reads it only, and where it may write it
back_to : (sc : Scenario) (f : List ℕ) (w : WorldState) (h : ℕ) (e : Entry) (x : ℕ) (n : MapId) (loan : Loan) → Flatness sc f w → x < sc.ram → covers (slots_of sc) x ≡ false → (l : LosesBlock w h e) → owner_of w x ≡ Returning n → (book_of w).loan n ≡ Some loan
    → comes_back loan.grant.dir ≡ false → KeepsCoherence w.machine e x
back_to sc f w h e x n loan flat lt off l own is to = other_loses sc f w h e x flat lt off l (λ back.
    let id : n ≡ l.dropped.id = let both = sym own ∙ back in cc in
    let same = one_loan ((book_of w).loan n) loan l.dropped.loan is (ap (book_of w).loan id ∙ l.dropped.lent) in
    both_ways (comes_back l.dropped.loan.grant.dir) (subst (λ (k : Loan). comes_back k.grant.dir ≡ false) same to) l.dropped.back)

back_from : (sc : Scenario) (f : List ℕ) (w : WorldState) (h : ℕ) (e : Entry) (x : ℕ) (n : MapId) (loan : Loan) → Flatness sc f w → x < sc.ram → covers (slots_of sc) x ≡ false → (l : LosesBlock w h e) → owner_of w x ≡ Returning n → (book_of w).loan n ≡ Some loan
    → LosesFrom w.machine e x (device_place loan x)
back_from sc f w h e x n loan flat lt off l own is =
    let at = mapped sc f w n x flat lt (ap mapping_in own) in
    let same : at.loan ≡ loan = one_loan ((book_of w).loan n) at.loan loan at.known is in
    elim (place_ways sc f w n x flat at) [
      | inl way ↦ inl (sym way.0 ∙ ap (λ (k : Loan). device_place k x) same)
      | inr way ↦
          inr (λ over.
          let back = dropped_here sc f w h l.block x flat l.dropped lt off (l.only x over) in
          let id : n ≡ l.dropped.id = let both = sym own ∙ back.owner in cc in
          let one : at.loan ≡ l.dropped.loan = one_loan ((book_of w).loan n) at.loan l.dropped.loan at.known (ap (book_of w).loan id ∙ l.dropped.lent) in
          absurd (both_ways (covers (slots_of sc) x) off (ap (covers (slots_of sc)) (sym back.here ∙ ap (λ (k : Loan). device_place k x) (sym one)) ∙ way.0)))
    ]

block_loses : (sc : Scenario) (f : List ℕ) (w : WorldState) (h : ℕ) (e : Entry) (x : ℕ) (o : Owner) → Flatness sc f w → In e (queue_of w.machine h) → x < sc.ram → covers (slots_of sc) x ≡ false → LosesBlock w h e → owner_of w x ≡ o → LosesNoRow (book_of w) o w.machine e x
block_loses sc f w h e x (Thread g) flat here lt off l own = other_loses sc f w h e x flat lt off l (λ back. let no = sym own ∙ back in cc)
block_loses sc f w h e x (Passing g k) flat here lt off l own = other_loses sc f w h e x flat lt off l (λ back. let no = sym own ∙ back in cc)
block_loses sc f w h e x (Synced n) flat here lt off l own = other_loses sc f w h e x flat lt off l (λ back. let no = sym own ∙ back in cc)
block_loses sc f w h e x Pool flat here lt off l own = tt
block_loses sc f w h e x (Lending n) flat here lt off l own = lent_loses sc f w h e x n ((book_of w).loan n) flat lt off l own refl
block_loses sc f w h e x (Device n) flat here lt off l own =
    let none = other_loses sc f w h e x flat lt off l (λ back. let no = sym own ∙ back in cc) in
    device_loses sc f w e x n ((book_of w).loan n) flat refl (λ loan is area. none) (λ loan is to. none) (λ loan is. inr none)
block_loses sc f w h e x (Returning n) flat here lt off l own =
    device_loses sc f w e x n ((book_of w).loan n) flat refl (λ loan is area. pool_loses sc f w h e x flat here (loan_pooled sc f w n loan x flat (ap mapping_in own) is area)) (λ loan is to. back_to sc f w h e x n loan flat lt off l own is to) (λ loan is. back_from sc f w h e x n loan flat lt off l own is)

-- so no row loses a byte
pub loses_row : (sc : Scenario) (f : List ℕ) (w : WorldState) (h : ℕ) (e : Entry) (x : ℕ) → Flatness sc f w → x < sc.ram → covers (slots_of sc) x ≡ false → In e (queue_of w.machine h) → IsQueued (book_of w) (owner_of w) w.machine.pool w.machine.size h e
    → LosesNoRow (book_of w) (owner_of w x) w.machine e x
loses_row sc f w h e x flat lt off here queued = elim (loses_where sc f w h e flat here queued) [
  | inl none ↦ nowhere w (owner_of w x) w.machine e x none
  | inr l ↦ block_loses sc f w h e x (owner_of w x) flat here lt off l refl
]
