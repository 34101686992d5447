-- The coherent pool: what drains loses no byte of it, and nobody holds a block of it but of an area that is allocated.
use Rattle.std.specs.Prelude.{Option, Some, None}
use Rattle.std.proofs.Common.{◌≡◌, ℕ, Bool, true, false, List, refl, sym, ap, ◌∙◌, inl, inr, subst}
use Rattle.std.proofs.lemmas.Bool.{both_ways}
use Rattle.nc_num.specs.Memory.{byte}
use Rattle.nc_num.specs.Places.{covers}
use Rattle.nc_num.specs.declared.names.MapId.{MapId}
use Rattle.nc_num.specs.declared.places.Span.{Span}
use Rattle.nc_queue.specs.declared.entry.Entry.{Entry}
use Rattle.nc_plan.specs.Plans.{In}
use Rattle.nc_model.specs.declared.owners.Owner.{Owner}
use Rattle.nc_model.specs.declared.owners.Owner.TheVariants.{Thread, Passing, Lending, Device, Returning, Synced, Pool}
use Rattle.nc_scen.specs.declared.scenario.Scenario.{Scenario}
use Rattle.nc_rules.specs.Machine.{MachineState, queue_of}
use Rattle.nc_rules.specs.EventTouches.{owner_of}
use Rattle.nc_rules.specs.World.{WorldState}
use Rattle.nc_calls.specs.PlaceLaws.{NotHeld, KeepsCoherence, may_leave_stale_copy}
use Rattle.nc_holds.proofs.lists.Members.{none_at}
use Rattle.nc_rows.specs.Rows.{Loan, Book, Either, AllocatingRow, LentRow, Row, ahead_of}
use Rattle.nc_rows.specs.Parts.{IsAllocating, MayBeHeld}
use Rattle.nc_flatness.specs.Books.{book_of, mapping_in}
use Rattle.nc_flatness.specs.Flatness.{Flatness}
use Rattle.nc_flatness.proofs.books.Areas.{area_pooled}
use Rattle.nc_flatness.proofs.books.BookReads.{pool_unheld}
use Rattle.nc_flatness.proofs.books.Owned.{mapped, owned_ram}
use Rattle.nc_flatness.proofs.books.Seen.{mapped_unslotted}

-- ---- one of two

pub either_by : (b : Bool) (p q : Type 0) → (b ≡ true → p) → (b ≡ false → q) → Either b p q
either_by true p q first second = first refl
either_by false p q first second = second refl

first_of : (b : Bool) (p q : Type 0) → b ≡ true → Either b p q → p
first_of true p q is row = row
first_of false p q is row = absurd (both_ways false refl is)

-- what a mapping is, is one
pub one_loan : (o : Option Loan) (k l : Loan) → o ≡ Some k → o ≡ Some l → k ≡ l
one_loan o k l p q = let same = sym p ∙ q in cc

-- ---- places of areas

-- the place of an area that is lent, or was, is one of the pool
pub loan_pooled : (sc : Scenario) (f : List ℕ) (w : WorldState) (n : MapId) (l : Loan) (x : ℕ) → Flatness sc f w → mapping_in (owner_of w x) ≡ Some n → (book_of w).loan n ≡ Some l → l.area ≡ true → covers w.machine.pool x ≡ true
loan_pooled sc f w n l x flat mine known area =
    let m = mapped sc f w n x flat (owned_ram sc f w x n flat mine) mine in
    let same = one_loan ((book_of w).loan n) l m.loan known m.known in
    subst (λ (s : Span). covers s x ≡ true) (sym flat.world.of_scenario.pool) (area_pooled sc f w n x flat m (ap (λ (k : Loan). k.area) (sym same) ∙ area))

-- where its channel has it nobody holds it
pub device_unheld : (sc : Scenario) (f : List ℕ) (w : WorldState) (n : MapId) (l : Loan) (x : ℕ) → Flatness sc f w → owner_of w x ≡ Device n → (book_of w).loan n ≡ Some l → l.area ≡ true → NotHeld w.machine x
device_unheld sc f w n l x flat own known area =
    pool_unheld sc f w x flat (loan_pooled sc f w n l x flat (ap mapping_in own) known area) (λ may. subst (λ (o : Owner). MayBeHeld (book_of w) o) own may)

-- ---- what drains

-- an area that is allocated
allocating_row : (a : Book) (n : MapId) (l : Loan) (v : ℕ) (m : MachineState) (x : ℕ) → a.loan n ≡ Some l → IsAllocating a n (Some l) → Row a (Lending n) v m x → AllocatingRow n v (ahead_of a n l) m x
allocating_row a n l v m x known is row = first_of _ _ _ is.1 (first_of l.area _ _ is.0 (subst (λ (o : Option Loan). LentRow a n o v m x) known row))

-- has no store past the caches queued
allocating_whole : (sc : Scenario) (f : List ℕ) (w : WorldState) (h : ℕ) (e : Entry) (x : ℕ) (n : MapId) (o : Option Loan) → Flatness sc f w → In e (queue_of w.machine h) → owner_of w x ≡ Lending n → (book_of w).loan n ≡ o → IsAllocating (book_of w) n o
    → may_leave_stale_copy w.machine.size e x ≡ false
allocating_whole sc f w h e x n None flat here own known is = absurd is
allocating_whole sc f w h e x n (Some l) flat here own known is =
    let m = w.machine in
    let mine = ap mapping_in own in
    let row = subst (λ (k : Owner). Row (book_of w) k (byte f x) m x) own (flat.bytes.rows x (owned_ram sc f w x n flat mine) (mapped_unslotted sc f w n x flat mine)) in
    none_at (λ (d : Entry). may_leave_stale_copy m.size d x) (queue_of m h) e ((allocating_row (book_of w) n l (byte f x) m x known is row).whole h) here

held_whole : (sc : Scenario) (f : List ℕ) (w : WorldState) (h : ℕ) (e : Entry) (x : ℕ) (o : Owner) → Flatness sc f w → In e (queue_of w.machine h) → owner_of w x ≡ o → MayBeHeld (book_of w) o → may_leave_stale_copy w.machine.size e x ≡ false
held_whole sc f w h e x (Lending n) flat here own may = allocating_whole sc f w h e x n ((book_of w).loan n) flat here own refl may
held_whole sc f w h e x (Thread g) flat here own may = absurd may
held_whole sc f w h e x (Passing g k) flat here own may = absurd may
held_whole sc f w h e x (Device n) flat here own may = absurd may
held_whole sc f w h e x (Returning n) flat here own may = absurd may
held_whole sc f w h e x (Synced n) flat here own may = absurd may
held_whole sc f w h e x Pool flat here own may = absurd may

-- so no entry that is queued parts a place of the pool from its copies
pub pool_loses : (sc : Scenario) (f : List ℕ) (w : WorldState) (h : ℕ) (e : Entry) (x : ℕ) → Flatness sc f w → In e (queue_of w.machine h) → covers w.machine.pool x ≡ true → KeepsCoherence w.machine e x
pool_loses sc f w h e x flat here on = elim (flat.bytes.uncached x on) [
  | inl free ↦ λ over. free
  | inr may ↦ λ over. absurd (both_ways (may_leave_stale_copy w.machine.size e x) (held_whole sc f w h e x (owner_of w x) flat here refl may) over)
]
