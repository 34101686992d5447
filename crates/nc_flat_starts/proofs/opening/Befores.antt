-- The lots of a hart just before a turn of one of them, with no plan in hand: what stays beside that lot.
use Rattle.std.specs.Prelude.{Option, Some, None, All, true, false, slice_get}
use Rattle.std.specs.List.{list_any}
use Rattle.std.proofs.Common.{◌≡◌, ℕ, ◌<◌, List, [], length, refl, sym, ap, ◌∙◌, inl, inr, subst, arith}
use Rattle.std.proofs.lemmas.Bool.{both_ways, false_from_ne_true}
use Rattle.nc_num.specs.Places.{covers}
use Rattle.nc_num.specs.declared.names.HartNo.{HartNo}
use Rattle.nc_num.specs.declared.names.MapId.{MapId}
use Rattle.nc_num.specs.declared.places.Span.{Span}
use Rattle.nc_env.specs.declared.CboOp.TheVariants as cbos
use Rattle.nc_queue.specs.declared.entry.Entry.{Entry as QueueEntry}
use Rattle.nc_queue.specs.declared.entry.Entry.TheVariants as entries
use Rattle.nc_model.specs.declared.owners.Owner.{Owner}
use Rattle.nc_model.specs.declared.owners.Owner.TheVariants.{Thread, Passing, Lending, Device, Returning, Synced, Pool}
use Rattle.nc_plan.specs.Plans.{In}
use Rattle.nc_scen.specs.declared.scenario.Scenario.{Scenario}
use Rattle.nc_rules.specs.declared.lots.Lot.{Lot}
use Rattle.nc_rules.specs.declared.lots.LotId.{LotId}
use Rattle.nc_rules.specs.declared.steps.Step.{Step}
use Rattle.nc_rules.specs.Lots.{is_lot}
use Rattle.nc_rules.specs.Machine.{queue_of}
use Rattle.nc_rules.specs.EventTouches.{owner_of}
use Rattle.nc_rules.specs.World.{WorldState, driver_of}
use Rattle.nc_scripts.specs.Drivers.{IsLotIn, AreApart}
use Rattle.nc_scripts.proofs.Lists.{all_to}
use Rattle.nc_scripts.proofs.LotLaws.{its_name}
use Rattle.nc_holds.specs.Held.{EntriesAreApart}
use Rattle.nc_holds.proofs.owners.Lots.{same_named}
use Rattle.nc_holds.proofs.owners.Sides.{OthersOwn}
use Rattle.nc_calls.specs.PlaceLaws.{NotHeld}
use Rattle.nc_rows.specs.Ahead.{same_lot, is_full, settling, coming}
use Rattle.nc_rows.specs.Laws.{seen_at, place_of}
use Rattle.nc_rows.specs.Rows.{Loan, Book, ahead_of}
use Rattle.nc_rows.specs.Parts.{IsQueued, IsAllocating, MayBeHeld}
use Rattle.nc_rows.proofs.Steps.{steps_ahead}
use Rattle.nc_flatness.specs.Books.{loan_of, book_of, mapping_in}
use Rattle.nc_flatness.specs.Flatness.{IsMapping, Flatness}
use Rattle.nc_flatness.specs.Plans.{IsStill}
use Rattle.nc_flatness.specs.Tokens.{TokenStands}
use Rattle.nc_flatness.proofs.books.BookReads.{pool_unheld}
use Rattle.nc_flatness.proofs.books.Loans.{IsLoan, loan_is}
use Rattle.nc_flatness.proofs.books.Owned.{mapped}
use Rattle.nc_flatness.proofs.tokens.Tokens.{unended_settling}
use Rattle.nc_flat_starts.proofs.opening.Bases.{IsBase, me_of}
use Rattle.nc_flat_starts.proofs.turning.Frames.{IsOff, SameRest}
use Rattle.nc_flat_starts.proofs.turning.Lots.{loan_in, names_entry, entry_named, entry_one, FarFrom}
use Rattle.nc_flat_starts.proofs.going.PlanComes.{EndsOnly, only_far}
use Rattle.nc_flat_starts.proofs.turning.Sides.{Others}
use Rattle.nc_flat_starts.proofs.opening.Tokens.{AreKept, lots_stand}

-- ---- the lots

pub record IsBefore (sc : Scenario) (f : List ℕ) (w : WorldState) (h : HartNo) (lots : List Lot) (lot : Lot) : Type 0 where
  pub flat : Flatness sc f w
  pub lt : h.0 < length sc.harts
  pub me : (driver_of w h.0).fixed.me ≡ h
  pub there : All (IsLotIn (length w.machine.cache.ram) (driver_of w h.0).fixed) lots
  pub names : AreApart lots
  pub apart : EntriesAreApart lots
  pub theirs : OthersOwn (driver_of w h.0).fixed.me w.owners lot.id lots
  pub mappings : All IsMapping lots
  pub here : In lot lots
  pub loans : (k : MapId) → loan_in (driver_of w h.0).fixed lots k ≡ loan_of (driver_of w h.0) k
  pub kept : AreKept w h lots
  pub tokens : (driver_of w h.0).fixed.light ≡ true → All (TokenStands [] (queue_of w.machine h.0)) lots
  pub others : Others (IsStill (driver_of w h.0).fixed) lot.id lots
  pub idle : (driver_of w h.0).rest ≡ []

pub base_before : (sc : Scenario) (f : List ℕ) (w : WorldState) (h : HartNo) (lots : List Lot) (lot : Lot) → IsBase sc f w h lots lot → IsBefore sc f w h lots lot
base_before sc f w h lots lot b = record {
  flat = b.flat;
  lt = b.lt;
  me = me_of w h b.each.me;
  there = b.each.knows.lots;
  names = b.each.knows.names;
  apart = b.each.mine.apart;
  theirs = λ other i e x off here on. b.each.mine.owners other i e x here on;
  mappings = b.mappings;
  here = b.here;
  loans = b.loans;
  kept = b.kept;
  tokens = λ light. lots_stand sc f w h lots b.flat b.lt b.idle b.each.knows.names b.kept b.lent light;
  others = b.others;
  idle = b.idle;
}

pub driven : (sc : Scenario) (f : List ℕ) (w : WorldState) (h : HartNo) → Flatness sc f w → h.0 < length sc.harts → h.0 < length w.drivers
driven sc f w h flat lt = omega (arith, lt, flat.world.of_scenario.harts, flat.world.holds.drivers)

-- one that has a mapping of the lot is the lot
pub its_entry : (sc : Scenario) (f : List ℕ) (w : WorldState) (h : HartNo) (lots : List Lot) (lot other : Lot) (n : MapId) → IsBefore sc f w h lots lot → In other lots → names_entry n other ≡ true → names_entry n lot ≡ true → other ≡ lot
its_entry sc f w h lots lot other n b there is too = entry_one (length w.machine.cache.ram) (driver_of w h.0).fixed lots other lot n b.there b.names there b.here is too

-- and so is one of its name
its_named : (sc : Scenario) (f : List ℕ) (w : WorldState) (h : HartNo) (lots : List Lot) (lot other : Lot) → IsBefore sc f w h lots lot → In other lots → is_lot lot.id other ≡ true → other ≡ lot
its_named sc f w h lots lot other b there is = same_named lots lot.id other lot b.names there b.here is (its_name lot lot.id refl)

-- ---- the hart's other mappings

-- what is to come of a mapping where the plan ends the stay of another lot alone
pub rest_aside : (k : MapId) (id other : LotId) (plan before behind : List Step) → EndsOnly id plan → (same_lot other id ≡ true → ⊥) → before ≡ [] → behind ≡ plan → SameRest k other before behind
rest_aside k id other plan before behind only far idle left =
    let none = only_far id other plan only far in
    record {
      comes = ap (λ (ss : List Step). coming k other ss) left ∙ steps_ahead.none k other plan none ∙ sym (ap (λ (ss : List Step). coming k other ss) idle);
      settles = ap (λ (ss : List Step). settling other ss) left ∙ unended_settling other plan none ∙ sym (ap (λ (ss : List Step). settling other ss) idle);
    }

-- and where there is none
pub rest_none : (k : MapId) (other : LotId) (before behind : List Step) → before ≡ [] → behind ≡ [] → SameRest k other before behind
rest_none k other before behind idle left = record {
  comes = ap (λ (ss : List Step). coming k other ss) left ∙ sym (ap (λ (ss : List Step). coming k other ss) idle);
  settles = ap (λ (ss : List Step). settling other ss) left ∙ sym (ap (λ (ss : List Step). settling other ss) idle);
}

-- a mapping with a place beside the lot is none of it
pub far_loan : (sc : Scenario) (f : List ℕ) (w : WorldState) (h : HartNo) (lots : List Lot) (lot : Lot) (x : ℕ) (k : MapId) (l : Loan) → IsBefore sc f w h lots lot → IsOff lot x → k.hart.0 ≡ h.0 → IsLoan w k l → covers l.grant.buffer x ≡ true → names_entry k lot ≡ false
far_loan sc f w h lots lot x k l b off own is on =
    false_from_ne_true (names_entry k lot)
    (λ named.
    let here : In is.lot (driver_of w h.0).lots = subst (λ (g : ℕ). In is.lot (driver_of w g).lots) own is.here.lot_in in
    let one = its_entry sc f w h lots lot is.lot k b (b.kept is.lot here is.lent) (entry_named k is.lot is.entry_of) named in
    off is.i is.entry (record { entry = subst (λ (j : Lot). slice_get j.list.entries is.i ≡ Some is.entry) one is.here.entry; on = subst (λ (s : Span). covers s x ≡ true) is.buffer on }))

pub far_mapping : (sc : Scenario) (f : List ℕ) (w : WorldState) (h : HartNo) (lots : List Lot) (lot : Lot) (x : ℕ) (k : MapId) → IsBefore sc f w h lots lot → x < sc.ram → IsOff lot x → mapping_in (owner_of w x) ≡ Some k → k.hart.0 ≡ h.0 → names_entry k lot ≡ false
far_mapping sc f w h lots lot x k b there off is own =
    let m = mapped sc f w k x b.flat there is in
    far_loan sc f w h lots lot x k m.loan b off own m.is m.on

pub far_from : (sc : Scenario) (f : List ℕ) (w : WorldState) (h : HartNo) (lots : List Lot) (lot : Lot) (k : MapId) → IsBefore sc f w h lots lot → names_entry k lot ≡ false → FarFrom k lot.id lots
far_from sc f w h lots lot k b far other there is = subst (λ (l : Lot). names_entry k l ≡ false) (sym (its_named sc f w h lots lot other b there is)) far

-- so nothing is to come of one where the plan is of the lot
pub far_rest : (sc : Scenario) (f : List ℕ) (w : WorldState) (h : HartNo) (lots : List Lot) (lot : Lot) (k : MapId) (l : Loan) (plan behind : List Step) → IsBefore sc f w h lots lot → EndsOnly lot.id plan → behind ≡ plan → k.hart.0 ≡ h.0 → loan_of (driver_of w h.0) k ≡ Some l → names_entry k lot ≡ false
    → SameRest k l.lot (driver_of w h.0).rest behind
far_rest sc f w h lots lot k l plan behind b only left own known far =
    let is = loan_is sc f w k l b.flat (ap (λ (g : ℕ). loan_of (driver_of w g) k) own ∙ known) in
    let here : In is.lot (driver_of w h.0).lots = subst (λ (g : ℕ). In is.lot (driver_of w g).lots) own is.here.lot_in in
    rest_aside k lot.id l.lot plan (driver_of w h.0).rest behind only
    (λ same.
    let named : is_lot lot.id is.lot ≡ true = subst (λ (i : LotId). same_lot i lot.id ≡ true) is.lot_is same in
    let one = its_named sc f w h lots lot is.lot b (b.kept is.lot here is.lent) named in
    both_ways (names_entry k lot) far (subst (λ (j : Lot). names_entry k j ≡ true) one (entry_named k is.lot is.entry_of))) b.idle left

-- what the book knows of a mapping of the hart
pub known_here : (w : WorldState) (h : HartNo) (k : MapId) (l : Loan) → k.hart.0 ≡ h.0 → (book_of w).loan k ≡ Some l → loan_of (driver_of w h.0) k ≡ Some l
known_here w h k l own known = ap (λ (g : ℕ). loan_of (driver_of w g) k) (sym own) ∙ known

-- ---- with nothing to come

-- no invalidate and no zero of the hart is queued that its mappings or areas tell, whatever its owners and mappings become
pub queue_idle : (w : WorldState) (h : HartNo) (c : Book) (owner : ℕ → Owner) (pool : Span) (s : ℕ) (e : QueueEntry) → (book_of w).rest h.0 ≡ [] → IsQueued (book_of w) (owner_of w) pool s h.0 e → IsQueued c owner pool s h.0 e
queue_idle w h c owner pool s (entries.Store span bytes kind) idle is = is
queue_idle w h c owner pool s (entries.Cbo block cbos.Clean) idle is = tt
queue_idle w h c owner pool s (entries.Cbo block cbos.Flush) idle is = tt
queue_idle w h c owner pool s (entries.Cbo block cbos.Inval) idle is =
    let rest : (book_of w).rest is.id.hart.0 ≡ [] = ap (λ (g : ℕ). (book_of w).rest g) is.own ∙ idle in
    absurd (both_ways (list_any is_full (ahead_of (book_of w) is.id is.loan)) (ap (λ (ss : List Step). list_any is_full (coming is.id is.loan.lot ss)) rest) is.ahead)
queue_idle w h c owner pool s (entries.Cbo block cbos.Zero) idle (inl beside) = inl beside
queue_idle w h c owner pool s (entries.Cbo block cbos.Zero) idle (inr is) =
    let rest : (book_of w).rest is.id.hart.0 ≡ [] = ap (λ (g : ℕ). (book_of w).rest g) is.own ∙ idle in
    absurd (both_ways (settling is.loan.lot ((book_of w).rest is.id.hart.0)) (ap (settling is.loan.lot) rest) is.ahead)
queue_idle w h c owner pool s (entries.Reg chan off width value) idle is = tt
queue_idle w h c owner pool s (entries.Mail buf to) idle is = tt
queue_idle w h c owner pool s (entries.Lend label first count) idle is = tt
queue_idle w h c owner pool s (entries.Mark pred succ) idle is = tt

pub all_idle : (sc : Scenario) (f : List ℕ) (w : WorldState) (h : HartNo) (c : Book) (owner : ℕ → Owner) → Flatness sc f w → (driver_of w h.0).rest ≡ [] → All (IsQueued c owner w.machine.pool w.machine.size h.0) (queue_of w.machine h.0)
all_idle sc f w h c owner flat idle =
    let m = w.machine in
    all_to (IsQueued (book_of w) (owner_of w) m.pool m.size h.0) (IsQueued c owner m.pool m.size h.0) (queue_of m h.0) (flat.bytes.queued h.0) (λ e is. queue_idle w h c owner m.pool m.size e idle is)

-- no area of it is being allocated
unallocated : (a : Book) (n : MapId) (o : Option Loan) → a.rest n.hart.0 ≡ [] → IsAllocating a n o → ⊥
unallocated a n None idle is = is
unallocated a n (Some l) idle is = both_ways (settling l.lot (a.rest n.hart.0)) (ap (settling l.lot) idle) is.1

none_held : (a : Book) (o : Owner) → ((k : MapId) → mapping_in o ≡ Some k → a.rest k.hart.0 ≡ []) → MayBeHeld a o → ⊥
none_held a (Lending n) idle may = unallocated a n (a.loan n) (idle n refl) may
none_held a (Thread h) idle may = may
none_held a (Passing h g) idle may = may
none_held a (Device n) idle may = may
none_held a (Returning n) idle may = may
none_held a (Synced n) idle may = may
none_held a Pool idle may = may

-- so no copy is there of a place of the pool that is no other hart's
pub idle_free : (sc : Scenario) (f : List ℕ) (w : WorldState) (h : HartNo) (x : ℕ) → Flatness sc f w → (driver_of w h.0).rest ≡ [] → ((k : MapId) → mapping_in (owner_of w x) ≡ Some k → k.hart.0 ≡ h.0) → covers w.machine.pool x ≡ true → NotHeld w.machine x
idle_free sc f w h x flat idle mine over = pool_unheld sc f w x flat over (none_held (book_of w) (owner_of w x) (λ k is. ap (λ (g : ℕ). (driver_of w g).rest) (mine k is) ∙ idle))

-- ---- where places are seen

-- a place of an owner whose mapping stays is seen where it was
pub seen_aside : (a c : Book) (o : Owner) (x : ℕ) → ((k : MapId) → mapping_in o ≡ Some k → c.loan k ≡ a.loan k) → seen_at c o x ≡ seen_at a o x
seen_aside a c (Lending n) x same = ap (λ (l : Option Loan). place_of l x) (same n refl)
seen_aside a c (Device n) x same = ap (λ (l : Option Loan). place_of l x) (same n refl)
seen_aside a c (Returning n) x same = ap (λ (l : Option Loan). place_of l x) (same n refl)
seen_aside a c (Synced n) x same = refl
seen_aside a c (Thread h) x same = refl
seen_aside a c (Passing h g) x same = refl
seen_aside a c Pool x same = refl
