-- The world behind a token that drained: what each mapping is stays, and the places of its lot are their channel's.
use Rattle.std.specs.Prelude.{Option, Some, ◌&&◌, ◌==◌, not, nat_le, nat_lt, option_map}
use Rattle.std.specs.List.{find}
use Rattle.std.proofs.Common.{◌≡◌, ℕ, ◌+◌, ◌<◌, Bool, true, false, List, [], ◌∷◌, length, refl, sym, ap, ◌∙◌, inl, inr, subst, arith}
use Rattle.std.proofs.lemmas.Bool.{cases_Bool, cases_eq, and_parts, and_from, both_ways, eqb-true, cond-true, cond-false}
use Rattle.std.proofs.lemmas.Bool.Decides.{nat_tests}
use Rattle.std.proofs.lemmas.List.Elements.{All-head, All-tail}
use Rattle.nc_num.specs.Places.{covers}
use Rattle.nc_num.specs.declared.names.HartNo.{HartNo}
use Rattle.nc_num.specs.declared.names.Label.{Label}
use Rattle.nc_num.specs.declared.names.MapId.{MapId}
use Rattle.nc_num.specs.declared.places.Span.{Span}
use Rattle.nc_queue.specs.declared.entry.Entry.{Entry as QueueEntry}
use Rattle.nc_queue.specs.declared.entry.Entry.TheVariants as entries
use Rattle.nc_plan.specs.Plans.{In}
use Rattle.nc_plan.proofs.PlanLaws.{in_map}
use Rattle.nc_model.specs.declared.owners.Owner.{Owner}
use Rattle.nc_model.specs.declared.owners.Owner.TheVariants.{Thread, Passing, Lending, Device, Returning, Synced, Pool}
use Rattle.nc_own.specs.Books.{owner_in}
use Rattle.nc_scen.specs.declared.scenario.Scenario.{Scenario}
use Rattle.nc_sg.specs.declared.list.Entry.{Entry}
use Rattle.nc_rules.specs.declared.lots.Lot.{Lot}
use Rattle.nc_rules.specs.declared.lots.LotId.{LotId}
use Rattle.nc_rules.specs.declared.lots.Side.{Side}
use Rattle.nc_rules.specs.declared.lots.Side.TheVariants as sides
use Rattle.nc_rules.specs.declared.steps.Turn.TheVariants as turns
use Rattle.nc_rules.specs.Calls.{drain_next}
use Rattle.nc_rules.specs.Driver.{DriverState, with_lots, lent}
use Rattle.nc_rules.specs.Lots.{DriverConfig, is_lot, is_wanted, lot_id, map_id, owner_of_side}
use Rattle.nc_rules.specs.Turns.{to_side, of_those, with_side, lots_after, turned_by}
use Rattle.nc_rules.specs.EventTouches.{owner_of}
use Rattle.nc_rules.specs.World.{WorldState, driver_of, hart, owners_moved}
use Rattle.nc_holds.specs.Held.{IsEntryOf, OwnersAgree}
use Rattle.nc_holds.proofs.lists.Changes.{nothing_behind}
use Rattle.nc_holds.proofs.owners.Moves.{moved_off}
use Rattle.nc_holds.proofs.owners.Sides.{side_move, move_covers, owners_sided}
use Rattle.nc_rows.specs.Ahead.{names, settling}
use Rattle.nc_rows.specs.Rows.{Loan}
use Rattle.nc_row_moves.specs.Laws.{is_token_of, is_token, IsDrain}
use Rattle.nc_flatness.specs.Books.{is_entry_of, loan_by, loan_of, book_of, mapping_in}
use Rattle.nc_flatness.specs.Flatness.{Flatness}
use Rattle.nc_flatness.specs.Tokens.{lot_token}
use Rattle.nc_flatness.proofs.books.BookReads.{loan_here, loan_away, rest_gone, buffer_gone}
use Rattle.nc_flatness.proofs.books.Loans.{IsLoan, loan_is, one_of, get_below}
use Rattle.nc_flatness.proofs.worlds.Outcomes.{gone}
use Rattle.nc_flatness.proofs.books.Owned.{me_is, entry_owned, of_buffer, mapped, owned_ram}
use Rattle.nc_flatness.proofs.tokens.Lents.{lent as lent_lots, AreLending}
use Rattle.nc_flatness.proofs.plans.Rests.{unlent_settling}
use Rattle.nc_flat_moves.proofs.tokens.SentLots.{IsSent, sent_one}

abbrev pub given_world : WorldState → HartNo → ℕ → Label → ℕ → WorldState
given_world w h i label first = gone w h (drain_next w.machine h.0 i) (lent (driver_of w h.0) label first)

-- the token at place i of hart h's queue drains
pub record IsGiving (sc : Scenario) (f : List ℕ) (w : WorldState) (h : HartNo) (i : ℕ) (label : Label) (first count : ℕ) : Type 0 where
  pub flat : Flatness sc f w
  pub lt : h.0 < length sc.harts
  pub there : h.0 < length w.machine.harts
  pub is : IsDrain w.machine h.0 i (entries.Lend label first count)
  pub sent : IsSent w h.0 label first count

-- ---- the driver

-- the lots of the name are its channel's
abbrev pub given_driver : DriverState → LotId → DriverState
given_driver d id = with_lots d (lots_after (turns.Give id) d.lots)

pub lent_driver : (d : DriverState) (label : Label) (first : ℕ) → (lent d label first).driver ≡ given_driver d (lot_id label first)
unfolding lent
lent_driver d label first = refl

lent_transfers : (d : DriverState) (label : Label) (first : ℕ) → (lent d label first).moves.transfers ≡ of_those (to_side d.fixed.me sides.Device) (lot_id label first) d.lots
unfolding lent turned_by
lent_transfers d label first = nothing_behind (of_those (to_side d.fixed.me sides.Device) (lot_id label first) d.lots)

-- ---- the book

abbrev loan_in : DriverConfig → List Lot → MapId → Option Loan
loan_in f lots n = option_map (loan_by f n) (find (is_entry_of n) lots)

entry_same : (n : MapId) (lot : Lot) → is_wanted lot.side ≡ false → is_entry_of n (record lot { side = sides.Device }) ≡ is_entry_of n lot
entry_same n lot was = ap (λ (t : Bool). not t && (lot.id.label.0 == n.label.0 && (nat_le lot.id.first n.entry && nat_lt n.entry (lot.id.first + length lot.list.entries)))) (sym was)

found_same : (f : DriverConfig) (n : MapId) (a b : Lot) (xs ys : List Lot) (t : Bool) → is_entry_of n a ≡ t → is_entry_of n b ≡ t → loan_by f n a ≡ loan_by f n b → loan_in f xs n ≡ loan_in f ys n → loan_in f (a ∷ xs) n ≡ loan_in f (b ∷ ys) n
found_same f n a b xs ys true p q loan more = rw (p, q) (ap (λ (l : Loan). Some l) loan)
found_same f n a b xs ys false p q loan more = rw (p, q) more

loans_given : (f : DriverConfig) (n : MapId) (id : LotId) (lots : List Lot) → AreLending id lots → loan_in f (lent_lots id lots) n ≡ loan_in f lots n
loans_given f n id [] lending = refl
loans_given f n id (lot ∷ lots) lending =
    let more = loans_given f n id lots (All-tail (λ (l : Lot). is_lot id l ≡ true → l.side ≡ sides.Lending) lot lots lending) in
    elim (cases_Bool (is_lot id lot)) [
      | inl is ↦
          let was : is_wanted lot.side ≡ false = ap is_wanted (All-head (λ (l : Lot). is_lot id l ≡ true → l.side ≡ sides.Lending) lot lots lending is) in
          ap (λ (k : Lot). loan_in f (k ∷ lent_lots id lots) n) (cond-true (is_lot id lot) (record lot { side = sides.Device }) lot is)
          ∙ found_same f n (record lot { side = sides.Device }) lot (lent_lots id lots) lots (is_entry_of n lot) (entry_same n lot was) refl refl more
      | inr other ↦
          ap (λ (k : Lot). loan_in f (k ∷ lent_lots id lots) n) (cond-false (is_lot id lot) (record lot { side = sides.Device }) lot other)
          ∙ found_same f n lot lot (lent_lots id lots) lots (is_entry_of n lot) refl refl refl more
    ]

pub drivers_there : (sc : Scenario) (f : List ℕ) (w : WorldState) (h : HartNo) (i : ℕ) (label : Label) (first count : ℕ) → IsGiving sc f w h i label first count → h.0 < length w.drivers
drivers_there sc f w h i label first count g = omega (arith, g.there, g.flat.world.holds.drivers)

pub book_given : (sc : Scenario) (f : List ℕ) (w : WorldState) (h : HartNo) (i : ℕ) (label : Label) (first count : ℕ) → IsGiving sc f w h i label first count → book_of (given_world w h i label first) ≡ book_of w
book_given sc f w h i label first count g =
    let m = drain_next w.machine h.0 i in
    let d = driver_of w h.0 in
    let went = lent d label first in
    let lt = drivers_there sc f w h i label first count g in
    let now = lent_driver d label first in
    let mine : (n : MapId) → loan_of went.driver n ≡ loan_of d n = λ n. ap (λ (e : DriverState). loan_of e n) now ∙ loans_given d.fixed n (lot_id label first) d.lots g.sent.all in
    let loans : (n : MapId) → (book_of (gone w h m went)).loan n ≡ (book_of w).loan n = λ n. elim (cases_eq n.hart.0 h.0) [
      | inl own ↦ loan_here w h m went n own lt ∙ mine n ∙ ap (λ (k : ℕ). loan_of (driver_of w k) n) (sym own)
      | inr ne ↦ loan_away w h m went n ne
    ] in
    let rests : (k : ℕ) → (book_of (gone w h m went)).rest k ≡ (book_of w).rest k = λ k. rest_gone w h m went k lt (ap (λ (e : DriverState). e.rest) now) in
    let buffers = buffer_gone w h m went lt (ap (λ (e : DriverState). e.fixed) now) in
    λ z. record { loan = λ n. loans n z; rest = λ k. rests k z; buffer = buffers z }

-- ---- the mappings that the token names

pub record IsNamedBy (w : WorldState) (h : HartNo) (lot : Lot) (n : MapId) (l : Loan) : Type 0 where
  pub is : IsLoan w n l
  pub hart : n.hart.0 ≡ h.0
  pub lot_is : is.lot ≡ lot

-- what a lot's own token names is an entry of it
own_token : (n : MapId) (lot : Lot) → lot.side ≡ sides.Lending → names n (lot_token lot) ≡ true → is_entry_of n lot ≡ true
own_token n lot lending on =
    and_from (not (is_wanted lot.side)) (lot.id.label.0 == n.label.0 && (nat_le lot.id.first n.entry && nat_lt n.entry (lot.id.first + length lot.list.entries))) (ap (λ (s : Side). not (is_wanted s)) lending) on

named_by : (sc : Scenario) (f : List ℕ) (w : WorldState) (h : HartNo) (i : ℕ) (label : Label) (first count : ℕ) (n : MapId) (l : Loan) → (g : IsGiving sc f w h i label first count) → is_token_of n h.0 (entries.Lend label first count) ≡ true → (book_of w).loan n ≡ Some l
    → IsNamedBy w h g.sent.lot n l
named_by sc f w h i label first count n l g on known =
    let is = loan_is sc f w n l g.flat known in
    let k = and_parts (n.hart.0 == h.0) (names n (entries.Lend label first count)) on in
    let own : n.hart.0 ≡ h.0 = eqb-true n.hart.0 h.0 k.0 in
    let named : is_entry_of n g.sent.lot ≡ true = own_token n g.sent.lot g.sent.lending (ap (names n) (sym g.sent.token) ∙ k.1) in
    record {
      is = is;
      hart = own;
      lot_is = one_of sc f w h.0 n is.lot g.sent.lot g.flat (subst (λ (j : ℕ). In is.lot (driver_of w j).lots) own is.here.lot_in) g.sent.here is.entry_of named;
    }

-- none of them is allocated
pub named_unsettled : (sc : Scenario) (f : List ℕ) (w : WorldState) (h : HartNo) (i : ℕ) (label : Label) (first count : ℕ) (n : MapId) (l : Loan) → IsGiving sc f w h i label first count → is_token_of n h.0 (entries.Lend label first count) ≡ true → (book_of w).loan n ≡ Some l
    → settling l.lot ((book_of w).rest n.hart.0) ≡ false
named_unsettled sc f w h i label first count n l g on known =
    let by = named_by sc f w h i label first count n l g on known in
    ap (λ (id : LotId). settling id (driver_of w n.hart.0).rest) (by.is.lot_is ∙ ap (λ (k : Lot). k.id) by.lot_is) ∙ ap (λ (j : ℕ). settling g.sent.lot.id (driver_of w j).rest) by.hart
    ∙ unlent_settling g.sent.lot.id (driver_of w h.0).rest g.sent.none

-- and each entry of the lot is one of them
names_entry : (h : HartNo) (lot : Lot) (j : ℕ) → j < length lot.list.entries → is_token_of (map_id h lot.id j) h.0 (lot_token lot) ≡ true
names_entry h lot j lt = grind (arith, nat_tests)

-- ---- owners

-- a place is of a mapping that the token names, or it keeps its owner
pub data IsGivenAt (w v : WorldState) (h : ℕ) (e : QueueEntry) (x : ℕ) : Type 0 where
  Given : (n : MapId) → owner_of w x ≡ Lending n → is_token (Lending n) h e ≡ true → owner_of v x ≡ Device n → IsGivenAt w v h e x
  Kept : is_token (owner_of w x) h e ≡ false → owner_of v x ≡ owner_of w x → IsGivenAt w v h e x

owner_on : (sc : Scenario) (f : List ℕ) (w : WorldState) (h : HartNo) (i : ℕ) (label : Label) (first count j : ℕ) (e : Entry) (x : ℕ) → (g : IsGiving sc f w h i label first count) → IsEntryOf (driver_of w h.0).lots g.sent.lot j e → covers e.span x ≡ true
    → owner_of (given_world w h i label first) x ≡ Device (map_id h g.sent.lot.id j)
owner_on sc f w h i label first count j e x g here on =
    let d = driver_of w h.0 in
    let lot = g.sent.lot in
    let id = lot_id label first in
    let holds = g.flat.world.holds.each h.0 g.there in
    let agree : OwnersAgree d.fixed.me (owners_moved w.owners (of_those (to_side d.fixed.me sides.Device) id d.lots)) (lent_lots id d.lots) =
    owners_sided (length w.machine.cache.ram) d.fixed sides.Device id d.lots w.owners holds.driver.lots g.flat.world.holds.owners holds.agrees.apart holds.agrees.owners in
    let now : In (record lot { side = sides.Device }) (lent_lots id d.lots) =
    subst (λ (k : Lot). In k (lent_lots id d.lots)) (cond-true (is_lot id lot) (record lot { side = sides.Device }) lot g.sent.named) (in_map {Y = Lot} (with_side sides.Device id) lot d.lots g.sent.here) in
    ap (λ (ts : List (Span × Owner)). owner_in (owners_moved w.owners ts) x) (lent_transfers d label first) ∙ agree (record lot { side = sides.Device }) j e x (record { lot_in = now; entry = here.entry }) on
    ∙ ap (λ (k : HartNo). Device (map_id k lot.id j)) (me_is w h.0 g.flat.world.holds g.there)

owner_off : (sc : Scenario) (f : List ℕ) (w : WorldState) (h : HartNo) (i : ℕ) (label : Label) (first count x : ℕ) → IsGiving sc f w h i label first count → is_token (owner_of w x) h.0 (entries.Lend label first count) ≡ false
    → owner_of (given_world w h i label first) x ≡ owner_of w x
owner_off sc f w h i label first count x g off =
    let d = driver_of w h.0 in
    let id = lot_id label first in
    let lot = g.sent.lot in
    let ts = of_those (to_side d.fixed.me sides.Device) id d.lots in
    ap (λ (us : List (Span × Owner)). owner_in (owners_moved w.owners us) x) (lent_transfers d label first)
    ∙ moved_off w.owners ts x (λ t there over.
    let r = side_move d.fixed.me sides.Device id d.lots t there in
    let same = sent_one sc f w h.0 label first count r.lot g.flat g.there g.sent r.here.lot_in r.named in
    let here : IsEntryOf d.lots lot r.i r.entry = subst (λ (l : Lot). IsEntryOf d.lots l r.i r.entry) same r.here in
    let owned : owner_of w x ≡ Lending (map_id h lot.id r.i) =
    entry_owned sc f w h.0 lot r.i r.entry x g.flat here (move_covers d.fixed.me sides.Device id d.lots t x r over) ∙ ap (owner_of_side (map_id h lot.id r.i)) g.sent.lending in
    let on : is_token (owner_of w x) h.0 (entries.Lend label first count) ≡ true =
    ap (λ (o : Owner). is_token o h.0 (entries.Lend label first count)) owned ∙ ap (is_token_of (map_id h lot.id r.i) h.0) g.sent.token ∙ names_entry h lot r.i (get_below lot.list.entries r.i r.entry here.entry) in
    both_ways (is_token (owner_of w x) h.0 (entries.Lend label first count)) off on)

given_named : (sc : Scenario) (f : List ℕ) (w : WorldState) (h : HartNo) (i : ℕ) (label : Label) (first count x : ℕ) (n : MapId) → IsGiving sc f w h i label first count → owner_of w x ≡ Lending n → is_token (Lending n) h.0 (entries.Lend label first count) ≡ true
    → owner_of (given_world w h i label first) x ≡ Device n
given_named sc f w h i label first count x n g own on =
    let mine = ap mapping_in own in
    let m = mapped sc f w n x g.flat (owned_ram sc f w x n g.flat mine) mine in
    let by = named_by sc f w h i label first count n m.loan g on m.known in
    let here = subst (λ (k : Lot). IsEntryOf (driver_of w h.0).lots k by.is.i by.is.entry) by.lot_is (subst (λ (j : ℕ). IsEntryOf (driver_of w j).lots by.is.lot by.is.i by.is.entry) by.hart by.is.here) in
    let name : map_id h g.sent.lot.id by.is.i ≡ n =
    sym (by.is.name ∙ ap (λ (j : ℕ). map_id (hart j) by.is.lot.id by.is.i) by.hart ∙ ap (λ (k : Lot). map_id h k.id by.is.i) by.lot_is) in
    owner_on sc f w h i label first count by.is.i by.is.entry x g here (of_buffer w n m.loan x by.is m.on) ∙ ap Device name

given_by : (sc : Scenario) (f : List ℕ) (w : WorldState) (h : HartNo) (i : ℕ) (label : Label) (first count x : ℕ) (n : MapId) (b : Bool) → IsGiving sc f w h i label first count → owner_of w x ≡ Lending n → is_token (Lending n) h.0 (entries.Lend label first count) ≡ b
    → IsGivenAt w (given_world w h i label first) h.0 (entries.Lend label first count) x
given_by sc f w h i label first count x n true g own is = Given n own is (given_named sc f w h i label first count x n g own is)
given_by sc f w h i label first count x n false g own is =
    let off = ap (λ (o : Owner). is_token o h.0 (entries.Lend label first count)) own ∙ is in Kept off (owner_off sc f w h i label first count x g off)

kept_by : (sc : Scenario) (f : List ℕ) (w : WorldState) (h : HartNo) (i : ℕ) (label : Label) (first count x : ℕ) (o : Owner) → IsGiving sc f w h i label first count → owner_of w x ≡ o → is_token o h.0 (entries.Lend label first count) ≡ false
    → IsGivenAt w (given_world w h i label first) h.0 (entries.Lend label first count) x
kept_by sc f w h i label first count x o g own is =
    let off = ap (λ (k : Owner). is_token k h.0 (entries.Lend label first count)) own ∙ is in Kept off (owner_off sc f w h i label first count x g off)

owner_given : (sc : Scenario) (f : List ℕ) (w : WorldState) (h : HartNo) (i : ℕ) (label : Label) (first count x : ℕ) (o : Owner) → IsGiving sc f w h i label first count → owner_of w x ≡ o
    → IsGivenAt w (given_world w h i label first) h.0 (entries.Lend label first count) x
owner_given sc f w h i label first count x (Lending n) g own = given_by sc f w h i label first count x n (is_token (Lending n) h.0 (entries.Lend label first count)) g own refl
owner_given sc f w h i label first count x (Thread k) g own = kept_by sc f w h i label first count x (Thread k) g own refl
owner_given sc f w h i label first count x (Passing k j) g own = kept_by sc f w h i label first count x (Passing k j) g own refl
owner_given sc f w h i label first count x (Device n) g own = kept_by sc f w h i label first count x (Device n) g own refl
owner_given sc f w h i label first count x (Returning n) g own = kept_by sc f w h i label first count x (Returning n) g own refl
owner_given sc f w h i label first count x (Synced n) g own = kept_by sc f w h i label first count x (Synced n) g own refl
owner_given sc f w h i label first count x Pool g own = kept_by sc f w h i label first count x Pool g own refl

pub given_at : (sc : Scenario) (f : List ℕ) (w : WorldState) (h : HartNo) (i : ℕ) (label : Label) (first count x : ℕ) → IsGiving sc f w h i label first count → IsGivenAt w (given_world w h i label first) h.0 (entries.Lend label first count) x
given_at sc f w h i label first count x g = owner_given sc f w h i label first count x (owner_of w x) g refl
