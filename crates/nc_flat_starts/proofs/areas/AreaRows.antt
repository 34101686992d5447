-- The rows of an area at its opening turn: it is given to its channel, or taken back from it.
use Rattle.std.specs.Prelude.{Option, Some, Bool, true, false}
use Rattle.std.proofs.Common.{◌≡◌, ◌⊎◌, ℕ, List, refl, sym, ap, ◌∙◌, inl, inr, subst}
use Rattle.nc_num.specs.declared.names.HartNo.{HartNo}
use Rattle.nc_queue.specs.Entries.{is_wo}
use Rattle.nc_queue.specs.declared.entry.Entry.{Entry as QueueEntry}
use Rattle.nc_queue.proofs.FenceLaws.{covered-none}
use Rattle.nc_scen.specs.declared.scenario.Scenario.{Scenario}
use Rattle.nc_sg.specs.declared.list.Entry.{Entry}
use Rattle.nc_ops.specs.declared.ops.Op.{Op}
use Rattle.nc_rules.specs.declared.lots.Kind.{Kind}
use Rattle.nc_rules.specs.declared.lots.Kind.TheVariants as kinds
use Rattle.nc_rules.specs.declared.lots.Lot.{Lot}
use Rattle.nc_rules.specs.declared.lots.Side.{Side}
use Rattle.nc_rules.specs.declared.lots.Side.TheVariants as sides
use Rattle.nc_rules.specs.declared.steps.Step.{Step}
use Rattle.nc_rules.specs.declared.steps.Turn.{Turn}
use Rattle.nc_rules.specs.Areas.{fenced}
use Rattle.nc_rules.specs.Lots.{map_id, owner_of_side}
use Rattle.nc_rules.specs.Plans.{lending_end}
use Rattle.nc_rules.specs.Turns.{is_area, set_side}
use Rattle.nc_rules.specs.Driver.{Went}
use Rattle.nc_rules.specs.World.{WorldState, driver_of}
use Rattle.nc_rows.specs.Ahead.{names, settling, coming}
use Rattle.nc_rows.specs.Laws.{seen_at, place_of}
use Rattle.nc_rows.specs.Places.{ThreadRow, PoolRow}
use Rattle.nc_rows.specs.Rows.{Loan, Book, gives_here, ahead_of, Either, AllocatingRow, GivingRow, LentRow, DeviceRow, BackRow, Row}
use Rattle.nc_row_plans.proofs.PlanBegins.{rows_begin}
use Rattle.nc_flatness.specs.Books.{book_of}
use Rattle.nc_flatness.specs.Plans.{IsStill, IsAreaBack}
use Rattle.nc_flatness.specs.Tokens.{is_lending_side}
use Rattle.nc_flat_starts.proofs.areas.AreaPlans.{TakesAway, take_so}
use Rattle.nc_flat_starts.proofs.opening.Bases.{IsBase, base_entry}
use Rattle.nc_flat_starts.proofs.turning.Frames.{IsPlace}
use Rattle.nc_flat_starts.proofs.turning.Lots.{loan_for, own_entry}
use Rattle.nc_flat_starts.proofs.turning.OpenRows.{either_false}
use Rattle.nc_flat_starts.proofs.going.PlanEnds.{LendingEnd, lending_end_so}
use Rattle.nc_flat_starts.proofs.turning.BackRows.{AreKnown, either_true}
use Rattle.nc_flat_starts.proofs.opening.Opens.{IsTurn, Opens, base_opens}
use Rattle.nc_flat_starts.proofs.turning.Sides.{NamesArea, turned_lot, hand_set, set_others, set_its, set_named}
use Rattle.nc_flat_starts.proofs.opening.Tokens.{none_named}

-- ---- where an area lies

pub area_kind : (kind : Kind) → is_area kind ≡ true → kind ≡ kinds.Area
area_kind kinds.Area is = refl
area_kind kinds.Single is = absurd cc
area_kind kinds.List is = absurd cc
area_kind kinds.Copy is = absurd cc

-- the lots of its name are it
names_set : (sc : Scenario) (f : List ℕ) (w : WorldState) (h : HartNo) (lots : List Lot) (lot : Lot) (side : Side) → IsBase sc f w h lots lot → is_area lot.kind ≡ true → NamesArea lot.id (set_side side lot.id lots)
names_set sc f w h lots lot side b area other there named =
    ap (λ (l : Lot). l.kind) (set_its side lots lot other b.each.knows.names b.here there named) ∙ area_kind lot.kind area

-- ---- it is given

own_thread : (w : WorldState) (h : HartNo) (lot : Lot) (i x v : ℕ) → lot.side ≡ sides.Own → Row (book_of w) (owner_of_side (map_id h lot.id i) lot.side) v w.machine x → ThreadRow h.0 v w.machine x
own_thread w h lot i x v own row = subst (λ (s : Side). Row (book_of w) (owner_of_side (map_id h lot.id i) s) v w.machine x) own row

own_seen : (w : WorldState) (h : HartNo) (lot : Lot) (i x : ℕ) → lot.side ≡ sides.Own → seen_at (book_of w) (owner_of_side (map_id h lot.id i) lot.side) x ≡ x
own_seen w h lot i x own = ap (λ (s : Side). seen_at (book_of w) (owner_of_side (map_id h lot.id i) s) x) own

pub give_opens : (sc : Scenario) (f : List ℕ) (w : WorldState) (h : HartNo) (o : Op) (went : Went) (lots : List Lot) (lot : Lot) → IsBase sc f w h lots lot → is_area lot.kind ≡ true
    → lot.side ≡ sides.Own → IsTurn w h o went lots lot sides.Lending (lending_end (driver_of w h.0).fixed lot)
    → Opens sc f w h o went lots lot sides.Lending (lending_end (driver_of w h.0).fixed lot)
give_opens sc f w h o went lots lot b area own turn =
    let m = w.machine in
    let d = driver_of w h.0 in
    let fx = d.fixed in
    let now = set_side sides.Lending lot.id lots in
    let plan = lending_end fx lot in
    let k : LendingEnd fx now (turned_lot sides.Lending lot) plan = lending_end_so fx now (turned_lot sides.Lending lot) true (hand_set fx sides.Lending true lots lot b.here area b.others) (set_others (IsStill fx) sides.Lending lot.id lots b.others) (set_named sides.Lending lot.id lots) in
    base_opens sc f w h o went lots lot sides.Lending plan b turn (record {
      of_plan = k.plan;
      ends_it = λ lent. k.lends;
      goes = k.goes;
      unsent = ap is_lending_side own;
      row = λ i e x v there place c known rest row.
          let n = map_id h lot.id i in
          let l = loan_for fx h lot i e in
          let ahead : ahead_of c n l ≡ coming n lot.id plan = ap (λ (ss : List Step). coming n lot.id ss) rest in
          let settles : settling lot.id (c.rest h.0) ≡ false = ap (settling lot.id) rest ∙ k.settles in
          let giving : GivingRow n v (ahead_of c n l) m x =
          subst (λ (es : List QueueEntry). GivingRow n v es m x) (sym ahead)
          (rows_begin.give m n v x (coming n lot.id plan) (none_named sc f w h lots lot n b.flat b.lt b.kept (λ other there named. base_entry sc f w h lots lot other n b there named (own_entry h lot i e place.entry)) (ap is_lending_side own))
          (covered-none (gives_here m x) is_wo (names n) (coming n lot.id plan) (k.byte m.size x n)) (k.stands n) (own_thread w h lot i x v own row)) in
          subst (λ (q : Option Loan). LentRow c n q v m x) (sym known)
          (either_true (is_area lot.kind) _ _ area (either_false (settling lot.id (c.rest h.0)) (AllocatingRow n v (ahead_of c n l) m x) (GivingRow n v (ahead_of c n l) m x) settles giving));
      shown = λ i e x place c known. inl (own_seen w h lot i x own);
    })

-- ---- it is taken back

either_first : (t : Bool) (p q : Type 0) → t ≡ true → Either t p q → p
either_first true p q is x = x
either_first false p q is x = absurd cc

-- its channel has it, or its hart
abbrev pub IsTakenSide : Lot → Type 0
IsTakenSide lot = (lot.side ≡ sides.Device) ⊎ (lot.side ≡ sides.Own)

taken_unsent : (lot : Lot) → IsTakenSide lot → is_lending_side lot.side ≡ false
taken_unsent lot (inl device) = ap is_lending_side device
taken_unsent lot (inr own) = ap is_lending_side own

taken_row : (w : WorldState) (h : HartNo) (lot : Lot) (i : ℕ) (e : Entry) (x v : ℕ) → IsTakenSide lot → is_area lot.kind ≡ true → AreKnown w h lot → IsPlace lot i e x → Row (book_of w) (owner_of_side (map_id h lot.id i) lot.side) v w.machine x → ThreadRow h.0 v w.machine x
taken_row w h lot i e x v (inl device) area known place row =
    let n = map_id h lot.id i in
    let l = loan_for (driver_of w h.0).fixed h lot i e in
    let was_row : DeviceRow n ((book_of w).loan n) v w.machine x = subst (λ (s : Side). Row (book_of w) (owner_of_side n s) v w.machine x) device row in
    let was : DeviceRow n (Some l) v w.machine x = subst (λ (q : Option Loan). DeviceRow n q v w.machine x) (known i e place.entry) was_row in
    rows_begin.take_area w.machine h.0 v x (either_first (is_area lot.kind) (PoolRow v w.machine x) _ area was)
taken_row w h lot i e x v (inr own) area known place row = own_thread w h lot i x v own row

pub take_opens : (sc : Scenario) (f : List ℕ) (w : WorldState) (h : HartNo) (o : Op) (went : Went) (lots : List Lot) (lot : Lot) (turn : Turn) → IsBase sc f w h lots lot → is_area lot.kind ≡ true
    → IsTakenSide lot → AreKnown w h lot → IsAreaBack lot.id turn → IsTurn w h o went lots lot sides.Returning (fenced turn)
    → Opens sc f w h o went lots lot sides.Returning (fenced turn)
take_opens sc f w h o went lots lot turn b area side before back t =
    let m = w.machine in
    let d = driver_of w h.0 in
    let fx = d.fixed in
    let now = set_side sides.Returning lot.id lots in
    let plan = fenced turn in
    let k : TakesAway fx now (turned_lot sides.Returning lot) plan = take_so fx now (turned_lot sides.Returning lot) turn (hand_set fx sides.Returning true lots lot b.here area b.others) (set_others (IsStill fx) sides.Returning lot.id lots b.others) back (names_set sc f w h lots lot sides.Returning b area) in
    base_opens sc f w h o went lots lot sides.Returning plan b t (record {
      of_plan = k.plan;
      ends_it = λ lent. absurd cc;
      goes = k.goes;
      unsent = taken_unsent lot side;
      row = λ i e x v there place c known rest row.
          let n = map_id h lot.id i in
          subst (λ (q : Option Loan). BackRow c n q v m x) (sym known) (either_true (is_area lot.kind) _ _ area (taken_row w h lot i e x v side area before place row));
      shown = λ i e x place c known. shown_by i e x place c known side;
    })
  where
    shown_by : (i : ℕ) (e : Entry) (x : ℕ) → IsPlace lot i e x → (c : Book) → c.loan (map_id h lot.id i) ≡ Some (loan_for (driver_of w h.0).fixed h lot i e) → IsTakenSide lot
        → (seen_at (book_of w) (owner_of_side (map_id h lot.id i) lot.side) x ≡ x) ⊎ (place_of (c.loan (map_id h lot.id i)) x ≡ seen_at (book_of w) (owner_of_side (map_id h lot.id i) lot.side) x)
    shown_by i e x place c known (inl device) =
        let n = map_id h lot.id i in
        let seen_so : seen_at (book_of w) (owner_of_side n lot.side) x ≡ place_of ((book_of w).loan n) x = ap (λ (s : Side). seen_at (book_of w) (owner_of_side n s) x) device in
        inr (ap (λ (q : Option Loan). place_of q x) (known ∙ sym (before i e place.entry)) ∙ sym seen_so)
    shown_by i e x place c known (inr own) = inl (own_seen w h lot i x own)
