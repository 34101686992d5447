-- A driver's step: whose the places of the lot in hand are behind it, and what each mapping of the hart is.
use Rattle.std.specs.Prelude.{Option, Some, None, ◌&&◌, ◌==◌, ◌++◌, not, nat_le, nat_lt, Bool, true, false, if◌then◌else◌, filter, option_map, slice_get}
use Rattle.std.specs.List.{find}
use Rattle.std.proofs.Common.{◌≡◌, ◌⊎◌, ℕ, ◌+◌, ◌<◌, List, [], ◌∷◌, length, refl, sym, ap, ◌∙◌, inl, inr, subst, arith}
use Rattle.std.proofs.lemmas.Bool.{cases_Bool, both_ways, cond-true, cond-false}
use Rattle.nc_num.specs.Places.{covers}
use Rattle.nc_num.specs.declared.names.HartNo.{HartNo}
use Rattle.nc_num.specs.declared.names.MapId.{MapId}
use Rattle.nc_num.specs.declared.places.Span.{Span}
use Rattle.nc_plan.specs.Plans.{In}
use Rattle.nc_plan.proofs.PlanLaws.{in_map}
use Rattle.nc_model.specs.declared.owners.Owner.{Owner}
use Rattle.nc_model.specs.declared.owners.Owner.TheVariants.{Thread, Pool}
use Rattle.nc_own.specs.Books.{owner_in, transferred}
use Rattle.nc_scen.specs.declared.scenario.Scenario.{Scenario}
use Rattle.nc_sg.specs.declared.list.Entry.{Entry}
use Rattle.nc_rules.specs.declared.lots.Lot.{Lot}
use Rattle.nc_rules.specs.declared.lots.LotId.{LotId}
use Rattle.nc_rules.specs.declared.lots.Side.{Side}
use Rattle.nc_rules.specs.declared.lots.Side.TheVariants as sides
use Rattle.nc_rules.specs.declared.steps.Step.{Step}
use Rattle.nc_rules.specs.declared.steps.Turn.{Turn}
use Rattle.nc_rules.specs.declared.steps.Turn.TheVariants as turns
use Rattle.nc_rules.specs.Lots.{DriverConfig, is_lot, is_wanted, map_id, owner_of_side}
use Rattle.nc_rules.specs.Turns.{is_area, last_owner, to_side, to_end, of_those, with_side, set_side, lots_after, transfers_of}
use Rattle.nc_rules.specs.Driver.{DriverState, Went}
use Rattle.nc_rules.specs.EventTouches.{owner_of}
use Rattle.nc_rules.specs.World.{WorldState, driver_of, hart, owners_moved}
use Rattle.nc_scripts.proofs.LotLaws.{its_name, named_so}
use Rattle.nc_holds.specs.Held.{OwnersAgree}
use Rattle.nc_holds.specs.Holds.{DriverHolds}
use Rattle.nc_holds.proofs.lists.Members.{at_get}
use Rattle.nc_holds.proofs.owners.Moves.{length-moved, moved_to, moved_off, in_named}
use Rattle.nc_holds.proofs.owners.Sides.{side_move, move_covers, owners_sided}
use Rattle.nc_holds.proofs.owners.Ends.{end_move}
use Rattle.nc_rows.specs.Rows.{Loan}
use Rattle.nc_flatness.specs.Books.{is_entry_of, loan_by, loan_of, mapping_in}
use Rattle.nc_flatness.specs.Copying.{IsItsOwn}
use Rattle.nc_flatness.proofs.books.Loans.{one_lot}
use Rattle.nc_flatness.proofs.books.Owned.{me_is}
use Rattle.nc_flat_starts.proofs.turning.Frames.{IsPlace, IsOff}
use Rattle.nc_flat_plans.proofs.drivers.Drivers.{IsDone, stay_lots, stay_transfers}
use Rattle.nc_flat_plans.proofs.places.Places.{IsUnder, lent_side, its_id, owned, in_ram, area_named}

-- the owner of its mappings behind the step, by a side
abbrev pub sided : Side → MapId → Owner
sided side n = owner_of_side n side

-- a side of which the channel sees the places
abbrev pub IsSeenSide : Side → Type 0
IsSeenSide side = (side ≡ sides.Lending) ⊎ ((side ≡ sides.Device) ⊎ (side ≡ sides.Returning))

pub seen_mapped : (n : MapId) (side : Side) → IsSeenSide side → mapping_in (owner_of_side n side) ≡ None → ⊥
seen_mapped n side (inl is) none = let both : Some n ≡ None = sym (ap (λ (t : Side). mapping_in (owner_of_side n t)) is) ∙ none in cc
seen_mapped n side (inr (inl is)) none = let both : Some n ≡ None = sym (ap (λ (t : Side). mapping_in (owner_of_side n t)) is) ∙ none in cc
seen_mapped n side (inr (inr is)) none = let both : Some n ≡ None = sym (ap (λ (t : Side). mapping_in (owner_of_side n t)) is) ∙ none in cc

-- the mapping stays, or it has none of the places any more
abbrev pub StaysMapped : WorldState → HartNo → Went → MapId → Owner → Type 0
StaysMapped w h went n o = (mapping_in o ≡ None) ⊎ (loan_of went.driver n ≡ loan_of (driver_of w h.0) n)

pub record IsShift (w : WorldState) (h : HartNo) (went : Went) (lot : Lot) (to : MapId → Owner) : Type 0 where
  pub on : (i : ℕ) (e : Entry) (x : ℕ) → IsPlace lot i e x → owner_in (owners_moved w.owners went.moves.transfers) x ≡ to (its_id h lot i)
  pub off : (x : ℕ) → IsOff lot x → owner_in (owners_moved w.owners went.moves.transfers) x ≡ owner_of w x
  pub others : (k : MapId) → is_entry_of k lot ≡ false → loan_of went.driver k ≡ loan_of (driver_of w h.0) k
  pub own : (i : ℕ) → StaysMapped w h went (its_id h lot i) (to (its_id h lot i))
  pub names : (n k : MapId) → mapping_in (to n) ≡ Some k → n ≡ k
  -- an end of a copy stays the hart's own
  pub its : (i : ℕ) → lot.id.label.0 ≡ 1000 → IsItsOwn h.0 (to (its_id h lot i))

side_its : (side : Side) (h : ℕ) (n : MapId) → n.hart.0 ≡ h → n.label.0 ≡ 1000 → IsItsOwn h (owner_of_side n side)
side_its sides.Lending h n own end = (own, end)
side_its sides.Device h n own end = (own, end)
side_its sides.Returning h n own end = (own, end)
side_its sides.Synced h n own end = (own, end)
side_its sides.Wanted h n own end = own
side_its sides.Own h n own end = own

-- a side names its own mapping at most
sided_names : (side : Side) (n k : MapId) → mapping_in (owner_of_side n side) ≡ Some k → n ≡ k
sided_names sides.Lending n k is = cc
sided_names sides.Device n k is = cc
sided_names sides.Returning n k is = cc
sided_names sides.Synced n k is = cc
sided_names sides.Wanted n k is = absurd cc
sided_names sides.Own n k is = absurd cc

pub hart_there : (sc : Scenario) (f : List ℕ) (w : WorldState) (h : HartNo) (lot : Lot) → IsUnder sc f w h lot → h.0 < length w.machine.harts
hart_there sc f w h lot u = omega (arith, u.lt, u.flat.world.of_scenario.harts)

pub held : (sc : Scenario) (f : List ℕ) (w : WorldState) (h : HartNo) (lot : Lot) → IsUnder sc f w h lot → DriverHolds w h.0
held sc f w h lot u = u.flat.world.holds.each h.0 (hart_there sc f w h lot u)

-- what a mapping is, of these lots
abbrev pub loan_in : DriverConfig → List Lot → MapId → Option Loan
loan_in f lots n = option_map (loan_by f n) (find (is_entry_of n) lots)

loan_kept : (d e : DriverState) (n : MapId) → e.fixed ≡ d.fixed → loan_of e n ≡ loan_in d.fixed e.lots n
loan_kept d e n fixed = ap (λ (f : DriverConfig). loan_in f e.lots n) fixed

-- ---- no turn

pub record IsStay (s : Step) : Type 0 where
  pub first : s.first ≡ turns.Stay
  pub last : s.last ≡ turns.Stay

pub stay_owner : (d : DriverState) (w : WorldState) (s : Step) (rest : List Step) (went : Went) (x : ℕ) → IsDone d s rest went → IsStay s → owner_in (owners_moved w.owners went.moves.transfers) x ≡ owner_of w x
stay_owner d w s rest went x done stay = ap (λ (ts : List (Span × Owner)). owner_in (owners_moved w.owners ts) x) (stay_transfers d s rest went done stay.first ∙ ap (λ (t : Turn). transfers_of d.fixed.me d.lots t) stay.last)

pub stay_loans : (d : DriverState) (s : Step) (rest : List Step) (went : Went) → IsDone d s rest went → IsStay s → (n : MapId) → loan_of went.driver n ≡ loan_of d n
stay_loans d s rest went done stay n = loan_kept d went.driver n done.fixed ∙ ap (λ (ls : List Lot). loan_in d.fixed ls n) (stay_lots d s rest went done stay.first ∙ ap (λ (t : Turn). lots_after t d.lots) stay.last)

pub stay_shift : (sc : Scenario) (f : List ℕ) (w : WorldState) (h : HartNo) (went : Went) (lot : Lot) (s : Step) (rest : List Step) → IsUnder sc f w h lot → IsDone (driver_of w h.0) s rest went → IsStay s → IsShift w h went lot (sided lot.side)
stay_shift sc f w h went lot s rest u done stay =
    let d = driver_of w h.0 in
    record {
      on = λ i e x p. stay_owner d w s rest went x done stay ∙ owned sc f w h lot i e x u p;
      off = λ x off. stay_owner d w s rest went x done stay;
      others = λ k far. stay_loans d s rest went done stay k;
      own = λ i. inr (stay_loans d s rest went done stay (its_id h lot i));
      names = sided_names lot.side;
      its = λ i end. side_its lot.side h.0 (its_id h lot i) refl end;
    }

-- ---- the lot gets a side

-- a lot that is lent is found as before
entry_same : (n : MapId) (lot : Lot) (side : Side) → is_wanted lot.side ≡ false → is_wanted side ≡ false → is_entry_of n (record lot { side = side }) ≡ is_entry_of n lot
entry_same n lot side was now =
    ap (λ (t : Bool). not t && (lot.id.label.0 == n.label.0 && (nat_le lot.id.first n.entry && nat_lt n.entry (lot.id.first + length lot.list.entries)))) (now ∙ sym was)

found_same : (f : DriverConfig) (n : MapId) (a b : Lot) (xs ys : List Lot) (t : Bool) → is_entry_of n a ≡ t → is_entry_of n b ≡ t → loan_by f n a ≡ loan_by f n b → loan_in f xs n ≡ loan_in f ys n → loan_in f (a ∷ xs) n ≡ loan_in f (b ∷ ys) n
found_same f n a b xs ys true p q loan more = rw (p, q) (ap (λ (l : Loan). Some l) loan)
found_same f n a b xs ys false p q loan more = rw (p, q) more

loans_sided : (f : DriverConfig) (n : MapId) (side : Side) (id : LotId) (lots : List Lot) → is_wanted side ≡ false → ((lot : Lot) → In lot lots → is_lot id lot ≡ true → is_wanted lot.side ≡ false) → loan_in f (set_side side id lots) n ≡ loan_in f lots n
loans_sided f n side id [] now was = refl
loans_sided f n side id (lot ∷ lots) now was =
    let more = loans_sided f n side id lots now (λ other there is. was other (inr there) is) in
    elim (cases_Bool (is_lot id lot)) [
      | inl is ↦
          ap (λ (k : Lot). loan_in f (k ∷ set_side side id lots) n) (cond-true (is_lot id lot) (record lot { side = side }) lot is)
          ∙ found_same f n (record lot { side = side }) lot (set_side side id lots) lots (is_entry_of n lot) (entry_same n lot side (was lot (inl refl) is) now) refl refl more
      | inr other ↦
          ap (λ (k : Lot). loan_in f (k ∷ set_side side id lots) n) (cond-false (is_lot id lot) (record lot { side = side }) lot other)
          ∙ found_same f n lot lot (set_side side id lots) lots (is_entry_of n lot) refl refl refl more
    ]

set_here : (side : Side) (lots : List Lot) (lot : Lot) → In lot lots → In (record lot { side = side }) (set_side side lot.id lots)
set_here side [] lot here = absurd here
set_here side (x ∷ lots) lot (inl same) =
    inl (ap (λ (k : Lot). with_side side lot.id k) same ∙ cond-true (is_lot lot.id lot) (record lot { side = side }) lot (its_name lot lot.id refl))
set_here side (x ∷ lots) lot (inr later) = inr (set_here side lots lot later)

-- the only lot of its name
only_named : (sc : Scenario) (f : List ℕ) (w : WorldState) (h : HartNo) (lot other : Lot) → IsUnder sc f w h lot → In other (driver_of w h.0).lots → is_lot lot.id other ≡ true → other ≡ lot
only_named sc f w h lot other u there named = one_lot sc f w h.0 other lot u.flat there u.here (named_so other lot.id named)

-- with a side its mappings stay
pub side_loans : (sc : Scenario) (f : List ℕ) (w : WorldState) (h : HartNo) (went : Went) (lot : Lot) (to : Side) → IsUnder sc f w h lot → is_wanted to ≡ false → went.driver.fixed ≡ (driver_of w h.0).fixed
    → went.driver.lots ≡ set_side to lot.id (driver_of w h.0).lots → (n : MapId) → loan_of went.driver n ≡ loan_of (driver_of w h.0) n
side_loans sc f w h went lot to u now fixed lots n =
    let d = driver_of w h.0 in
    loan_kept d went.driver n fixed ∙ ap (λ (ls : List Lot). loan_in d.fixed ls n) lots
    ∙ loans_sided d.fixed n to lot.id d.lots now (λ other there named. subst (λ (l : Lot). is_wanted l.side ≡ false) (sym (only_named sc f w h lot other u there named)) (lent_side lot u.moves))

pub side_shift : (sc : Scenario) (f : List ℕ) (w : WorldState) (h : HartNo) (went : Went) (lot : Lot) (to : Side) → IsUnder sc f w h lot → is_wanted to ≡ false → went.driver.fixed ≡ (driver_of w h.0).fixed
    → went.driver.lots ≡ set_side to lot.id (driver_of w h.0).lots → went.moves.transfers ≡ of_those (to_side (driver_of w h.0).fixed.me to) lot.id (driver_of w h.0).lots → IsShift w h went lot (sided to)
side_shift sc f w h went lot to u now fixed lots moves =
    let d = driver_of w h.0 in
    let me = d.fixed.me in
    let k = held sc f w h lot u in
    let ts = of_those (to_side me to) lot.id d.lots in
    let mine : me ≡ hart h.0 = me_is w h.0 u.flat.world.holds (hart_there sc f w h lot u) in
    let loans : (n : MapId) → loan_of went.driver n ≡ loan_of d n = side_loans sc f w h went lot to u now fixed lots in
    let agree : OwnersAgree me (owners_moved w.owners ts) (set_side to lot.id d.lots) =
    owners_sided (length w.machine.cache.ram) d.fixed to lot.id d.lots w.owners k.driver.lots u.flat.world.holds.owners k.agrees.apart k.agrees.owners in
    record {
      on = λ i e x p.
          ap (λ (us : List (Span × Owner)). owner_in (owners_moved w.owners us) x) moves
          ∙ agree (record lot { side = to }) i e x (record { lot_in = set_here to d.lots lot u.here; entry = p.entry }) p.on
          ∙ ap (λ (j : HartNo). owner_of_side (map_id j lot.id i) to) mine;
      off = λ x off.
          ap (λ (us : List (Span × Owner)). owner_in (owners_moved w.owners us) x) moves
          ∙ moved_off w.owners ts x (λ t there over.
          let r = side_move me to lot.id d.lots t there in
          let same = only_named sc f w h lot r.lot u r.here.lot_in r.named in
          off r.i r.entry (record { entry = subst (λ (l : Lot). slice_get l.list.entries r.i ≡ Some r.entry) same r.here.entry; on = move_covers me to lot.id d.lots t x r over }));
      others = λ n far. loans n;
      own = λ i. inr (loans (its_id h lot i));
      names = sided_names to;
      its = λ i end. side_its to h.0 (its_id h lot i) refl end;
    }

-- ---- the lot ends

-- the first of two lists that is found is found in both
find_both : (p : Lot → Bool) (a : Lot) (xs ys : List Lot) → find p xs ≡ find p ys → find p (a ∷ xs) ≡ find p (a ∷ ys)
find_both p a xs ys same = ap (λ (o : Option Lot). if p a then Some a else o) same

other_without : (id : LotId) (n : MapId) (lots : List Lot) → ((lot : Lot) → In lot lots → is_lot id lot ≡ true → is_entry_of n lot ≡ false) → find (is_entry_of n) (filter (λ lot. not (is_lot id lot)) lots) ≡ find (is_entry_of n) lots
other_without id n [] other = refl
other_without id n (lot ∷ lots) other =
    let left = filter (λ lot. not (is_lot id lot)) lots in
    let more = other_without id n lots (λ l there is. other l (inr there) is) in
    elim (cases_Bool (is_lot id lot)) [
      | inl is ↦
          ap (find (is_entry_of n)) (cond-false (not (is_lot id lot)) (lot ∷ left) left (ap not is)) ∙ more
          ∙ sym (cond-false (is_entry_of n lot) (Some lot) (find (is_entry_of n) lots) (other lot (inl refl) is))
      | inr fails ↦ ap (find (is_entry_of n)) (cond-true (not (is_lot id lot)) (lot ∷ left) left (ap not fails)) ∙ find_both (is_entry_of n) lot left lots more
    ]

-- its places are none of another mapping
named_none : (sc : Scenario) (f : List ℕ) (w : WorldState) (h : HartNo) (lot : Lot) (n : MapId) → IsUnder sc f w h lot → is_entry_of n lot ≡ false → (other : Lot) → In other (driver_of w h.0).lots → is_lot lot.id other ≡ true → is_entry_of n other ≡ false
named_none sc f w h lot n u far other there named = ap (is_entry_of n) (only_named sc f w h lot other u there named) ∙ far

-- a mapping is its hart's behind it, and an area nobody's
none_by : (t : Bool) (h : HartNo) → mapping_in (if t then Pool else Thread h) ≡ None
none_by true h = refl
none_by false h = refl

none_last : (h : HartNo) (lot : Lot) → mapping_in (last_owner h lot) ≡ None
none_last h lot = none_by (is_area lot.kind) h

last_its : (sc : Scenario) (f : List ℕ) (w : WorldState) (h : HartNo) (lot : Lot) → IsUnder sc f w h lot → lot.id.label.0 ≡ 1000 → IsItsOwn h.0 (last_owner h lot)
last_its sc f w h lot u end = elim (cases_Bool (is_area lot.kind)) [
  | inl area ↦ absurd (area_named sc f w h lot u area end)
  | inr plain ↦ subst (λ (o : Owner). IsItsOwn h.0 o) (sym (cond-false (is_area lot.kind) Pool (Thread h) plain)) refl
]

-- the owners behind its end, where they were so before
end_on : (sc : Scenario) (f : List ℕ) (w : WorldState) (h : HartNo) (lots : List Lot) (lot : Lot) (ws : List Owner) (i : ℕ) (e : Entry) (x : ℕ) → IsUnder sc f w h lot → length ws ≡ length w.owners → In lot lots → ((other : Lot) → In other lots → is_lot lot.id other ≡ true → other ≡ lot) → IsPlace lot i e x
    → owner_in (owners_moved ws (of_those (to_end (driver_of w h.0).fixed.me) lot.id lots)) x ≡ last_owner h lot
end_on sc f w h lots lot ws i e x u long here only p =
    let me = (driver_of w h.0).fixed.me in
    let ts = of_those (to_end me) lot.id lots in
    let mine : me ≡ hart h.0 = me_is w h.0 u.flat.world.holds (hart_there sc f w h lot u) in
    let last : last_owner me lot ≡ last_owner h lot = ap (λ (j : HartNo). last_owner j lot) mine in
    moved_to (λ (o : Owner). o ≡ last_owner h lot) ws ts x (e.span, last_owner me lot) (omega (arith, long, in_ram sc f w h lot i e x u p, u.flat.world.holds.owners, u.flat.world.of_scenario.ram))
    (in_named {A = Span × Owner} (to_end me) lot.id lots lot (e.span, last_owner me lot) here (its_name lot lot.id refl) (in_map {Y = Span × Owner} (λ (c : Entry). (c.span, last_owner me lot)) e lot.list.entries (at_get lot.list.entries i e p.entry))) p.on
    (λ t there over.
    let r = end_move me lot.id lots t there in
    let same = only r.lot r.here.lot_in r.named in
    sym (ap (λ (c : Span × Owner). c.1) r.is) ∙ ap (λ (l : Lot). last_owner me l) same ∙ last)

end_off : (w : WorldState) (me : HartNo) (lots : List Lot) (lot : Lot) (ws : List Owner) (x : ℕ) → ((other : Lot) → In other lots → is_lot lot.id other ≡ true → other ≡ lot) → IsOff lot x → owner_in (owners_moved ws (of_those (to_end me) lot.id lots)) x ≡ owner_in ws x
end_off w me lots lot ws x only off =
    moved_off ws (of_those (to_end me) lot.id lots) x (λ t there over.
    let r = end_move me lot.id lots t there in
    let same = only r.lot r.here.lot_in r.named in
    off r.i r.entry (record { entry = subst (λ (l : Lot). slice_get l.list.entries r.i ≡ Some r.entry) same r.here.entry; on = subst (λ (c : Span × Owner). covers c.0 x ≡ true) (sym r.is) over }))

pub end_shift : (sc : Scenario) (f : List ℕ) (w : WorldState) (h : HartNo) (went : Went) (lot : Lot) → IsUnder sc f w h lot → went.driver.fixed ≡ (driver_of w h.0).fixed
    → went.driver.lots ≡ filter (λ other. not (is_lot lot.id other)) (driver_of w h.0).lots → went.moves.transfers ≡ of_those (to_end (driver_of w h.0).fixed.me) lot.id (driver_of w h.0).lots → IsShift w h went lot (λ n. last_owner h lot)
end_shift sc f w h went lot u fixed lots moves =
    let d = driver_of w h.0 in
    let me = d.fixed.me in
    let only : (other : Lot) → In other d.lots → is_lot lot.id other ≡ true → other ≡ lot = λ other there named. only_named sc f w h lot other u there named in
    record {
      on = λ i e x p. ap (λ (us : List (Span × Owner)). owner_in (owners_moved w.owners us) x) moves ∙ end_on sc f w h d.lots lot w.owners i e x u refl u.here only p;
      off = λ x off. ap (λ (us : List (Span × Owner)). owner_in (owners_moved w.owners us) x) moves ∙ end_off w me d.lots lot w.owners x only off;
      others = λ n far. loan_kept d went.driver n fixed ∙ ap (λ (ls : List Lot). loan_in d.fixed ls n) lots ∙ ap (option_map (loan_by d.fixed n)) (other_without lot.id n d.lots (named_none sc f w h lot n u far));
      own = λ i. inl (none_last h lot);
      names = λ n k is. absurd (let both : None ≡ Some k = sym (none_last h lot) ∙ is in cc);
      its = λ i end. last_its sc f w h lot u end;
    }

-- ---- the lot is taken back, and ends at once

-- the owners behind both
moved_both : (ws : List Owner) (a b : List (Span × Owner)) → owners_moved ws (a ++ b) ≡ owners_moved (owners_moved ws a) b
moved_both ws [] b = refl
moved_both ws (t ∷ a) b = moved_both (transferred ws t.0 t.1) a b

-- a side does not matter to what is left
without_sided : (side : Side) (id : LotId) (lots : List Lot) → filter (λ other. not (is_lot id other)) (set_side side id lots) ≡ filter (λ other. not (is_lot id other)) lots
without_sided side id [] = refl
without_sided side id (lot ∷ lots) = elim (cases_Bool (is_lot id lot)) [
  | inl is ↦
      ap (λ (k : Lot). filter (λ other. not (is_lot id other)) (k ∷ set_side side id lots)) (cond-true (is_lot id lot) (record lot { side = side }) lot is)
      ∙ cond-false (not (is_lot id lot)) _ (filter (λ other. not (is_lot id other)) (set_side side id lots)) (ap not is) ∙ without_sided side id lots
      ∙ sym (cond-false (not (is_lot id lot)) _ (filter (λ other. not (is_lot id other)) lots) (ap not is))
  | inr off ↦
      ap (λ (k : Lot). filter (λ other. not (is_lot id other)) (k ∷ set_side side id lots)) (cond-false (is_lot id lot) (record lot { side = side }) lot off)
      ∙ cond-true (not (is_lot id lot)) (lot ∷ filter (λ other. not (is_lot id other)) (set_side side id lots)) _ (ap not off) ∙ ap (λ (ls : List Lot). lot ∷ ls) (without_sided side id lots)
      ∙ sym (cond-true (not (is_lot id lot)) (lot ∷ filter (λ other. not (is_lot id other)) lots) _ (ap not off))
]

-- it has the side behind
sided_only : (side : Side) (lots : List Lot) (lot : Lot) → ((other : Lot) → In other lots → is_lot lot.id other ≡ true → other ≡ lot) → (other : Lot) → In other (set_side side lot.id lots) → is_lot lot.id other ≡ true → other ≡ record lot { side = side }
sided_only side [] lot only other there named = absurd there
sided_only side (x ∷ lots) lot only other (inr later) named = sided_only side lots lot (λ o k is. only o (inr k) is) other later named
sided_only side (x ∷ lots) lot only other (inl same) named = elim (cases_Bool (is_lot lot.id x)) [
  | inl is ↦ sym same ∙ cond-true (is_lot lot.id x) (record x { side = side }) x is ∙ ap (λ (k : Lot). record k { side = side }) (only x (inl refl) is)
  | inr off ↦
      let here : x ≡ other = sym (cond-false (is_lot lot.id x) (record x { side = side }) x off) ∙ same in
      absurd (both_ways (is_lot lot.id x) off (ap (is_lot lot.id) here ∙ named))
]

pub taken_shift : (sc : Scenario) (f : List ℕ) (w : WorldState) (h : HartNo) (went : Went) (lot : Lot) → IsUnder sc f w h lot → is_area lot.kind ≡ false → went.driver.fixed ≡ (driver_of w h.0).fixed
    → went.driver.lots ≡ filter (λ other. not (is_lot lot.id other)) (set_side sides.Returning lot.id (driver_of w h.0).lots)
    → went.moves.transfers ≡ of_those (to_side (driver_of w h.0).fixed.me sides.Returning) lot.id (driver_of w h.0).lots ++ of_those (to_end (driver_of w h.0).fixed.me) lot.id (set_side sides.Returning lot.id (driver_of w h.0).lots)
    → IsShift w h went lot (λ n. Thread h)
taken_shift sc f w h went lot u plain fixed lots moves =
    let d = driver_of w h.0 in
    let me = d.fixed.me in
    let back = record lot { side = sides.Returning } in
    let now = set_side sides.Returning lot.id d.lots in
    let first = of_those (to_side me sides.Returning) lot.id d.lots in
    let ws = owners_moved w.owners first in
    let only : (other : Lot) → In other d.lots → is_lot lot.id other ≡ true → other ≡ lot = λ other there named. only_named sc f w h lot other u there named in
    let only_now : (other : Lot) → In other now → is_lot lot.id other ≡ true → other ≡ back = sided_only sides.Returning d.lots lot only in
    let split : owners_moved w.owners went.moves.transfers ≡ owners_moved ws (of_those (to_end me) lot.id now) = ap (owners_moved w.owners) moves ∙ moved_both w.owners first (of_those (to_end me) lot.id now) in
    let last : last_owner h lot ≡ Thread h = cond-false (is_area lot.kind) Pool (Thread h) plain in
    record {
      on = λ i e x p.
          ap (λ (us : List Owner). owner_in us x) split
          ∙ end_side sc f w h lot u ws i e x (length-moved w.owners first) only_now p ∙ last;
      off = λ x off.
          ap (λ (us : List Owner). owner_in us x) split ∙ end_off w me now back ws x only_now (λ i e p. off i e (record { entry = p.entry; on = p.on }))
          ∙ moved_off w.owners first x (λ t there over.
          let r = side_move me sides.Returning lot.id d.lots t there in
          let same = only r.lot r.here.lot_in r.named in
          off r.i r.entry (record { entry = subst (λ (l : Lot). slice_get l.list.entries r.i ≡ Some r.entry) same r.here.entry; on = move_covers me sides.Returning lot.id d.lots t x r over }));
      others = λ n far. loan_kept d went.driver n fixed ∙ ap (λ (ls : List Lot). loan_in d.fixed ls n) (lots ∙ without_sided sides.Returning lot.id d.lots) ∙ ap (option_map (loan_by d.fixed n)) (other_without lot.id n d.lots (named_none sc f w h lot n u far));
      own = λ i. inl refl;
      names = λ n k is. absurd (let both : None ≡ Some k = is in cc);
      its = λ i end. refl;
    }
  where
    -- the lot of the second turn has another side
    end_side : (sc : Scenario) (f : List ℕ) (w : WorldState) (h : HartNo) (lot : Lot) → IsUnder sc f w h lot → (ws : List Owner) (i : ℕ) (e : Entry) (x : ℕ) → length ws ≡ length w.owners
        → ((other : Lot) → In other (set_side sides.Returning lot.id (driver_of w h.0).lots) → is_lot lot.id other ≡ true → other ≡ record lot { side = sides.Returning }) → IsPlace lot i e x
        → owner_in (owners_moved ws (of_those (to_end (driver_of w h.0).fixed.me) lot.id (set_side sides.Returning lot.id (driver_of w h.0).lots))) x ≡ last_owner h lot
    end_side sc f w h lot u ws i e x long only p =
        let back = record lot { side = sides.Returning } in
        let lots = set_side sides.Returning lot.id (driver_of w h.0).lots in
        let me = (driver_of w h.0).fixed.me in
        let ts = of_those (to_end me) lot.id lots in
        let mine : me ≡ hart h.0 = me_is w h.0 u.flat.world.holds (hart_there sc f w h lot u) in
        let last : last_owner me lot ≡ last_owner h lot = ap (λ (j : HartNo). last_owner j lot) mine in
        moved_to (λ (o : Owner). o ≡ last_owner h lot) ws ts x (e.span, last_owner me lot) (omega (arith, long, in_ram sc f w h lot i e x u p, u.flat.world.holds.owners, u.flat.world.of_scenario.ram))
        (in_named {A = Span × Owner} (to_end me) lot.id lots back (e.span, last_owner me lot) (set_here sides.Returning (driver_of w h.0).lots lot u.here) (its_name back lot.id refl)
        (in_map {Y = Span × Owner} (λ (c : Entry). (c.span, last_owner me lot)) e lot.list.entries (at_get lot.list.entries i e p.entry))) p.on
        (λ t there over.
        let r = end_move me lot.id lots t there in
        let same = only r.lot r.here.lot_in r.named in
        sym (ap (λ (c : Span × Owner). c.1) r.is) ∙ ap (λ (l : Lot). last_owner me l) same ∙ last)
