-- A step of a plan: where the channels see places behind it, and so which bytes of slots nobody sees.
use Rattle.std.specs.Prelude.{Option, Some, true, false, slice_get}
use Rattle.std.proofs.Common.{◌≡◌, ℕ, zero, suc, List, [], ◌∷◌, refl, sym, ap, ◌∙◌, inl, inr, subst}
use Rattle.std.proofs.lemmas.Bool.{cases_Bool, cases_eq, both_ways}
use Rattle.nc_num.specs.Memory.{byte}
use Rattle.nc_num.specs.Places.{covers}
use Rattle.nc_num.specs.declared.names.HartNo.{HartNo}
use Rattle.nc_num.specs.declared.names.MapId.{MapId}
use Rattle.nc_model.specs.declared.owners.Owner.{Owner}
use Rattle.nc_model.specs.declared.owners.Owner.TheVariants.{Thread, Passing, Lending, Device, Returning, Synced, Pool}
use Rattle.nc_scen.specs.Regions.{slots_of}
use Rattle.nc_scen.specs.declared.scenario.Scenario.{Scenario}
use Rattle.nc_sg.specs.Lists as sg
use Rattle.nc_sg.specs.declared.list.Entry.{Entry}
use Rattle.nc_rules.specs.declared.lots.Lot.{Lot}
use Rattle.nc_rules.specs.declared.lots.Side.{Side}
use Rattle.nc_rules.specs.Lots.{owner_of_side}
use Rattle.nc_rules.specs.Machine.{MachineState}
use Rattle.nc_rules.specs.Turns.{is_area}
use Rattle.nc_rules.specs.Driver.{Went}
use Rattle.nc_rules.specs.EventTouches.{owner_of}
use Rattle.nc_rules.specs.World.{WorldState, driver_of}
use Rattle.nc_rows.specs.Laws.{place_of, seen_at}
use Rattle.nc_rows.specs.Places.{PoolRow, CalmRow}
use Rattle.nc_rows.specs.Rows.{Loan, Book}
use Rattle.nc_flatness.specs.Books.{loan_of, book_of, mapping_in}
use Rattle.nc_flatness.specs.Flatness.{IsUnseen}
use Rattle.nc_flatness.proofs.worlds.Outcomes.{gone}
use Rattle.nc_flatness.proofs.books.Loans.{loan_is}
use Rattle.nc_flatness.proofs.books.Owned.{owned_ram}
use Rattle.nc_flatness.proofs.books.Seen.{seen, device_covers, device_place_of}
use Rattle.nc_flat_starts.proofs.turning.Frames.{IsPlace, IsOff, On, Off, somewhere, loan_there, loan_hart}
use Rattle.nc_flat_plans.proofs.places.Places.{IsMoving, IsUnder, its_id, its_loan, its_place, known, seen_its, area_place, beside, far_entry}
use Rattle.nc_flat_plans.proofs.drivers.Shifts.{sided, IsSeenSide, seen_mapped, IsShift}
use Rattle.nc_flat_plans.proofs.drivers.StepFrames.{driven, known_now}

-- ---- what is seen

sees : (a : Book) (n : MapId) (side : Side) (x : ℕ) → IsSeenSide side → seen_at a (owner_of_side n side) x ≡ place_of (a.loan n) x
sees a n side x (inl is) = ap (λ (s : Side). seen_at a (owner_of_side n s) x) is
sees a n side x (inr (inl is)) = ap (λ (s : Side). seen_at a (owner_of_side n s) x) is
sees a n side x (inr (inr is)) = ap (λ (s : Side). seen_at a (owner_of_side n s) x) is

seen_alike : (a c : Book) (o : Owner) (x : ℕ) → ((n : MapId) → mapping_in o ≡ Some n → c.loan n ≡ a.loan n) → seen_at c o x ≡ seen_at a o x
seen_alike a c (Thread j) x same = refl
seen_alike a c (Passing j g) x same = refl
seen_alike a c (Lending n) x same = ap (λ (l : Option Loan). place_of l x) (same n refl)
seen_alike a c (Device n) x same = ap (λ (l : Option Loan). place_of l x) (same n refl)
seen_alike a c (Returning n) x same = ap (λ (l : Option Loan). place_of l x) (same n refl)
seen_alike a c (Synced n) x same = refl
seen_alike a c Pool x same = refl

-- a mapping beside the lot stays
loan_off : (sc : Scenario) (f : List ℕ) (w : WorldState) (h : HartNo) (k : MachineState) (went : Went) (lot : Lot) (to : MapId → Owner) (x : ℕ) (n : MapId) → IsUnder sc f w h lot → IsShift w h went lot to → IsOff lot x → mapping_in (owner_of w x) ≡ Some n
    → (book_of (gone w h k went)).loan n ≡ (book_of w).loan n
loan_off sc f w h k went lot to x n u shift off is = elim (cases_eq n.hart.0 h.0) [
  | inl own ↦
      loan_hart w h k went n (driven sc f w h lot u) own ∙ shift.others n (far_entry sc f w h lot n x u (beside sc f w h lot n x u (owned_ram sc f w x n u.flat is) off is own)) ∙ ap (λ (g : ℕ). loan_of (driver_of w g) n) (sym own)
  | inr ne ↦ loan_there w h k went n ne
]

-- so nothing else is seen there
pub seen_off : (sc : Scenario) (f : List ℕ) (w : WorldState) (h : HartNo) (k : MachineState) (went : Went) (lot : Lot) (to : MapId → Owner) (x : ℕ) → IsUnder sc f w h lot → IsShift w h went lot to → IsOff lot x
    → seen_at (book_of (gone w h k went)) (owner_of (gone w h k went) x) x ≡ seen w x
seen_off sc f w h k went lot to x u shift off =
    let v = gone w h k went in
    ap (λ (o : Owner). seen_at (book_of v) o x) (shift.off x off)
    ∙ seen_alike (book_of w) (book_of v) (owner_of w x) x (λ n is. loan_off sc f w h k went lot to x n u shift off is)

seen_on : (sc : Scenario) (f : List ℕ) (w : WorldState) (h : HartNo) (k : MachineState) (went : Went) (lot : Lot) (to : Side) (i : ℕ) (e : Entry) (x : ℕ) → IsUnder sc f w h lot → IsShift w h went lot (sided to) → IsSeenSide to → IsPlace lot i e x
    → seen_at (book_of (gone w h k went)) (owner_of (gone w h k went) x) x ≡ seen w x
seen_on sc f w h k went lot to i e x u shift side p =
    let v = gone w h k went in
    let n = its_id h lot i in
    ap (λ (o : Owner). seen_at (book_of v) o x) (shift.on i e x p) ∙ sees (book_of v) n to x side
    ∙ ap (λ (l : Option Loan). place_of l x) (known_now sc f w h k went lot (sided to) i e u shift (seen_mapped n to side) p.entry) ∙ sym (seen_its sc f w h lot i e x u p)

-- what is unseen behind the step was so before it
pub unseen_before : (sc : Scenario) (f : List ℕ) (w : WorldState) (h : HartNo) (k : MachineState) (went : Went) (lot : Lot) (to : Side) (z : ℕ) → IsUnder sc f w h lot → IsShift w h went lot (sided to) → IsSeenSide to
    → IsUnseen (book_of (gone w h k went)) (owner_of (gone w h k went)) (slots_of sc) z → IsUnseen (book_of w) (owner_of w) (slots_of sc) z
unseen_before sc f w h k went lot to z u shift side unseen x off at = elim (somewhere lot x) [
  | On i e p ↦ unseen x off (seen_on sc f w h k went lot to i e x u shift side p ∙ at)
  | Off beyond ↦ unseen x off (seen_off sc f w h k went lot (sided to) x u shift beyond ∙ at)
]

pub moved_seen : (lot : Lot) → IsMoving lot.side → IsSeenSide lot.side
moved_seen lot (inl is) = inl is
moved_seen lot (inr (inl is)) = inr (inr is)
moved_seen lot (inr (inr is)) = inr (inl is)

-- ---- a lot that is its hart's again: what its channel saw is calm, where the row says so

data IsIn (slots_at : ℕ) (es : List Entry) (z : ℕ) : Type 0 where
  Here : (i : ℕ) (e : Entry) → slice_get es i ≡ Some e → covers (sg.device slots_at e) z ≡ true → IsIn slots_at es z
  Nowhere : ((i : ℕ) (e : Entry) → slice_get es i ≡ Some e → covers (sg.device slots_at e) z ≡ true → ⊥) → IsIn slots_at es z

in_later : (slots_at : ℕ) (d : Entry) (es : List Entry) (z : ℕ) → covers (sg.device slots_at d) z ≡ false → IsIn slots_at es z → IsIn slots_at (d ∷ es) z
in_later slots_at d es z off (Here i e there on) = Here (suc i) e there on
in_later slots_at d es z off (Nowhere none) = Nowhere never
  where
    never : (i : ℕ) (e : Entry) → slice_get (d ∷ es) i ≡ Some e → covers (sg.device slots_at e) z ≡ true → ⊥
    never zero e there on = let same : d ≡ e = cc in both_ways (covers (sg.device slots_at d) z) off (subst (λ (c : Entry). covers (sg.device slots_at c) z ≡ true) (sym same) on)
    never (suc i) e there on = none i e there on

is_in : (slots_at : ℕ) (es : List Entry) (z : ℕ) → IsIn slots_at es z
is_in slots_at [] z = Nowhere (λ i e there on. absurd cc)
is_in slots_at (e ∷ es) z = elim (cases_Bool (covers (sg.device slots_at e) z)) [
  | inl on ↦ Here 0 e refl on
  | inr off ↦ in_later slots_at e es z off (is_in slots_at es z)
]

pub pool_calm : (k : MachineState) (v z : ℕ) → PoolRow v k z → CalmRow k z
pool_calm k v z row = subst (λ (b : ℕ). PoolRow b k z) (sym row.both.memory) row

pub home_calm : (sc : Scenario) (f : List ℕ) (w : WorldState) (h : HartNo) (k : MachineState) (went : Went) (lot : Lot) (to : MapId → Owner) (z : ℕ) → IsUnder sc f w h lot → IsShift w h went lot to
    → ((i : ℕ) (e : Entry) (x : ℕ) → IsPlace lot i e x → PoolRow (byte f x) k (its_place w h lot i e x)) → (CalmRow w.machine z → CalmRow k z) → covers (slots_of sc) z ≡ true
    → IsUnseen (book_of (gone w h k went)) (owner_of (gone w h k went)) (slots_of sc) z → CalmRow k z
home_calm sc f w h k went lot to z u shift home stays slot unseen = elim (is_in (driver_of w h.0).fixed.slots_at lot.list.entries z) [
  | Here i e there on ↦
      let n = its_id h lot i in
      let l = its_loan w h lot i e in
      let at = device_place_of w n l z (loan_is sc f w n l u.flat (known sc f w h lot i e u there)) on in
      pool_calm k (byte f at.place) z (subst (λ (y : ℕ). PoolRow (byte f at.place) k y) at.here (home i e at.place (record { entry = there; on = at.on })))
  | Nowhere none ↦
      let before : IsUnseen (book_of w) (owner_of w) (slots_of sc) z = λ x off at. elim (somewhere lot x) [
        | On i e p ↦
            let n = its_id h lot i in
            let l = its_loan w h lot i e in
            let over = device_covers w n l x (loan_is sc f w n l u.flat (known sc f w h lot i e u p.entry)) p.on in
            none i e p.entry (subst (λ (y : ℕ). covers (sg.device (driver_of w h.0).fixed.slots_at e) y ≡ true) (sym (seen_its sc f w h lot i e x u p) ∙ at) over)
        | Off beyond ↦ unseen x off (seen_off sc f w h k went lot to x u shift beyond ∙ at)
      ] in
      stays (u.flat.bytes.calm z slot before)
]

-- an area is seen in its place, and so are its slots
pub area_unseen : (sc : Scenario) (f : List ℕ) (w : WorldState) (h : HartNo) (k : MachineState) (went : Went) (lot : Lot) (to : MapId → Owner) (z : ℕ) → IsUnder sc f w h lot → is_area lot.kind ≡ true → IsShift w h went lot to → covers (slots_of sc) z ≡ true
    → IsUnseen (book_of (gone w h k went)) (owner_of (gone w h k went)) (slots_of sc) z → IsUnseen (book_of w) (owner_of w) (slots_of sc) z
area_unseen sc f w h k went lot to z u area shift slot unseen x off at = elim (somewhere lot x) [
  | On i e p ↦
      let here : x ≡ z = sym (area_place sc f w h lot i e x u area p) ∙ sym (seen_its sc f w h lot i e x u p) ∙ at in
      both_ways (covers (slots_of sc) x) off (ap (covers (slots_of sc)) here ∙ slot)
  | Off beyond ↦ unseen x off (seen_off sc f w h k went lot to x u shift beyond ∙ at)
]
