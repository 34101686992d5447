-- The lots of a hart behind a turn of one of them.
use Rattle.std.specs.Prelude.{All, ◌==◌, ◌&&◌, not, Bool, true, false, filter}
use Rattle.std.proofs.Common.{◌≡◌, List, [], ◌∷◌, refl, sym, ap, ◌∙◌, inl, inr, subst}
use Rattle.std.proofs.lemmas.Bool.{cases_Bool, both_ways, cond-true, cond-false, not_from_true, not_from_false}
use Rattle.std.proofs.lemmas.List.Elements.{All-nil, All-cons, All-head, All-tail}
use Rattle.nc_plan.specs.Plans.{In}
use Rattle.nc_rules.specs.declared.lots.Kind.TheVariants.{Single, Area}
use Rattle.nc_rules.specs.declared.lots.Lot.{Lot}
use Rattle.nc_rules.specs.declared.lots.LotId.{LotId}
use Rattle.nc_rules.specs.declared.lots.Side.{Side}
use Rattle.nc_rules.specs.declared.lots.Side.TheVariants as sides
use Rattle.nc_rules.specs.declared.steps.Turn.{Turn}
use Rattle.nc_rules.specs.declared.steps.Turn.TheVariants as turns
use Rattle.nc_rules.specs.Lots.{DriverConfig, is_lot}
use Rattle.nc_rules.specs.Turns.{is_area, with_side, set_side, lots_after}
use Rattle.nc_scripts.specs.Drivers.{AreApart}
use Rattle.nc_scripts.proofs.LotLaws.{named_so, its_name}
use Rattle.nc_scripts.proofs.Lists.{all_in, all_to}
use Rattle.nc_holds.proofs.lists.Members.{all_at}
use Rattle.nc_holds.proofs.owners.Lots.{same_lot}
use Rattle.nc_flatness.specs.Plans.{IsStill, StillDevice, StillSynced, StillOwn, StillSent, IsBeside, IsInHand, IsBack, IsAreaBack}

abbrev pub without_lot : LotId → List Lot → List Lot
without_lot id lots = filter (λ lot. not (is_lot id lot)) lots

-- each but those of the name
abbrev pub Others : (Lot → Type 0) → LotId → List Lot → Type 0
Others P id lots = All (λ other. is_lot id other ≡ false → P other) lots

-- ---- a side that is set

-- the lot with its new side
abbrev pub turned_lot : Side → Lot → Lot
turned_lot side lot = record lot { side = side }

pub set_here : (side : Side) (lots : List Lot) (lot : Lot) → In lot lots → In (turned_lot side lot) (set_side side lot.id lots)
set_here side [] lot here = absurd here
set_here side (x ∷ lots) lot (inl same) =
    inl (ap (λ (k : Lot). with_side side lot.id k) same ∙ cond-true (is_lot lot.id lot) (turned_lot side lot) lot (its_name lot lot.id refl))
set_here side (x ∷ lots) lot (inr later) = inr (set_here side lots lot later)

-- each lot behind it was there, or is one of the name
set_from : (side : Side) (id : LotId) (lots : List Lot) (now : Lot) → In now (set_side side id lots) → (lot : Lot) × In lot lots × (now ≡ with_side side id lot)
set_from side id [] now here = absurd here
set_from side id (x ∷ lots) now (inl same) = (x, inl refl, sym same)
set_from side id (x ∷ lots) now (inr later) = let r = set_from side id lots now later in (r.0, inr r.1, r.2)

with_same : (side : Side) (id : LotId) (lot : Lot) → (with_side side id lot).id ≡ lot.id
with_same side id lot = elim (cases_Bool (is_lot id lot)) [
  | inl is ↦ ap (λ (l : Lot). l.id) (cond-true (is_lot id lot) (turned_lot side lot) lot is)
  | inr off ↦ ap (λ (l : Lot). l.id) (cond-false (is_lot id lot) (turned_lot side lot) lot off)
]

with_list : (side : Side) (id : LotId) (lot : Lot) → (with_side side id lot).list ≡ lot.list
with_list side id lot = elim (cases_Bool (is_lot id lot)) [
  | inl is ↦ ap (λ (l : Lot). l.list) (cond-true (is_lot id lot) (turned_lot side lot) lot is)
  | inr off ↦ ap (λ (l : Lot). l.list) (cond-false (is_lot id lot) (turned_lot side lot) lot off)
]

-- the only lot that is so stays the only one
pub set_one : (side : Side) (lots : List Lot) (lot other : Lot) → In other (set_side side lot.id lots) → ((was : Lot) → In was lots → was.id ≡ other.id → was.list ≡ other.list → was ≡ lot) → other ≡ turned_lot side lot
set_one side lots lot other there only =
    let from = set_from side lot.id lots other there in
    let was : from.0 ≡ lot = only from.0 from.1 (sym (ap (λ (l : Lot). l.id) from.2 ∙ with_same side lot.id from.0)) (sym (ap (λ (l : Lot). l.list) from.2 ∙ with_list side lot.id from.0)) in
    from.2 ∙ ap (λ (k : Lot). with_side side lot.id k) was ∙ cond-true (is_lot lot.id lot) (turned_lot side lot) lot (its_name lot lot.id refl)

-- and so the only one of its name
pub set_its : (side : Side) (lots : List Lot) (lot other : Lot) → AreApart lots → In lot lots → In other (set_side side lot.id lots) → is_lot lot.id other ≡ true → other ≡ turned_lot side lot
set_its side lots lot other apart here there named = set_one side lots lot other there (λ was k id list. same_lot lots was lot apart k here (id ∙ named_so other lot.id named))

pub set_others : (P : Lot → Type 0) (side : Side) (id : LotId) (lots : List Lot) → Others P id lots → Others P id (set_side side id lots)
set_others P side id [] all = All-nil (λ other. is_lot id other ≡ false → P other)
set_others P side id (x ∷ lots) all =
    let Q : Lot → Type 0 = λ other. is_lot id other ≡ false → P other in
    let now : Q (with_side side id x) = elim (cases_Bool (is_lot id x)) [
      | inl is ↦ subst Q (sym (cond-true (is_lot id x) (turned_lot side x) x is)) (λ off. absurd (both_ways (is_lot id x) off is))
      | inr off ↦ subst Q (sym (cond-false (is_lot id x) (turned_lot side x) x off)) (All-head Q x lots all)
    ] in
    All-cons Q (with_side side id x) (set_side side id lots) now (set_others P side id lots (All-tail Q x lots all))

-- the turn that opens leaves the lot in hand
pub hand_beside : (f : DriverConfig) (side : Side) (area : Bool) (lots : List Lot) (lot : Lot) → In lot lots → is_area lot.kind ≡ area → Others (IsBeside f (turned_lot side lot)) lot.id lots → IsInHand f (set_side side lot.id lots) (turned_lot side lot) area side
hand_beside f side area lots lot here is others = record { here = set_here side lots lot here; area_is = is; side_is = refl; others = set_others (IsBeside f (turned_lot side lot)) side lot.id lots others }

pub hand_set : (f : DriverConfig) (side : Side) (area : Bool) (lots : List Lot) (lot : Lot) → In lot lots → is_area lot.kind ≡ area → Others (IsStill f) lot.id lots → IsInHand f (set_side side lot.id lots) (turned_lot side lot) area side
hand_set f side area lots lot here is others =
    hand_beside f side area lots lot here is
    (all_to (λ (other : Lot). is_lot lot.id other ≡ false → IsStill f other) (λ (other : Lot). is_lot lot.id other ≡ false → IsBeside f (turned_lot side lot) other) lots others (λ other still off. inl (still off)))

-- a side that is still leaves them all still
pub set_still : (f : DriverConfig) (side : Side) (id : LotId) (lots : List Lot) → ((lot : Lot) → In lot lots → is_lot id lot ≡ true → IsStill f (turned_lot side lot)) → Others (IsStill f) id lots → All (IsStill f) (set_side side id lots)
set_still f side id [] now all = All-nil (IsStill f)
set_still f side id (x ∷ lots) now all =
    let P : Lot → Type 0 = λ other. is_lot id other ≡ false → IsStill f other in
    let first : IsStill f (with_side side id x) = elim (cases_Bool (is_lot id x)) [
      | inl is ↦ subst (IsStill f) (sym (cond-true (is_lot id x) (turned_lot side x) x is)) (now x (inl refl) is)
      | inr off ↦ subst (IsStill f) (sym (cond-false (is_lot id x) (turned_lot side x) x off)) (All-head P x lots all off)
    ] in
    All-cons (IsStill f) (with_side side id x) (set_side side id lots) first (set_still f side id lots (λ lot there is. now lot (inr there) is) (All-tail P x lots all))

-- those of the name have it
pub set_named : (side : Side) (id : LotId) (lots : List Lot) (now : Lot) → In now (set_side side id lots) → is_lot id now ≡ true → now.side ≡ side
set_named side id lots now there is =
    let from = set_from side id lots now there in
    let was : is_lot id from.0 ≡ true = sym (ap (λ (i : LotId). i.label.0 == id.label.0 && i.first == id.first) (ap (λ (l : Lot). l.id) from.2 ∙ with_same side id from.0)) ∙ is in
    ap (λ (l : Lot). l.side) (from.2 ∙ cond-true (is_lot id from.0) (turned_lot side from.0) from.0 was)

-- ---- without the lot

pub without_all : (P : Lot → Type 0) (id : LotId) (lots : List Lot) → Others P id lots → All P (without_lot id lots)
without_all P id [] all = All-nil P
without_all P id (x ∷ lots) all =
    let Q : Lot → Type 0 = λ lot. is_lot id lot ≡ false → P lot in
    let kept = without_all P id lots (All-tail Q x lots all) in
    elim (cases_Bool (is_lot id x)) [
      | inl is ↦ subst (λ (ls : List Lot). All P ls) (sym (cond-false (not (is_lot id x)) (x ∷ without_lot id lots) (without_lot id lots) (not_from_true (is_lot id x) is))) kept
      | inr off ↦ subst (λ (ls : List Lot). All P ls) (sym (cond-true (not (is_lot id x)) (x ∷ without_lot id lots) (without_lot id lots) (not_from_false (is_lot id x) off)))
          (All-cons P x (without_lot id lots) (All-head Q x lots all off) kept)
    ]

-- ---- the turns that leave all still

pub given_still : (f : DriverConfig) (id : LotId) (lots : List Lot) → Others (IsStill f) id lots → All (IsStill f) (lots_after (turns.Give id) lots)
given_still f id lots others = set_still f sides.Device id lots (λ lot there is. StillDevice refl) others

-- with light fences one of which the token is queued is still
abbrev pub NamesLent : LotId → List Lot → Type 0
NamesLent id lots = (lot : Lot) → In lot lots → is_lot id lot ≡ true → lot.side ≡ sides.Lending

pub sent_still : (f : DriverConfig) (id : LotId) (lots : List Lot) → f.light ≡ true → NamesLent id lots → Others (IsStill f) id lots → All (IsStill f) lots
sent_still f id lots light named others =
    all_in (IsStill f) lots
    (λ lot there. elim (cases_Bool (is_lot id lot)) [
      | inl is ↦ StillSent (named lot there is) light
      | inr off ↦ all_at (λ other. is_lot id other ≡ false → IsStill f other) lots lot others there off
    ])

-- a sync is of a single mapping
abbrev pub IsSingly : LotId → Turn → List Lot → Type 0
IsSingly id turn lots = turn ≡ turns.Sync id → (lot : Lot) → In lot lots → is_lot id lot ≡ true → lot.kind ≡ Single

pub back_still : (f : DriverConfig) (id : LotId) (turn : Turn) (lots : List Lot) → IsBack id turn → IsSingly id turn lots → Others (IsStill f) id lots → All (IsStill f) (lots_after turn lots)
back_still f id turn lots (inl is) single others = subst (λ (t : Turn). All (IsStill f) (lots_after t lots)) (sym is) (set_still f sides.Synced id lots (λ lot there named. StillSynced refl (single is lot there named)) others)
back_still f id turn lots (inr is) single others = subst (λ (t : Turn). All (IsStill f) (lots_after t lots)) (sym is) (without_all (IsStill f) id lots others)

-- an area is its hart's, or there is none any more
abbrev pub NamesArea : LotId → List Lot → Type 0
NamesArea id lots = (lot : Lot) → In lot lots → is_lot id lot ≡ true → lot.kind ≡ Area

pub settled_still : (f : DriverConfig) (id : LotId) (lots : List Lot) → NamesArea id lots → Others (IsStill f) id lots → All (IsStill f) (lots_after (turns.Settle id) lots)
settled_still f id lots area others = set_still f sides.Own id lots (λ lot there named. StillOwn refl (area lot there named)) others

pub area_still : (f : DriverConfig) (id : LotId) (turn : Turn) (lots : List Lot) → IsAreaBack id turn → NamesArea id lots → Others (IsStill f) id lots → All (IsStill f) (lots_after turn lots)
area_still f id turn lots (inl is) area others = subst (λ (t : Turn). All (IsStill f) (lots_after t lots)) (sym is) (settled_still f id lots area others)
area_still f id turn lots (inr is) area others = subst (λ (t : Turn). All (IsStill f) (lots_after t lots)) (sym is) (without_all (IsStill f) id lots others)
