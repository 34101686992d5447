-- A byte that no entry of a hart's lots covers keeps its owner through the hart's turns of lots.
use Rattle.std.specs.Prelude.{All, Option, Some, ◌<◌, if◌then◌else◌}
use Rattle.std.proofs.Common.{◌≡◌, ℕ, ◌+◌, Bool, true, false, List, [], ◌∷◌, length, refl, sym, ap, ◌∙◌, arith, cond}
use Rattle.std.proofs.lemmas.List.Elements.{All-nil, All-cons, All-head, All-tail, All-append, All-map}
use Rattle.nc_num.specs.Places.{covers}
use Rattle.nc_num.specs.declared.names.HartNo.{HartNo}
use Rattle.nc_num.specs.declared.names.MapId.{MapId}
use Rattle.nc_num.specs.declared.places.Span.{Span}
use Rattle.nc_model.specs.declared.owners.Owner.{Owner}
use Rattle.nc_model.specs.declared.owners.Owner.TheVariants as owners
use Rattle.nc_own.specs.Books.{owner_in, transferred}
use Rattle.nc_own.proofs.Follows.{length-transferred, owner_in-transferred}
use Rattle.nc_sg.specs.declared.list.Entry.{Entry}
use Rattle.nc_sg.specs.Lists.{waits, give_slot}
use Rattle.nc_rules.specs.declared.answers.Answer.{Answer}
use Rattle.nc_rules.specs.declared.lots.Lot.{Lot}
use Rattle.nc_rules.specs.declared.lots.LotId.{LotId}
use Rattle.nc_rules.specs.declared.lots.Side.{Side}
use Rattle.nc_rules.specs.declared.lots.Side.TheVariants as sides
use Rattle.nc_rules.specs.declared.steps.Turn.{Turn}
use Rattle.nc_rules.specs.declared.steps.Turn.TheVariants as turns
use Rattle.nc_rules.specs.Lots.{DriverConfig, is_lot, map_id, each_from, owner_of_side, lot_waits, with_slot, slot_given}
use Rattle.nc_rules.specs.Turns.{last_owner, to_side, to_end, of_those, those, lots_after, transfers_of, turned, turned_by}
use Rattle.nc_rules.specs.World.{owners_moved}
use Rattle.nc_scripts.proofs.Lists.{all_filtered, all_joined, all_in}
use Rattle.nc_scripts.proofs.LotLaws.{Becomes, thinned, thins_all}
use Rattle.nc_holds.specs.Held.{OwnersAgree}
use Rattle.nc_holds.proofs.lists.Changes.{at_in}
use Rattle.nc_holds.proofs.tokens.Plans.{OfLots}

-- no span of these covers the byte
abbrev pub Spares : ℕ → List (Span × Owner) → Type 0
Spares x ts = All (λ t. covers t.0 x ≡ false) ts

abbrev pub IsOff : ℕ → Entry → Type 0
IsOff x e = covers e.span x ≡ false

abbrev pub IsFreeLot : ℕ → Lot → Type 0
IsFreeLot x lot = All (IsOff x) lot.list.entries

-- no entry of these lots covers it
abbrev pub AreOff : ℕ → List Lot → Type 0
AreOff x lots = All (IsFreeLot x) lots

-- ---- owners

pub length-moved : (ws : List Owner) (ts : List (Span × Owner)) → length (owners_moved ws ts) ≡ length ws
length-moved ws [] = refl
length-moved ws (t ∷ ts) = length-moved (transferred ws t.0 t.1) ts ∙ length-transferred ws t.0 t.1

pub owner_moved_off : (ws : List Owner) (ts : List (Span × Owner)) (x : ℕ) → x < length ws → Spares x ts → owner_in (owners_moved ws ts) x ≡ owner_in ws x
owner_moved_off ws [] x lt all = refl
owner_moved_off ws (t ∷ ts) x lt all =
    owner_moved_off (transferred ws t.0 t.1) ts x (omega (arith, lt, length-transferred ws t.0 t.1)) (All-tail (λ (u : Span × Owner). covers u.0 x ≡ false) t ts all)
    ∙ owner_in-transferred ws t.0 t.1 x lt
    ∙ ap (λ (b : Bool). cond b t.1 (owner_in ws x)) (All-head (λ (u : Span × Owner). covers u.0 x ≡ false) t ts all)

pub owner_moved_on : (ws : List Owner) (span : Span) (o : Owner) (x : ℕ) → x < length ws → covers span x ≡ true → owner_in (owners_moved ws ((span, o) ∷ [])) x ≡ o
owner_moved_on ws span o x lt e = owner_in-transferred ws span o x lt ∙ ap (λ (b : Bool). cond b o (owner_in ws x)) e

-- ---- turns

side_off : (x : ℕ) (me : HartNo) (id : LotId) (n : ℕ) (side : Side) (es : List Entry) → All (IsOff x) es → Spares x (each_from me id n (λ m e. (e.span, owner_of_side m side)) es)
side_off x me id n side [] all = All-nil (λ (u : Span × Owner). covers u.0 x ≡ false)
side_off x me id n side (e ∷ es) all =
    All-cons (λ (u : Span × Owner). covers u.0 x ≡ false) (e.span, owner_of_side (map_id me id n) side) (each_from me id (n + 1) (λ m e. (e.span, owner_of_side m side)) es) (All-head (IsOff x) e es all)
    (side_off x me id (n + 1) side es (All-tail (IsOff x) e es all))

set_off : (x : ℕ) (me : HartNo) (side : Side) (id : LotId) (lots : List Lot) → AreOff x lots → Spares x (of_those (to_side me side) id lots)
set_off x me side id lots all =
    all_joined (IsFreeLot x) (λ (u : Span × Owner). covers u.0 x ≡ false) (to_side me side) (those id lots) (all_filtered (IsFreeLot x) (IsFreeLot x) (is_lot id) lots all (λ lot h e. h))
    (λ lot h. side_off x me lot.id 0 side lot.list.entries h)

end_off : (x : ℕ) (me : HartNo) (id : LotId) (lots : List Lot) → AreOff x lots → Spares x (of_those (to_end me) id lots)
end_off x me id lots all =
    all_joined (IsFreeLot x) (λ (u : Span × Owner). covers u.0 x ≡ false) (to_end me) (those id lots) (all_filtered (IsFreeLot x) (IsFreeLot x) (is_lot id) lots all (λ lot h e. h))
    (λ lot h. All-map (λ (u : Span × Owner). covers u.0 x ≡ false) (λ e. (e.span, last_owner me lot)) lot.list.entries h)

no_moves : (x : ℕ) → Spares x []
no_moves x = All-nil (λ (u : Span × Owner). covers u.0 x ≡ false)

pub turn_off : (x : ℕ) (me : HartNo) (lots : List Lot) (t : Turn) → OfLots t → AreOff x lots → Spares x (transfers_of me lots t)
turn_off x me lots turns.Stay of all = no_moves x
turn_off x me lots (turns.Pass range to) of all = absurd of
turn_off x me lots (turns.Own range) of all = absurd of
turn_off x me lots (turns.Lend id) of all = set_off x me sides.Lending id lots all
turn_off x me lots (turns.Give id) of all = set_off x me sides.Device id lots all
turn_off x me lots (turns.Return id) of all = set_off x me sides.Returning id lots all
turn_off x me lots (turns.Sync id) of all = set_off x me sides.Synced id lots all
turn_off x me lots (turns.Settle id) of all = set_off x me sides.Own id lots all
turn_off x me lots (turns.End id) of all = end_off x me id lots all

pub off_after : (x : ℕ) (t : Turn) (lots : List Lot) → AreOff x lots → AreOff x (lots_after t lots)
off_after x t lots all = thins_all (Becomes t) (IsFreeLot x) (IsFreeLot x) (thinned t lots) all (λ lot now b h. rw b.list h)

pub turned_off : (x : ℕ) (f : DriverConfig) (lots : List Lot) (t u : Turn) (a : Option Answer) → OfLots t → OfLots u → AreOff x lots → Spares x (turned f lots t u a).transfers
unfolding turned_by
turned_off x f lots t u a ot ou all =
    All-append (λ (v : Span × Owner). covers v.0 x ≡ false) (transfers_of f.me lots t) (transfers_of f.me (lots_after t lots) u) (turn_off x f.me lots t ot all) (turn_off x f.me (lots_after t lots) u ou (off_after x t lots all))

-- ---- lots that do not cover it

-- a slot changes no range
slot_by : (x k : ℕ) (e : Entry) (es : List Entry) (t : Bool) → IsOff x e → All (IsOff x) es → All (IsOff x) (give_slot k es) → All (IsOff x) (if t then record e { slot = Some k } ∷ es else e ∷ give_slot k es)
slot_by x k e es true h all more = All-cons (IsOff x) (record e { slot = Some k }) es h all
slot_by x k e es false h all more = All-cons (IsOff x) e (give_slot k es) h more

slot_off : (x k : ℕ) (es : List Entry) → All (IsOff x) es → All (IsOff x) (give_slot k es)
slot_off x k [] all = all
slot_off x k (e ∷ es) all = slot_by x k e es (waits e) (All-head (IsOff x) e es all) (All-tail (IsOff x) e es all) (slot_off x k es (All-tail (IsOff x) e es all))

given_by : (x k : ℕ) (lot : Lot) (lots : List Lot) (t : Bool) → IsFreeLot x lot → AreOff x lots → AreOff x (slot_given k lots) → AreOff x (if t then with_slot k lot ∷ lots else lot ∷ slot_given k lots)
given_by x k lot lots true h all more = All-cons (IsFreeLot x) (with_slot k lot) lots (slot_off x k lot.list.entries h) all
given_by x k lot lots false h all more = All-cons (IsFreeLot x) lot (slot_given k lots) h more

pub given_off : (x k : ℕ) (lots : List Lot) → AreOff x lots → AreOff x (slot_given k lots)
given_off x k [] all = all
given_off x k (lot ∷ lots) all = given_by x k lot lots (lot_waits lot) (All-head (IsFreeLot x) lot lots all) (All-tail (IsFreeLot x) lot lots all) (given_off x k lots (All-tail (IsFreeLot x) lot lots all))

side_not : (id : MapId) (side : Side) (g to : HartNo) → owner_of_side id side ≡ owners.Passing g to → ⊥
side_not id sides.Wanted g to e = absurd cc
side_not id sides.Lending g to e = absurd cc
side_not id sides.Device g to e = absurd cc
side_not id sides.Returning g to e = absurd cc
side_not id sides.Synced g to e = absurd cc
side_not id sides.Own g to e = absurd cc

not_covered : (t : Bool) → (t ≡ true → ⊥) → t ≡ false
not_covered true h = absurd (h refl)
not_covered false h = refl

-- a byte that is passed is of no lot
pub passing_off : (me : HartNo) (ws : List Owner) (lots : List Lot) (x : ℕ) (g to : HartNo) → OwnersAgree me ws lots → owner_in ws x ≡ owners.Passing g to → AreOff x lots
passing_off me ws lots x g to agree is =
    all_in (IsFreeLot x) lots (λ lot here. all_in (IsOff x) lot.list.entries (λ e there. not_covered (covers e.span x) (λ on.
    let at = at_in e lot.list.entries there in
    side_not (map_id me lot.id at.0) lot.side g to (sym (agree lot at.0 e x (record { lot_in = here; entry = at.1 }) on) ∙ is))))
