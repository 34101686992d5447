-- A side that is set: the owners of the bytes, what is granted, and what is said of the lots.
use Rattle.std.proofs.Common.{◌≡◌, ℕ, ◌+◌, ◌<◌, true, false, List, length, inl, inr, refl, sym, ap, subst, ◌∙◌, arith, Some}
use Rattle.std.specs.Prelude.{◌⊎◌, All, slice_get}
use Rattle.std.proofs.lemmas.Bool.{false≢true}
use Rattle.nc_num.specs.Places.{covers}
use Rattle.nc_num.specs.declared.names.HartNo.{HartNo}
use Rattle.nc_num.specs.declared.places.Span.{Span}
use Rattle.nc_plan.specs.Plans.{In}
use Rattle.nc_model.specs.declared.owners.Owner.{Owner}
use Rattle.nc_own.specs.Books.{owner_in}
use Rattle.nc_coherent.specs.Pages.{PageMap}
use Rattle.nc_sg.specs.declared.list.Entry.{Entry}
use Rattle.nc_rules.specs.declared.lots.Lot.{Lot}
use Rattle.nc_rules.specs.declared.lots.LotId.{LotId}
use Rattle.nc_rules.specs.declared.lots.Side.{Side}
use Rattle.nc_rules.specs.Lots.{DriverConfig, is_lot, is_wanted, is_own, map_id, owner_of_side}
use Rattle.nc_rules.specs.Turns.{is_area, to_side, of_those, set_side}
use Rattle.nc_rules.specs.World.{owners_moved}
use Rattle.nc_scripts.specs.Drivers.{IsLotIn}
use Rattle.nc_scripts.proofs.Lists.{all_in}
use Rattle.nc_holds.specs.Held.{IsEntryOf, EntriesAreApart, FitsSide, OwnersAgree, IsTaken, PagesAgree}
use Rattle.nc_holds.specs.Changes.{AreAreas}
use Rattle.nc_holds.proofs.lists.Members.{all_at}
use Rattle.nc_holds.proofs.owners.Facts.{IsOf, StaysOrMine}
use Rattle.nc_holds.proofs.owners.Moves.{of_named, in_named, of_each, in_each, moved_by, moved_to, moved_off}
use Rattle.nc_holds.proofs.owners.Lots.{of_lots, side_of, SidedBy, named, other, of_sided}

-- ---- the transfers

pub record IsSideMove (me : HartNo) (side : Side) (id : LotId) (lots : List Lot) (t : Span × Owner) : Type 0 where
  pub lot : Lot
  pub named : is_lot id lot ≡ true
  pub i : ℕ
  pub entry : Entry
  pub here : IsEntryOf lots lot i entry
  pub is : ◌≡◌ {A = Span × Owner} (entry.span, owner_of_side (map_id me lot.id i) side) t

pub side_move : (me : HartNo) (side : Side) (id : LotId) (lots : List Lot) (t : Span × Owner) → In t (of_those (to_side me side) id lots) → IsSideMove me side id lots t
side_move me side id lots t k =
    let r = of_named (to_side me side) id lots t k in
    let p = of_each {A = Span × Owner} me r.lot.id 0 (λ m e. (e.span, owner_of_side m side)) r.lot.list.entries t r.is in
    let n : 0 + p.j ≡ p.j = omega arith in
    record {
      lot = r.lot;
      named = r.named;
      i = p.j;
      entry = p.entry;
      here = record { lot_in = r.here; entry = p.here };
      is = subst (λ (j : ℕ). ◌≡◌ {A = Span × Owner} (p.entry.span, owner_of_side (map_id me r.lot.id j) side) t) n p.is;
    }

pub in_move : (me : HartNo) (side : Side) (id : LotId) (lots : List Lot) (lot : Lot) (i : ℕ) (e : Entry) → is_lot id lot ≡ true → IsEntryOf lots lot i e
    → In {X = Span × Owner} (e.span, owner_of_side (map_id me lot.id i) side) (of_those (to_side me side) id lots)
in_move me side id lots lot i e name h =
    let n : 0 + i ≡ i = omega arith in
    let k = in_each {A = Span × Owner} me lot.id 0 (λ m d. (d.span, owner_of_side m side)) lot.list.entries i e h.entry in
    in_named (to_side me side) id lots lot (e.span, owner_of_side (map_id me lot.id i) side) h.lot_in name
    (subst (λ (j : ℕ). In {X = Span × Owner} (e.span, owner_of_side (map_id me lot.id j) side) (to_side me side lot)) n k)

pub move_covers : (me : HartNo) (side : Side) (id : LotId) (lots : List Lot) (t : Span × Owner) (x : ℕ) → (r : IsSideMove me side id lots t) → covers t.0 x ≡ true → covers r.entry.span x ≡ true
move_covers me side id lots t x r on = subst (λ (u : Span × Owner). covers u.0 x ≡ true) (sym r.is) on

-- ---- the owners behind it

abbrev pub sided_owners : HartNo → Side → LotId → List Lot → List Owner → List Owner
sided_owners me side id lots ws = owners_moved ws (of_those (to_side me side) id lots)

named_owner : (me : HartNo) (side : Side) (id : LotId) (lots : List Lot) (ws : List Owner) (lot : Lot) (i : ℕ) (e : Entry) (x : ℕ) → EntriesAreApart lots → x < length ws → is_lot id lot ≡ true → IsEntryOf lots lot i e → covers e.span x ≡ true
    → owner_in (sided_owners me side id lots ws) x ≡ owner_of_side (map_id me lot.id i) side
named_owner me side id lots ws lot i e x apart lt name h on =
    moved_to (λ o. o ≡ owner_of_side (map_id me lot.id i) side) ws (of_those (to_side me side) id lots) x (e.span, owner_of_side (map_id me lot.id i) side) lt (in_move me side id lots lot i e name h) on
    (λ t k on_t.
    let r = side_move me side id lots t k in
    let same = apart r.lot lot r.i i r.entry e x r.here h (move_covers me side id lots t x r on_t) on in
    let owner : owner_of_side (map_id me r.lot.id r.i) side ≡ t.1 = ap (λ (u : Span × Owner). u.1) r.is in
    sym owner ∙ (λ z. owner_of_side (map_id me (same.lot z) (same.entry z)) side))

other_owner : (me : HartNo) (side : Side) (id : LotId) (lots : List Lot) (ws : List Owner) (lot : Lot) (i : ℕ) (e : Entry) (x : ℕ) → EntriesAreApart lots → is_lot id lot ≡ false → IsEntryOf lots lot i e → covers e.span x ≡ true
    → owner_in (sided_owners me side id lots ws) x ≡ owner_in ws x
other_owner me side id lots ws lot i e x apart name h on =
    moved_off ws (of_those (to_side me side) id lots) x
    (λ t k on_t.
    let r = side_move me side id lots t k in
    let same = apart r.lot lot r.i i r.entry e x r.here h (move_covers me side id lots t x r on_t) on in
    let other_name : is_lot id lot ≡ true = subst (λ (d : LotId). is_lot id (record lot { id = d }) ≡ true) same.lot r.named in
    false≢true (sym name ∙ other_name))

-- the owners of the bytes of other lots
abbrev pub OthersOwn : HartNo → List Owner → LotId → List Lot → Type 0
OthersOwn me ws id lots = (lot : Lot) (i : ℕ) (e : Entry) (x : ℕ) → is_lot id lot ≡ false → IsEntryOf lots lot i e → covers e.span x ≡ true → owner_in ws x ≡ owner_of_side (map_id me lot.id i) lot.side

sided_owner : (me : HartNo) (side : Side) (id : LotId) (lots : List Lot) (ws : List Owner) (lot now : Lot) (i : ℕ) (e : Entry) (x : ℕ) → EntriesAreApart lots → x < length ws → OthersOwn me ws id lots → In lot lots → SidedBy side id lot now
    → slice_get now.list.entries i ≡ Some e → covers e.span x ≡ true → owner_in (sided_owners me side id lots ws) x ≡ owner_of_side (map_id me now.id i) now.side
sided_owner me side id lots ws lot now i e x apart lt agree k (named name same) h on =
    subst (λ (l : Lot). slice_get l.list.entries i ≡ Some e → owner_in (sided_owners me side id lots ws) x ≡ owner_of_side (map_id me l.id i) l.side) same
    (λ g. named_owner me side id lots ws lot i e x apart lt name (record { lot_in = k; entry = g }) on) h
sided_owner me side id lots ws lot now i e x apart lt agree k (other name same) h on =
    subst (λ (l : Lot). slice_get l.list.entries i ≡ Some e → owner_in (sided_owners me side id lots ws) x ≡ owner_of_side (map_id me l.id i) l.side) same
    (λ g. other_owner me side id lots ws lot i e x apart name (record { lot_in = k; entry = g }) on ∙ agree lot i e x name (record { lot_in = k; entry = g }) on) h

still_below : (ram : ℕ) (f : DriverConfig) (side : Side) (id : LotId) (lots : List Lot) (lot now : Lot) (i : ℕ) (e : Entry) (x : ℕ) → All (IsLotIn ram f) lots → In lot lots → SidedBy side id lot now → slice_get now.list.entries i ≡ Some e → covers e.span x ≡ true → x < ram
still_below ram f side id lots lot now i e x all k (named name same) h on = of_lots ram f lots lot i e x all (record { lot_in = k; entry = subst (λ (l : Lot). slice_get l.list.entries i ≡ Some e) (sym same) h }) on
still_below ram f side id lots lot now i e x all k (other name same) h on = of_lots ram f lots lot i e x all (record { lot_in = k; entry = subst (λ (l : Lot). slice_get l.list.entries i ≡ Some e) (sym same) h }) on

pub owners_set : (ram : ℕ) (f : DriverConfig) (side : Side) (id : LotId) (lots : List Lot) (ws : List Owner) → All (IsLotIn ram f) lots → length ws ≡ ram → EntriesAreApart lots → OthersOwn f.me ws id lots
    → OwnersAgree f.me (sided_owners f.me side id lots ws) (set_side side id lots)
owners_set ram f side id lots ws all long apart agree now i e x h on =
    let r = of_sided side id lots now h.lot_in in
    let lt = still_below ram f side id lots r.lot now i e x all r.here r.how h.entry on in
    sided_owner f.me side id lots ws r.lot now i e x apart (omega (arith, long, lt)) agree r.here r.how h.entry on

pub owners_sided : (ram : ℕ) (f : DriverConfig) (side : Side) (id : LotId) (lots : List Lot) (ws : List Owner) → All (IsLotIn ram f) lots → length ws ≡ ram → EntriesAreApart lots → OwnersAgree f.me ws lots
    → OwnersAgree f.me (sided_owners f.me side id lots ws) (set_side side id lots)
owners_sided ram f side id lots ws all long apart agree = owners_set ram f side id lots ws all long apart (λ lot i e x off h on. agree lot i e x h on)

-- the bytes that are moved were the hart's
pub frame_by : (me : HartNo) (ws : List Owner) (ts : List (Span × Owner)) (x : ℕ) → ((t : Span × Owner) → In t ts → covers t.0 x ≡ true → IsOf me (owner_in ws x)) → StaysOrMine me ws (owners_moved ws ts) x
frame_by me ws ts x h = moved_by (λ o. (o ≡ owner_in ws x) ⊎ IsOf me (owner_in ws x)) ws ts x (inl refl) (λ t k on. inr (h t k on))

pub of_mine : (me : HartNo) (ws : List Owner) (lots : List Lot) (lot : Lot) (i : ℕ) (e : Entry) (x : ℕ) → OwnersAgree me ws lots → IsEntryOf lots lot i e → covers e.span x ≡ true → IsOf me (owner_in ws x)
of_mine me ws lots lot i e x agree h on = subst (IsOf me) (sym (agree lot i e x h on)) (side_of (map_id me lot.id i) me lot.side refl)

pub frame_sided : (me : HartNo) (side : Side) (id : LotId) (lots : List Lot) (ws : List Owner) (x : ℕ) → OwnersAgree me ws lots → StaysOrMine me ws (sided_owners me side id lots ws) x
frame_sided me side id lots ws x agree =
    frame_by me ws (of_those (to_side me side) id lots) x
    (λ t k on. let r = side_move me side id lots t k in of_mine me ws lots r.lot r.i r.entry x agree r.here (move_covers me side id lots t x r on))

-- ---- the lots behind it

abbrev pub OwnOfAreas : Side → List Lot → LotId → Type 0
OwnOfAreas side lots id = is_own side ≡ true → AreAreas lots id

pub sides_by : (f : DriverConfig) (side : Side) (id : LotId) (lots : List Lot) (lot now : Lot) → is_wanted side ≡ false → OwnOfAreas side lots id → In lot lots → SidedBy side id lot now → FitsSide f lot → FitsSide f now
sides_by f side id lots lot now off own k (named name same) h =
    subst (FitsSide f) same (record {
      area = λ a. off;
      own = λ o. all_at (λ (l : Lot). is_lot id l ≡ true → is_area l.kind ≡ true) lots lot (own o) k name;
      in_buffer = h.in_buffer;
    })
sides_by f side id lots lot now off own k (other name same) h = subst (FitsSide f) same h

pub sides_sided : (f : DriverConfig) (side : Side) (id : LotId) (lots : List Lot) → is_wanted side ≡ false → OwnOfAreas side lots id → All (FitsSide f) lots → All (FitsSide f) (set_side side id lots)
sides_sided f side id lots off own all =
    all_in (FitsSide f) (set_side side id lots)
    (λ now k. let r = of_sided side id lots now k in sides_by f side id lots r.lot now off own r.here r.how (all_at (FitsSide f) lots r.lot all r.here))

pub taken_by : (pool : PageMap) (side : Side) (id : LotId) (lot now : Lot) → SidedBy side id lot now → IsTaken pool lot → IsTaken pool now
taken_by pool side id lot now (named name same) h = subst (IsTaken pool) same h
taken_by pool side id lot now (other name same) h = subst (IsTaken pool) same h

pub pages_sided : (pool : PageMap) (side : Side) (id : LotId) (lots : List Lot) → PagesAgree pool lots → PagesAgree pool (set_side side id lots)
pages_sided pool side id lots all =
    all_in (IsTaken pool) (set_side side id lots)
    (λ now k. let r = of_sided side id lots now k in taken_by pool side id r.lot now r.how (all_at (IsTaken pool) lots r.lot all r.here))
