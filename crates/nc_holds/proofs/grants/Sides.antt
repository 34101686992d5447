-- What is granted behind a turn: of lots whose side is set, and of lots that end.
use Rattle.std.proofs.Common.{◌≡◌, ℕ, Bool, true, false, List, inl, inr, refl, sym, ap, subst, ◌∙◌, cond, Some}
use Rattle.std.specs.Prelude.{not, All, filter, slice_get, if◌then◌else◌}
use Rattle.std.proofs.lemmas.Bool.{false≢true, cases_Bool}
use Rattle.nc_num.specs.declared.names.MapId.{MapId}
use Rattle.nc_plan.specs.Plans.{In}
use Rattle.nc_plan.proofs.PlanLaws.{in_map}
use Rattle.nc_model.specs.declared.owners.Grant.{Grant}
use Rattle.nc_model.specs.Rights.{same_map, is_of}
use Rattle.nc_sg.specs.declared.list.Entry.{Entry}
use Rattle.nc_rules.specs.declared.lots.Lot.{Lot}
use Rattle.nc_rules.specs.declared.lots.LotId.{LotId}
use Rattle.nc_rules.specs.declared.lots.Side.{Side}
use Rattle.nc_rules.specs.Lots.{DriverConfig, is_lot, is_wanted, map_id, grant_of}
use Rattle.nc_rules.specs.Turns.{of_those, granted, ids, set_side, with_side}
use Rattle.nc_rules.specs.World.{grants_added, grants_ended}
use Rattle.nc_scripts.specs.Drivers.{IsLotIn}
use Rattle.nc_scripts.proofs.LotLaws.{named_so, its_name}
use Rattle.nc_holds.specs.Held.{AreLent, IsEntryOf, AreGranted, IsGrantOf}
use Rattle.nc_holds.proofs.lists.Members.{all_at, of_filter, in_filter}
use Rattle.nc_holds.proofs.owners.Lots.{SidedBy, named, other, of_sided, names_apart}
use Rattle.nc_holds.proofs.grants.Moves.{added_right, of_ended, in_ended, map_self, not_same, IsNewGrant, in_new, of_ids, in_ids}

-- ---- a side that is set

abbrev GrantAt : DriverConfig → Lot → ℕ → Entry → Grant
GrantAt f lot i e = grant_of f.slots_at lot (map_id f.me lot.id i) e

-- what lends them adds their grants
abbrev LendsThem : DriverConfig → LotId → List Lot → List Grant → Type 0
LendsThem f id lots grants = (lot : Lot) (i : ℕ) (e : Entry) → is_lot id lot ≡ true → is_wanted lot.side ≡ true → IsEntryOf lots lot i e → In (GrantAt f lot i e) grants

sided_grant : (f : DriverConfig) (side : Side) (id : LotId) (lots : List Lot) (grants after : List Grant) (lot now : Lot) (i : ℕ) (e : Entry) → AreGranted f grants lots → ((g : Grant) → In g grants → In g after) → LendsThem f id lots after → In lot lots
    → SidedBy side id lot now → slice_get now.list.entries i ≡ Some e → is_wanted now.side ≡ false → In (GrantAt f now i e) after
sided_grant f side id lots grants after lot now i e agree keeps lends k (named name same) h lent =
    subst (λ (l : Lot). slice_get l.list.entries i ≡ Some e → In (GrantAt f l i e) after) same
    (λ g. let here : IsEntryOf lots lot i e = record { lot_in = k; entry = g } in elim (cases_Bool (is_wanted lot.side)) [
      | inl w ↦ lends lot i e name w here
      | inr l ↦ keeps (GrantAt f lot i e) (agree lot i e here l)
    ]) h
sided_grant f side id lots grants after lot now i e agree keeps lends k (other name same) h lent =
    subst (λ (l : Lot). slice_get l.list.entries i ≡ Some e → is_wanted l.side ≡ false → In (GrantAt f l i e) after) same
    (λ g w. keeps (GrantAt f lot i e) (agree lot i e (record { lot_in = k; entry = g }) w)) h lent

pub granted_sided : (f : DriverConfig) (side : Side) (id : LotId) (lots : List Lot) (grants after : List Grant) → AreGranted f grants lots → ((g : Grant) → In g grants → In g after) → LendsThem f id lots after → AreGranted f after (set_side side id lots)
granted_sided f side id lots grants after agree keeps lends now i e h lent =
    let r = of_sided side id lots now h.lot_in in
    sided_grant f side id lots grants after r.lot now i e agree keeps lends r.here r.how h.entry lent

-- they are lent already
pub lent_them : (f : DriverConfig) (id : LotId) (lots : List Lot) (grants : List Grant) → AreLent lots id → LendsThem f id lots grants
lent_them f id lots grants lent lot i e name wanted h = absurd (false≢true (sym (all_at (λ (l : Lot). is_lot id l ≡ true → is_wanted l.side ≡ false) lots lot lent h.lot_in name) ∙ wanted))

pub lends_them : (f : DriverConfig) (id : LotId) (lots : List Lot) (grants : List Grant) → LendsThem f id lots (grants_added grants (of_those (granted f.me f.slots_at) id lots))
lends_them f id lots grants lot i e name wanted h =
    added_right (GrantAt f lot i e) grants (of_those (granted f.me f.slots_at) id lots) (in_new f.me f.slots_at id lots lot i e name wanted h)

side_not : (side was : Side) (b : Bool) → is_wanted side ≡ false → is_wanted was ≡ false → is_wanted (cond b side was) ≡ false
side_not side was true off lent = off
side_not side was false off lent = lent

with_by : (f : DriverConfig) (side : Side) (id : LotId) (lots : List Lot) (lot : Lot) (i : ℕ) (e : Entry) (g : Grant) (b : Bool) → In (if b then record lot { side = side } else lot) (set_side side id lots)
    → slice_get lot.list.entries i ≡ Some e → is_wanted (cond b side lot.side) ≡ false → g ≡ GrantAt f lot i e → IsGrantOf f (set_side side id lots) g
with_by f side id lots lot i e g true k h off is = record { lot = record lot { side = side }; i = i; entry = e; here = record { lot_in = k; entry = h }; lent = off; is = is }
with_by f side id lots lot i e g false k h off is = record { lot = lot; i = i; entry = e; here = record { lot_in = k; entry = h }; lent = off; is = is }

pub held_sided : (f : DriverConfig) (side : Side) (id : LotId) (lots : List Lot) (g : Grant) → is_wanted side ≡ false → IsGrantOf f lots g → IsGrantOf f (set_side side id lots) g
held_sided f side id lots g off h =
    with_by f side id lots h.lot h.i h.entry g (is_lot id h.lot) (in_map (with_side side id) h.lot lots h.here.lot_in) h.here.entry (side_not side h.lot.side (is_lot id h.lot) off h.lent) h.is

named_with : (f : DriverConfig) (side : Side) (id : LotId) (lots : List Lot) (lot : Lot) (i : ℕ) (e : Entry) (g : Grant) (b : Bool) → b ≡ true → In (if b then record lot { side = side } else lot) (set_side side id lots)
    → slice_get lot.list.entries i ≡ Some e → is_wanted side ≡ false → g ≡ GrantAt f lot i e → IsGrantOf f (set_side side id lots) g
named_with f side id lots lot i e g true name k h off is = with_by f side id lots lot i e g true k h off is
named_with f side id lots lot i e g false name k h off is = absurd (false≢true name)

pub new_held : (f : DriverConfig) (side : Side) (id : LotId) (lots : List Lot) (g : Grant) → is_wanted side ≡ false → IsNewGrant f.me f.slots_at id lots g → IsGrantOf f (set_side side id lots) g
new_held f side id lots g off h =
    named_with f side id lots h.lot h.i h.entry g (is_lot id h.lot) h.named (in_map (with_side side id) h.lot lots h.here.lot_in) h.here.entry off (sym h.is)

-- ---- an end

abbrev pub without_lot : LotId → List Lot → List Lot
without_lot id lots = filter (λ lot. not (is_lot id lot)) lots

pub not_false : (b : Bool) → not b ≡ true → b ≡ false
not_false true e = absurd (false≢true e)
not_false false e = refl

pub granted_ended : (ram : ℕ) (f : DriverConfig) (id : LotId) (lots : List Lot) (grants : List Grant) → All (IsLotIn ram f) lots → AreGranted f grants lots → AreGranted f (grants_ended grants (of_those (ids f.me) id lots)) (without_lot id lots)
granted_ended ram f id lots grants all agree lot i e h lent =
    let p = of_filter (λ (l : Lot). not (is_lot id l)) lot lots h.lot_in in
    let here : IsEntryOf lots lot i e = record { lot_in = p.0; entry = h.entry } in
    in_ended (GrantAt f lot i e) grants (of_those (ids f.me) id lots) (agree lot i e here lent)
    (λ m k.
    let r = of_ids f.me id lots m k in
    subst (λ (n : MapId). same_map (map_id f.me lot.id i) n ≡ false) r.is
    (not_same (map_id f.me lot.id i) (map_id f.me r.lot.id r.i)
    (λ same.
    let one = names_apart ram f lot r.lot i r.i e r.entry (all_at (IsLotIn ram f) lots lot all p.0) (all_at (IsLotIn ram f) lots r.lot all r.here.lot_in) h.entry r.here.entry same.label same.entry in
    let its : lot.id ≡ id = one.lot ∙ named_so r.lot id r.named in
    false≢true (sym (not_false (is_lot id lot) p.1) ∙ its_name lot id its))))

pub held_ended : (f : DriverConfig) (id : LotId) (lots : List Lot) (grants : List Grant) (g : Grant) → In g (grants_ended grants (of_those (ids f.me) id lots)) → IsGrantOf f lots g → IsGrantOf f (without_lot id lots) g
held_ended f id lots grants g k h =
    let r = of_ended g grants (of_those (ids f.me) id lots) k in
    elim (cases_Bool (is_lot id h.lot)) [
      | inl on ↦ absurd (false≢true (sym (r.1 (map_id f.me h.lot.id h.i) (in_ids f.me id lots h.lot h.i h.entry on h.here)) ∙ subst (λ (d : Grant). is_of (map_id f.me h.lot.id h.i) d ≡ true) (sym h.is) (map_self (map_id f.me h.lot.id h.i))))
      | inr off ↦ record { lot = h.lot; i = h.i; entry = h.entry; here = record { lot_in = in_filter (λ (l : Lot). not (is_lot id l)) h.lot lots h.here.lot_in (ap not off); entry = h.here.entry }; lent = h.lent; is = h.is }
    ]
