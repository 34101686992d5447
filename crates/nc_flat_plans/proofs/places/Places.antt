-- The places of the lot in hand: what their mappings are, and where the channel sees them; and the places beside.
use Rattle.std.specs.Prelude.{Some, All, ◌&&◌, Bool, true, false, slice_get}
use Rattle.std.specs.List.{list_any}
use Rattle.std.proofs.Common.{◌≡◌, ◌⊎◌, ℕ, ◌<◌, List, [], ◌∷◌, length, refl, sym, ap, ◌∙◌, inl, inr, subst, arith}
use Rattle.std.proofs.lemmas.Bool.{cases_Bool, both_ways, and_parts, and_from, or_left, or_right, false_from_ne_true}
use Rattle.nc_num.specs.Places.{covers}
use Rattle.nc_num.specs.declared.names.HartNo.{HartNo}
use Rattle.nc_num.specs.declared.names.MapId.{MapId}
use Rattle.nc_num.specs.declared.places.Span.{Span}
use Rattle.nc_plan.specs.Plans.{In}
use Rattle.nc_model.specs.declared.owners.Owner.{Owner}
use Rattle.nc_model.specs.declared.owners.Owner.TheVariants.{Lending, Device, Returning}
use Rattle.nc_ops.specs.declared.ops.Op.{Op}
use Rattle.nc_scen.specs.Regions.{pool_of, slots_of}
use Rattle.nc_scen.specs.declared.scenario.Scenario.{Scenario}
use Rattle.nc_sg.specs.declared.list.Entry.{Entry}
use Rattle.nc_rules.specs.declared.lots.Kind.{Kind}
use Rattle.nc_rules.specs.declared.lots.Kind.TheVariants as kinds
use Rattle.nc_rules.specs.declared.lots.Lot.{Lot}
use Rattle.nc_rules.specs.declared.lots.LotId.{LotId}
use Rattle.nc_rules.specs.declared.lots.Side.{Side}
use Rattle.nc_rules.specs.declared.lots.Side.TheVariants as sides
use Rattle.nc_rules.specs.declared.steps.Step.{Step}
use Rattle.nc_rules.specs.Lots.{is_lot, is_wanted, map_id, grant_of, owner_of_side}
use Rattle.nc_rules.specs.Turns.{is_area}
use Rattle.nc_rules.specs.EventTouches.{owner_of}
use Rattle.nc_rules.specs.World.{WorldState, driver_of}
use Rattle.nc_scripts.specs.Drivers.{FitsKind}
use Rattle.nc_scripts.proofs.LotLaws.{named_so, its_name}
use Rattle.nc_holds.specs.Held.{IsEntryOf}
use Rattle.nc_holds.proofs.lists.Members.{all_at}
use Rattle.nc_rows.specs.Rows.{Loan, device_place}
use Rattle.nc_rows.specs.Ahead.{same_lot, ends}
use Rattle.nc_flatness.specs.Books.{is_entry_of, book_of, mapping_in}
use Rattle.nc_flatness.specs.Plans.{IsStill, StillSent, IsBeside, IsInHand, HasEnd, IsEndName}
use Rattle.nc_flatness.specs.Flatness.{Flatness}
use Rattle.nc_flatness.proofs.books.Areas.{entry_pooled, entry_unpooled}
use Rattle.nc_flatness.specs.Tokens.{is_lending_side}
use Rattle.nc_flatness.proofs.books.Loans.{IsLoan, lot_in, entry_loan, one_lot, one_of, apart_lots, own_entry, get_below, area_direct}
use Rattle.nc_flatness.proofs.plans.Rests.{ends_later, back_moves, lend_moves, at_plan, ends_two, turn_name}
use Rattle.nc_flatness.proofs.tokens.Tokens.{any_in}
use Rattle.nc_flatness.proofs.books.Owned.{IsMapped, mapped, entry_owned, entry_ram, of_buffer}
use Rattle.nc_flatness.proofs.books.Seen.{seen, place_ways, mapped_unslotted, seen_lent}
use Rattle.nc_flat_starts.proofs.turning.Frames.{IsPlace, IsOff}
use Rattle.nc_flat_plans.proofs.drivers.Drivers.{IsNext}
use Rattle.nc_flat_plans.proofs.areas.PoolPlaces.{slot_unpooled}

-- ---- the lot in hand

-- it is being lent, or taken back, or it is its channel's and is taken back now
abbrev pub IsMoving : Side → Type 0
IsMoving side = (side ≡ sides.Lending) ⊎ ((side ≡ sides.Returning) ⊎ (side ≡ sides.Device))

-- hart h lends this lot, or takes it back, and each other lot of it is still or waits for it
pub record IsUnder (sc : Scenario) (f : List ℕ) (w : WorldState) (h : HartNo) (lot : Lot) : Type 0 where
  pub flat : Flatness sc f w
  pub lt : h.0 < length sc.harts
  pub here : In lot (driver_of w h.0).lots
  pub others : All (λ other. is_lot lot.id other ≡ false → IsBeside (driver_of w h.0).fixed lot other) (driver_of w h.0).lots
  pub moves : IsMoving lot.side
  -- the end of its stay is to come
  pub ended : HasEnd lot.id (driver_of w h.0).rest

-- the lot of the step that comes next
pub lends_under : (sc : Scenario) (f : List ℕ) (w : WorldState) (h : HartNo) (o : Op) (s : Step) (rest : List Step) (lot : Lot) (area : Bool) → IsNext sc f w h o s rest → IsInHand (driver_of w h.0).fixed (driver_of w h.0).lots lot area sides.Lending → HasEnd lot.id (s ∷ rest)
    → IsUnder sc f w h lot
lends_under sc f w h o s rest lot area next hand ended = record {
  flat = next.now.flat;
  lt = next.now.there;
  here = hand.here;
  others = hand.others;
  moves = inl hand.side_is;
  ended = subst (λ (r : List Step). HasEnd lot.id r) (sym next.rest_is) ended;
}

pub back_under : (sc : Scenario) (f : List ℕ) (w : WorldState) (h : HartNo) (o : Op) (s : Step) (rest : List Step) (lot : Lot) (area : Bool) → IsNext sc f w h o s rest → IsInHand (driver_of w h.0).fixed (driver_of w h.0).lots lot area sides.Returning → IsUnder sc f w h lot
back_under sc f w h o s rest lot area next hand =
    let d = driver_of w h.0 in
    record {
      flat = next.now.flat;
      lt = next.now.there;
      here = hand.here;
      others = hand.others;
      moves = inr (inl hand.side_is);
      ended = subst (λ (r : List Step). HasEnd lot.id r) (sym next.rest_is) (ends_later d.fixed d.lots (s ∷ rest) lot next.plan hand.here (back_moves d.fixed lot hand.side_is));
    }

pub lent_side : (lot : Lot) → IsMoving lot.side → is_wanted lot.side ≡ false
lent_side lot (inl is) = ap is_wanted is
lent_side lot (inr (inl is)) = ap is_wanted is
lent_side lot (inr (inr is)) = ap is_wanted is

-- ---- the mapping of an entry of it

abbrev pub its_id : HartNo → Lot → ℕ → MapId
its_id h lot i = map_id h lot.id i

abbrev pub its_loan : WorldState → HartNo → Lot → ℕ → Entry → Loan
its_loan w h lot i e = record { grant = grant_of (driver_of w h.0).fixed.slots_at lot (map_id h lot.id i) e; lot = lot.id; area = is_area lot.kind }

-- where the channel sees place x of it
abbrev pub its_place : WorldState → HartNo → Lot → ℕ → Entry → ℕ → ℕ
its_place w h lot i e x = device_place (its_loan w h lot i e) x

pub its_entry : (sc : Scenario) (f : List ℕ) (w : WorldState) (h : HartNo) (lot : Lot) (i : ℕ) (e : Entry) → IsUnder sc f w h lot → slice_get lot.list.entries i ≡ Some e → IsEntryOf (driver_of w h.0).lots lot i e
its_entry sc f w h lot i e u at = record { lot_in = u.here; entry = at }

pub known : (sc : Scenario) (f : List ℕ) (w : WorldState) (h : HartNo) (lot : Lot) (i : ℕ) (e : Entry) → IsUnder sc f w h lot → slice_get lot.list.entries i ≡ Some e → (book_of w).loan (its_id h lot i) ≡ Some (its_loan w h lot i e)
known sc f w h lot i e u at = entry_loan sc f w h.0 lot i e u.flat (its_entry sc f w h lot i e u at) (lent_side lot u.moves)

pub owned : (sc : Scenario) (f : List ℕ) (w : WorldState) (h : HartNo) (lot : Lot) (i : ℕ) (e : Entry) (x : ℕ) → IsUnder sc f w h lot → IsPlace lot i e x → owner_of w x ≡ owner_of_side (its_id h lot i) lot.side
owned sc f w h lot i e x u p = entry_owned sc f w h.0 lot i e x u.flat (its_entry sc f w h lot i e u p.entry) p.on

mapping_by : (n : MapId) (o : Owner) (side : Side) → o ≡ owner_of_side n side → IsMoving side → mapping_in o ≡ Some n
mapping_by n o side owner (inl is) = ap mapping_in (owner ∙ ap (owner_of_side n) is)
mapping_by n o side owner (inr (inl is)) = ap mapping_in (owner ∙ ap (owner_of_side n) is)
mapping_by n o side owner (inr (inr is)) = ap mapping_in (owner ∙ ap (owner_of_side n) is)

pub mapping_of : (sc : Scenario) (f : List ℕ) (w : WorldState) (h : HartNo) (lot : Lot) (i : ℕ) (e : Entry) (x : ℕ) → IsUnder sc f w h lot → IsPlace lot i e x → mapping_in (owner_of w x) ≡ Some (its_id h lot i)
mapping_of sc f w h lot i e x u p = mapping_by (its_id h lot i) (owner_of w x) lot.side (owned sc f w h lot i e x u p) u.moves

pub in_ram : (sc : Scenario) (f : List ℕ) (w : WorldState) (h : HartNo) (lot : Lot) (i : ℕ) (e : Entry) (x : ℕ) → IsUnder sc f w h lot → IsPlace lot i e x → x < sc.ram
in_ram sc f w h lot i e x u p = entry_ram sc f w h.0 lot i e x u.flat (its_entry sc f w h lot i e u p.entry) p.on

pub unslotted : (sc : Scenario) (f : List ℕ) (w : WorldState) (h : HartNo) (lot : Lot) (i : ℕ) (e : Entry) (x : ℕ) → IsUnder sc f w h lot → IsPlace lot i e x → covers (slots_of sc) x ≡ false
unslotted sc f w h lot i e x u p = mapped_unslotted sc f w (its_id h lot i) x u.flat (mapping_of sc f w h lot i e x u p)

-- those of a mapping are none of the coherent pool, and those of an area are its
pub unpooled : (sc : Scenario) (f : List ℕ) (w : WorldState) (h : HartNo) (lot : Lot) (i : ℕ) (e : Entry) (x : ℕ) → IsUnder sc f w h lot → is_area lot.kind ≡ false → IsPlace lot i e x → covers (pool_of sc) x ≡ false
unpooled sc f w h lot i e x u plain p = entry_unpooled sc f w h.0 lot i e x u.flat (its_entry sc f w h lot i e u p.entry) plain p.on

pub pooled : (sc : Scenario) (f : List ℕ) (w : WorldState) (h : HartNo) (lot : Lot) (i : ℕ) (e : Entry) (x : ℕ) → IsUnder sc f w h lot → is_area lot.kind ≡ true → IsPlace lot i e x → covers (pool_of sc) x ≡ true
pooled sc f w h lot i e x u area p = entry_pooled sc f w h.0 lot i e x u.flat (its_entry sc f w h lot i e u p.entry) area p.on

lent_by : (n : MapId) (o : Owner) (side : Side) → o ≡ owner_of_side n side → IsMoving side → (o ≡ Lending n) ⊎ ((o ≡ Device n) ⊎ (o ≡ Returning n))
lent_by n o side owner (inl is) = inl (owner ∙ ap (owner_of_side n) is)
lent_by n o side owner (inr (inl is)) = inr (inr (owner ∙ ap (owner_of_side n) is))
lent_by n o side owner (inr (inr is)) = inr (inl (owner ∙ ap (owner_of_side n) is))

pub seen_its : (sc : Scenario) (f : List ℕ) (w : WorldState) (h : HartNo) (lot : Lot) (i : ℕ) (e : Entry) (x : ℕ) → IsUnder sc f w h lot → IsPlace lot i e x → seen w x ≡ its_place w h lot i e x
seen_its sc f w h lot i e x u p =
    seen_lent w (its_id h lot i) (its_loan w h lot i e) x (known sc f w h lot i e u p.entry) (lent_by (its_id h lot i) (owner_of w x) lot.side (owned sc f w h lot i e x u p) u.moves)

-- the entry of the mapping is the lot's
same_entry : (sc : Scenario) (f : List ℕ) (w : WorldState) (h : HartNo) (lot : Lot) (i : ℕ) (e : Entry) (l : Loan) → IsUnder sc f w h lot → slice_get lot.list.entries i ≡ Some e → (is : IsLoan w (its_id h lot i) l) → is.entry ≡ e
same_entry sc f w h lot i e l u at is =
    let mine : is_entry_of (its_id h lot i) lot ≡ true = own_entry h.0 lot i (get_below lot.list.entries i e at) (lent_side lot u.moves) in
    let same : is.lot ≡ lot = one_of sc f w h.0 (its_id h lot i) is.lot lot u.flat is.here.lot_in u.here is.entry_of mine in
    let first : is.lot.id.first ≡ lot.id.first = ap (λ (k : Lot). k.id.first) same in
    let number : is.i ≡ i = omega (arith, first, is.number) in
    let get : slice_get lot.list.entries i ≡ Some is.entry = subst (λ (j : ℕ). slice_get lot.list.entries j ≡ Some is.entry) number (subst (λ (k : Lot). slice_get k.list.entries is.i ≡ Some is.entry) same is.here.entry) in
    let both : Some is.entry ≡ Some e = sym get ∙ at in
    cc

-- the channel sees its places in their place, or in the slot of an entry that bounces
pub ways : (sc : Scenario) (f : List ℕ) (w : WorldState) (h : HartNo) (lot : Lot) (i : ℕ) (e : Entry) (x : ℕ) → IsUnder sc f w h lot → IsPlace lot i e x
    → ((its_place w h lot i e x ≡ x) × (e.bounced ≡ false)) ⊎ ((covers (slots_of sc) (its_place w h lot i e x) ≡ true) × (e.bounced ≡ true))
ways sc f w h lot i e x u p =
    let n = its_id h lot i in
    let at = mapped sc f w n x u.flat (in_ram sc f w h lot i e x u p) (mapping_of sc f w h lot i e x u p) in
    let loan : at.loan ≡ its_loan w h lot i e = let both = sym at.known ∙ known sc f w h lot i e u p.entry in cc in
    let entry : at.is.entry ≡ e = same_entry sc f w h lot i e at.loan u p.entry at.is in
    elim (place_ways sc f w n x u.flat at) [
      | inl same ↦ inl (sym (ap (λ (l : Loan). device_place l x) loan) ∙ same.0, sym (ap (λ (d : Entry). d.bounced) entry) ∙ same.1)
      | inr slot ↦ inr (sym (ap (λ (l : Loan). covers (slots_of sc) (device_place l x)) loan) ∙ slot.0, sym (ap (λ (d : Entry). d.bounced) entry) ∙ slot.1)
    ]

-- so none of them is seen in the coherent pool
pub device_unpooled : (sc : Scenario) (f : List ℕ) (w : WorldState) (h : HartNo) (lot : Lot) (i : ℕ) (e : Entry) (x : ℕ) → IsUnder sc f w h lot → is_area lot.kind ≡ false → IsPlace lot i e x → covers (pool_of sc) (its_place w h lot i e x) ≡ false
device_unpooled sc f w h lot i e x u plain p = elim (ways sc f w h lot i e x u p) [
  | inl direct ↦ ap (covers (pool_of sc)) direct.0 ∙ unpooled sc f w h lot i e x u plain p
  | inr slot ↦ slot_unpooled sc f w (its_place w h lot i e x) u.flat slot.0
]

-- an area's are seen in their place
pub area_place : (sc : Scenario) (f : List ℕ) (w : WorldState) (h : HartNo) (lot : Lot) (i : ℕ) (e : Entry) (x : ℕ) → IsUnder sc f w h lot → is_area lot.kind ≡ true → IsPlace lot i e x → its_place w h lot i e x ≡ x
area_place sc f w h lot i e x u area p = elim (ways sc f w h lot i e x u p) [
  | inl direct ↦ direct.0
  | inr slot ↦ absurd (both_ways e.bounced (area_direct sc f w h.0 lot i e u.flat (its_entry sc f w h lot i e u p.entry) area) slot.1)
]

-- ---- the places beside

-- the lot in hand has its own name
pub far_lot : (lot other : Lot) → is_lot lot.id other ≡ false → other ≡ lot → ⊥
far_lot lot other off one = both_ways (is_lot lot.id other) off (subst (λ (l : Lot). is_lot lot.id l ≡ true) (sym one) (its_name lot lot.id refl))

-- a place of another lot of the hart
pub record IsOther (w : WorldState) (h : HartNo) (lot : Lot) (k : MapId) (x : ℕ) : Type 0 where
  pub at : IsMapped w k x
  pub here : In at.is.lot (driver_of w h.0).lots
  pub off : is_lot lot.id at.is.lot ≡ false
  pub way : IsBeside (driver_of w h.0).fixed lot at.is.lot

pub beside : (sc : Scenario) (f : List ℕ) (w : WorldState) (h : HartNo) (lot : Lot) (k : MapId) (x : ℕ) → IsUnder sc f w h lot → x < sc.ram → IsOff lot x → mapping_in (owner_of w x) ≡ Some k → k.hart.0 ≡ h.0 → IsOther w h lot k x
beside sc f w h lot k x u there off is own =
    let at = mapped sc f w k x u.flat there is in
    let other = at.is.lot in
    let here : In other (driver_of w h.0).lots = subst (λ (g : ℕ). In other (driver_of w g).lots) own at.is.here.lot_in in
    let far : is_lot lot.id other ≡ false = elim (cases_Bool (is_lot lot.id other)) [
      | inl named ↦
          let same : other ≡ lot = one_lot sc f w h.0 other lot u.flat here u.here (named_so other lot.id named) in
          let get : slice_get lot.list.entries at.is.i ≡ Some at.is.entry = subst (λ (l : Lot). slice_get l.list.entries at.is.i ≡ Some at.is.entry) same at.is.here.entry in
          absurd (off at.is.i at.is.entry (record { entry = get; on = of_buffer w k at.loan x at.is at.on }))
      | inr far ↦ far
    ] in
    record { at = at; here = here; off = far; way = all_at (λ other. is_lot lot.id other ≡ false → IsBeside (driver_of w h.0).fixed lot other) (driver_of w h.0).lots other u.others here far }

-- its mapping is no entry of the lot
pub far_entry : (sc : Scenario) (f : List ℕ) (w : WorldState) (h : HartNo) (lot : Lot) (k : MapId) (x : ℕ) → IsUnder sc f w h lot → IsOther w h lot k x → is_entry_of k lot ≡ false
far_entry sc f w h lot k x u o = apart_lots sc f w h.0 k lot o.at.is.lot u.flat u.here o.here o.off o.at.is.entry_of

-- ---- what goes along beside it: the other end of a copy, while both are being lent

-- the end of its stay is to come too
pub record WaitsAt (w : WorldState) (h : HartNo) (lot : Lot) (x : ℕ) : Type 0 where
  pub id : MapId
  pub mapped : mapping_in (owner_of w x) ≡ Some id
  pub own : id.hart.0 ≡ h.0
  pub other : IsOther w h lot id x
  pub lends : other.at.is.lot.side ≡ sides.Lending
  pub plain : is_area other.at.is.lot.kind ≡ false
  pub later : HasEnd other.at.is.lot.id (driver_of w h.0).rest
  -- the lot in hand is an end of the copy
  pub label : lot.id.label.0 ≡ 1000

-- the mapping is of a lot that is being lent, and the end of its stay is to come
abbrev goes_along : List Step → MapId → Lot → Bool
goes_along rest k lot = is_lending_side lot.side && (is_entry_of k lot && list_any (ends lot.id) rest)

-- such a mapping goes along
abbrev pub along : WorldState → HartNo → MapId → Bool
along w h k = list_any (goes_along (driver_of w h.0).rest k) (driver_of w h.0).lots

-- all else beside it is still
abbrev pub StillAt : WorldState → HartNo → Lot → ℕ → Type 0
StillAt w h lot x = (k : MapId) → mapping_in (owner_of w x) ≡ Some k → k.hart.0 ≡ h.0 → (o : IsOther w h lot k x) × IsStill (driver_of w h.0).fixed o.at.is.lot × (along w h k ≡ false)

lending_so : (side : Side) → is_lending_side side ≡ true → side ≡ sides.Lending
lending_so sides.Lending is = refl
lending_so sides.Wanted is = absurd cc
lending_so sides.Device is = absurd cc
lending_so sides.Returning is = absurd cc
lending_so sides.Synced is = absurd cc
lending_so sides.Own is = absurd cc

any_here : (p : Lot → Bool) (lots : List Lot) (lot : Lot) → In lot lots → p lot ≡ true → list_any p lots ≡ true
any_here p [] lot here is = absurd here
any_here p (x ∷ lots) lot (inl same) is = or_left (p x) (list_any p lots) (ap p same ∙ is)
any_here p (x ∷ lots) lot (inr here) is = or_right (p x) (list_any p lots) (any_here p lots lot here is)

-- an end of a copy
end_label : (id : LotId) → IsEndName id → id.label.0 ≡ 1000
end_label id (inl is) = ap (λ (j : LotId). j.label.0) is
end_label id (inr is) = ap (λ (j : LotId). j.label.0) is

-- is no area
area_label : (pool : Span) (k : Kind) (id : LotId) (es : List Entry) → is_area k ≡ true → FitsKind pool k id es → id.label.0 ≡ 1000 → ⊥
area_label pool kinds.Single id es area fits label = absurd cc
area_label pool kinds.List id es area fits label = absurd cc
area_label pool kinds.Area id es area fits label = omega (arith, fits.0.label, label)
area_label pool kinds.Copy id es area fits label = absurd cc

end_plain : (sc : Scenario) (f : List ℕ) (w : WorldState) (h : ℕ) (lot : Lot) → Flatness sc f w → In lot (driver_of w h).lots → lot.id.label.0 ≡ 1000 → is_area lot.kind ≡ false
end_plain sc f w h lot flat here label =
    false_from_ne_true (is_area lot.kind) (λ area. area_label (driver_of w h).fixed.pool lot.kind lot.id lot.list.entries area (lot_in sc f w h lot flat here).kind label)

pub along_waits : (sc : Scenario) (f : List ℕ) (w : WorldState) (h : HartNo) (lot : Lot) (k : MapId) (x : ℕ) → IsUnder sc f w h lot → x < sc.ram → IsOff lot x → mapping_in (owner_of w x) ≡ Some k → k.hart.0 ≡ h.0 → along w h k ≡ true → WaitsAt w h lot x
along_waits sc f w h lot k x u there off is own goes =
    let d = driver_of w h.0 in
    let some = any_in (goes_along d.rest k) d.lots goes in
    let lent = and_parts (is_lending_side some.0.side) (is_entry_of k some.0 && list_any (ends some.0.id) d.rest) some.2 in
    let both = and_parts (is_entry_of k some.0) (list_any (ends some.0.id) d.rest) lent.1 in
    let o = beside sc f w h lot k x u there off is own in
    let it = o.at.is.lot in
    let same : some.0 ≡ it = one_of sc f w h.0 k some.0 it u.flat some.1 o.here both.0 o.at.is.entry_of in
    let side : it.side ≡ sides.Lending = ap (λ (l : Lot). l.side) (sym same) ∙ lending_so some.0.side lent.0 in
    let later : HasEnd it.id d.rest = subst (λ (l : Lot). HasEnd l.id d.rest) same both.1 in
    elim (cases_Bool d.fixed.light) [
      | inl light ↦
          let plan = at_plan d lot.id (u.flat.bytes.drives h.0 u.lt) u.ended in
          let ends_both = ends_two d.rest lot.id it.id (plan.left.one light) u.ended later (λ named. far_lot lot it o.off (one_lot sc f w h.0 it lot u.flat o.here u.here (sym named))) in
          record { id = k; mapped = is; own = own; other = o; lends = side; plain = end_plain sc f w h.0 it u.flat o.here (end_label it.id ends_both.1); later = later; label = end_label lot.id ends_both.0 }
      | inr full ↦ elim o.way [
        | inl still ↦ absurd (lend_moves d.fixed it side full still)
        | inr waits ↦ record { id = k; mapped = is; own = own; other = o; lends = side; plain = ap is_area waits.kind; later = later; label = ap (λ (id : LotId). id.label.0) waits.source_is }
      ]
    ]

-- one that is being lent and does not go along has nothing to come
pub along_unended : (w : WorldState) (h : HartNo) (k : MapId) (lot : Lot) → In lot (driver_of w h.0).lots → is_entry_of k lot ≡ true → lot.side ≡ sides.Lending → along w h k ≡ false → list_any (ends lot.id) (driver_of w h.0).rest ≡ false
along_unended w h k lot here entry side none =
    let d = driver_of w h.0 in
    let later = list_any (ends lot.id) d.rest in
    false_from_ne_true later (λ on.
    let goes : goes_along d.rest k lot ≡ true = and_from (is_lending_side lot.side) (is_entry_of k lot && later) (ap is_lending_side side) (and_from (is_entry_of k lot) later entry on) in
    both_ways (along w h k) none (any_here (goes_along d.rest k) d.lots lot here goes))

pub still_other : (sc : Scenario) (f : List ℕ) (w : WorldState) (h : HartNo) (lot : Lot) (k : MapId) (x : ℕ) → IsUnder sc f w h lot → (o : IsOther w h lot k x) → along w h k ≡ false → IsStill (driver_of w h.0).fixed o.at.is.lot
still_other sc f w h lot k x u o none =
    let d = driver_of w h.0 in
    let it = o.at.is.lot in
    elim o.way [
      | inl still ↦ still
      | inr waits ↦ elim (cases_Bool d.fixed.light) [
        | inl light ↦ StillSent waits.waits light
        | inr full ↦
            let plan = at_plan d lot.id (u.flat.bytes.drives h.0 u.lt) u.ended in
            let later : HasEnd it.id d.rest = ends_later d.fixed d.lots d.rest it plan.left.goes o.here (lend_moves d.fixed it waits.waits full) in
            absurd (both_ways (list_any (ends it.id) d.rest) (along_unended w h k it o.here o.at.is.entry_of waits.waits none) later)
      ]
    ]

pub along_still : (sc : Scenario) (f : List ℕ) (w : WorldState) (h : HartNo) (lot : Lot) (x : ℕ) → IsUnder sc f w h lot → x < sc.ram → IsOff lot x → ((k : MapId) → mapping_in (owner_of w x) ≡ Some k → k.hart.0 ≡ h.0 → along w h k ≡ false) → StillAt w h lot x
along_still sc f w h lot x u there off none k is own =
    let o = beside sc f w h lot k x u there off is own in
    (o, still_other sc f w h lot k x u o (none k is own), none k is own)

-- it has another name
pub waits_far : (sc : Scenario) (f : List ℕ) (w : WorldState) (h : HartNo) (lot : Lot) (x : ℕ) → IsUnder sc f w h lot → (at : WaitsAt w h lot x) → same_lot at.other.at.is.lot.id lot.id ≡ false
waits_far sc f w h lot x u at =
    let it = at.other.at.is.lot in
    false_from_ne_true (same_lot it.id lot.id) (λ same. far_lot lot it at.other.off (one_lot sc f w h.0 it lot u.flat at.other.here u.here (turn_name it.id lot.id same)))

-- none goes along with an area
pub area_named : (sc : Scenario) (f : List ℕ) (w : WorldState) (h : HartNo) (lot : Lot) → IsUnder sc f w h lot → is_area lot.kind ≡ true → lot.id.label.0 ≡ 1000 → ⊥
area_named sc f w h lot u area label = both_ways (is_area lot.kind) (end_plain sc f w h.0 lot u.flat u.here label) area

pub area_alone : (sc : Scenario) (f : List ℕ) (w : WorldState) (h : HartNo) (lot : Lot) (x : ℕ) → IsUnder sc f w h lot → is_area lot.kind ≡ true → WaitsAt w h lot x → ⊥
area_alone sc f w h lot x u area at = area_named sc f w h lot u area at.label
