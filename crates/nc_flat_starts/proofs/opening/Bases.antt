-- The lots of a hart just before a turn of one of them: those that it has, with those that its operation made and the slots
-- that they got.
use Rattle.std.specs.Prelude.{Option, Some, None, All, ◌&&◌, ◌==◌, ◌+◌, ◌*◌, ◌%◌, not, is_none, unwrap_or, Bool, true, false, slice_get}
use Rattle.std.proofs.Common.{◌≡◌, ◌⊎◌, ℕ, ◌<◌, ◌≤◌, List, [], length, refl, sym, ap, ◌∙◌, inl, inr, subst, arith}
use Rattle.std.proofs.lemmas.Bool.{and_parts, cases_Bool, cases_eq, both_ways, cond-true, cond-false, eq-eqb, eqb-true, false_from_ne_true}
use Rattle.nc_num.specs.Places.{covers}
use Rattle.nc_num.specs.Sizes.{IsBlockSize}
use Rattle.nc_num.specs.declared.names.HartNo.{HartNo}
use Rattle.nc_num.specs.declared.names.Label.{Label}
use Rattle.nc_num.specs.declared.names.MapId.{MapId}
use Rattle.nc_num.specs.declared.places.Span.{Span}
use Rattle.nc_model.proofs.Faults.{covers-from, covers-low, covers-high}
use Rattle.nc_plan.specs.Parts.{in_slot}
use Rattle.nc_plan.specs.Plans.{In}
use Rattle.nc_plan.proofs.PlanLaws.{in_its_slot}
use Rattle.nc_scen.specs.Regions.{slots_of, pool_of}
use Rattle.nc_scen.specs.declared.scenario.Scenario.{Scenario}
use Rattle.nc_sg.specs.Lists as sg
use Rattle.nc_sg.specs.declared.list.Entry.{Entry}
use Rattle.nc_rules.specs.declared.lots.Kind.{Kind}
use Rattle.nc_rules.specs.declared.lots.Kind.TheVariants as kinds
use Rattle.nc_rules.specs.declared.lots.Lot.{Lot}
use Rattle.nc_rules.specs.declared.lots.LotId.{LotId}
use Rattle.nc_rules.specs.declared.lots.Side.TheVariants as sides
use Rattle.nc_rules.specs.Lots.{DriverConfig, is_named, is_labelled, is_wanted, map_id, owner_of_side, same_kind, lot_waits}
use Rattle.nc_rules.specs.Turns.{is_area}
use Rattle.nc_rules.specs.Start.{fixed_of, hart_spec}
use Rattle.nc_rules.specs.World.{WorldState, driver_of, hart}
use Rattle.nc_scripts.specs.Drivers.{FitsKind, IsEntryIn, IsLotIn, AreApart}
use Rattle.nc_scripts.proofs.Lists.{none_any, position_any}
use Rattle.nc_holds.specs.Held.{Held, FitsSide, LiesInBuffer, slots_span}
use Rattle.nc_holds.specs.Holds.{held_of}
use Rattle.nc_holds.proofs.events.From.{EveryoneIn}
use Rattle.nc_holds.proofs.grants.Words.{slot_once, slot_holder, slot_harts}
use Rattle.nc_holds.proofs.lists.Members.{all_at, at_get, none_of, get_at}
use Rattle.nc_holds.proofs.owners.Lots.{same_lot, entry_in, area_direct}
use Rattle.nc_rules.specs.EventTouches.{owner_of}
use Rattle.nc_model.specs.declared.owners.Owner.{Owner}
use Rattle.nc_rows.specs.Laws.{seen_at}
use Rattle.nc_rows.specs.Rows.{device_place}
use Rattle.nc_flatness.specs.Books.{loan_of, book_of}
use Rattle.nc_flatness.specs.Flatness.{IsMapping, IsUnseen, Flatness}
use Rattle.nc_flatness.proofs.books.Seen.{slot_at, seen, seen_ways, slot_slots, has_slot, of_device}
use Rattle.nc_flatness.specs.Plans.{IsStill}
use Rattle.nc_flat_starts.proofs.turning.Lots.{loan_in, names_entry, entry_one}
use Rattle.nc_flat_starts.proofs.going.PlanOps.{IsPlanned}
use Rattle.nc_flat_starts.proofs.turning.Sides.{Others}
use Rattle.nc_flat_starts.proofs.opening.Tokens.{AreKept, WereLent}

-- what the hart holds with these lots and slot words
abbrev pub with_these : WorldState → ℕ → List Lot → List (Option HartNo) → Held
with_these w h lots slots = record (held_of w h) { lots = lots; slots = slots }

pub record IsBase (sc : Scenario) (f : List ℕ) (w : WorldState) (h : HartNo) (lots : List Lot) (lot : Lot) : Type 0 where
  pub flat : Flatness sc f w
  pub lt : h.0 < length sc.harts
  pub slots : List (Option HartNo)
  pub each : EveryoneIn w h.0 (with_these w h.0 lots slots)
  pub mappings : All IsMapping lots
  pub here : In lot lots
  pub placed : lot_waits lot ≡ false
  -- mappings are as they are
  pub loans : (k : MapId) → loan_in (driver_of w h.0).fixed lots k ≡ loan_of (driver_of w h.0) k
  -- a lot that is lent, or was, is one of them
  pub kept : AreKept w h lots
  -- and one that is being lent was there
  pub lent : WereLent w h lots
  pub others : Others (IsStill (driver_of w h.0).fixed) lot.id lots
  -- no plan is left
  pub idle : (driver_of w h.0).rest ≡ []

-- ---- kinds

pub kind_is : (a b : Kind) → same_kind a b ≡ true → b ≡ a
kind_is kinds.Single kinds.Single e = refl
kind_is kinds.List kinds.List e = refl
kind_is kinds.Area kinds.Area e = refl
kind_is kinds.Copy kinds.Copy e = refl
kind_is kinds.Single kinds.List e = absurd cc
kind_is kinds.Single kinds.Area e = absurd cc
kind_is kinds.Single kinds.Copy e = absurd cc
kind_is kinds.List kinds.Single e = absurd cc
kind_is kinds.List kinds.Area e = absurd cc
kind_is kinds.List kinds.Copy e = absurd cc
kind_is kinds.Area kinds.Single e = absurd cc
kind_is kinds.Area kinds.List e = absurd cc
kind_is kinds.Area kinds.Copy e = absurd cc
kind_is kinds.Copy kinds.Single e = absurd cc
kind_is kinds.Copy kinds.List e = absurd cc
kind_is kinds.Copy kinds.Area e = absurd cc

-- what a script names begins with entry 0
named_first : (pool : Span) (kind : Kind) (id : LotId) (es : List Entry) → same_kind kinds.Copy kind ≡ false → FitsKind pool kind id es → id.first ≡ 0
named_first pool kinds.Single id es plain fits = fits.0.first
named_first pool kinds.List id es plain fits = fits.0.first
named_first pool kinds.Area id es plain fits = fits.0.first
named_first pool kinds.Copy id es plain fits = absurd cc

name_is : (a b : LotId) → a.label.0 ≡ b.label.0 → a.first ≡ b.first → a ≡ b
name_is a b label first i = record { label = record { 0 = label i }; first = first i }

-- those of one label and one kind, which is no end of a copy, are one
pub label_one : (ram : ℕ) (f : DriverConfig) (lots : List Lot) (a b : Lot) (label : Label) (kind : Kind) → All (IsLotIn ram f) lots → AreApart lots → same_kind kinds.Copy kind ≡ false → In a lots → In b lots → is_named label kind a ≡ true → is_named label kind b ≡ true → a ≡ b
label_one ram f lots a b label kind all apart plain here there is too =
    let its : (l : Lot) → is_named label kind l ≡ true → (l.id.label.0 ≡ label.0) × (l.kind ≡ kind) =
    λ l k. let both = and_parts (is_labelled label l) (same_kind kind l.kind) k in (eqb-true l.id.label.0 label.0 both.0, kind_is kind l.kind both.1) in
    let first : (l : Lot) → In l lots → is_named label kind l ≡ true → l.id.first ≡ 0 =
    λ l k named. named_first f.pool l.kind l.id l.list.entries (ap (same_kind kinds.Copy) (its l named).1 ∙ plain) (all_at (IsLotIn ram f) lots l all k).kind in
    same_lot lots a b apart here there (name_is a.id b.id ((its a is).0 ∙ sym (its b too).0) (first a here is ∙ sym (first b there too)))

-- ---- the base

pub fixed_is : (sc : Scenario) (f : List ℕ) (w : WorldState) (h : HartNo) → Flatness sc f w → h.0 < length sc.harts → (driver_of w h.0).fixed ≡ fixed_of sc (hart h.0) (hart_spec sc h.0)
fixed_is sc f w h flat lt = flat.world.fixed h.0 lt

pub me_of : (w : WorldState) (h : HartNo) → (driver_of w h.0).fixed.me.0 ≡ h.0 → (driver_of w h.0).fixed.me ≡ h
me_of w h e i = record { 0 = e i }

-- a lot of these, each entry of which that bounces has its slot
pub record IsMember (sc : Scenario) (f : List ℕ) (w : WorldState) (h : HartNo) (lots : List Lot) (lot : Lot) : Type 0 where
  pub flat : Flatness sc f w
  pub lt : h.0 < length sc.harts
  pub slots : List (Option HartNo)
  pub each : EveryoneIn w h.0 (with_these w h.0 lots slots)
  pub here : In lot lots
  pub placed : lot_waits lot ≡ false

pub member_of : (sc : Scenario) (f : List ℕ) (w : WorldState) (h : HartNo) (lots : List Lot) (lot : Lot) → IsBase sc f w h lots lot → IsMember sc f w h lots lot
member_of sc f w h lots lot b = record { flat = b.flat; lt = b.lt; slots = b.slots; each = b.each; here = b.here; placed = b.placed }

pub member_lot : (sc : Scenario) (f : List ℕ) (w : WorldState) (h : HartNo) (lots : List Lot) (lot : Lot) → IsMember sc f w h lots lot → IsLotIn (length w.machine.cache.ram) (driver_of w h.0).fixed lot
member_lot sc f w h lots lot b = all_at (IsLotIn (length w.machine.cache.ram) (driver_of w h.0).fixed) lots lot b.each.knows.lots b.here

pub member_lies : (sc : Scenario) (f : List ℕ) (w : WorldState) (h : HartNo) (lots : List Lot) (lot : Lot) (i : ℕ) (e : Entry) → IsMember sc f w h lots lot → is_area lot.kind ≡ false → slice_get lot.list.entries i ≡ Some e → LiesInBuffer (driver_of w h.0).fixed e.span
member_lies sc f w h lots lot i e b plain there =
    all_at (λ (d : Entry). LiesInBuffer (driver_of w h.0).fixed d.span) lot.list.entries e ((all_at (FitsSide (driver_of w h.0).fixed) lots lot b.each.mine.sides b.here).in_buffer plain) (at_get lot.list.entries i e there)

pub base_lot : (sc : Scenario) (f : List ℕ) (w : WorldState) (h : HartNo) (lots : List Lot) (lot : Lot) → IsBase sc f w h lots lot → IsLotIn (length w.machine.cache.ram) (driver_of w h.0).fixed lot
base_lot sc f w h lots lot b = member_lot sc f w h lots lot (member_of sc f w h lots lot b)

-- none of its bytes is the pool's or a slot's
pub member_beside : (sc : Scenario) (f : List ℕ) (w : WorldState) (h : HartNo) (lots : List Lot) (lot : Lot) (i : ℕ) (e : Entry) (x : ℕ) → IsMember sc f w h lots lot → is_area lot.kind ≡ false → slice_get lot.list.entries i ≡ Some e → covers e.span x ≡ true
    → (covers (pool_of sc) x ≡ false) × (covers (slots_of sc) x ≡ false)
member_beside sc f w h lots lot i e x b plain there on =
    let fx = (driver_of w h.0).fixed in
    let lies = member_lies sc f w h lots lot i e b plain there in
    let same = fixed_is sc f w h b.flat b.lt in
    let pool : fx.pool ≡ pool_of sc = ap (λ (k : DriverConfig). k.pool) same in
    let slots : slots_span fx ≡ slots_of sc = ap (λ (k : DriverConfig). slots_span k) same in (
      false_from_ne_true (covers (pool_of sc) x) (λ over. b.each.knows.regions.buffers_off_pool lies.0 x (lies.1 x on) (subst (λ (s : Span). covers s x ≡ true) (sym pool) over)),
      false_from_ne_true (covers (slots_of sc) x) (λ over. b.each.knows.regions.buffers_off_slots lies.0 x (lies.1 x on) (subst (λ (s : Span). covers s x ≡ true) (sym slots) over)),
    )

pub base_beside : (sc : Scenario) (f : List ℕ) (w : WorldState) (h : HartNo) (lots : List Lot) (lot : Lot) (i : ℕ) (e : Entry) (x : ℕ) → IsBase sc f w h lots lot → is_area lot.kind ≡ false → slice_get lot.list.entries i ≡ Some e → covers e.span x ≡ true
    → (covers (pool_of sc) x ≡ false) × (covers (slots_of sc) x ≡ false)
base_beside sc f w h lots lot i e x b plain there on = member_beside sc f w h lots lot i e x (member_of sc f w h lots lot b) plain there on

-- its owner is its hart, where it is not lent yet, or the mapping says it
pub member_owner : (sc : Scenario) (f : List ℕ) (w : WorldState) (h : HartNo) (lots : List Lot) (lot : Lot) (i : ℕ) (e : Entry) (x : ℕ) → IsMember sc f w h lots lot → slice_get lot.list.entries i ≡ Some e → covers e.span x ≡ true → owner_of w x ≡ owner_of_side (map_id h lot.id i) lot.side
member_owner sc f w h lots lot i e x b there on = b.each.mine.owners lot i e x (record { lot_in = b.here; entry = there }) on ∙ ap (λ (me : HartNo). owner_of_side (map_id me lot.id i) lot.side) (me_of w h b.each.me)

-- ---- its slots

pub waits_not : (lot : Lot) (i : ℕ) (e : Entry) → lot_waits lot ≡ false → slice_get lot.list.entries i ≡ Some e → sg.waits e ≡ false
waits_not lot i e placed there =
    all_at (λ (d : Entry). sg.waits d ≡ false) lot.list.entries e (none_any sg.waits lot.list.entries (sym (position_any sg.waits lot.list.entries) ∙ placed)) (at_get lot.list.entries i e there)

slot_by : (b : Bool) (o : Option ℕ) → (b && is_none o) ≡ false → b ≡ true → (k : ℕ) × (o ≡ Some k)
slot_by true None placed is = absurd cc
slot_by true (Some k) placed is = (k, refl)
slot_by false o placed is = absurd cc

pub slot_in : (e : Entry) → sg.waits e ≡ false → e.bounced ≡ true → (k : ℕ) × (e.slot ≡ Some k)
slot_in e placed is = slot_by e.bounced e.slot placed is

-- an area waits for none
pub area_placed : (ram : ℕ) (f : DriverConfig) (lot : Lot) → IsLotIn ram f lot → is_area lot.kind ≡ true → lot_waits lot ≡ false
area_placed ram f lot is area = position_any sg.waits lot.list.entries ∙ none_of sg.waits lot.list.entries (λ e here. let at = get_at lot.list.entries e here in rw (area_direct ram f lot at.0 e is area at.1) refl)

-- what bounces lies in its slot
pub record IsInSlot (f : DriverConfig) (e : Entry) (k : ℕ) : Type 0 where
  pub low : f.slots_at + 2048 * k ≤ (sg.device f.slots_at e).at
  pub high : (sg.device f.slots_at e).at + e.span.len ≤ f.slots_at + 2048 * k + 2048
  pub few : k < f.slots
  pub long : (sg.device f.slots_at e).len ≡ e.span.len

pub in_slot_so : (ram : ℕ) (f : DriverConfig) (e : Entry) (k : ℕ) → f.slots_at % 2048 ≡ 0 → IsEntryIn ram f.slots e → e.bounced ≡ true → e.slot ≡ Some k → IsInSlot f e k
in_slot_so ram f e k whole is bounced slot =
    let device : sg.device f.slots_at e ≡ in_slot (f.slots_at + 2048 * k) e.span = cond-true e.bounced _ e.span bounced ∙ ap (λ (o : Option ℕ). in_slot (f.slots_at + 2048 * unwrap_or o 0) e.span) slot in
    let at : (sg.device f.slots_at e).at ≡ (in_slot (f.slots_at + 2048 * k) e.span).at = ap (λ (s : Span). s.at) device in
    let lies = in_its_slot (f.slots_at + 2048 * k) e.span (omega arith) (is.small bounced) in
    record { low = omega (arith, at, lies.starts); high = omega (arith, at, lies.ends, lies.length); few = (is.slot k slot).few; long = ap (λ (s : Span). s.len) device }

pub one_word : (at k j x : ℕ) → at + 2048 * k ≤ x → x < at + 2048 * k + 2048 → at + 2048 * j ≤ x → x < at + 2048 * j + 2048 → k ≡ j
one_word at k j x a b c d = omega arith

-- ---- what its plans need

direct_off : (f : DriverConfig) (e : Entry) → e.bounced ≡ false → not (e.span.at == (sg.device f.slots_at e).at) ≡ false
direct_off f e off = ap not (eq-eqb e.span.at (sg.device f.slots_at e).at (sym (ap (λ (s : Span). s.at) (cond-false e.bounced _ e.span off))))

slotted_off : (f : DriverConfig) (e : Entry) → (e.span.at ≡ (sg.device f.slots_at e).at → ⊥) → not (e.span.at == (sg.device f.slots_at e).at) ≡ true
slotted_off f e apart = ap not (false_from_ne_true (e.span.at == (sg.device f.slots_at e).at) (λ is. apart (eqb-true e.span.at (sg.device f.slots_at e).at is)))

pub member_planned : (sc : Scenario) (f : List ℕ) (w : WorldState) (h : HartNo) (lots : List Lot) (lot : Lot) → IsMember sc f w h lots lot → is_area lot.kind ≡ false → IsPlanned (driver_of w h.0).fixed lot
member_planned sc f w h lots lot b plain =
    let fx = (driver_of w h.0).fixed in
    let ram = length w.machine.cache.ram in
    let s = with_these w h.0 lots b.slots in
    let is_in = member_lot sc f w h lots lot b in
    let size : IsBlockSize fx.size = b.each.knows.fixed.sized in
    record {
      size = size;
      some = λ i e there. (entry_in ram fx lot i e is_in there).range.some;
      off = λ i e there. elim (cases_Bool e.bounced) [
        | inl bounced ↦
            let slot = slot_in e (waits_not lot i e b.placed there) bounced in
            let entry = entry_in ram fx lot i e is_in there in
            let k = in_slot_so ram fx e slot.0 b.each.knows.fixed.slots_whole entry bounced slot.1 in
            let lies = member_lies sc f w h lots lot i e b plain there in
            slotted_off fx e
            (λ same. b.each.knows.regions.buffers_off_slots lies.0 e.span.at (lies.1 e.span.at (covers-from e.span e.span.at (omega arith) (omega (arith, entry.range.some))))
            (covers-from (slots_span fx) e.span.at (omega (arith, same, k.low)) (omega (arith, same, k.high, k.few, entry.range.some)))) ∙ sym bounced
        | inr off ↦ direct_off fx e off ∙ sym off
      ];
      slots = λ i j d e ne at_i at_j db eb x on_d on_e.
          let kd = slot_in d (waits_not lot i d b.placed at_i) db in
          let ke = slot_in e (waits_not lot j e b.placed at_j) eb in
          let in_d = in_slot_so ram fx d kd.0 b.each.knows.fixed.slots_whole (entry_in ram fx lot i d is_in at_i) db kd.1 in
          let in_e = in_slot_so ram fx e ke.0 b.each.knows.fixed.slots_whole (entry_in ram fx lot j e is_in at_j) eb ke.1 in
          let same = one_word fx.slots_at kd.0 ke.0 x (omega (arith, in_d.low, covers-low (sg.device fx.slots_at d) x on_d)) (omega (arith, in_d.high, in_d.long, covers-high (sg.device fx.slots_at d) x on_d))
          (omega (arith, in_e.low, covers-low (sg.device fx.slots_at e) x on_e)) (omega (arith, in_e.high, in_e.long, covers-high (sg.device fx.slots_at e) x on_e)) in
          ne (slot_once fx.me b.slots lots kd.0 lot lot i j d e b.each.words (record { lot_in = b.here; entry = at_i }) (record { lot_in = b.here; entry = at_j }) kd.1 (subst (λ (k : ℕ). e.slot ≡ Some k) (sym same) ke.1)).entry;
      buffers = λ i j d e ne at_i at_j db eb x on_d on_e. ne (b.each.mine.apart lot lot i j d e x (record { lot_in = b.here; entry = at_i }) (record { lot_in = b.here; entry = at_j }) on_d on_e).entry;
    }

pub base_planned : (sc : Scenario) (f : List ℕ) (w : WorldState) (h : HartNo) (lots : List Lot) (lot : Lot) → IsBase sc f w h lots lot → is_area lot.kind ≡ false → IsPlanned (driver_of w h.0).fixed lot
base_planned sc f w h lots lot b plain = member_planned sc f w h lots lot (member_of sc f w h lots lot b) plain

-- ---- the lots that it had

-- one that has a mapping of the lot is the lot
pub base_entry : (sc : Scenario) (f : List ℕ) (w : WorldState) (h : HartNo) (lots : List Lot) (lot other : Lot) (n : MapId) → IsBase sc f w h lots lot → In other lots → names_entry n other ≡ true → names_entry n lot ≡ true → other ≡ lot
base_entry sc f w h lots lot other n b there is too = entry_one (length w.machine.cache.ram) (driver_of w h.0).fixed lots other lot n b.each.knows.lots b.each.knows.names there b.here is too

-- a place that is seen in a slot is not of the slot of a lot that waits, or is synced
pub member_unseen : (sc : Scenario) (f : List ℕ) (w : WorldState) (h : HartNo) (lots : List Lot) (lot : Lot) (i : ℕ) (e : Entry) (k z : ℕ) → IsMember sc f w h lots lot → AreKept w h lots → slice_get lot.list.entries i ≡ Some e → (lot.side ≡ sides.Wanted) ⊎ (lot.side ≡ sides.Synced) → e.bounced ≡ true → e.slot ≡ Some k
    → covers (slot_at sc k) z ≡ true → IsUnseen (book_of w) (owner_of w) (slots_of sc) z
member_unseen sc f w h lots lot i e k z b all_kept there side bounced slot on x off same =
    let fx = (driver_of w h.0).fixed in
    let few : k < sc.slots = subst (λ (n : ℕ). k < n) (ap (λ (j : DriverConfig). j.slots) (fixed_is sc f w h b.flat b.lt)) ((entry_in (length w.machine.cache.ram) fx lot i e (member_lot sc f w h lots lot b) there).slot k slot).few in
    let never : seen w x ≡ x → ⊥ = λ at. both_ways (covers (slots_of sc) x) off (ap (covers (slots_of sc)) (sym at ∙ same) ∙ slot_slots sc k z few on) in
    elim (seen_ways sc f w x b.flat) [
      | inl at ↦ never at
      | inr p ↦
          let m = p.is.is in
          let its = has_slot sc f w p.id.hart.0 m.lot m.i m.entry b.flat m.here m.lent p.bounced in
          let inside = subst (λ (y : ℕ). covers (slot_at sc its.k) y ≡ true) (sym p.here ∙ same) (its.inside (device_place p.is.loan x) (of_device w p.id p.is.loan x m p.is.on)) in
          let word : its.k ≡ k = one_word sc.slots_at its.k k z (covers-low (slot_at sc its.k) z inside) (covers-high (slot_at sc its.k) z inside) (covers-low (slot_at sc k) z on) (covers-high (slot_at sc k) z on) in
          let its_slot : m.entry.slot ≡ Some k = its.slot ∙ ap Some word in
          elim (cases_eq p.id.hart.0 h.0) [
            | inl own ↦
                let mine : In m.lot (driver_of w h.0).lots = subst (λ (g : ℕ). In m.lot (driver_of w g).lots) own m.here.lot_in in
                let kept = all_kept m.lot mine m.lent in
                let one = slot_once fx.me b.slots lots k lot m.lot i m.i e m.entry b.each.words (record { lot_in = b.here; entry = there }) (record { lot_in = kept; entry = m.here.entry }) slot its_slot in
                let lot_is : lot ≡ m.lot = same_lot lots lot m.lot b.each.knows.names b.here kept one.lot in
                elim side [
                  | inl wanted ↦ both_ways (is_wanted m.lot.side) m.lent (ap (λ (l : Lot). is_wanted l.side) (sym lot_is) ∙ ap is_wanted wanted)
                  | inr synced ↦
                      let owner : owner_of w x ≡ owner_of_side p.id sides.Synced = p.is.owner ∙ ap (owner_of_side p.id) (ap (λ (l : Lot). l.side) (sym lot_is) ∙ synced) in
                      never (ap (λ (o : Owner). seen_at (book_of w) o x) owner)
                ]
            | inr ne ↦
                let theirs = b.each.theirs p.id.hart.0 m.hart ne in
                let my_word = slot_holder fx.me b.slots lots k lot i e b.each.words (record { lot_in = b.here; entry = there }) slot in
                let their_word = slot_holder (driver_of w p.id.hart.0).fixed.me b.slots (driver_of w p.id.hart.0).lots k m.lot m.i m.entry theirs.words m.here its_slot in
                ne (sym theirs.me ∙ sym (slot_harts fx.me (driver_of w p.id.hart.0).fixed.me b.slots k my_word their_word) ∙ b.each.me)
          ]
    ]
