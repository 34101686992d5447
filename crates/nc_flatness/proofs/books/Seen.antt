-- Where the places of mappings are seen by their channels: each at itself, or in the slot of its entry.
use Rattle.std.specs.Prelude.{◌⊎◌, ◌-◌, ◌*◌, ◌%◌, ◌/◌, ◌&&◌, is_none, slice_get, unwrap_or}
use Rattle.std.proofs.Common.{◌≡◌, ℕ, ◌+◌, ◌<◌, Bool, true, false, List, length, refl, sym, ap, ◌∙◌, inl, inr, subst, arith, Option, Some, None}
use Rattle.std.proofs.lemmas.Bool.{cases_Bool, false≢true}
use Rattle.nc_num.specs.Places.{covers}
use Rattle.nc_num.specs.declared.names.MapId.{MapId}
use Rattle.nc_num.specs.declared.places.Span.{Span}
use Rattle.nc_plan.specs.Parts.{comes_back, is_too_big, in_slot}
use Rattle.nc_plan.proofs.PlanLaws.{in_its_slot}
use Rattle.nc_model.specs.declared.owners.Owner.{Owner}
use Rattle.nc_model.specs.declared.owners.Owner.TheVariants.{Thread, Passing, Lending, Device, Returning, Synced, Pool}
use Rattle.nc_model.proofs.Faults.{covers-from, covers-low, covers-high}
use Rattle.nc_sg.specs.Lists as sg
use Rattle.nc_sg.specs.declared.list.Entry.{Entry}
use Rattle.nc_scen.specs.Regions.{slots_of, pool_of}
use Rattle.nc_scen.specs.declared.scenario.Scenario.{Scenario}
use Rattle.nc_rules.specs.declared.lots.Lot.{Lot}
use Rattle.nc_rules.specs.declared.lots.Side.{Side}
use Rattle.nc_rules.specs.declared.lots.Side.TheVariants as sides
use Rattle.nc_rules.specs.Turns.{is_area}
use Rattle.nc_rules.specs.Lots.{DriverConfig, is_wanted, lot_waits, map_id, owner_of_side}
use Rattle.nc_rules.specs.EventTouches.{owner_of}
use Rattle.nc_rules.specs.World.{WorldState, driver_of, hart}
use Rattle.nc_scripts.proofs.Lists.{position_any}
use Rattle.nc_holds.specs.Held.{slots_span, LiesInBuffer, FitsSide, IsEntryOf}
use Rattle.nc_holds.proofs.lists.Members.{all_at, at_get, none_at, same_some}
use Rattle.nc_holds.proofs.owners.Lots.{same_lot, entry_in}
use Rattle.nc_holds.proofs.grants.Words.{slot_once, slot_holder, slot_harts}
use Rattle.nc_rows.specs.Rows.{Loan, device_place}
use Rattle.nc_rows.specs.Laws.{place_of, seen_at}
use Rattle.nc_flatness.specs.Books.{book_of, mapping_in}
use Rattle.nc_flatness.specs.Flatness.{Flatness}
use Rattle.nc_flatness.proofs.books.Loans.{IsLoan, hart_of_lot, lot_in, area_direct}
use Rattle.nc_flatness.proofs.books.Owned.{fixed_is, IsMapped, mapped, owned_ram}
use Rattle.nc_flatness.proofs.books.Areas.{entry_pooled}
use Rattle.nc_flatness.proofs.books.WholeBlocks.{in_whole, whole_slots, mapped_block}

-- where the channel of a place sees it
abbrev pub seen : WorldState → ℕ → ℕ
seen w x = seen_at (book_of w) (owner_of w x) x

-- the bytes of slot k
abbrev pub slot_at : Scenario → ℕ → Span
slot_at sc k = record { at = sc.slots_at + 2048 * k; len = 2048 }

-- ---- what drivers know of the slots

pub slots_at_is : (sc : Scenario) (f : List ℕ) (w : WorldState) (h : ℕ) → Flatness sc f w → h < length w.machine.harts → (driver_of w h).fixed.slots_at ≡ sc.slots_at
slots_at_is sc f w h flat lt = ap (λ (k : DriverConfig). k.slots_at) (fixed_is sc f w h flat lt)

pub slots_are : (sc : Scenario) (f : List ℕ) (w : WorldState) (h : ℕ) → Flatness sc f w → h < length w.machine.harts → (driver_of w h).fixed.slots ≡ sc.slots
slots_are sc f w h flat lt = ap (λ (k : DriverConfig). k.slots) (fixed_is sc f w h flat lt)

pub slots_whole : (sc : Scenario) (f : List ℕ) (w : WorldState) → Flatness sc f w → sc.slots_at % 2048 ≡ 0
slots_whole sc f w flat =
    let lt : 0 < length w.machine.harts = omega (arith, flat.world.machine.some) in
    subst (λ (at : ℕ). at % 2048 ≡ 0) (slots_at_is sc f w 0 flat lt) (flat.world.holds.each 0 lt).driver.fixed.slots_whole

-- a slot's bytes are bytes of the slots
pub slot_slots : (sc : Scenario) (k z : ℕ) → k < sc.slots → covers (slot_at sc k) z ≡ true → covers (slots_of sc) z ≡ true
slot_slots sc k z few on = covers-from (slots_of sc) z (omega (arith, covers-low (slot_at sc k) z on)) (omega (arith, few, covers-high (slot_at sc k) z on))

-- whole blocks
pub slot_whole : (sc : Scenario) (f : List ℕ) (w : WorldState) (k z y : ℕ) → Flatness sc f w → covers (slot_at sc k) z ≡ true → z / w.machine.size ≡ y / w.machine.size → covers (slot_at sc k) y ≡ true
slot_whole sc f w k z y flat on same =
    let size = flat.world.machine.block_size in
    let low : (sc.slots_at + 2048 * k) % 2048 ≡ 0 = omega (arith, slots_whole sc f w flat) in
    let long : 2048 % 2048 ≡ 0 = omega arith in
    in_whole {s = w.machine.size} (slot_at sc k) z y size (whole_slots w.machine.size (sc.slots_at + 2048 * k) size low) (whole_slots w.machine.size 2048 size long) (sym same) on

pub slot_block : (sc : Scenario) (f : List ℕ) (w : WorldState) (z y : ℕ) → Flatness sc f w → covers (slots_of sc) z ≡ true → z / w.machine.size ≡ y / w.machine.size → covers (slots_of sc) y ≡ true
slot_block sc f w z y flat on same =
    let size = flat.world.machine.block_size in
    let long : (2048 * sc.slots) % 2048 ≡ 0 = omega arith in
    in_whole {s = w.machine.size} (slots_of sc) z y size (whole_slots w.machine.size sc.slots_at size (slots_whole sc f w flat)) (whole_slots w.machine.size (2048 * sc.slots) size long) (sym same) on

-- two slots share no byte
slots_one : (sc : Scenario) (j k z : ℕ) → covers (slot_at sc j) z ≡ true → covers (slot_at sc k) z ≡ true → j ≡ k
slots_one sc j k z on too = omega (arith, covers-low (slot_at sc j) z on, covers-high (slot_at sc j) z on, covers-low (slot_at sc k) z too, covers-high (slot_at sc k) z too)

-- ---- the slot of an entry

-- an entry that bounces has a slot, in which its device range lies
pub record HasSlot (sc : Scenario) (w : WorldState) (h : ℕ) (e : Entry) : Type 0 where
  pub k : ℕ
  pub slot : e.slot ≡ Some k
  pub few : k < sc.slots
  pub inside : (z : ℕ) → covers (sg.device (driver_of w h).fixed.slots_at e) z ≡ true → covers (slot_at sc k) z ≡ true

device_slot : (at k : ℕ) (e : Entry) → e.bounced ≡ true → e.slot ≡ Some k → sg.device at e ≡ in_slot (at + 2048 * k) e.span
device_slot at k e b s = rw (b, s) refl

in_its : (sc : Scenario) (k : ℕ) (e : Entry) (z : ℕ) → sc.slots_at % 2048 ≡ 0 → is_too_big e.span ≡ false → e.bounced ≡ true → e.slot ≡ Some k → covers (sg.device sc.slots_at e) z ≡ true → covers (slot_at sc k) z ≡ true
in_its sc k e z whole small b s on =
    let at = sc.slots_at + 2048 * k in
    let low : at % 2048 ≡ 0 = omega (arith, whole) in
    let inside = in_its_slot at e.span low small in
    let here : covers (in_slot at e.span) z ≡ true = subst (λ (r : Span). covers r z ≡ true) (device_slot sc.slots_at k e b s) on in
    covers-from (slot_at sc k) z (omega (arith, inside.starts, covers-low (in_slot at e.span) z here)) (omega (arith, inside.ends, covers-high (in_slot at e.span) z here))

pub slot_few : (sc : Scenario) (f : List ℕ) (w : WorldState) (h : ℕ) (lot : Lot) (i : ℕ) (e : Entry) (k : ℕ) → Flatness sc f w → IsEntryOf (driver_of w h).lots lot i e → e.slot ≡ Some k → k < sc.slots
slot_few sc f w h lot i e k flat here slot =
    let lt = hart_of_lot w h lot flat.world.holds here.lot_in in
    let is = (entry_in (length w.machine.cache.ram) (driver_of w h).fixed lot i e (lot_in sc f w h lot flat here.lot_in) here.entry).slot k slot in
    omega (arith, is.few, slots_are sc f w h flat lt)

-- an entry with a slot
pub with_slot : (sc : Scenario) (f : List ℕ) (w : WorldState) (h : ℕ) (lot : Lot) (i : ℕ) (e : Entry) (k : ℕ) → Flatness sc f w → IsEntryOf (driver_of w h).lots lot i e → e.slot ≡ Some k → HasSlot sc w h e
with_slot sc f w h lot i e k flat here slot =
    let lt = hart_of_lot w h lot flat.world.holds here.lot_in in
    let fits = entry_in (length w.machine.cache.ram) (driver_of w h).fixed lot i e (lot_in sc f w h lot flat here.lot_in) here.entry in
    let is = fits.slot k slot in
    let at = slots_at_is sc f w h flat lt in
    record {
      k = k;
      slot = slot;
      few = slot_few sc f w h lot i e k flat here slot;
      inside = λ z on. in_its sc k e z (slots_whole sc f w flat) (fits.small is.bounced) is.bounced slot (subst (λ (n : ℕ). covers (sg.device n e) z ≡ true) at on);
    }

slot_by : (b : Bool) (o : Option ℕ) → b ≡ true → (b && is_none o) ≡ false → (k : ℕ) × (o ≡ Some k)
slot_by true None e off = absurd (false≢true (sym off))
slot_by false None e off = absurd (false≢true e)
slot_by b (Some k) e off = (k, refl)

unwaiting : (b t : Bool) → (b ≡ true → t ≡ true) → t ≡ false → b ≡ false
unwaiting true t waits lent = absurd (false≢true (sym lent ∙ waits refl))
unwaiting false t waits lent = refl

pub has_slot : (sc : Scenario) (f : List ℕ) (w : WorldState) (h : ℕ) (lot : Lot) (i : ℕ) (e : Entry) → Flatness sc f w → IsEntryOf (driver_of w h).lots lot i e → is_wanted lot.side ≡ false → e.bounced ≡ true → HasSlot sc w h e
has_slot sc f w h lot i e flat here lent bounced =
    let lt = hart_of_lot w h lot flat.world.holds here.lot_in in
    let waits = all_at (λ (l : Lot). lot_waits l ≡ true → is_wanted l.side ≡ true) (driver_of w h).lots lot (flat.world.holds.each h lt).waits here.lot_in in
    let placed = unwaiting (lot_waits lot) (is_wanted lot.side) waits lent in
    let none = none_at sg.waits lot.list.entries e (sym (position_any sg.waits lot.list.entries) ∙ placed) (at_get lot.list.entries i e here.entry) in
    let slot = slot_by e.bounced e.slot bounced none in
    with_slot sc f w h lot i e slot.0 flat here slot.1

-- ---- one entry has a slot

-- two entries, of one hart or of two, are one
pub record IsOneEntry (g h : ℕ) (a b : Lot) (i j : ℕ) (d e : Entry) : Type 0 where
  pub hart : g ≡ h
  pub lot : a ≡ b
  pub number : i ≡ j
  pub entry : d ≡ e

one_hart : (sc : Scenario) (f : List ℕ) (w : WorldState) (h : ℕ) (a b : Lot) (i j : ℕ) (d e : Entry) (k : ℕ) → Flatness sc f w → IsEntryOf (driver_of w h).lots a i d → IsEntryOf (driver_of w h).lots b j e → d.slot ≡ Some k → e.slot ≡ Some k
    → IsOneEntry h h a b i j d e
one_hart sc f w h a b i j d e k flat here there slot too =
    let lt = hart_of_lot w h a flat.world.holds here.lot_in in
    let holds = flat.world.holds.each h lt in
    let same = slot_once (driver_of w h).fixed.me w.slots (driver_of w h).lots k a b i j d e holds.agrees.words here there slot too in
    let lot = same_lot (driver_of w h).lots a b holds.driver.apart here.lot_in there.lot_in same.lot in
    let entry : slice_get a.list.entries i ≡ Some e = subst (λ (l : Lot). slice_get l.list.entries i ≡ Some e) (sym lot) (subst (λ (n : ℕ). slice_get b.list.entries n ≡ Some e) (sym same.entry) there.entry) in
    record { hart = refl; lot = lot; number = same.entry; entry = same_some d e (sym here.entry ∙ entry) }

pub slot_one : (sc : Scenario) (f : List ℕ) (w : WorldState) (g h : ℕ) (a b : Lot) (i j : ℕ) (d e : Entry) (k : ℕ) → Flatness sc f w → IsEntryOf (driver_of w g).lots a i d → IsEntryOf (driver_of w h).lots b j e → d.slot ≡ Some k → e.slot ≡ Some k
    → IsOneEntry g h a b i j d e
slot_one sc f w g h a b i j d e k flat here there slot too =
    let less = hart_of_lot w g a flat.world.holds here.lot_in in
    let lt = hart_of_lot w h b flat.world.holds there.lot_in in
    let mine = flat.world.holds.each g less in
    let other = flat.world.holds.each h lt in
    let is_g = slot_holder (driver_of w g).fixed.me w.slots (driver_of w g).lots k a i d mine.agrees.words here slot in
    let is_h = slot_holder (driver_of w h).fixed.me w.slots (driver_of w h).lots k b j e other.agrees.words there too in
    let same : g ≡ h = sym mine.me ∙ slot_harts (driver_of w g).fixed.me (driver_of w h).fixed.me w.slots k is_g is_h ∙ other.me in
    let one = one_hart sc f w g a b i j d e k flat here (subst (λ (n : ℕ). IsEntryOf (driver_of w n).lots b j e) (sym same) there) slot too in
    record { hart = same; lot = one.lot; number = one.number; entry = one.entry }

-- two entries that bounce are one where their device ranges meet one block
pub block_one : (sc : Scenario) (f : List ℕ) (w : WorldState) (g h : ℕ) (a b : Lot) (i j : ℕ) (d e : Entry) (z y : ℕ) → Flatness sc f w → IsEntryOf (driver_of w g).lots a i d → IsEntryOf (driver_of w h).lots b j e → is_wanted a.side ≡ false → is_wanted b.side ≡ false
    → d.bounced ≡ true → e.bounced ≡ true → covers (sg.device (driver_of w g).fixed.slots_at d) z ≡ true → covers (sg.device (driver_of w h).fixed.slots_at e) y ≡ true → z / w.machine.size ≡ y / w.machine.size → IsOneEntry g h a b i j d e
block_one sc f w g h a b i j d e z y flat here there lent lent_too bounced bounced_too on on_too same =
    let one = has_slot sc f w g a i d flat here lent bounced in
    let two = has_slot sc f w h b j e flat there lent_too bounced_too in
    let k : one.k ≡ two.k = slots_one sc one.k two.k y (slot_whole sc f w one.k z y flat (one.inside z on) same) (two.inside y on_too) in
    slot_one sc f w g h a b i j d e two.k flat here there (one.slot ∙ ap Some k) two.slot

pub device_one : (sc : Scenario) (f : List ℕ) (w : WorldState) (g h : ℕ) (a b : Lot) (i j : ℕ) (d e : Entry) (z : ℕ) → Flatness sc f w → IsEntryOf (driver_of w g).lots a i d → IsEntryOf (driver_of w h).lots b j e → is_wanted a.side ≡ false → is_wanted b.side ≡ false
    → d.bounced ≡ true → e.bounced ≡ true → covers (sg.device (driver_of w g).fixed.slots_at d) z ≡ true → covers (sg.device (driver_of w h).fixed.slots_at e) z ≡ true → IsOneEntry g h a b i j d e
device_one sc f w g h a b i j d e z flat here there lent lent_too bounced bounced_too on on_too = block_one sc f w g h a b i j d e z z flat here there lent lent_too bounced bounced_too on on_too refl

-- ---- the places of a mapping

direct_is : (at : ℕ) (e : Entry) → e.bounced ≡ false → sg.device at e ≡ e.span
direct_is at e off = rw off refl

pub device_len : (at : ℕ) (e : Entry) (b : Bool) → e.bounced ≡ b → (sg.device at e).len ≡ e.span.len
device_len at e true is = ap (λ (s : Span). s.len) (let same : sg.device at e ≡ in_slot (at + 2048 * unwrap_or e.slot 0) e.span = rw is refl in same)
device_len at e false is = ap (λ (s : Span). s.len) (direct_is at e is)

-- the device range is as long as the buffer
pub device_long : (w : WorldState) (n : MapId) (l : Loan) → IsLoan w n l → l.grant.device.len ≡ l.grant.buffer.len
device_long w n l is = ap (λ (s : Span). s.len) is.device ∙ device_len (driver_of w n.hart.0).fixed.slots_at is.entry is.entry.bounced refl ∙ ap (λ (s : Span). s.len) (sym is.buffer)

pub device_covers : (w : WorldState) (n : MapId) (l : Loan) (x : ℕ) → IsLoan w n l → covers l.grant.buffer x ≡ true → covers l.grant.device (device_place l x) ≡ true
device_covers w n l x is on = covers-from l.grant.device (device_place l x) (omega arith) (omega (arith, device_long w n l is, covers-low l.grant.buffer x on, covers-high l.grant.buffer x on))

-- each byte of the device range is where the channel sees a place
pub record IsPlaceOf (l : Loan) (z : ℕ) : Type 0 where
  pub place : ℕ
  pub on : covers l.grant.buffer place ≡ true
  pub here : device_place l place ≡ z

pub device_place_of : (w : WorldState) (n : MapId) (l : Loan) (z : ℕ) → IsLoan w n l → covers l.grant.device z ≡ true → IsPlaceOf l z
device_place_of w n l z is on =
    let low = covers-low l.grant.device z on in
    record {
      place = l.grant.buffer.at + (z - l.grant.device.at);
      on = covers-from l.grant.buffer (l.grant.buffer.at + (z - l.grant.device.at)) (omega arith) (omega (arith, device_long w n l is, low, covers-high l.grant.device z on));
      here = omega (arith, low);
    }

-- a place of the buffer, as it is seen, is of the device range of the entry
pub of_device : (w : WorldState) (n : MapId) (l : Loan) (x : ℕ) → (is : IsLoan w n l) → covers l.grant.buffer x ≡ true → covers (sg.device (driver_of w n.hart.0).fixed.slots_at is.entry) (device_place l x) ≡ true
of_device w n l x is on = subst (λ (s : Span). covers s (device_place l x) ≡ true) is.device (device_covers w n l x is on)

-- where the entry does not bounce the channel sees its places as they are
pub device_same : (w : WorldState) (n : MapId) (l : Loan) (x : ℕ) → (is : IsLoan w n l) → is.entry.bounced ≡ false → covers l.grant.buffer x ≡ true → device_place l x ≡ x
device_same w n l x is direct on =
    let at : l.grant.device.at ≡ l.grant.buffer.at = ap (λ (s : Span). s.at) (is.device ∙ direct_is (driver_of w n.hart.0).fixed.slots_at is.entry direct ∙ sym is.buffer) in
    omega (arith, at, covers-low l.grant.buffer x on)

-- as those of an area
pub area_place : (sc : Scenario) (f : List ℕ) (w : WorldState) (n : MapId) (l : Loan) (x : ℕ) → Flatness sc f w → IsLoan w n l → l.area ≡ true → covers l.grant.buffer x ≡ true → device_place l x ≡ x
area_place sc f w n l x flat is area on = device_same w n l x is (area_direct sc f w n.hart.0 is.lot is.i is.entry flat is.here (sym is.area ∙ area)) on

-- and where it bounces, in the slots
pub device_slots : (sc : Scenario) (f : List ℕ) (w : WorldState) (n : MapId) (l : Loan) (x : ℕ) → Flatness sc f w → (is : IsLoan w n l) → is.entry.bounced ≡ true → covers l.grant.buffer x ≡ true → covers (slots_of sc) (device_place l x) ≡ true
device_slots sc f w n l x flat is bounced on =
    let slot = has_slot sc f w n.hart.0 is.lot is.i is.entry flat is.here is.lent bounced in
    slot_slots sc slot.k (device_place l x) slot.few (slot.inside (device_place l x) (of_device w n l x is on))

pub place_ways : (sc : Scenario) (f : List ℕ) (w : WorldState) (n : MapId) (x : ℕ) → Flatness sc f w → (is : IsMapped w n x)
    → (device_place is.loan x ≡ x) × (is.is.entry.bounced ≡ false) ⊎ (covers (slots_of sc) (device_place is.loan x) ≡ true) × (is.is.entry.bounced ≡ true)
place_ways sc f w n x flat is = elim (cases_Bool is.is.entry.bounced) [
  | inl bounced ↦ inr (device_slots sc f w n is.loan x flat is.is bounced is.on, bounced)
  | inr direct ↦ inl (device_same w n is.loan x is.is direct is.on, direct)
]

-- mappings' places are none of the slots
pub mapped_unslotted : (sc : Scenario) (f : List ℕ) (w : WorldState) (n : MapId) (x : ℕ) → Flatness sc f w → mapping_in (owner_of w x) ≡ Some n → covers (slots_of sc) x ≡ false
mapped_unslotted sc f w n x flat e = elim (cases_Bool (covers (slots_of sc) x)) [
  | inl on ↦ let none : mapping_in (owner_of w x) ≡ None = ap mapping_in (flat.bytes.slotted x on) in let both = sym none ∙ e in absurd (cc)
  | inr off ↦ off
]

-- the places of an entry, lent or not, are none of the slots
pub entry_unslotted : (sc : Scenario) (f : List ℕ) (w : WorldState) (h : ℕ) (lot : Lot) (i : ℕ) (e : Entry) (x : ℕ) → Flatness sc f w → IsEntryOf (driver_of w h).lots lot i e → covers e.span x ≡ true → covers (slots_of sc) x ≡ false
entry_unslotted sc f w h lot i e x flat here on =
    let lt = hart_of_lot w h lot flat.world.holds here.lot_in in
    let holds = flat.world.holds.each h lt in
    let slots : covers (slots_span (driver_of w h).fixed) x ≡ covers (slots_of sc) x = ap (λ (k : DriverConfig). covers (slots_span k) x) (fixed_is sc f w h flat lt) in
    let pool : covers (driver_of w h).fixed.pool x ≡ covers (pool_of sc) x = ap (λ (k : DriverConfig). covers k.pool x) (fixed_is sc f w h flat lt) in
    let fits = all_at (FitsSide (driver_of w h).fixed) (driver_of w h).lots lot holds.agrees.sides here.lot_in in
    off_by (covers (slots_of sc) x) (λ over. elim (cases_Bool (is_area lot.kind)) [
      | inl area ↦ holds.regions.slots_off_pool x (slots ∙ over) (pool ∙ entry_pooled sc f w h lot i e x flat here area on)
      | inr area ↦
          let inside = all_at (λ (d : Entry). LiesInBuffer (driver_of w h).fixed d.span) lot.list.entries e (fits.in_buffer area) (at_get lot.list.entries i e here.entry) in
          holds.regions.buffers_off_slots inside.0 x (inside.1 x on) (slots ∙ over)
    ])
  where
    off_by : (t : Bool) → (t ≡ true → ⊥) → t ≡ false
    off_by true never = absurd (never refl)
    off_by false never = refl

-- ---- where a place is seen

-- its channel has it, or is to have it, or had it
abbrev pub is_out : Owner → Bool
is_out (Lending n) = true
is_out (Device n) = true
is_out (Returning n) = true
is_out (Synced n) = false
is_out (Thread h) = false
is_out (Passing h g) = false
is_out Pool = false

pub seen_lent : (w : WorldState) (n : MapId) (l : Loan) (x : ℕ) → (book_of w).loan n ≡ Some l → (owner_of w x ≡ Lending n) ⊎ (owner_of w x ≡ Device n) ⊎ (owner_of w x ≡ Returning n) → seen w x ≡ device_place l x
seen_lent w n l x known (inl e) = ap (λ (o : Owner). seen_at (book_of w) o x) e ∙ ap (λ (o : Option Loan). place_of o x) known
seen_lent w n l x known (inr (inl e)) = ap (λ (o : Owner). seen_at (book_of w) o x) e ∙ ap (λ (o : Option Loan). place_of o x) known
seen_lent w n l x known (inr (inr e)) = ap (λ (o : Owner). seen_at (book_of w) o x) e ∙ ap (λ (o : Option Loan). place_of o x) known

-- it is seen in the slot of its entry
pub record IsSlotted (w : WorldState) (x : ℕ) : Type 0 where
  pub id : MapId
  pub is : IsMapped w id x
  pub bounced : is.is.entry.bounced ≡ true
  pub out : is_out (owner_of w x) ≡ true
  pub here : seen w x ≡ device_place is.loan x

lent_ways : (sc : Scenario) (f : List ℕ) (w : WorldState) (n : MapId) (x : ℕ) → Flatness sc f w → mapping_in (owner_of w x) ≡ Some n → is_out (owner_of w x) ≡ true → (owner_of w x ≡ Lending n) ⊎ (owner_of w x ≡ Device n) ⊎ (owner_of w x ≡ Returning n)
    → (seen w x ≡ x) ⊎ IsSlotted w x
lent_ways sc f w n x flat e out owned =
    let is = mapped sc f w n x flat (owned_ram sc f w x n flat e) e in
    let here = seen_lent w n is.loan x is.known owned in
    elim (place_ways sc f w n x flat is) [
      | inl direct ↦ inl (here ∙ direct.0)
      | inr slotted ↦ inr (record { id = n; is = is; bounced = slotted.1; out = out; here = here })
    ]

owner_ways : (sc : Scenario) (f : List ℕ) (w : WorldState) (x : ℕ) (o : Owner) → Flatness sc f w → owner_of w x ≡ o → (seen w x ≡ x) ⊎ IsSlotted w x
owner_ways sc f w x (Lending n) flat e = lent_ways sc f w n x flat (ap mapping_in e) (ap is_out e) (inl e)
owner_ways sc f w x (Device n) flat e = lent_ways sc f w n x flat (ap mapping_in e) (ap is_out e) (inr (inl e))
owner_ways sc f w x (Returning n) flat e = lent_ways sc f w n x flat (ap mapping_in e) (ap is_out e) (inr (inr e))
owner_ways sc f w x (Synced n) flat e = inl (ap (λ (o : Owner). seen_at (book_of w) o x) e)
owner_ways sc f w x (Thread h) flat e = inl (ap (λ (o : Owner). seen_at (book_of w) o x) e)
owner_ways sc f w x (Passing h g) flat e = inl (ap (λ (o : Owner). seen_at (book_of w) o x) e)
owner_ways sc f w x Pool flat e = inl (ap (λ (o : Owner). seen_at (book_of w) o x) e)

-- each place is seen as it is, or in a slot
pub seen_ways : (sc : Scenario) (f : List ℕ) (w : WorldState) (x : ℕ) → Flatness sc f w → (seen w x ≡ x) ⊎ IsSlotted w x
seen_ways sc f w x flat = owner_ways sc f w x (owner_of w x) flat refl

-- in the device range of its entry
slotted_on : (w : WorldState) (x : ℕ) → (p : IsSlotted w x) → covers (sg.device (driver_of w p.id.hart.0).fixed.slots_at p.is.is.entry) (seen w x) ≡ true
slotted_on w x p = subst (λ (z : ℕ). covers (sg.device (driver_of w p.id.hart.0).fixed.slots_at p.is.is.entry) z ≡ true) (sym p.here) (of_device w p.id p.is.loan x p.is.is p.is.on)

pub slotted_in : (sc : Scenario) (f : List ℕ) (w : WorldState) (x : ℕ) → Flatness sc f w → IsSlotted w x → covers (slots_of sc) (seen w x) ≡ true
slotted_in sc f w x flat p = subst (λ (z : ℕ). covers (slots_of sc) z ≡ true) (sym p.here) (device_slots sc f w p.id p.is.loan x flat p.is.is p.bounced p.is.on)

-- two that are seen in one block are of one entry
slotted_one : (sc : Scenario) (f : List ℕ) (w : WorldState) (x y : ℕ) → Flatness sc f w → (p : IsSlotted w x) → (q : IsSlotted w y) → seen w x / w.machine.size ≡ seen w y / w.machine.size
    → IsOneEntry p.id.hart.0 q.id.hart.0 p.is.is.lot q.is.is.lot p.is.is.i q.is.is.i p.is.is.entry q.is.is.entry
slotted_one sc f w x y flat p q same =
    let a = p.is.is in
    let b = q.is.is in
    block_one sc f w p.id.hart.0 q.id.hart.0 a.lot b.lot a.i b.i a.entry b.entry (seen w x) (seen w y) flat a.here b.here a.lent b.lent p.bounced q.bounced (slotted_on w x p) (slotted_on w y q) same

-- so where the channel sees it, each has its place
same_place : (sc : Scenario) (f : List ℕ) (w : WorldState) (x y : ℕ) → Flatness sc f w → (p : IsSlotted w x) → (q : IsSlotted w y) → seen w x ≡ seen w y → x ≡ y
same_place sc f w x y flat p q same =
    let one = slotted_one sc f w x y flat p q (ap (λ (z : ℕ). z / w.machine.size) same) in
    let a = p.is.is in
    let b = q.is.is in
    let buffer : p.is.loan.grant.buffer ≡ q.is.loan.grant.buffer = a.buffer ∙ ap (λ (e : Entry). e.span) one.entry ∙ sym b.buffer in
    let at = slots_at_is sc f w p.id.hart.0 flat a.hart ∙ sym (slots_at_is sc f w q.id.hart.0 flat b.hart) in
    let device : p.is.loan.grant.device ≡ q.is.loan.grant.device =
    a.device ∙ ap (λ (n : ℕ). sg.device n a.entry) at ∙ ap (sg.device (driver_of w q.id.hart.0).fixed.slots_at) one.entry ∙ sym b.device in
    let low = covers-low p.is.loan.grant.buffer x p.is.on in
    let low_too = covers-low q.is.loan.grant.buffer y q.is.on in
    let starts : p.is.loan.grant.buffer.at ≡ q.is.loan.grant.buffer.at = ap (λ (s : Span). s.at) buffer in
    let begins : p.is.loan.grant.device.at ≡ q.is.loan.grant.device.at = ap (λ (s : Span). s.at) device in
    let both : device_place p.is.loan x ≡ device_place q.is.loan y = sym p.here ∙ same ∙ q.here in
    omega (arith, low, low_too, starts, begins, both)

-- no two places outside the slots are seen at one place
pub seen_one : (sc : Scenario) (f : List ℕ) (w : WorldState) (x y : ℕ) → Flatness sc f w → x < sc.ram → y < sc.ram → covers (slots_of sc) x ≡ false → covers (slots_of sc) y ≡ false → seen w x ≡ seen w y → x ≡ y
seen_one sc f w x y flat lt less off out same = elim (seen_ways sc f w x flat) [
  | inl here ↦
      elim (seen_ways sc f w y flat) [
        | inl there ↦ sym here ∙ same ∙ there
        | inr q ↦ absurd (false≢true (sym off ∙ ap (covers (slots_of sc)) (sym here ∙ same) ∙ slotted_in sc f w y flat q))
      ]
  | inr p ↦
      elim (seen_ways sc f w y flat) [
        | inl there ↦ absurd (false≢true (sym out ∙ ap (covers (slots_of sc)) (sym there ∙ sym same) ∙ slotted_in sc f w x flat p))
        | inr q ↦ same_place sc f w x y flat p q same
      ]
]

-- the same mapping
same_id : (w : WorldState) (n m : MapId) (l k : Loan) → (a : IsLoan w n l) → (b : IsLoan w m k) → IsOneEntry n.hart.0 m.hart.0 a.lot b.lot a.i b.i a.entry b.entry → n ≡ m
same_id w n m l k a b one = a.name ∙ ap (λ (h : ℕ). map_id (hart h) a.lot.id a.i) one.hart ∙ ap (λ (lot : Lot). map_id (hart m.hart.0) lot.id a.i) one.lot ∙ ap (λ (i : ℕ). map_id (hart m.hart.0) b.lot.id i) one.number ∙ sym b.name

-- the blocks that a channel may write are of one mapping, as it sees them
pub seen_whole : (sc : Scenario) (f : List ℕ) (w : WorldState) (n : MapId) (l : Loan) (x y : ℕ) → Flatness sc f w → x < sc.ram → y < sc.ram → mapping_in (owner_of w x) ≡ Some n → (book_of w).loan n ≡ Some l → comes_back l.grant.dir ≡ true
    → seen w x ≡ device_place l x → covers (slots_of sc) y ≡ false → seen w x / w.machine.size ≡ seen w y / w.machine.size → owner_of w y ≡ owner_of w x
seen_whole sc f w n l x y flat lt less e known back here off same =
    let m = mapped sc f w n x flat lt e in
    let loan : l ≡ m.loan = same_some l m.loan (sym known ∙ m.known) in
    let back_m : comes_back m.loan.grant.dir ≡ true = subst (λ (k : Loan). comes_back k.grant.dir ≡ true) loan back in
    let at : seen w x ≡ device_place m.loan x = subst (λ (k : Loan). seen w x ≡ device_place k x) loan here in
    elim (place_ways sc f w n x flat m) [
      | inl direct ↦ direct_whole m back_m direct.1 (at ∙ direct.0)
      | inr slotted ↦ slotted_whole m slotted.1 at slotted.0
    ]
  where
    -- a direct one has the whole block
    direct_whole : (m : IsMapped w n x) → comes_back m.loan.grant.dir ≡ true → m.is.entry.bounced ≡ false → seen w x ≡ x → owner_of w y ≡ owner_of w x
    direct_whole m back direct here = elim (seen_ways sc f w y flat) [
      | inl there ↦ let block : y / w.machine.size ≡ x / w.machine.size = ap (λ (z : ℕ). z / w.machine.size) (sym there) ∙ sym same ∙ ap (λ (z : ℕ). z / w.machine.size) here in (mapped_block sc f w n x y flat m direct back block).1
      | inr q ↦
          let block : seen w y / w.machine.size ≡ x / w.machine.size = sym same ∙ ap (λ (z : ℕ). z / w.machine.size) here in
          absurd (false≢true (sym (mapped_unslotted sc f w n x flat e) ∙ slot_block sc f w (seen w y) x flat (slotted_in sc f w y flat q) block))
    ]

    one_owner : (m : IsMapped w n x) → (q : IsSlotted w y) → IsOneEntry n.hart.0 q.id.hart.0 m.is.lot q.is.is.lot m.is.i q.is.is.i m.is.entry q.is.is.entry → owner_of w y ≡ owner_of w x
    one_owner m q one =
        q.is.owner ∙ ap (λ (k : MapId). owner_of_side k q.is.is.lot.side) (sym (same_id w n q.id m.loan q.is.loan m.is q.is.is one)) ∙ ap (λ (k : Lot). owner_of_side n k.side) (sym one.lot) ∙ sym m.owner

    slotted_whole : (m : IsMapped w n x) → m.is.entry.bounced ≡ true → seen w x ≡ device_place m.loan x → covers (slots_of sc) (device_place m.loan x) ≡ true → owner_of w y ≡ owner_of w x
    slotted_whole m bounced at on = elim (seen_ways sc f w y flat) [
      | inl there ↦
          let block : seen w x / w.machine.size ≡ y / w.machine.size = same ∙ ap (λ (z : ℕ). z / w.machine.size) there in
          absurd (false≢true (sym off ∙ slot_block sc f w (seen w x) y flat (subst (λ (z : ℕ). covers (slots_of sc) z ≡ true) (sym at) on) block))
      | inr q ↦
          let on_x = subst (λ (z : ℕ). covers (sg.device (driver_of w n.hart.0).fixed.slots_at m.is.entry) z ≡ true) (sym at) (of_device w n m.loan x m.is m.on) in
          one_owner m q
          (block_one sc f w n.hart.0 q.id.hart.0 m.is.lot q.is.is.lot m.is.i q.is.is.i m.is.entry q.is.is.entry (seen w x) (seen w y) flat m.is.here q.is.is.here m.is.lent q.is.is.lent bounced q.bounced on_x (slotted_on w y q) same)
    ]

-- ---- slots that nobody sees

unsided : (n : MapId) (side : Side) → (side ≡ sides.Wanted) ⊎ (side ≡ sides.Synced) → is_out (owner_of_side n side) ≡ false
unsided n side (inl e) = ap (λ (s : Side). is_out (owner_of_side n s)) e
unsided n side (inr e) = ap (λ (s : Side). is_out (owner_of_side n s)) e
