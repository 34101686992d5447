-- Grants that may be added one after another: their device ranges are apart from each other's and from all that are held.
use Rattle.std.proofs.Common.{◌≡◌, ℕ, ◌+◌, ◌*◌, ◌%◌, ◌<◌, ◌≤◌, Bool, true, false, List, inl, inr, refl, sym, subst, ◌∙◌, arith, Option, Some, None}
use Rattle.std.specs.Prelude.{◌&&◌, is_none, unwrap_or, if◌then◌else◌}
use Rattle.std.proofs.lemmas.Bool.{false≢true, cases_Bool}
use Rattle.nc_num.specs.Places.{covers}
use Rattle.nc_num.specs.declared.places.Span.{Span}
use Rattle.nc_plan.specs.Plans.{In}
use Rattle.nc_plan.specs.Parts.{in_slot, slot_len}
use Rattle.nc_plan.proofs.PlanLaws.{in_its_slot}
use Rattle.nc_model.specs.Rights.{same_map, is_thread}
use Rattle.nc_model.specs.declared.owners.Grant.{Grant}
use Rattle.nc_model.specs.declared.owners.Owner.{Owner}
use Rattle.nc_model.proofs.Faults.{covers-low, covers-high, covers-from}
use Rattle.nc_own.specs.Books.{owner_in}
use Rattle.nc_sg.specs.declared.list.Entry.{Entry}
use Rattle.nc_sg.specs.Lists.{waits, device}
use Rattle.nc_rules.specs.declared.lots.Lot.{Lot}
use Rattle.nc_rules.specs.Lots.{DriverConfig, is_wanted, lot_waits, map_id, owner_of_side}
use Rattle.nc_rules.specs.Refusals.{buffer_of}
use Rattle.nc_rules.specs.Turns.{is_area}
use Rattle.nc_scripts.specs.Drivers.{IsEntryIn, IsLotIn}
use Rattle.nc_scripts.proofs.LotMoves.{placed_entries}
use Rattle.nc_holds.specs.Held.{Held, AreRegions, LiesInBuffer, slots_span, IsEntryOf, IsSameEntry, FitsSide, WordsAgree}
use Rattle.nc_holds.proofs.lists.Members.{all_at, at_get}
use Rattle.nc_holds.proofs.owners.Facts.{Knows, Mine, IsHeldBy}
use Rattle.nc_holds.proofs.owners.Lots.{entry_in, area_covers, same_lot, names_apart}
use Rattle.nc_holds.proofs.owners.Made.{lent_not_own}
use Rattle.nc_holds.proofs.grants.Moves.{not_same, SameMap}
use Rattle.nc_holds.proofs.grants.Words.{slot_once, slot_holder, slot_harts}

-- ---- a byte of a device range

-- it is the entry's own, or in its slot
pub data DeviceAt (slots_at slots : ℕ) (e : Entry) (x : ℕ) : Type 0 where
  direct : covers e.span x ≡ true → DeviceAt slots_at slots e x
  slotted : (w : ℕ) → e.slot ≡ Some w → w < slots → slots_at + 2048 * w ≤ x → x < slots_at + 2048 * w + 2048 → DeviceAt slots_at slots e x

device_by : (ram slots_at slots : ℕ) (e : Entry) (x : ℕ) (b : Bool) (o : Option ℕ) → e.bounced ≡ b → e.slot ≡ o → slots_at % 2048 ≡ 0 → IsEntryIn ram slots e → (b && is_none o) ≡ false
    → covers (if b then in_slot (slots_at + slot_len * unwrap_or o 0) e.span else e.span) x ≡ true → DeviceAt slots_at slots e x
device_by ram slots_at slots e x false o eb eo whole h off on = direct on
device_by ram slots_at slots e x true None eb eo whole h off on = absurd (false≢true (sym off))
device_by ram slots_at slots e x true (Some w) eb eo whole h off on =
    let aligned : (slots_at + 2048 * w) % 2048 ≡ 0 = omega (arith, whole) in
    let lies = in_its_slot (slots_at + slot_len * w) e.span aligned (h.small eb) in
    let span = in_slot (slots_at + slot_len * w) e.span in
    slotted w eo (h.slot w eo).few (omega (arith, lies.starts, covers-low span x on)) (omega (arith, lies.ends, covers-high span x on))

pub device_at : (ram slots_at slots : ℕ) (e : Entry) (x : ℕ) → slots_at % 2048 ≡ 0 → IsEntryIn ram slots e → waits e ≡ false → covers (device slots_at e) x ≡ true → DeviceAt slots_at slots e x
device_at ram slots_at slots e x whole h off on = device_by ram slots_at slots e x e.bounced e.slot refl refl whole h off on

pub slot_covers : (f : DriverConfig) (w x : ℕ) → w < f.slots → f.slots_at + 2048 * w ≤ x → x < f.slots_at + 2048 * w + 2048 → covers (slots_span f) x ≡ true
slot_covers f w x few low high = covers-from (slots_span f) x (omega (arith, low)) (omega (arith, high, few))

-- one byte is in one slot
one_slot : (at w v x : ℕ) → at + 2048 * w ≤ x → x < at + 2048 * w + 2048 → at + 2048 * v ≤ x → x < at + 2048 * v + 2048 → w ≡ v
one_slot at w v x a b c d = omega arith

-- ---- an entry that is to be granted

pub record ToGrant (f : DriverConfig) (s : Held) (lot : Lot) (i : ℕ) (e : Entry) : Type 0 where
  pub here : IsEntryOf s.lots lot i e
  pub wanted : is_wanted lot.side ≡ true
  pub lies : LiesInBuffer f e.span
  pub placed : waits e ≡ false

wanted_thread : (f : DriverConfig) (s : Held) (lot : Lot) (i : ℕ) (e : Entry) (x : ℕ) → Mine f s → IsEntryOf s.lots lot i e → (side_thread : is_thread f.me (owner_of_side (map_id f.me lot.id i) lot.side) ≡ true) → covers e.span x ≡ true → is_thread f.me (owner_in s.owners x) ≡ true
wanted_thread f s lot i e x mine h side on = subst (λ (o : Owner). is_thread f.me o ≡ true) (sym (mine.owners lot i e x h on)) side

-- two of one hart
pub two_apart : (ram harts : ℕ) (f : DriverConfig) (s : Held) (a b : Lot) (i j : ℕ) (d e : Entry) (x : ℕ) → Knows ram harts f s → Mine f s → WordsAgree f.me s.slots s.lots → ToGrant f s a i d → ToGrant f s b j e
    → covers (device f.slots_at d) x ≡ true → covers (device f.slots_at e) x ≡ true → IsSameEntry a i b j
two_apart ram harts f s a b i j d e x knows mine words ha hb on_d on_e =
    by (device_at ram f.slots_at f.slots d x knows.fixed.slots_whole (entry_in ram f a i d (all_at (IsLotIn ram f) s.lots a knows.lots ha.here.lot_in) ha.here.entry) ha.placed on_d)
    (device_at ram f.slots_at f.slots e x knows.fixed.slots_whole (entry_in ram f b j e (all_at (IsLotIn ram f) s.lots b knows.lots hb.here.lot_in) hb.here.entry) hb.placed on_e)
  where
    by : DeviceAt f.slots_at f.slots d x → DeviceAt f.slots_at f.slots e x → IsSameEntry a i b j
    by (direct in_d) (direct in_e) = mine.apart a b i j d e x ha.here hb.here in_d in_e
    by (direct in_d) (slotted w sw few low high) = absurd (knows.regions.buffers_off_slots ha.lies.0 x (ha.lies.1 x in_d) (slot_covers f w x few low high))
    by (slotted w sw few low high) (direct in_e) = absurd (knows.regions.buffers_off_slots hb.lies.0 x (hb.lies.1 x in_e) (slot_covers f w x few low high))
    by (slotted w sw few low high) (slotted v sv few_v low_v high_v) =
        let same = one_slot f.slots_at w v x low high low_v high_v in
        slot_once f.me s.slots s.lots w a b i j d e words ha.here hb.here sw (subst (λ (n : ℕ). e.slot ≡ Some n) (sym same) sv)

-- ---- an entry whose grant is held

pub held_placed : (ram : ℕ) (f : DriverConfig) (s : Held) (g : Grant) → (h : IsHeldBy ram f s g) → waits h.is.entry ≡ false
held_placed ram f s g h =
    all_at (λ (e : Entry). waits e ≡ false) h.is.lot.list.entries h.is.entry (placed_entries h.is.lot (no_wait (lot_waits h.is.lot) refl)) (at_get h.is.lot.list.entries h.is.i h.is.entry h.is.here.entry)
  where
    no_wait : (b : Bool) → lot_waits h.is.lot ≡ b → b ≡ false
    no_wait false w = refl
    no_wait true w = absurd (false≢true (sym h.is.lent ∙ all_at (λ (l : Lot). lot_waits l ≡ true → is_wanted l.side ≡ true) h.lots h.is.lot h.waits h.is.here.lot_in w))

pub held_device : (ram : ℕ) (f : DriverConfig) (s : Held) (g : Grant) (x : ℕ) → f.slots_at % 2048 ≡ 0 → (h : IsHeldBy ram f s g) → covers g.device x ≡ true → DeviceAt f.slots_at f.slots h.is.entry x
held_device ram f s g x whole h on =
    let in_k : IsEntryIn ram h.other.slots h.is.entry = entry_in ram h.other h.is.lot h.is.i h.is.entry (all_at (IsLotIn ram h.other) h.lots h.is.lot h.each h.is.here.lot_in) h.is.here.entry in
    let in_f : IsEntryIn ram f.slots h.is.entry = subst (λ (n : ℕ). IsEntryIn ram n h.is.entry) (sym h.alike.slots) in_k in
    let on_k : covers (device h.other.slots_at h.is.entry) x ≡ true = subst (λ (d : Grant). covers d.device x ≡ true) h.is.is on in
    device_at ram f.slots_at f.slots h.is.entry x whole in_f (held_placed ram f s g h) (subst (λ (n : ℕ). covers (device n h.is.entry) x ≡ true) (sym h.alike.slots_at) on_k)

-- its own bytes are in the pool or in a buffer
pub data LiesAt (f : DriverConfig) (x : ℕ) : Type 0 where
  in_pool : covers f.pool x ≡ true → LiesAt f x
  in_buffer : (b : ℕ) → covers (buffer_of f b) x ≡ true → LiesAt f x

held_lies : (ram : ℕ) (f : DriverConfig) (s : Held) (g : Grant) (x : ℕ) → (h : IsHeldBy ram f s g) → covers h.is.entry.span x ≡ true → LiesAt f x
held_lies ram f s g x h on = elim (cases_Bool (is_area h.is.lot.kind)) [
  | inl a ↦ in_pool (subst (λ (p : Span). covers p x ≡ true) (sym h.alike.pool) (area_covers ram h.other h.is.lot h.is.i h.is.entry x (all_at (IsLotIn ram h.other) h.lots h.is.lot h.each h.is.here.lot_in) a h.is.here.entry on))
  | inr off ↦
      let lies = all_at (λ (d : Entry). LiesInBuffer h.other d.span) h.is.lot.list.entries h.is.entry ((all_at (FitsSide h.other) h.lots h.is.lot h.agrees.sides h.is.here.lot_in).in_buffer off) (at_get h.is.lot.list.entries h.is.i h.is.entry h.is.here.entry) in
      let same : buffer_of h.other lies.0 ≡ buffer_of f lies.0 = (rw h.alike.buffers refl) in
      in_buffer lies.0 (subst (λ (p : Span). covers p x ≡ true) same (lies.1 x on))
]

off_slots : (f : DriverConfig) (x : ℕ) → AreRegions f → LiesAt f x → covers (slots_span f) x ≡ true → ⊥
off_slots f x h (in_pool on) slots = h.slots_off_pool x slots on
off_slots f x h (in_buffer b on) slots = h.buffers_off_slots b x on slots

-- the hart's own bytes of a buffer are of no grant
direct_off : (ram : ℕ) (f : DriverConfig) (s : Held) (g : Grant) (x b : ℕ) → AreRegions f → (h : IsHeldBy ram f s g) → covers h.is.entry.span x ≡ true → covers (buffer_of f b) x ≡ true → is_thread f.me (owner_in s.owners x) ≡ true → ⊥
direct_off ram f s g x b regions h on on_b own =
    let m = map_id h.other.me h.is.lot.id h.is.i in
    let side : is_thread f.me (owner_of_side m h.is.lot.side) ≡ true = subst (λ (o : Owner). is_thread f.me o ≡ true) (h.agrees.owners h.is.lot h.is.i h.is.entry x h.is.here on) own in
    let area = (all_at (FitsSide h.other) h.lots h.is.lot h.agrees.sides h.is.here.lot_in).own (lent_not_own f m h.is.lot.side h.is.lent side) in
    let pool = area_covers ram h.other h.is.lot h.is.i h.is.entry x (all_at (IsLotIn ram h.other) h.lots h.is.lot h.each h.is.here.lot_in) area h.is.here.entry on in
    regions.buffers_off_pool b x on_b (subst (λ (p : Span). covers p x ≡ true) (sym h.alike.pool) pool)

-- a grant of an entry of the hart is not of a lot that is still to be lent
pub not_lent : (lots : List Lot) (lot : Lot) (held : Lot) → lot ≡ held → is_wanted lot.side ≡ true → is_wanted held.side ≡ false → ⊥
not_lent lots lot held same w l = false≢true (sym l ∙ subst (λ (k : Lot). is_wanted k.side ≡ true) same w)

pub apart_held : (ram harts : ℕ) (f : DriverConfig) (s : Held) (lot : Lot) (i : ℕ) (e : Entry) (g : Grant) (x : ℕ) → Knows ram harts f s → Mine f s → WordsAgree f.me s.slots s.lots → ToGrant f s lot i e
    → is_thread f.me (owner_of_side (map_id f.me lot.id i) lot.side) ≡ true → IsHeldBy ram f s g → covers (device f.slots_at e) x ≡ true → covers g.device x ≡ true → ⊥
apart_held ram harts f s lot i e g x knows mine words to own h on on_g =
    by (device_at ram f.slots_at f.slots e x knows.fixed.slots_whole (entry_in ram f lot i e (all_at (IsLotIn ram f) s.lots lot knows.lots to.here.lot_in) to.here.entry) to.placed on)
    (held_device ram f s g x knows.fixed.slots_whole h on_g)
  where
    by : DeviceAt f.slots_at f.slots e x → DeviceAt f.slots_at f.slots h.is.entry x → ⊥
    by (direct in_e) (direct in_g) = direct_off ram f s g x to.lies.0 knows.regions h in_g (to.lies.1 x in_e) (wanted_thread f s lot i e x mine to.here own in_e)
    by (direct in_e) (slotted w sw few low high) = knows.regions.buffers_off_slots to.lies.0 x (to.lies.1 x in_e) (slot_covers f w x few low high)
    by (slotted w sw few low high) (direct in_g) = off_slots f x knows.regions (held_lies ram f s g x h in_g) (slot_covers f w x few low high)
    by (slotted w sw few low high) (slotted v sv few_v low_v high_v) =
        let same = one_slot f.slots_at w v x low high low_v high_v in
        let sw_g : h.is.entry.slot ≡ Some w = subst (λ (n : ℕ). h.is.entry.slot ≡ Some n) (sym same) sv in
        let hart = slot_harts h.other.me f.me s.slots w (slot_holder h.other.me s.slots h.lots w h.is.lot h.is.i h.is.entry h.agrees.words h.is.here sw_g) (slot_holder f.me s.slots s.lots w lot i e words to.here sw) in
        let lots = h.mine hart in
        let here : IsEntryOf s.lots h.is.lot h.is.i h.is.entry = record { lot_in = subst (In h.is.lot) lots h.is.here.lot_in; entry = h.is.here.entry } in
        let one = slot_once f.me s.slots s.lots w lot h.is.lot i h.is.i e h.is.entry words to.here here sw sw_g in
        not_lent s.lots lot h.is.lot (same_lot s.lots lot h.is.lot knows.names to.here.lot_in here.lot_in one.lot) to.wanted h.is.lent

pub name_held : (ram harts : ℕ) (f : DriverConfig) (s : Held) (lot : Lot) (i : ℕ) (e : Entry) (g : Grant) → Knows ram harts f s → IsEntryOf s.lots lot i e → is_wanted lot.side ≡ true → IsHeldBy ram f s g → same_map g.id (map_id f.me lot.id i) ≡ false
name_held ram harts f s lot i e g knows to wanted h =
    subst (λ (d : Grant). same_map d.id (map_id f.me lot.id i) ≡ false) (sym h.is.is) (not_same (map_id h.other.me h.is.lot.id h.is.i) (map_id f.me lot.id i) none)
  where
    none : SameMap (map_id h.other.me h.is.lot.id h.is.i) (map_id f.me lot.id i) → ⊥
    none same =
        let here : In h.is.lot s.lots = subst (In h.is.lot) (h.mine same.hart) h.is.here.lot_in in
        let one = names_apart ram f h.is.lot lot h.is.i i h.is.entry e (all_at (IsLotIn ram f) s.lots h.is.lot knows.lots here) (all_at (IsLotIn ram f) s.lots lot knows.lots to.lot_in) h.is.here.entry to.entry same.label same.entry in
        not_lent s.lots lot h.is.lot (same_lot s.lots lot h.is.lot knows.names to.lot_in here (sym one.lot)) wanted h.is.lent
