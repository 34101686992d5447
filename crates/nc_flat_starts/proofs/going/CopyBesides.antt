-- The two ends of a copy lie beside each other: they share no byte and no slot, and no block of a slot is one of a buffer.
use Rattle.std.specs.Prelude.{Some, ◌/◌, true, false, slice_get}
use Rattle.std.proofs.Common.{◌≡◌, ℕ, List, length, sym, ap, ◌∙◌, inl, inr, subst, arith}
use Rattle.std.proofs.lemmas.Bool.{both_ways, cases_Bool, cond-false, false≢true}
use Rattle.nc_num.specs.Places.{covers}
use Rattle.nc_num.specs.declared.names.HartNo.{HartNo}
use Rattle.nc_num.specs.declared.places.Span.{Span}
use Rattle.nc_model.proofs.Faults.{covers-from, covers-low, covers-high}
use Rattle.nc_scen.specs.Regions.{slots_of}
use Rattle.nc_scen.specs.declared.scenario.Scenario.{Scenario}
use Rattle.nc_sg.specs.Lists as sg
use Rattle.nc_sg.specs.declared.list.Entry.{Entry}
use Rattle.nc_rules.specs.declared.lots.Lot.{Lot}
use Rattle.nc_rules.specs.declared.lots.LotId.{LotId}
use Rattle.nc_rules.specs.Copies.{source, target}
use Rattle.nc_rules.specs.Lots.{DriverConfig}
use Rattle.nc_rules.specs.Turns.{is_area}
use Rattle.nc_rules.specs.World.{WorldState, driver_of}
use Rattle.nc_holds.specs.Held.{slots_span}
use Rattle.nc_holds.proofs.grants.Words.{slot_once}
use Rattle.nc_holds.proofs.owners.Lots.{entry_in}
use Rattle.nc_rows.specs.Ahead.{same_lot}
use Rattle.nc_flatness.proofs.books.Seen.{slot_block}
use Rattle.nc_flatness.specs.Plans.{device_of}
use Rattle.nc_flat_starts.proofs.opening.Bases.{fixed_is, IsMember, member_lot, member_lies, member_beside, waits_not, slot_in, IsInSlot, in_slot_so, one_word}
use Rattle.nc_flat_starts.proofs.going.CopyPlans.{AreBeside}
use Rattle.nc_flat_starts.proofs.turning.OpenRows.{sizes}

two_names : (src dst : Lot) → src.id ≡ source → dst.id ≡ target → src.id ≡ dst.id → ⊥
two_names src dst is_src is_dst same =
    let names : source ≡ target = sym is_src ∙ same ∙ is_dst in
    let no : true ≡ false = ap (λ (i : LotId). same_lot i source) names in
    false≢true (sym no)

-- an entry that bounces has a slot
record AtSlot (f : DriverConfig) (e : Entry) : Type 0 where
  word : ℕ
  slot : e.slot ≡ Some word
  inside : IsInSlot f e word

at_slot : (sc : Scenario) (f : List ℕ) (w : WorldState) (h : HartNo) (lots : List Lot) (lot : Lot) (i : ℕ) (e : Entry) → IsMember sc f w h lots lot → slice_get lot.list.entries i ≡ Some e → e.bounced ≡ true → AtSlot (driver_of w h.0).fixed e
at_slot sc f w h lots lot i e b there bounced =
    let k = slot_in e (waits_not lot i e b.placed there) bounced in
    record {
      word = k.0;
      slot = k.1;
      inside = in_slot_so (length w.machine.cache.ram) (driver_of w h.0).fixed e k.0 b.each.knows.fixed.slots_whole (entry_in (length w.machine.cache.ram) (driver_of w h.0).fixed lot i e (member_lot sc f w h lots lot b) there) bounced k.1;
    }

-- where the channel sees it is a place of the slots
in_slots : (f : DriverConfig) (e : Entry) (y : ℕ) → (k : AtSlot f e) → covers (device_of f e) y ≡ true → covers (slots_span f) y ≡ true
in_slots f e y k on =
    covers-from (slots_span f) y (omega (arith, k.inside.low, covers-low (sg.device f.slots_at e) y on)) (omega (arith, k.inside.high, k.inside.long, k.inside.few, covers-high (sg.device f.slots_at e) y on))

-- what does not bounce is seen at itself
direct_at : (f : DriverConfig) (e : Entry) (y : ℕ) → e.bounced ≡ false → covers (device_of f e) y ≡ true → covers e.span y ≡ true
direct_at f e y off on = subst (λ (s : Span). covers s y ≡ true) (cond-false e.bounced _ e.span off) on

-- no place of a buffer is one of the slots
apart_slots : (sc : Scenario) (f : List ℕ) (w : WorldState) (h : HartNo) (lots : List Lot) (lot : Lot) (i : ℕ) (e : Entry) (y : ℕ) → IsMember sc f w h lots lot → is_area lot.kind ≡ false → slice_get lot.list.entries i ≡ Some e → covers e.span y ≡ true → covers (slots_span (driver_of w h.0).fixed) y ≡ true → ⊥
apart_slots sc f w h lots lot i e y b plain there on over = let lies = member_lies sc f w h lots lot i e b plain there in b.each.knows.regions.buffers_off_slots lies.0 y (lies.1 y on) over

pub ends_beside : (sc : Scenario) (f : List ℕ) (w : WorldState) (h : HartNo) (lots : List Lot) (src dst : Lot) → (b : IsMember sc f w h lots src) → (c : IsMember sc f w h lots dst) → is_area src.kind ≡ false → is_area dst.kind ≡ false → src.id ≡ source → dst.id ≡ target → AreBeside (driver_of w h.0).fixed src dst
ends_beside sc f w h lots src dst b c plain its_plain is_src is_dst =
    let fx = (driver_of w h.0).fixed in
    record {
      ins = λ i j d e y at_i at_j bounced on_d on_e.
          let ke = at_slot sc f w h lots dst j e c at_j bounced in
          elim (cases_Bool d.bounced) [
            | inl its ↦
                let kd = at_slot sc f w h lots src i d b at_i its in
                let same = one_word fx.slots_at kd.word ke.word y (omega (arith, kd.inside.low, covers-low (sg.device fx.slots_at d) y on_d)) (omega (arith, kd.inside.high, kd.inside.long, covers-high (sg.device fx.slots_at d) y on_d))
                (omega (arith, ke.inside.low, covers-low (sg.device fx.slots_at e) y on_e)) (omega (arith, ke.inside.high, ke.inside.long, covers-high (sg.device fx.slots_at e) y on_e)) in
                two_names src dst is_src is_dst
                (slot_once fx.me b.slots lots kd.word src dst i j d e b.each.words (record { lot_in = b.here; entry = at_i }) (record { lot_in = c.here; entry = at_j }) kd.slot (subst (λ (k : ℕ). e.slot ≡ Some k) (sym same) ke.slot)).lot
            | inr off ↦ apart_slots sc f w h lots src i d y b plain at_i (direct_at fx d y off on_d) (in_slots fx e y ke on_e)
          ];
      outs = λ i j d e y at_i at_j bounced on_d on_e. elim (cases_Bool d.bounced) [
        | inl its ↦ apart_slots sc f w h lots dst j e y c its_plain at_j on_e (in_slots fx d y (at_slot sc f w h lots src i d b at_i its) on_d)
        | inr off ↦ two_names src dst is_src is_dst (b.each.mine.apart src dst i j d e y (record { lot_in = b.here; entry = at_i }) (record { lot_in = c.here; entry = at_j }) (direct_at fx d y off on_d) on_e).lot
      ];
      blocks = λ j e y x at_j bounced on_y on_x met.
          let same : slots_span fx ≡ slots_of sc = ap (λ (k : DriverConfig). slots_span k) (fixed_is sc f w h c.flat c.lt) in
          let over : covers (slots_of sc) y ≡ true = subst (λ (s : Span). covers s y ≡ true) same (in_slots fx e y (at_slot sc f w h lots dst j e c at_j bounced) on_y) in
          let also : y / w.machine.size ≡ x / w.machine.size = subst (λ (s : ℕ). y / s ≡ x / s) (sizes sc f w h c.flat c.lt) (sym met) in
          both_ways (covers (slots_of sc) x) (member_beside sc f w h lots dst j e x c its_plain at_j on_x).1 (slot_block sc f w y x c.flat over also);
    }
