-- The places of a copy's ends, as its channel uses them.
use Rattle.std.specs.Prelude.{Some, ◌-◌, slice_get}
use Rattle.std.proofs.Common.{◌≡◌, ℕ, ◌+◌, true, false, List, refl, sym, ap, ◌∙◌, inl, inr, subst, arith}
use Rattle.std.proofs.lemmas.Bool.{cases_Bool, both_ways}
use Rattle.nc_num.specs.Places.{covers}
use Rattle.nc_num.specs.declared.names.ChanNo.{ChanNo}
use Rattle.nc_num.specs.declared.names.Dir.{Dir}
use Rattle.nc_num.specs.declared.names.MapId.{MapId}
use Rattle.nc_num.specs.declared.places.Span.{Span}
use Rattle.nc_model.specs.declared.owners.Access.{Access}
use Rattle.nc_model.specs.declared.owners.Owner.TheVariants.{Device}
use Rattle.nc_model.proofs.Faults.{covers-low}
use Rattle.nc_sg.specs.Lists as sg
use Rattle.nc_sg.specs.declared.list.Entry.{Entry}
use Rattle.nc_scen.specs.Regions.{slots_of}
use Rattle.nc_scen.specs.declared.scenario.Scenario.{Scenario}
use Rattle.nc_rules.specs.declared.lots.Lot.{Lot}
use Rattle.nc_rules.specs.declared.lots.LotId.{LotId}
use Rattle.nc_rules.specs.declared.lots.Side.{Side}
use Rattle.nc_rules.specs.declared.lots.Side.TheVariants as sides
use Rattle.nc_rules.specs.Lots.{is_wanted, map_id, grant_of, owner_of_side}
use Rattle.nc_rules.specs.Turns.{is_area}
use Rattle.nc_rules.specs.World.{WorldState, driver_of, hart}
use Rattle.nc_holds.specs.Held.{IsEntryOf}
use Rattle.nc_rows.specs.Rows.{Loan, device_place}
use Rattle.nc_flatness.specs.Books.{book_of, mapping_in}
use Rattle.nc_flatness.specs.Copying.{IsEndAt}
use Rattle.nc_flatness.specs.Flatness.{Flatness}
use Rattle.nc_flatness.proofs.books.Loans.{entry_loan}
use Rattle.nc_flatness.proofs.books.Owned.{entry_owned, IsMapped, mapped, owned_ram}
use Rattle.nc_flatness.proofs.books.Seen.{slot_slots, has_slot, device_one, of_device, device_same, device_slots, mapped_unslotted, entry_unslotted}
use Rattle.nc_flat_moves.proofs.channels.Granted.{IsUsed}
use Rattle.nc_flat_moves.proofs.drains.Pooled.{one_loan}

-- ---- the entry at whose place a channel uses memory

straight : (at : ℕ) (e : Entry) → e.bounced ≡ false → sg.device at e ≡ e.span
straight at e off = rw off refl

-- the mapping of the place, and the place by it
record IsOwnPlace (w : WorldState) (n : MapId) (x z : ℕ) : Type 0 where
  is : IsMapped w n x
  here : device_place is.loan x ≡ z
  on : covers (sg.device (driver_of w n.hart.0).fixed.slots_at is.is.entry) z ≡ true
  at : x ≡ is.is.entry.span.at + (z - (sg.device (driver_of w n.hart.0).fixed.slots_at is.is.entry).at)

own_place : (sc : Scenario) (f : List ℕ) (w : WorldState) (c : ChanNo) (access : Access) (z : ℕ) → Flatness sc f w → (u : IsUsed w c access z) → IsOwnPlace w u.id u.place z
own_place sc f w c access z flat u =
    let mine = ap mapping_in u.owner in
    let m = mapped sc f w u.id u.place flat (owned_ram sc f w u.place u.id flat mine) mine in
    let here : device_place m.loan u.place ≡ z = ap (λ (k : Loan). device_place k u.place) (one_loan ((book_of w).loan u.id) m.loan u.loan m.known u.known) ∙ u.here in
    let device = sg.device (driver_of w u.id.hart.0).fixed.slots_at m.is.entry in
    let buffer_at : m.loan.grant.buffer.at ≡ m.is.entry.span.at = ap (λ (s : Span). s.at) m.is.buffer in
    let device_at : m.loan.grant.device.at ≡ device.at = ap (λ (s : Span). s.at) m.is.device in
    record {
      is = m;
      here = here;
      on = subst (λ (y : ℕ). covers device y ≡ true) here (of_device w u.id m.loan u.place m.is m.on);
      at = omega (arith, here, buffer_at, device_at, covers-low m.loan.grant.buffer u.place m.on);
    }

same_place : (w : WorldState) (g h : ℕ) (d e : Entry) (x z : ℕ) → g ≡ h → d ≡ e → x ≡ d.span.at + (z - (sg.device (driver_of w g).fixed.slots_at d).at) → x ≡ e.span.at + (z - (sg.device (driver_of w h).fixed.slots_at e).at)
same_place w g h d e x z hart entry at =
    at ∙ ap (λ (j : ℕ). d.span.at + (z - (sg.device (driver_of w j).fixed.slots_at d).at)) hart ∙ ap (λ (k : Entry). k.span.at + (z - (sg.device (driver_of w h).fixed.slots_at k).at)) entry

-- it is the entry whose device range has the place
used_entry : (sc : Scenario) (f : List ℕ) (w : WorldState) (c : ChanNo) (access : Access) (z h : ℕ) (lot : Lot) (i : ℕ) (e : Entry) → Flatness sc f w → (u : IsUsed w c access z) → IsEntryOf (driver_of w h).lots lot i e → is_wanted lot.side ≡ false
    → covers (sg.device (driver_of w h).fixed.slots_at e) z ≡ true → u.place ≡ e.span.at + (z - (sg.device (driver_of w h).fixed.slots_at e).at)
used_entry sc f w c access z h lot i e flat u entry lent on =
    let own = own_place sc f w c access z flat u in
    let is = own.is.is in
    let slots = slots_of sc in
    let slotted : is.entry.bounced ≡ true → covers slots z ≡ true = λ bounced. subst (λ (y : ℕ). covers slots y ≡ true) own.here (device_slots sc f w u.id own.is.loan u.place flat is bounced own.is.on) in
    let self : is.entry.bounced ≡ false → u.place ≡ z = λ direct. sym (device_same w u.id own.is.loan u.place is direct own.is.on) ∙ own.here in
    elim (cases_Bool e.bounced) [
      | inl bounced ↦ elim (cases_Bool is.entry.bounced) [
        | inl too ↦
            let one = device_one sc f w u.id.hart.0 h is.lot lot is.i i is.entry e z flat is.here entry is.lent lent too bounced own.on on in
            same_place w u.id.hart.0 h is.entry e u.place z one.hart one.entry own.at
        | inr direct ↦
            let slot = has_slot sc f w h lot i e flat entry lent bounced in
            absurd (both_ways (covers slots z) (ap (covers slots) (sym (self direct)) ∙ mapped_unslotted sc f w u.id u.place flat (ap mapping_in u.owner)) (slot_slots sc slot.k z slot.few (slot.inside z on)))
      ]
      | inr direct ↦
          let same = straight (driver_of w h).fixed.slots_at e direct in
          let over : covers e.span z ≡ true = subst (λ (s : Span). covers s z ≡ true) same on in
          elim (cases_Bool is.entry.bounced) [
            | inl bounced ↦ absurd (both_ways (covers slots z) (entry_unslotted sc f w h lot i e z flat entry over) (slotted bounced))
            | inr too ↦ let at = ap (λ (s : Span). s.at) same in omega (arith, self too, at, covers-low e.span z over)
          ]
    ]

-- ---- an end of a copy

end_entry : (w : WorldState) (h : ℕ) (id : LotId) (dir : Dir) (chan : ChanNo) (range device : Span) → (a : IsEndAt (driver_of w h).fixed (driver_of w h).lots id dir chan range device) → IsEntryOf (driver_of w h).lots a.lot 0 a.entry
end_entry w h id dir chan range device a = record { lot_in = a.is.here; entry = ap (λ (es : List Entry). slice_get es 0) a.only }

-- a place that is used in its device range is that of its range
pub end_place : (sc : Scenario) (f : List ℕ) (w : WorldState) (c : ChanNo) (access : Access) (z h : ℕ) (id : LotId) (dir : Dir) (chan : ChanNo) (range device : Span) → Flatness sc f w → IsEndAt (driver_of w h).fixed (driver_of w h).lots id dir chan range device → (u : IsUsed w c access z)
    → covers device z ≡ true → u.place ≡ range.at + (z - device.at)
end_place sc f w c access z h id dir chan range device flat a u on =
    used_entry sc f w c access z h a.lot 0 a.entry flat u (end_entry w h id dir chan range device a) a.lent (subst (λ (s : Span). covers s z ≡ true) (sym a.device_is) on)
    ∙ ap (λ (s : Span). a.entry.span.at + (z - s.at)) a.device_is ∙ ap (λ (s : Span). s.at + (z - device.at)) a.range_is

device_side : (n k : MapId) (s : Side) → owner_of_side n s ≡ Device k → n ≡ k
device_side n k sides.Device e = cc
device_side n k sides.Wanted e = absurd cc
device_side n k sides.Lending e = absurd cc
device_side n k sides.Returning e = absurd cc
device_side n k sides.Synced e = absurd cc
device_side n k sides.Own e = absurd cc

-- only its own channel uses a place of its range
pub end_channel : (sc : Scenario) (f : List ℕ) (w : WorldState) (c : ChanNo) (access : Access) (z h : ℕ) (id : LotId) (dir : Dir) (chan : ChanNo) (range device : Span) → Flatness sc f w → IsEndAt (driver_of w h).fixed (driver_of w h).lots id dir chan range device → (u : IsUsed w c access z)
    → covers range u.place ≡ true → chan.0 ≡ c.0
end_channel sc f w c access z h id dir chan range device flat a u on =
    let entry = end_entry w h id dir chan range device a in
    let n = map_id (hart h) a.lot.id 0 in
    let owned = entry_owned sc f w h a.lot 0 a.entry u.place flat entry (subst (λ (s : Span). covers s u.place ≡ true) (sym a.range_is) on) in
    let same : n ≡ u.id = device_side n u.id a.lot.side (sym owned ∙ u.owner) in
    let loan : Loan = record { grant = grant_of (driver_of w h).fixed.slots_at a.lot n a.entry; lot = a.lot.id; area = is_area a.lot.kind } in
    let known : (book_of w).loan u.id ≡ Some loan = ap (book_of w).loan (sym same) ∙ entry_loan sc f w h a.lot 0 a.entry flat entry a.lent in
    ap (λ (k : ChanNo). k.0) (sym a.is.chan_is) ∙ ap (λ (l : Loan). l.grant.chan.0) (one_loan ((book_of w).loan u.id) loan u.loan known u.known) ∙ u.chan
