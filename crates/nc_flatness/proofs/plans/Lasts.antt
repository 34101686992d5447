-- The places of a copy under way are those of a mapping that is being lent or taken back.
use Rattle.std.specs.Prelude.{◌⊎◌, ◌-◌}
use Rattle.std.proofs.Common.{◌≡◌, ℕ, ◌+◌, ◌<◌, ◌≤◌, true, false, List, length, refl, sym, ap, ◌∙◌, inl, inr, subst, arith, Option, Some, None}
use Rattle.std.proofs.lemmas.Bool.{cases_Bool, cases_lt, false≢true}
use Rattle.nc_num.specs.Memory as memory
use Rattle.nc_num.specs.Memory.{byte}
use Rattle.nc_num.specs.Places.{covers}
use Rattle.nc_num.proofs.MemoryLaws.{span-by_place}
use Rattle.nc_num.specs.declared.names.MapId.{MapId}
use Rattle.nc_num.specs.declared.places.Span.{Span}
use Rattle.nc_plan.specs.Plans.{moved}
use Rattle.nc_model.specs.declared.owners.Owner.TheVariants.{Lending, Returning}
use Rattle.nc_model.proofs.Faults.{covers-from}
use Rattle.nc_sg.specs.declared.list.Entry.{Entry}
use Rattle.nc_scen.specs.Regions.{slots_of}
use Rattle.nc_scen.specs.declared.scenario.Scenario.{Scenario}
use Rattle.nc_rules.specs.declared.lots.Lot.{Lot}
use Rattle.nc_rules.specs.declared.lots.Side.{Side}
use Rattle.nc_rules.specs.declared.lots.Side.TheVariants as sides
use Rattle.nc_rules.specs.Lots.{is_wanted, owner_of_side}
use Rattle.nc_rules.specs.declared.steps.Step.{Step}
use Rattle.nc_rules.specs.Machine.{MachineState, hart_of}
use Rattle.nc_rules.specs.EventTouches.{owner_of}
use Rattle.nc_rules.specs.World.{WorldState, driver_of}
use Rattle.nc_holds.specs.Held.{IsEntryOf}
use Rattle.nc_holds.proofs.lists.Members.{same_some}
use Rattle.nc_holds.proofs.owners.Lots.{same_lot, entry_in}
use Rattle.nc_rows.specs.Rows.{Loan, device_place}
use Rattle.nc_rows.specs.Rows.{Book}
use Rattle.nc_rows.specs.Parts.{rest_last, IsPiece, LastIs}
use Rattle.nc_flatness.specs.Books.{book_of}
use Rattle.nc_flatness.specs.Flatness.{Flatness}
use Rattle.nc_flatness.specs.Plans.{device_of, IsWithin}
use Rattle.nc_flatness.proofs.books.Loans.{IsLoan, loan_is, lot_in}
use Rattle.nc_flatness.proofs.books.Owned.{IsMapped, of_buffer, loan_mapped}
use Rattle.nc_flatness.proofs.plans.Rests.{IsNextStore, next_store, no_rest}
use Rattle.nc_flatness.proofs.books.Seen.{has_slot, slot_slots, device_len, of_device, device_same, device_slots, device_one, entry_unslotted}

-- a place of the piece that is stored
pub moved_on : (from to span : Span) (z : ℕ) → from.len ≡ to.len → IsWithin span from → (moved from.at to.at span).at ≤ z → z < (moved from.at to.at span).at + (moved from.at to.at span).len → covers to z ≡ true
moved_on from to span z long within low high = covers-from to z (omega (arith, low)) (omega (arith, long, within.0, within.1, low, high))

-- where a place of a piece stands beside the piece's own places
record IsAt (l : Loan) (x z : ℕ) : Type 0 where
  pub on : covers l.grant.buffer x ≡ true
  pub way : (z ≡ x) ⊎ (z ≡ device_place l x)

place_at : (sc : Scenario) (f : List ℕ) (w : WorldState) (h : ℕ) (span : Span) (bytes : List ℕ) (x : ℕ) → (p : IsPiece (book_of w) f h span bytes) → p.from ≤ x → x < p.from + span.len → IsAt p.loan x (span.at + (x - p.from))
place_at sc f w h span bytes x p from before = record {
  on = covers-from p.loan.grant.buffer x (omega (arith, from, p.inside.0)) (omega (arith, before, p.inside.1));
  way = elim p.here [
    | inl e ↦ inl (omega (arith, e, from))
    | inr e ↦ inr (omega (arith, e, from, p.inside.0))
  ];
}

wanted_not : (side : Side) (to : Side) → side ≡ to → is_wanted to ≡ false → is_wanted side ≡ false
wanted_not side to e off = ap is_wanted e ∙ off

-- a place of the mapping that is of this entry of the hart
same_owner : (w : WorldState) (n : MapId) (x : ℕ) (lot : Lot) (side : Side) → (m : IsMapped w n x) → m.is.lot ≡ lot → lot.side ≡ side → owner_of w x ≡ owner_of_side n side
same_owner w n x lot side m same is = m.owner ∙ ap (λ (l : Lot). owner_of_side n l.side) same ∙ ap (owner_of_side n) is

in_lent : (sc : Scenario) (f : List ℕ) (w : WorldState) (n : MapId) (x z : ℕ) (lot : Lot) (i : ℕ) (e : Entry) → Flatness sc f w → (m : IsMapped w n x) → IsEntryOf (driver_of w n.hart.0).lots lot i e → e.bounced ≡ true → lot.side ≡ sides.Lending
    → covers (device_of (driver_of w n.hart.0).fixed e) z ≡ true → (z ≡ x) ⊎ (z ≡ device_place m.loan x) → owner_of w x ≡ Lending n
in_lent sc f w n x z lot i e flat m here bounced side on way =
    let h = n.hart.0 in
    let lent = wanted_not lot.side sides.Lending side refl in
    let slot = has_slot sc f w h lot i e flat here lent bounced in
    let in_slots = slot_slots sc slot.k z slot.few (slot.inside z on) in
    let off = entry_unslotted sc f w h m.is.lot m.is.i m.is.entry x flat m.is.here (of_buffer w n m.loan x m.is m.on) in
    let never : z ≡ x → ⊥ = λ same. false≢true (sym off ∙ ap (covers (slots_of sc)) (sym same) ∙ in_slots) in
    elim way [
      | inl same ↦ absurd (never same)
      | inr there ↦
          elim (cases_Bool m.is.entry.bounced) [
            | inl too ↦
                let on_too = subst (λ (y : ℕ). covers (device_of (driver_of w h).fixed m.is.entry) y ≡ true) (sym there) (of_device w n m.loan x m.is m.on) in
                let one = device_one sc f w h h m.is.lot lot m.is.i i m.is.entry e z flat m.is.here here m.is.lent lent too bounced on_too on in
                same_owner w n x lot sides.Lending m one.lot side
            | inr direct ↦ absurd (never (there ∙ device_same w n m.loan x m.is direct m.on))
          ]
    ]

out_back : (sc : Scenario) (f : List ℕ) (w : WorldState) (n : MapId) (x z : ℕ) (lot : Lot) (i : ℕ) (e : Entry) → Flatness sc f w → (m : IsMapped w n x) → IsEntryOf (driver_of w n.hart.0).lots lot i e → lot.side ≡ sides.Returning → covers e.span z ≡ true
    → (z ≡ x) ⊎ (z ≡ device_place m.loan x) → owner_of w x ≡ Returning n
out_back sc f w n x z lot i e flat m here side on way =
    let h = n.hart.0 in
    let holds = flat.world.holds.each h m.is.hart in
    let at_place : z ≡ x → owner_of w x ≡ Returning n =
    λ same.
    let both = holds.agrees.apart m.is.lot lot m.is.i i m.is.entry e z m.is.here here (subst (λ (y : ℕ). covers m.is.entry.span y ≡ true) (sym same) (of_buffer w n m.loan x m.is m.on)) on in
    same_owner w n x lot sides.Returning m (same_lot (driver_of w h).lots m.is.lot lot holds.driver.apart m.is.here.lot_in here.lot_in both.lot) side in
    elim way [
      | inl same ↦ at_place same
      | inr there ↦
          elim (cases_Bool m.is.entry.bounced) [
            | inl bounced ↦
                absurd (false≢true (sym (entry_unslotted sc f w h lot i e z flat here on) ∙ ap (covers (slots_of sc)) there ∙ device_slots sc f w n m.loan x flat m.is bounced m.on))
            | inr direct ↦ at_place (there ∙ device_same w n m.loan x m.is direct m.on)
          ]
    ]

-- a hart with a rest is there
rest_hart : (sc : Scenario) (f : List ℕ) (w : WorldState) (h : ℕ) (span : Span) → Flatness sc f w → rest_last ((book_of w).rest h) ≡ Some span → h < length sc.harts
rest_hart sc f w h span flat e = elim (cases_lt h (length sc.harts)) [
  | inl lt ↦ lt
  | inr past ↦
      let none : rest_last ((book_of w).rest h) ≡ None = ap rest_last (no_rest w h (omega (arith, past, flat.world.holds.drivers, flat.world.of_scenario.harts))) in
      let both = sym none ∙ e in
      absurd (cc)
]

-- a place of the store that comes next has the owner that its lot's side says
copied_owner : (sc : Scenario) (f : List ℕ) (w : WorldState) (n : MapId) (x z : ℕ) (span : Span) → Flatness sc f w → (m : IsMapped w n x) → (s : IsNextStore (driver_of w n.hart.0).fixed (driver_of w n.hart.0).lots span) → span.at ≤ z → z < span.at + span.len
    → (z ≡ x) ⊎ (z ≡ device_place m.loan x) → (owner_of w x ≡ Lending n) ⊎ (owner_of w x ≡ Returning n)
copied_owner sc f w n x z span flat m s low high way =
    let c = s.is.copied in
    let from = s.is.from in
    let to = s.is.to in
    let fx = (driver_of w n.hart.0).fixed in
    let low_at : (moved from.at to.at s.is.span).at ≤ z = subst (λ (r : Span). r.at ≤ z) s.span_is low in
    let high_at : z < (moved from.at to.at s.is.span).at + (moved from.at to.at s.is.span).len = subst (λ (r : Span). z < r.at + r.len) s.span_is high in
    let long = device_len fx.slots_at c.entry c.entry.bounced refl in
    elim c.way [
      | inl goes ↦
          let same : from.len ≡ to.len = ap (λ (r : Span). r.len) goes.from_is ∙ sym long ∙ ap (λ (r : Span). r.len) (sym goes.to_is) in
          let on = subst (λ (r : Span). covers r z ≡ true) goes.to_is (moved_on from to s.is.span z same s.is.within low_at high_at) in
          inl (in_lent sc f w n x z c.lot c.i c.entry flat m c.here c.bounced goes.hand.side_is on way)
      | inr comes ↦
          let same : from.len ≡ to.len = ap (λ (r : Span). r.len) comes.from_is ∙ long ∙ ap (λ (r : Span). r.len) (sym comes.to_is) in
          let on = subst (λ (r : Span). covers r z ≡ true) comes.to_is (moved_on from to s.is.span z same s.is.within low_at high_at) in
          inr (out_back sc f w n x z c.lot c.i c.entry flat m c.here comes.hand.side_is on way)
    ]

pub last_lent : (sc : Scenario) (f : List ℕ) (w : WorldState) (h : ℕ) (span : Span) (bytes : List ℕ) → Flatness sc f w → rest_last ((book_of w).rest h) ≡ Some span → (p : IsPiece (book_of w) f h span bytes)
    → (x : ℕ) → p.from ≤ x → x < p.from + span.len → (owner_of w x ≡ Lending p.id) ⊎ (owner_of w x ≡ Returning p.id)
last_lent sc f w h span bytes flat e p x from before =
    let lt = rest_hart sc f w h span flat e in
    let next = next_store (driver_of w h) span (flat.bytes.drives h lt) e in
    let store = subst (λ (g : ℕ). IsNextStore (driver_of w g).fixed (driver_of w g).lots span) (sym p.own) next in
    let at = place_at sc f w h span bytes x p from before in
    let m = loan_mapped sc f w p.id p.loan x flat p.lent at.on in
    let z = span.at + (x - p.from) in
    let loan : p.loan ≡ m.loan = same_some p.loan m.loan (sym p.lent ∙ m.known) in
    let way = subst (λ (l : Loan). (z ≡ x) ⊎ (z ≡ device_place l x)) loan at.way in
    copied_owner sc f w p.id x z span flat m store (omega arith) (omega (arith, from, before)) way

-- ---- a copy under way that stays

span_same : (f g : List ℕ) (at n : ℕ) → at + n ≤ length f → at + n ≤ length g → ((x : ℕ) → at ≤ x → x < at + n → byte g x ≡ byte f x) → memory.span f at n ≡ memory.span g at n
span_same f g at n fits ends same = sym (span-by_place f (byte f) at n fits (λ x le lt. refl)) ∙ span-by_place g (byte f) at n ends (λ x le lt. sym (same x le lt))

-- a buffer ends in RAM
buffer_ends : (sc : Scenario) (f : List ℕ) (w : WorldState) (n : MapId) (l : Loan) → Flatness sc f w → IsLoan w n l → l.grant.buffer.at + l.grant.buffer.len ≤ sc.ram
buffer_ends sc f w n l flat is =
    let lt = (entry_in (length w.machine.cache.ram) (driver_of w n.hart.0).fixed is.lot is.i is.entry (lot_in sc f w n.hart.0 is.lot flat is.here.lot_in) is.here.entry).range.ends in
    let at = ap (λ (s : Span). s.at) is.buffer in
    let len = ap (λ (s : Span). s.len) is.buffer in
    omega (arith, lt, at, len, flat.world.of_scenario.ram)

-- flat memory is the same where mappings of the hart are lent or taken back
abbrev pub SameLent : WorldState → ℕ → List ℕ → List ℕ → Type 0
SameLent w h f g = (x : ℕ) (n : MapId) → n.hart.0 ≡ h → (owner_of w x ≡ Lending n) ⊎ (owner_of w x ≡ Returning n) → byte g x ≡ byte f x

piece_stays : (sc : Scenario) (f g : List ℕ) (w : WorldState) (b : Book) (h : ℕ) (span : Span) (bytes : List ℕ) → Flatness sc f w → length g ≡ sc.ram → ((n : MapId) → n.hart.0 ≡ h → b.loan n ≡ (book_of w).loan n) → SameLent w h f g
    → rest_last ((book_of w).rest h) ≡ Some span → IsPiece (book_of w) f h span bytes → IsPiece b g h span bytes
piece_stays sc f g w b h span bytes flat long loans same e p =
    let ends = buffer_ends sc f w p.id p.loan flat (loan_is sc f w p.id p.loan flat p.lent) in
    record {
      id = p.id;
      loan = p.loan;
      lent = loans p.id p.own ∙ p.lent;
      own = p.own;
      from = p.from;
      inside = p.inside;
      here = p.here;
      bytes_are =
          p.bytes_are
          ∙ span_same f g p.from span.len (omega (arith, ends, p.inside.1, flat.bytes.flat_size)) (omega (arith, ends, p.inside.1, long))
          (λ x from before. same x p.id p.own (last_lent sc f w h span bytes flat e p x from before));
    }

last_by : (sc : Scenario) (f g : List ℕ) (w : WorldState) (b : Book) (h : ℕ) (bytes : List ℕ) (o : Option Span) → Flatness sc f w → length g ≡ sc.ram → ((n : MapId) → n.hart.0 ≡ h → b.loan n ≡ (book_of w).loan n) → SameLent w h f g
    → rest_last ((book_of w).rest h) ≡ o → LastIs (book_of w) f h bytes o → LastIs b g h bytes o
last_by sc f g w b h bytes None flat long loans same e is = tt
last_by sc f g w b h bytes (Some span) flat long loans same e is = piece_stays sc f g w b h span bytes flat long loans same e is

-- a hart whose rest, last load and mappings are as they were
pub last_stays : (sc : Scenario) (f g : List ℕ) (w : WorldState) (b : Book) (k : MachineState) (h : ℕ) → Flatness sc f w → length g ≡ sc.ram → b.rest h ≡ (book_of w).rest h → (hart_of k h).last ≡ (hart_of w.machine h).last
    → ((n : MapId) → n.hart.0 ≡ h → b.loan n ≡ (book_of w).loan n) → SameLent w h f g → LastIs b g h (hart_of k h).last (rest_last (b.rest h))
last_stays sc f g w b k h flat long rest last loans same =
    let stays = last_by sc f g w b h (hart_of w.machine h).last (rest_last ((book_of w).rest h)) flat long loans same refl (flat.bytes.lasts h) in
    subst (λ (bytes : List ℕ). LastIs b g h bytes (rest_last (b.rest h))) (sym last) (subst (λ (r : List Step). LastIs b g h (hart_of w.machine h).last (rest_last r)) (sym rest) stays)
