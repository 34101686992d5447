-- What a transaction that is no touch may use: where a channel sees the places that its own mappings have.
use Rattle.std.specs.Prelude.{Option, Some, None, ◌==◌, ◌&&◌, ◌-◌}
use Rattle.std.specs.Option.{option_map}
use Rattle.std.proofs.Common.{◌≡◌, ◌⊎◌, ℕ, ◌+◌, ◌<◌, ◌≤◌, true, false, List, sym, ap, ◌∙◌, inl, inr, arith}
use Rattle.std.proofs.lemmas.Bool.{and_parts, eqb-true, both_ways}
use Rattle.nc_num.specs.Places.{covers}
use Rattle.nc_num.specs.declared.names.ChanNo.{ChanNo}
use Rattle.nc_num.specs.declared.names.HartNo.{HartNo}
use Rattle.nc_num.specs.declared.names.MapId.{MapId}
use Rattle.nc_num.specs.declared.places.Span.{Span}
use Rattle.nc_model.specs.Flat.{name_by, channel_name}
use Rattle.nc_model.specs.Laws.{ChannelUses}
use Rattle.nc_model.specs.Rights.{same_map, is_device, device_may, buffer_place, serves, reached}
use Rattle.nc_model.specs.Touches.{channel_touch}
use Rattle.nc_model.specs.declared.owners.Access.{Access}
use Rattle.nc_model.specs.declared.owners.Grant.{Grant}
use Rattle.nc_model.specs.declared.owners.Owner.{Owner}
use Rattle.nc_model.specs.declared.owners.Owner.TheVariants.{Thread, Passing, Lending, Device, Returning, Synced, Pool}
use Rattle.nc_model.proofs.Faults.{covers-low}
use Rattle.nc_model.proofs.TouchLaws.{channel_passed, channel_uses}
use Rattle.nc_scen.specs.Regions.{slots_of}
use Rattle.nc_scen.specs.declared.scenario.Scenario.{Scenario}
use Rattle.nc_rules.specs.Lots.{map_id, grant_of}
use Rattle.nc_rules.specs.Turns.{is_area}
use Rattle.nc_rules.specs.EventTouches.{owner_of}
use Rattle.nc_rules.specs.World.{WorldState, driver_of, hart}
use Rattle.nc_scripts.proofs.Lists.{found}
use Rattle.nc_holds.specs.Holds.{IsHeldGrant}
use Rattle.nc_rows.specs.Rows.{Loan, device_place}
use Rattle.nc_flatness.specs.Books.{book_of, mapping_in}
use Rattle.nc_flatness.specs.Flatness.{Flatness}
use Rattle.nc_flatness.proofs.books.Loans.{entry_loan}
use Rattle.nc_flatness.proofs.books.Owned.{me_is, mapped, owned_ram}
use Rattle.nc_flatness.proofs.books.Seen.{seen, seen_lent, place_ways, mapped_unslotted}
use Rattle.nc_flat_moves.proofs.drains.Pooled.{one_loan}

-- ---- names

-- two names of a mapping that agree are one
abbrev named : ℕ → ℕ → ℕ → MapId
named h label entry = record { hart = record { 0 = h }; label = record { 0 = label }; entry = entry }

same_map_is : (n m : MapId) → same_map n m ≡ true → n ≡ m
same_map_is n m same =
    let a = and_parts (n.hart.0 == m.hart.0 && n.label.0 == m.label.0) (n.entry == m.entry) same in
    let b = and_parts (n.hart.0 == m.hart.0) (n.label.0 == m.label.0) a.0 in
    ap (λ (k : ℕ). named k n.label.0 n.entry) (eqb-true n.hart.0 m.hart.0 b.0) ∙ ap (λ (k : ℕ). named m.hart.0 k n.entry) (eqb-true n.label.0 m.label.0 b.1)
    ∙ ap (λ (k : ℕ). named m.hart.0 m.label.0 k) (eqb-true n.entry m.entry a.1)

device_is : (m : MapId) (o : Owner) → is_device m o ≡ true → o ≡ Device m
device_is m (Device n) e = ap Device (same_map_is n m e)
device_is m (Thread g) e = absurd cc
device_is m (Passing g k) e = absurd cc
device_is m (Lending n) e = absurd cc
device_is m (Returning n) e = absurd cc
device_is m (Synced n) e = absurd cc
device_is m Pool e = absurd cc

-- ---- a grant

-- it is that of a mapping of the book
pub record IsGranted (w : WorldState) (g : Grant) : Type 0 where
  pub loan : Loan
  pub known : (book_of w).loan g.id ≡ Some loan
  pub grant : loan.grant ≡ g

granted_by : (sc : Scenario) (f : List ℕ) (w : WorldState) (g : Grant) → Flatness sc f w → IsHeldGrant w g → IsGranted w g
granted_by sc f w g flat held =
    let h = g.id.hart.0 in
    let d = driver_of w h in
    let of = held.is in
    let named : map_id d.fixed.me of.lot.id of.i ≡ map_id (hart h) of.lot.id of.i = ap (λ (k : HartNo). map_id k of.lot.id of.i) (me_is w h flat.world.holds held.hart) in
    let id : g.id ≡ map_id (hart h) of.lot.id of.i = ap (λ (k : Grant). k.id) of.is ∙ named in
    record {
      loan = record { grant = grant_of d.fixed.slots_at of.lot (map_id (hart h) of.lot.id of.i) of.entry; lot = of.lot.id; area = is_area of.lot.kind };
      known = ap (book_of w).loan id ∙ entry_loan sc f w h of.lot of.i of.entry flat of.here of.lent;
      grant = sym (of.is ∙ ap (λ (k : MapId). grant_of d.fixed.slots_at of.lot k of.entry) named);
    }

-- ---- a place that a transaction may use

-- the channel sees a place of a buffer at it, under whose name the access is
pub record IsUsed (w : WorldState) (c : ChanNo) (access : Access) (z : ℕ) : Type 0 where
  pub place : ℕ
  pub name : channel_name w.grants c z ≡ place
  pub id : MapId
  pub owner : owner_of w place ≡ Device id
  pub loan : Loan
  pub known : (book_of w).loan id ≡ Some loan
  pub chan : loan.grant.chan.0 ≡ c.0
  pub allows : device_may access loan.grant.dir ≡ true
  pub here : device_place loan place ≡ z

here_by : (at from z : ℕ) → at ≤ z → at + ((from + (z - at)) - from) ≡ z
here_by at from z low = omega (arith, low)

uses_is : (sc : Scenario) (f : List ℕ) (w : WorldState) (c : ChanNo) (access : Access) (z : ℕ) → Flatness sc f w → ChannelUses (owner_of w) w.grants c access z → IsUsed w c access z
uses_is sc f w c access z flat uses =
    let g = uses.grant in
    let it = found (IsHeldGrant w) (serves c z) w.grants g flat.world.holds.grants uses.serves in
    let granted = granted_by sc f w g flat it.is in
    let parts = and_parts (g.chan.0 == c.0) (covers g.device z) it.passes in
    let over : covers g.device z ≡ true = parts.1 in
    record {
      place = buffer_place g z;
      name = ap (λ (o : Option Grant). name_by (option_map (reached z) o) z) uses.serves;
      id = g.id;
      owner = device_is g.id (owner_of w (buffer_place g z)) uses.owner;
      loan = granted.loan;
      known = granted.known;
      chan = ap (λ (k : Grant). k.chan.0) granted.grant ∙ eqb-true g.chan.0 c.0 parts.0;
      allows = ap (λ (k : Grant). device_may access k.dir) granted.grant ∙ uses.allows;
      here = ap (λ (k : Grant). k.device.at + (buffer_place g z - k.buffer.at)) granted.grant ∙ here_by g.device.at g.buffer.at z (covers-low g.device z over);
    }

-- where it is no touch
pub used : (sc : Scenario) (f : List ℕ) (w : WorldState) (c : ChanNo) (access : Access) (s : Span) (z : ℕ) → Flatness sc f w → channel_touch (owner_of w) w.grants c access s ≡ None → covers s z ≡ true → IsUsed w c access z
used sc f w c access s z flat none over =
    uses_is sc f w c access z flat (channel_uses (owner_of w) w.grants c access z (channel_passed (owner_of w) w.grants c access s z none over))

-- ---- its place of the buffer

-- it is in RAM, is none of the slots, and is seen at the place that is used
pub record IsThere (sc : Scenario) (w : WorldState) (place z : ℕ) : Type 0 where
  pub low : place < sc.ram
  pub off : covers (slots_of sc) place ≡ false
  pub at : seen w place ≡ z

pub used_there : (sc : Scenario) (f : List ℕ) (w : WorldState) (c : ChanNo) (access : Access) (z : ℕ) → Flatness sc f w → (u : IsUsed w c access z) → IsThere sc w u.place z
used_there sc f w c access z flat u =
    let mine = ap mapping_in u.owner in
    record {
      low = owned_ram sc f w u.place u.id flat mine;
      off = mapped_unslotted sc f w u.id u.place flat mine;
      at = seen_lent w u.id u.loan u.place u.known (inr (inl u.owner)) ∙ u.here;
    }

-- it is the place itself, or the mapping bounces
pub used_ways : (sc : Scenario) (f : List ℕ) (w : WorldState) (c : ChanNo) (access : Access) (z : ℕ) → Flatness sc f w → (u : IsUsed w c access z) → (u.place ≡ z) ⊎ (covers (slots_of sc) z ≡ true)
used_ways sc f w c access z flat u =
    let mine = ap mapping_in u.owner in
    let is = mapped sc f w u.id u.place flat (owned_ram sc f w u.place u.id flat mine) mine in
    let here : device_place is.loan u.place ≡ z = ap (λ (k : Loan). device_place k u.place) (one_loan ((book_of w).loan u.id) is.loan u.loan is.known u.known) ∙ u.here in
    elim (place_ways sc f w u.id u.place flat is) [
      | inl way ↦ inl (sym way.0 ∙ here)
      | inr way ↦ inr (ap (λ (y : ℕ). covers (slots_of sc) y) (sym here) ∙ way.0)
    ]

-- a place that is used and none of the slots is seen where it is
pub seen_here : (sc : Scenario) (f : List ℕ) (w : WorldState) (c : ChanNo) (access : Access) (z : ℕ) → Flatness sc f w → covers (slots_of sc) z ≡ false → IsUsed w c access z → seen w z ≡ z
seen_here sc f w c access z flat off u = elim (used_ways sc f w c access z flat u) [
  | inl same ↦ ap (λ (y : ℕ). seen w y) (sym same) ∙ (used_there sc f w c access z flat u).at
  | inr on ↦ absurd (both_ways (covers (slots_of sc) z) off on)
]
