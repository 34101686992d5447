-- Tokens of light fences where a hart has no plan in hand: one is queued of the lots that are being lent, and of no other of
-- those that the hart has with what its operation made.
use Rattle.std.specs.Prelude.{All, ◌==◌, true, false}
use Rattle.std.proofs.Common.{◌≡◌, ℕ, ◌<◌, List, [], length, refl, sym, ap, ◌∙◌, inl, inr, subst, arith}
use Rattle.std.proofs.lemmas.Bool.{cases_Bool, both_ways, and_from, and_parts, eq-eqb, eqb-true, false_from_ne_true}
use Rattle.nc_num.specs.declared.names.HartNo.{HartNo}
use Rattle.nc_num.specs.declared.names.Label.{Label}
use Rattle.nc_num.specs.declared.names.MapId.{MapId}
use Rattle.nc_queue.specs.declared.entry.Entry.{Entry}
use Rattle.nc_queue.specs.declared.entry.Entry.TheVariants as entries
use Rattle.nc_plan.specs.Plans.{In}
use Rattle.nc_scen.specs.declared.scenario.Scenario.{Scenario}
use Rattle.nc_rules.specs.declared.lots.Lot.{Lot}
use Rattle.nc_rules.specs.declared.steps.Step.{Step}
use Rattle.nc_rules.specs.Lots.{lot_id, is_lot, is_wanted}
use Rattle.nc_rules.specs.Machine.{queue_of}
use Rattle.nc_rules.specs.World.{WorldState, driver_of}
use Rattle.nc_scripts.specs.Drivers.{AreApart}
use Rattle.nc_scripts.proofs.Lists.{all_in}
use Rattle.nc_scripts.proofs.LotLaws.{its_name}
use Rattle.nc_holds.proofs.lists.Members.{all_at, none_of}
use Rattle.nc_holds.proofs.owners.Lots.{same_named}
use Rattle.nc_rows.specs.Ahead.{names}
use Rattle.nc_row_plans.specs.Begins.{NoneQueued}
use Rattle.nc_flatness.specs.Flatness.{Flatness}
use Rattle.nc_flatness.specs.Tokens.{lot_token, is_lot_token, is_lending_side, TokenStands}
use Rattle.nc_flatness.proofs.tokens.Stands.{none_stands}
use Rattle.nc_flatness.proofs.tokens.Tokens.{sent_side, unlent_unsent, queued_sent, token_lot}
use Rattle.nc_flat_starts.proofs.turning.Lots.{names_entry}

-- each lot that is lent, or was, is one of these
abbrev pub AreKept : WorldState → HartNo → List Lot → Type 0
AreKept w h lots = (other : Lot) → In other (driver_of w h.0).lots → is_wanted other.side ≡ false → In other lots

-- each of these that is being lent was there
abbrev pub WereLent : WorldState → HartNo → List Lot → Type 0
WereLent w h lots = (other : Lot) → In other lots → is_lending_side other.side ≡ true → In other (driver_of w h.0).lots

-- ---- the lot of a token

record HasSent (lots : List Lot) (label : Label) (first count : ℕ) : Type 0 where
  lot : Lot
  here : In lot lots
  label_is : lot.id.label.0 ≡ label.0
  first_is : lot.id.first ≡ first
  count_is : entries.Lend label first count ≡ lot_token lot
  side : is_lending_side lot.side ≡ true

sent_lot : (sc : Scenario) (f : List ℕ) (w : WorldState) (h : HartNo) (lots : List Lot) (label : Label) (first count : ℕ) → Flatness sc f w → h.0 < length sc.harts → AreKept w h lots → In (entries.Lend label first count) (queue_of w.machine h.0) → HasSent lots label first count
sent_lot sc f w h lots label first count flat lt kept queued =
    let d = driver_of w h.0 in
    let q = queue_of w.machine h.0 in
    let e = entries.Lend label first count in
    let short : h.0 < length w.machine.harts = omega (arith, lt, flat.world.of_scenario.harts) in
    let t = token_lot sc f w h.0 e (lot_id label first) flat short queued refl in
    let light = (flat.world.holds.each h.0 short).tokens.light e (lot_id label first) queued refl in
    let both = and_parts (t.lot.id.label.0 == label.0) (t.lot.id.first == first) t.is in
    let label_is = eqb-true t.lot.id.label.0 label.0 both.0 in
    let first_is = eqb-true t.lot.id.first first both.1 in
    let its = and_from (label.0 == t.lot.id.label.0) (first == t.lot.id.first) (eq-eqb label.0 t.lot.id.label.0 (sym label_is)) (eq-eqb first t.lot.id.first (sym first_is)) in
    let stands = all_at (TokenStands d.rest q) d.lots t.lot (flat.bytes.tokens h.0 lt light) t.here in
    let sent = queued_sent d.rest q t.lot e stands queued its in
    let side = sent_side d.rest t.lot sent.0 in
    record { lot = t.lot; here = kept t.lot t.here (ap is_wanted side); label_is = label_is; first_is = first_is; count_is = sent.1; side = ap is_lending_side side }

-- ---- a lot that is not being lent

token_by : (sc : Scenario) (f : List ℕ) (w : WorldState) (h : HartNo) (lots : List Lot) (lot : Lot) (label : Label) (first count : ℕ) → Flatness sc f w → h.0 < length sc.harts → AreApart lots → AreKept w h lots → In lot lots → is_lending_side lot.side ≡ false
    → In (entries.Lend label first count) (queue_of w.machine h.0) → is_lot_token lot.id (entries.Lend label first count) ≡ true → ⊥
token_by sc f w h lots lot label first count flat lt apart kept here off queued is =
    let t = sent_lot sc f w h lots label first count flat lt kept queued in
    let both = and_parts (label.0 == lot.id.label.0) (first == lot.id.first) is in
    let named : is_lot lot.id t.lot ≡ true =
    and_from (t.lot.id.label.0 == lot.id.label.0) (t.lot.id.first == lot.id.first) (eq-eqb t.lot.id.label.0 lot.id.label.0 (t.label_is ∙ eqb-true label.0 lot.id.label.0 both.0)) (eq-eqb t.lot.id.first lot.id.first (t.first_is ∙ eqb-true first lot.id.first both.1)) in
    let same : t.lot ≡ lot = same_named lots lot.id t.lot lot apart t.here here named (its_name lot lot.id refl) in
    both_ways (is_lending_side lot.side) off (subst (λ (l : Lot). is_lending_side l.side ≡ true) same t.side)

token_off : (sc : Scenario) (f : List ℕ) (w : WorldState) (h : HartNo) (lots : List Lot) (lot : Lot) (e : Entry) → Flatness sc f w → h.0 < length sc.harts → AreApart lots → AreKept w h lots → In lot lots → is_lending_side lot.side ≡ false
    → In e (queue_of w.machine h.0) → is_lot_token lot.id e ≡ true → ⊥
token_off sc f w h lots lot (entries.Lend label first count) flat lt apart kept here off queued is = token_by sc f w h lots lot label first count flat lt apart kept here off queued is
token_off sc f w h lots lot (entries.Store span bytes kind) flat lt apart kept here off queued is = absurd cc
token_off sc f w h lots lot (entries.Cbo block op) flat lt apart kept here off queued is = absurd cc
token_off sc f w h lots lot (entries.Reg chan offset width value) flat lt apart kept here off queued is = absurd cc
token_off sc f w h lots lot (entries.Mail buf to) flat lt apart kept here off queued is = absurd cc
token_off sc f w h lots lot (entries.Mark pred succ) flat lt apart kept here off queued is = absurd cc

-- no token of it is queued
pub no_token : (sc : Scenario) (f : List ℕ) (w : WorldState) (h : HartNo) (lots : List Lot) (lot : Lot) → Flatness sc f w → h.0 < length sc.harts → AreApart lots → AreKept w h lots → In lot lots → is_lending_side lot.side ≡ false
    → (e : Entry) → In e (queue_of w.machine h.0) → is_lot_token lot.id e ≡ false
no_token sc f w h lots lot flat lt apart kept here off e queued = false_from_ne_true (is_lot_token lot.id e) (λ is. token_off sc f w h lots lot e flat lt apart kept here off queued is)

named_off : (sc : Scenario) (f : List ℕ) (w : WorldState) (h : HartNo) (lots : List Lot) (lot : Lot) (n : MapId) (e : Entry) → Flatness sc f w → h.0 < length sc.harts → AreKept w h lots → ((other : Lot) → In other lots → names_entry n other ≡ true → other ≡ lot) → is_lending_side lot.side ≡ false
    → In e (queue_of w.machine h.0) → names n e ≡ true → ⊥
named_off sc f w h lots lot n (entries.Lend label first count) flat lt kept one off queued is =
    let t = sent_lot sc f w h lots label first count flat lt kept queued in
    let its : names_entry n t.lot ≡ true = subst (λ (e : Entry). names n e ≡ true) t.count_is is in
    let same : t.lot ≡ lot = one t.lot t.here its in
    both_ways (is_lending_side lot.side) off (subst (λ (l : Lot). is_lending_side l.side ≡ true) same t.side)
named_off sc f w h lots lot n (entries.Store span bytes kind) flat lt kept one off queued is = absurd cc
named_off sc f w h lots lot n (entries.Cbo block op) flat lt kept one off queued is = absurd cc
named_off sc f w h lots lot n (entries.Reg chan offset width value) flat lt kept one off queued is = absurd cc
named_off sc f w h lots lot n (entries.Mail buf to) flat lt kept one off queued is = absurd cc
named_off sc f w h lots lot n (entries.Mark pred succ) flat lt kept one off queued is = absurd cc

-- and none that names one of its mappings
pub none_named : (sc : Scenario) (f : List ℕ) (w : WorldState) (h : HartNo) (lots : List Lot) (lot : Lot) (n : MapId) → Flatness sc f w → h.0 < length sc.harts → AreKept w h lots → ((other : Lot) → In other lots → names_entry n other ≡ true → other ≡ lot) → is_lending_side lot.side ≡ false
    → NoneQueued (names n) w.machine h.0
none_named sc f w h lots lot n flat lt kept one off =
    none_of (names n) (queue_of w.machine h.0) (λ e queued. false_from_ne_true (names n e) (λ is. named_off sc f w h lots lot n e flat lt kept one off queued is))

-- ---- all of the lots

pub lots_stand : (sc : Scenario) (f : List ℕ) (w : WorldState) (h : HartNo) (lots : List Lot) → Flatness sc f w → h.0 < length sc.harts → (driver_of w h.0).rest ≡ [] → AreApart lots → AreKept w h lots → WereLent w h lots → (driver_of w h.0).fixed.light ≡ true
    → All (TokenStands [] (queue_of w.machine h.0)) lots
lots_stand sc f w h lots flat lt idle apart kept lent light =
    let d = driver_of w h.0 in
    let q = queue_of w.machine h.0 in
    let was : All (TokenStands [] q) d.lots = subst (λ (rest : List Step). All (TokenStands rest q) d.lots) idle (flat.bytes.tokens h.0 lt light) in
    all_in (TokenStands [] q) lots
    (λ lot here. elim (cases_Bool (is_lending_side lot.side)) [
      | inl lends ↦ all_at (TokenStands [] q) d.lots lot was (lent lot here lends)
      | inr off ↦ none_stands [] q lot (no_token sc f w h lots lot flat lt apart kept here off) (unlent_unsent [] lot off)
    ])
