-- The lot of a token that drains: it is being lent, and its hart's plan does not end that.
use Rattle.std.specs.Prelude.{Some, slice_get}
use Rattle.std.specs.List.{list_any}
use Rattle.std.proofs.Common.{◌≡◌, ℕ, ◌<◌, true, false, List, length, refl, subst}
use Rattle.nc_num.specs.declared.names.Label.{Label}
use Rattle.nc_plan.specs.Plans.{In}
use Rattle.nc_queue.specs.declared.entry.Entry.TheVariants as entries
use Rattle.nc_scen.specs.declared.scenario.Scenario.{Scenario}
use Rattle.nc_rules.specs.declared.lots.Lot.{Lot}
use Rattle.nc_rules.specs.declared.lots.LotId.{LotId}
use Rattle.nc_rules.specs.declared.lots.Side.TheVariants as sides
use Rattle.nc_rules.specs.Lots.{is_lot, lot_id}
use Rattle.nc_rules.specs.Machine.{queue_of}
use Rattle.nc_rules.specs.World.{WorldState, driver_of}
use Rattle.nc_scripts.proofs.LotLaws.{named_so, its_name}
use Rattle.nc_holds.proofs.lists.Members.{all_at, at_get}
use Rattle.nc_holds.proofs.owners.Lots.{same_named}
use Rattle.nc_flatness.specs.Flatness.{Flatness}
use Rattle.nc_flatness.specs.Tokens.{lot_token, is_lot_token, ends_lending, TokenStands}
use Rattle.nc_flatness.proofs.tokens.Lents.{AreLending}
use Rattle.nc_flatness.proofs.tokens.Stands.{token_lending}
use Rattle.nc_flatness.proofs.tokens.Tokens.{sent_side, sent_unlent, queued_sent, token_lot}

-- the lot whose token is queued by hart h
pub record IsSent (w : WorldState) (h : ℕ) (label : Label) (first count : ℕ) : Type 0 where
  pub lot : Lot
  pub here : In lot (driver_of w h).lots
  pub named : is_lot (lot_id label first) lot ≡ true
  pub lending : lot.side ≡ sides.Lending
  pub none : list_any (ends_lending lot.id) (driver_of w h).rest ≡ false
  pub token : entries.Lend label first count ≡ lot_token lot
  pub light : (driver_of w h).fixed.light ≡ true
  pub all : AreLending (lot_id label first) (driver_of w h).lots

token_of_lot : (lot : Lot) (label : Label) (first count : ℕ) → is_lot (lot_id label first) lot ≡ true → is_lot_token lot.id (entries.Lend label first count) ≡ true
token_of_lot lot label first count is = subst (λ (id : LotId). is_lot_token lot.id (entries.Lend id.label id.first count) ≡ true) (named_so lot (lot_id label first) is) (its_name lot lot.id refl)

pub sent : (sc : Scenario) (f : List ℕ) (w : WorldState) (h i : ℕ) (label : Label) (first count : ℕ) → Flatness sc f w → h < length sc.harts → h < length w.machine.harts → slice_get (queue_of w.machine h) i ≡ Some (entries.Lend label first count)
    → IsSent w h label first count
sent sc f w h i label first count flat lt there stood =
    let d = driver_of w h in
    let q = queue_of w.machine h in
    let e = entries.Lend label first count in
    let queued : In e q = at_get q i e stood in
    let t = token_lot sc f w h e (lot_id label first) flat there queued refl in
    let light = (flat.world.holds.each h there).tokens.light e (lot_id label first) queued refl in
    let stand = flat.bytes.tokens h lt light in
    let is = queued_sent d.rest q t.lot e (all_at (TokenStands d.rest q) d.lots t.lot stand t.here) queued (token_of_lot t.lot label first count t.is) in
    record {
      lot = t.lot;
      here = t.here;
      named = t.is;
      lending = sent_side d.rest t.lot is.0;
      none = sent_unlent d.rest t.lot is.0;
      token = is.1;
      light = light;
      all = token_lending d.rest q d.lots e (lot_id label first) queued refl stand;
    }

-- it is the one of its name
pub sent_one : (sc : Scenario) (f : List ℕ) (w : WorldState) (h : ℕ) (label : Label) (first count : ℕ) (other : Lot) → Flatness sc f w → h < length w.machine.harts → (s : IsSent w h label first count) → In other (driver_of w h).lots → is_lot (lot_id label first) other ≡ true
    → other ≡ s.lot
sent_one sc f w h label first count other flat there s here named = same_named (driver_of w h).lots (lot_id label first) other s.lot (flat.world.holds.each h there).driver.apart here s.here named s.named

pub sent_none : (w : WorldState) (h : ℕ) (label : Label) (first count : ℕ) → IsSent w h label first count → list_any (ends_lending (lot_id label first)) (driver_of w h).rest ≡ false
sent_none w h label first count s = subst (λ (id : LotId). list_any (ends_lending id) (driver_of w h).rest ≡ false) (named_so s.lot (lot_id label first) s.named) s.none
