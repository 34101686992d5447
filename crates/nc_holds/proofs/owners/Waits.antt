-- A lot of which an entry waits for a slot is not lent yet, behind each change too.
use Rattle.std.proofs.Common.{◌≡◌, ℕ, Bool, true, false, List, [], ◌∷◌, ◌++◌, inl, refl, sym, subst, ◌∙◌}
use Rattle.std.specs.Prelude.{All, not}
use Rattle.std.proofs.lemmas.Bool.{false≢true}
use Rattle.std.proofs.lemmas.List.Elements.{All-append}
use Rattle.nc_sg.specs.Lists.{waits}
use Rattle.nc_rules.specs.declared.lots.Lot.{Lot}
use Rattle.nc_rules.specs.declared.lots.LotId.{LotId}
use Rattle.nc_rules.specs.declared.lots.Side.{Side}
use Rattle.nc_rules.specs.declared.lots.Side.TheVariants as sides
use Rattle.nc_rules.specs.declared.steps.Turn.{Turn}
use Rattle.nc_rules.specs.declared.steps.Turn.TheVariants as turns
use Rattle.nc_rules.specs.Lots.{DriverConfig, is_lot, is_wanted, lot_waits, slot_given}
use Rattle.nc_rules.specs.Turns.{is_area, set_side, lots_after}
use Rattle.nc_scripts.specs.Drivers.{IsLotIn}
use Rattle.nc_scripts.proofs.LotLaws.{its_name}
use Rattle.nc_scripts.proofs.Lists.{all_in, all_to, position_any}
use Rattle.nc_holds.specs.Held.{Held, AreLent}
use Rattle.nc_holds.specs.Changes.{Change, Made, Got, Turned, Dropped, changed, ArePlaced, WaitsUnlent, MayTurn}
use Rattle.nc_holds.proofs.lists.Members.{all_at, none_of, get_at}
use Rattle.nc_holds.proofs.owners.Facts.{Fits, IsMaking}
use Rattle.nc_holds.proofs.owners.Lots.{area_direct, same_named, SidedBy, named, other, of_sided}
use Rattle.nc_holds.proofs.owners.Ends.{left_all}
use Rattle.nc_holds.proofs.owners.Slots.{GivenBy, kept, slotted, of_given}
use Rattle.nc_holds.proofs.owners.Areas.{lent_area, at_end}

abbrev pub WaitsSo : Lot → Type 0
WaitsSo lot = lot_waits lot ≡ true → is_wanted lot.side ≡ true

-- ---- a side that is set, of lots that do not wait

sided_waits : (side : Side) (id : LotId) (lot now : Lot) → (is_lot id lot ≡ true → lot_waits lot ≡ false) → SidedBy side id lot now → WaitsSo lot → WaitsSo now
sided_waits side id lot now placed (named name same) h w = absurd (false≢true (sym (placed name) ∙ subst (λ (l : Lot). lot_waits l ≡ true) (sym same) w))
sided_waits side id lot now placed (other name same) h w = subst WaitsSo same h w

waits_sided : (side : Side) (id : LotId) (lots : List Lot) → ArePlaced lots id → WaitsUnlent lots → WaitsUnlent (set_side side id lots)
waits_sided side id lots placed all =
    all_in WaitsSo (set_side side id lots)
    (λ now k. let r = of_sided side id lots now k in sided_waits side id r.lot now (all_at (λ (l : Lot). is_lot id l ≡ true → lot_waits l ≡ false) lots r.lot placed r.here) r.how (all_at WaitsSo lots r.lot all r.here))

no_wait : (lot : Lot) (b : Bool) → lot_waits lot ≡ b → WaitsSo lot → is_wanted lot.side ≡ false → b ≡ false
no_wait lot false w h lent = refl
no_wait lot true w h lent = absurd (false≢true (sym lent ∙ h w))

-- lots that are lent do not wait
pub lent_placed : (lots : List Lot) (id : LotId) → WaitsUnlent lots → AreLent lots id → ArePlaced lots id
lent_placed lots id all lent =
    all_in (λ (lot : Lot). is_lot id lot ≡ true → lot_waits lot ≡ false) lots
    (λ lot k name. no_wait lot (lot_waits lot) refl (all_at WaitsSo lots lot all k) (all_at (λ (l : Lot). is_lot id l ≡ true → is_wanted l.side ≡ false) lots lot lent k name))

waits_turned : (f : DriverConfig) (s : Held) (t : Turn) → MayTurn f s t → WaitsUnlent s.lots → WaitsUnlent (lots_after t s.lots)
waits_turned f s turns.Stay may all = all
waits_turned f s (turns.Pass range to) may all = all
waits_turned f s (turns.Own range) may all = all
waits_turned f s (turns.Lend id) may all = waits_sided sides.Lending id s.lots may all
waits_turned f s (turns.Give id) may all = waits_sided sides.Device id s.lots (lent_placed s.lots id all may) all
waits_turned f s (turns.Return id) may all = waits_sided sides.Returning id s.lots (lent_placed s.lots id all may) all
waits_turned f s (turns.Sync id) may all = waits_sided sides.Synced id s.lots (lent_placed s.lots id all may) all
waits_turned f s (turns.Settle id) may all = waits_sided sides.Own id s.lots (lent_placed s.lots id all may.0) all
waits_turned f s (turns.End id) may all = left_all WaitsSo (λ lot. not (is_lot id lot)) s.lots all

waits_given : (k : ℕ) (lot now : Lot) → GivenBy k lot now → WaitsSo lot → WaitsSo now
waits_given k lot now (kept same) h = subst WaitsSo same h
waits_given k lot now (slotted w same) h = subst WaitsSo same (λ again. h w)

new_wait : (new : List Lot) → All (λ lot. is_wanted lot.side ≡ true) new → WaitsUnlent new
new_wait new wanted = all_to (λ (lot : Lot). is_wanted lot.side ≡ true) WaitsSo new wanted (λ lot h w. h)

pub waits_stay : (ram : ℕ) (f : DriverConfig) (s : Held) (c : Change) → Fits ram f s c → WaitsUnlent s.lots → WaitsUnlent (changed f s c).lots
waits_stay ram f s (Made new) fits all = All-append WaitsSo s.lots new all (new_wait new fits.0.each.wanted)
waits_stay ram f s (Got word) fits all = all_in WaitsSo (slot_given word s.lots) (λ now k. let r = of_given word s.lots now k in waits_given word r.lot now r.how (all_at WaitsSo s.lots r.lot all r.here))
waits_stay ram f s (Turned t) fits all = waits_turned f s t fits.0 all
waits_stay ram f s Dropped fits all = left_all WaitsSo (λ lot. not (is_wanted lot.side)) s.lots all

-- ---- an area

area_placed : (ram : ℕ) (f : DriverConfig) (lot : Lot) → IsLotIn ram f lot → is_area lot.kind ≡ true → lot_waits lot ≡ false
area_placed ram f lot is area =
    position_any waits lot.list.entries ∙ none_of waits lot.list.entries (λ e k. let at = get_at lot.list.entries e k in (rw (area_direct ram f lot at.0 e is area at.1) refl))

pub area_are_placed : (ram : ℕ) (f : DriverConfig) (s : Held) (lot : Lot) → IsMaking ram f s (lot ∷ []) → is_area lot.kind ≡ true → ArePlaced (s.lots ++ lot ∷ []) lot.id
area_are_placed ram f s lot making area =
    let is = all_at (IsLotIn ram f) (lot ∷ []) lot making.each.each (inl refl) in
    all_in (λ (l : Lot). is_lot lot.id l ≡ true → lot_waits l ≡ false) (s.lots ++ lot ∷ [])
    (λ l k name. subst (λ (m : Lot). lot_waits m ≡ false) (same_named (s.lots ++ lot ∷ []) lot.id lot l making.each.apart (at_end s lot) k (its_name lot lot.id refl) name) (area_placed ram f lot is area))

pub area_waits : (ram : ℕ) (f : DriverConfig) (s : Held) (lot : Lot) → IsMaking ram f s (lot ∷ []) → is_area lot.kind ≡ true → WaitsUnlent s.lots → WaitsUnlent (lent_area f s lot).lots
area_waits ram f s lot making area all =
    waits_sided sides.Lending lot.id (s.lots ++ lot ∷ []) (area_are_placed ram f s lot making area) (All-append WaitsSo s.lots (lot ∷ []) all (new_wait (lot ∷ []) making.each.wanted))
