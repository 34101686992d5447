-- A place beside the lot in hand, of another lot of its hart. With light fences that lot may be sent: its token is queued, and
-- nothing of the plan is of it.
use Rattle.std.specs.Prelude.{Some, true, false}
use Rattle.std.specs.List.{list_any}
use Rattle.std.proofs.Common.{◌≡◌, ℕ, List, sym, ap, ◌∙◌, inl, inr, subst}
use Rattle.std.proofs.lemmas.Bool.{or_parts}
use Rattle.nc_num.specs.declared.names.HartNo.{HartNo}
use Rattle.nc_num.specs.declared.names.MapId.{MapId}
use Rattle.nc_lines.proofs.Bared.{any_bare}
use Rattle.nc_model.specs.declared.owners.Owner.{Owner}
use Rattle.nc_model.specs.declared.owners.Owner.TheVariants.{Thread, Lending, Device, Synced}
use Rattle.nc_ops.specs.declared.ops.Op.{Op}
use Rattle.nc_scen.specs.declared.scenario.Scenario.{Scenario}
use Rattle.nc_rules.specs.declared.lots.Lot.{Lot}
use Rattle.nc_rules.specs.declared.lots.LotId.{LotId}
use Rattle.nc_rules.specs.declared.lots.Side.TheVariants as sides
use Rattle.nc_rules.specs.declared.steps.Step.{Step}
use Rattle.nc_rules.specs.Lots.{DriverConfig, owner_of_side}
use Rattle.nc_rules.specs.Machine.{queue_of}
use Rattle.nc_rules.specs.Driver.{Went}
use Rattle.nc_rules.specs.EventTouches.{owner_of}
use Rattle.nc_rules.specs.World.{WorldState, driver_of}
use Rattle.nc_holds.proofs.lists.Members.{same_some}
use Rattle.nc_rows.specs.Ahead.{ends, names}
use Rattle.nc_rows.specs.Rows.{Loan}
use Rattle.nc_rows.proofs.Steps.{steps_ahead}
use Rattle.nc_row_moves.proofs.Tests.{bare_names}
use Rattle.nc_flatness.specs.Books.{loan_of, mapping_in}
use Rattle.nc_flatness.specs.Plans.{IsStill, StillDevice, StillSynced, StillOwn, StillSent}
use Rattle.nc_flatness.specs.Tokens.{ends_lending}
use Rattle.nc_flatness.proofs.plans.Rests.{lend_light, unended_unlent}
use Rattle.nc_flatness.proofs.tokens.Tokens.{lent_sent, unended_settling, sent_named}
use Rattle.nc_flat_starts.proofs.turning.Frames.{IsRestful, SameRest, IsAside}
use Rattle.nc_flat_plans.proofs.places.Passes.{ArePosted}
use Rattle.nc_flat_plans.proofs.drivers.Drivers.{IsNext, IsDone}
use Rattle.nc_flat_plans.proofs.places.Places.{IsUnder, IsOther, StillAt, along, along_unended}

-- ---- its token is queued

still_lends : (f : DriverConfig) (n : MapId) (lot : Lot) → owner_of_side n lot.side ≡ Lending n → IsStill f lot → lot.side ≡ sides.Lending
still_lends f n lot owner (StillDevice is) = let both : Device n ≡ Lending n = sym (ap (owner_of_side n) is) ∙ owner in absurd (cc)
still_lends f n lot owner (StillSynced is kind) = let both : Synced n ≡ Lending n = sym (ap (owner_of_side n) is) ∙ owner in absurd (cc)
still_lends f n lot owner (StillOwn is kind) = let both : Thread n.hart ≡ Lending n = sym (ap (owner_of_side n) is) ∙ owner in absurd (cc)
still_lends f n lot owner (StillSent is light) = is

pub posted_beside : (sc : Scenario) (f : List ℕ) (w : WorldState) (h : HartNo) (lot : Lot) (x : ℕ) → IsUnder sc f w h lot → StillAt w h lot x → ArePosted (owner_of w x) w.machine h.0
posted_beside sc f w h lot x u all n owner own =
    let d = driver_of w h.0 in
    let s = all n (ap mapping_in owner) own in
    let o = s.0 in
    let still = s.1 in
    let other = o.at.is.lot in
    let side = still_lends d.fixed n other (sym o.at.owner ∙ owner) still in
    let light = lend_light d.fixed other side still in
    let none = along_unended w h n other o.here o.at.is.entry_of side s.2 in
    any_bare (names n) (bare_names n) (queue_of w.machine n.hart.0)
    ∙ sent_named sc f w n o.at.loan u.flat o.at.is (subst (λ (g : ℕ). (driver_of w g).fixed.light ≡ true) (sym own) light)
    (lent_sent (driver_of w n.hart.0).rest other side (subst (λ (g : ℕ). list_any (ends_lending other.id) (driver_of w g).rest ≡ false) (sym own) (unended_unlent other.id d.rest none)))

-- ---- it has nothing to come

sent_rest : (k : MapId) (id : LotId) (before behind : List Step) → list_any (ends id) before ≡ false → list_any (ends id) behind ≡ false → SameRest k id before behind
sent_rest k id before behind was now = record { comes = steps_ahead.none k id behind now ∙ sym (steps_ahead.none k id before was); settles = unended_settling id behind now ∙ sym (unended_settling id before was) }

aside_by : (w : WorldState) (h : HartNo) (went : Went) (o : Owner) (n : MapId) (f : DriverConfig) (lot : Lot) → IsStill f lot → o ≡ owner_of_side n lot.side
    → (lot.side ≡ sides.Lending → (l : Loan) → loan_of (driver_of w h.0) n ≡ Some l → SameRest n l.lot (driver_of w h.0).rest went.driver.rest) → IsAside w h went o n
aside_by w h went o n f lot (StillDevice is) owner sent = inl (subst IsRestful (sym (owner ∙ ap (owner_of_side n) is)) tt)
aside_by w h went o n f lot (StillSynced is kind) owner sent = inl (subst IsRestful (sym (owner ∙ ap (owner_of_side n) is)) tt)
aside_by w h went o n f lot (StillOwn is kind) owner sent = inl (subst IsRestful (sym (owner ∙ ap (owner_of_side n) is)) tt)
aside_by w h went o n f lot (StillSent is light) owner sent = inr (sent is)

-- nor behind a step
pub aside : (sc : Scenario) (f : List ℕ) (w : WorldState) (h : HartNo) (o : Op) (s : Step) (rest : List Step) (went : Went) (lot : Lot) (n : MapId) (x : ℕ) → IsNext sc f w h o s rest → IsDone (driver_of w h.0) s rest went → IsUnder sc f w h lot → (other : IsOther w h lot n x) → IsStill (driver_of w h.0).fixed other.at.is.lot → along w h n ≡ false → n.hart.0 ≡ h.0
    → IsAside w h went (owner_of w x) n
aside sc f w h o s rest went lot n x next done u other still out own =
    let d = driver_of w h.0 in
    let it = other.at.is.lot in
    aside_by w h went (owner_of w x) n d.fixed it still other.at.owner (λ side l known.
    let none : list_any (ends it.id) d.rest ≡ false = along_unended w h n it other.here other.at.is.entry_of side out in
    let behind : list_any (ends it.id) rest ≡ false = (or_parts (ends it.id s) (list_any (ends it.id) rest) (sym (ap (list_any (ends it.id)) next.rest_is) ∙ none)).1 in
    let same : other.at.loan ≡ l = same_some other.at.loan l (sym other.at.known ∙ ap (λ (g : ℕ). loan_of (driver_of w g) n) own ∙ known) in
    let id : it.id ≡ l.lot = sym other.at.is.lot_is ∙ ap (λ (k : Loan). k.lot) same in
    subst (λ (k : LotId). SameRest n k d.rest went.driver.rest) id (sent_rest n it.id d.rest went.driver.rest none (ap (list_any (ends it.id)) done.rest ∙ behind)))
