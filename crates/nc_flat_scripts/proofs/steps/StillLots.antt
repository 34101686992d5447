-- The lots of a hart that has no plan at them: none is taken back, and of each that is being lent the token is queued.
use Rattle.std.specs.Prelude.{All, true, false, map}
use Rattle.std.specs.List.{list_any}
use Rattle.std.proofs.Common.{◌≡◌, ℕ, ◌<◌, List, [], sym, ap, ◌∙◌, subst}
use Rattle.nc_num.specs.declared.names.MapId.{MapId}
use Rattle.nc_lines.specs.Lines.{bare}
use Rattle.nc_lines.proofs.Bared.{any_bare}
use Rattle.nc_plan.specs.Plans.{In}
use Rattle.nc_model.specs.declared.owners.Owner.TheVariants.{Thread, Lending, Device, Returning, Synced}
use Rattle.nc_scen.specs.declared.scenario.Scenario.{Scenario}
use Rattle.nc_rules.specs.declared.lots.Lot.{Lot}
use Rattle.nc_rules.specs.declared.lots.LotId.{LotId}
use Rattle.nc_rules.specs.declared.lots.Side.TheVariants as sides
use Rattle.nc_rules.specs.declared.steps.Step.{Step}
use Rattle.nc_rules.specs.Lots.{DriverConfig, owner_of_side}
use Rattle.nc_rules.specs.Machine.{queue_of}
use Rattle.nc_rules.specs.EventTouches.{owner_of}
use Rattle.nc_rules.specs.World.{WorldState, driver_of}
use Rattle.nc_holds.proofs.lists.Members.{all_at}
use Rattle.nc_rows.specs.Ahead.{ends, names, coming}
use Rattle.nc_rows.proofs.Steps.{steps_ahead}
use Rattle.nc_row_moves.proofs.Tests.{bare_names}
use Rattle.nc_flatness.specs.Books.{mapping_in}
use Rattle.nc_flatness.specs.Flatness.{Flatness}
use Rattle.nc_flatness.specs.Plans.{IsStill, StillDevice, StillSynced, StillOwn, StillSent}
use Rattle.nc_flatness.proofs.books.Owned.{IsMapped, mapped}
use Rattle.nc_flatness.proofs.plans.Rests.{unended_unlent}
use Rattle.nc_flatness.proofs.tokens.Tokens.{lent_sent, sent_named}
use Rattle.nc_flat_scripts.specs.Entering.{IsPosted}

-- no step of the rest ends the stay of a lot with its owner
abbrev pub EndsNone : List Step → Type 0
EndsNone rest = (lot : LotId) → list_any (ends lot) rest ≡ false

pub none_ends : (rest : List Step) → rest ≡ [] → EndsNone rest
none_ends rest none lot = ap (list_any (ends lot)) none

-- so nothing of a lot is to come
pub none_comes : (n : MapId) (lot : LotId) (rest : List Step) → EndsNone rest → coming n lot rest ≡ []
none_comes n lot rest none = steps_ahead.none n lot rest (none lot)

-- ---- sides

still_taken : (f : DriverConfig) (n : MapId) (lot : Lot) → IsStill f lot → Returning n ≡ owner_of_side n lot.side → ⊥
still_taken f n lot (StillDevice is) e = let no : Returning n ≡ Device n = e ∙ ap (owner_of_side n) is in absurd cc
still_taken f n lot (StillSynced is single) e = let no : Returning n ≡ Synced n = e ∙ ap (owner_of_side n) is in absurd cc
still_taken f n lot (StillOwn is area) e = let no : Returning n ≡ Thread n.hart = e ∙ ap (owner_of_side n) is in absurd cc
still_taken f n lot (StillSent is light) e = let no : Returning n ≡ Lending n = e ∙ ap (owner_of_side n) is in absurd cc

-- with light fences alone a lot is being lent
pub record IsSent (f : DriverConfig) (lot : Lot) : Type 0 where
  pub side : lot.side ≡ sides.Lending
  pub light : f.light ≡ true

still_sent : (f : DriverConfig) (n : MapId) (lot : Lot) → IsStill f lot → Lending n ≡ owner_of_side n lot.side → IsSent f lot
still_sent f n lot (StillDevice is) e = let no : Lending n ≡ Device n = e ∙ ap (owner_of_side n) is in absurd cc
still_sent f n lot (StillSynced is single) e = let no : Lending n ≡ Synced n = e ∙ ap (owner_of_side n) is in absurd cc
still_sent f n lot (StillOwn is area) e = let no : Lending n ≡ Thread n.hart = e ∙ ap (owner_of_side n) is in absurd cc
still_sent f n lot (StillSent is light) e = record { side = is; light = light }

-- ---- places

lot_here : (w : WorldState) (h : ℕ) (n : MapId) (x : ℕ) → (m : IsMapped w n x) → n.hart.0 ≡ h → In m.is.lot (driver_of w h).lots
lot_here w h n x m hart = subst (λ (k : ℕ). In m.is.lot (driver_of w k).lots) hart m.is.here.lot_in

-- a hart whose lots are still takes none back
pub untaken_at : (sc : Scenario) (f : List ℕ) (w : WorldState) (h x : ℕ) (n : MapId) → Flatness sc f w → All (IsStill (driver_of w h).fixed) (driver_of w h).lots → x < sc.ram → owner_of w x ≡ Returning n → n.hart.0 ≡ h → ⊥
untaken_at sc f w h x n flat still lt e hart =
    let m = mapped sc f w n x flat lt (ap mapping_in e) in
    let d = driver_of w h in
    still_taken d.fixed n m.is.lot (all_at (IsStill d.fixed) d.lots m.is.lot still (lot_here w h n x m hart)) (sym e ∙ m.owner)

-- the token of a mapping whose lot is sent
sent_posted : (sc : Scenario) (f : List ℕ) (w : WorldState) (n : MapId) (x : ℕ) → Flatness sc f w → (m : IsMapped w n x) → IsSent (driver_of w n.hart.0).fixed m.is.lot → EndsNone (driver_of w n.hart.0).rest → list_any (names n) (map bare (queue_of w.machine n.hart.0)) ≡ true
sent_posted sc f w n x flat m sent none =
    any_bare (names n) (bare_names n) (queue_of w.machine n.hart.0)
    ∙ sent_named sc f w n m.loan flat m.is sent.light (lent_sent (driver_of w n.hart.0).rest m.is.lot sent.side (unended_unlent m.is.lot.id (driver_of w n.hart.0).rest (none m.is.lot.id)))

-- and of each that it lends the token is queued
pub posted_at : (sc : Scenario) (f : List ℕ) (w : WorldState) (h x : ℕ) → Flatness sc f w → All (IsStill (driver_of w h).fixed) (driver_of w h).lots → EndsNone (driver_of w h).rest → x < sc.ram → IsPosted (owner_of w) w.machine h x
posted_at sc f w h x flat still none lt = λ n e hart.
    let m = mapped sc f w n x flat lt (ap mapping_in e) in
    let d = driver_of w h in
    let sent = still_sent d.fixed n m.is.lot (all_at (IsStill d.fixed) d.lots m.is.lot still (lot_here w h n x m hart)) (sym e ∙ m.owner) in
    subst (λ (k : ℕ). list_any (names n) (map bare (queue_of w.machine k)) ≡ true) hart
    (sent_posted sc f w n x flat m (subst (λ (k : ℕ). IsSent (driver_of w k).fixed m.is.lot) (sym hart) sent) (subst (λ (k : ℕ). EndsNone (driver_of w k).rest) (sym hart) none))
