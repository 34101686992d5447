-- A hart behind the claim of a free channel: both ends of its copy are being lent, and the owners of the world agree with it.
use Rattle.std.specs.Prelude.{Option, Some, None, All, option_map, ◌==◌, ◌&&◌, true, false}
use Rattle.std.proofs.Common.{◌≡◌, ℕ, ◌<◌, List, [], ◌∷◌, ◌++◌, length, refl, sym, ap, ◌∙◌, subst, arith}
use Rattle.std.proofs.lemmas.Bool.{both_ways, false_from_ne_true}
use Rattle.std.proofs.lemmas.List.{get_or-set_same}
use Rattle.nc_num.specs.declared.names.ChanNo.{ChanNo}
use Rattle.nc_num.specs.declared.names.HartNo.{HartNo}
use Rattle.nc_num.specs.declared.names.MapId.{MapId}
use Rattle.nc_plan.specs.Plans.{In}
use Rattle.nc_ops.specs.declared.ops.Op.{Op}
use Rattle.nc_scen.specs.declared.events.Event.TheVariants as events
use Rattle.nc_scen.specs.declared.scenario.Scenario.{Scenario}
use Rattle.nc_sg.specs.Lists.{SgView}
use Rattle.nc_rules.specs.declared.lots.Lot.{Lot}
use Rattle.nc_rules.specs.declared.lots.LotId.{LotId}
use Rattle.nc_rules.specs.declared.lots.Side.TheVariants as sides
use Rattle.nc_rules.specs.declared.steps.Phase.TheVariants.{Work}
use Rattle.nc_rules.specs.declared.steps.Phase.{Phase}
use Rattle.nc_rules.specs.declared.steps.Seen.TheVariants as seen
use Rattle.nc_rules.specs.declared.steps.Step.{Step}
use Rattle.nc_rules.specs.declared.steps.Turn.TheVariants as turns
use Rattle.nc_rules.specs.Copies.{source, target, claim_step}
use Rattle.nc_rules.specs.Driver.{DriverState, Went, in_hand, stands, worked, done, done_of, done_in}
use Rattle.nc_rules.specs.Lots.{is_lot, is_wanted}
use Rattle.nc_rules.specs.Machine.{MachineState}
use Rattle.nc_rules.specs.Next.{after_outcome, counted, next}
use Rattle.nc_rules.specs.Outcomes.{Outcome, goes, outcome}
use Rattle.nc_rules.specs.Turns.{set_side, of_those, to_side, turned_by}
use Rattle.nc_rules.specs.World.{WorldState, no_driver, driver_of, owners_moved}
use Rattle.nc_scripts.specs.Drivers.{IsLotIn, AreApart}
use Rattle.nc_scripts.proofs.LotLaws.{its_name}
use Rattle.nc_holds.specs.Held.{OwnersAgree}
use Rattle.nc_holds.proofs.events.Holds.{next_is}
use Rattle.nc_holds.proofs.owners.Lots.{same_named}
use Rattle.nc_rows.specs.Rows.{Loan}
use Rattle.nc_flatness.specs.Books.{loan_by, loan_of, book_of}
use Rattle.nc_flatness.specs.Copying.{polls}
use Rattle.nc_flatness.specs.Flatness.{IsWorldOf}
use Rattle.nc_flatness.proofs.plans.CopySteps.{both_from}
use Rattle.nc_flatness.proofs.books.Loans.{loan_is}
use Rattle.nc_flatness.proofs.plans.Rests.{kept_in}
use Rattle.nc_flatness.proofs.worlds.Worlds.{worlds_stay}
use Rattle.nc_flat_starts.proofs.opening.Befores.{driven}
use Rattle.nc_flat_starts.proofs.turning.Lots.{names_entry, numbers, entry_named, entry_one, other_set, FarFrom}
use Rattle.nc_flat_starts.proofs.turning.Sides.{turned_lot, set_here}
use Rattle.nc_flat_claims.proofs.Claimings.{IsClaiming, its_holds}
use Rattle.nc_flat_claims.proofs.ClaimRests.{step_is, rest_is, its_poll}

-- ---- the driver

abbrev pub one_lent : List Lot → List Lot
one_lent lots = set_side sides.Lending source lots

abbrev pub both_lent : List Lot → List Lot
both_lent lots = set_side sides.Lending target (one_lent lots)

pub record IsLent (d : DriverState) (rest : List Step) (went : Went) : Type 0 where
  pub driver : went.driver ≡ stands d Work rest (both_lent d.lots) seen.Claimed
  pub transfers : went.moves.transfers ≡ of_those (to_side d.fixed.me sides.Lending) source d.lots ++ of_those (to_side d.fixed.me sides.Lending) target (one_lent d.lots)

lent_by : (d : DriverState) (o : Op) (chan : ChanNo) (t : Step) (more : List Step) → IsLent d (t ∷ more) (worked d o seen.Claimed (claim_step chan ∷ t ∷ more))
unfolding turned_by
lent_by d o chan t more = record { driver = refl; transfers = refl }

lent_from : (d : DriverState) (o : Op) (chan : ChanNo) (rest : List Step) → polls rest ≡ true → IsLent d rest (worked d o seen.Claimed (claim_step chan ∷ rest))
lent_from d o chan [] some = absurd cc
lent_from d o chan (t ∷ more) some = lent_by d o chan t more

pub polled : (sc : Scenario) (f : List ℕ) (w : WorldState) (h : HartNo) (o : Op) (s : Step) (rest : List Step) → IsClaiming sc f w h o s rest → polls rest ≡ true
polled sc f w h o s rest k =
    let d = driver_of w h.0 in
    let c = k.claim in
    ap polls (rest_is d.fixed d.lots s rest c) ∙ its_poll d.fixed c.chan c.config c.reads c.writes

pub lent_so : (sc : Scenario) (f : List ℕ) (w : WorldState) (h : HartNo) (o : Op) (s : Step) (rest : List Step) → IsClaiming sc f w h o s rest → IsLent (driver_of w h.0) rest (done (driver_of w h.0) seen.Claimed)
unfolding done
lent_so sc f w h o s rest k =
    let d = driver_of w h.0 in
    let all : d.rest ≡ claim_step k.claim.chan ∷ rest = k.rest_is ∙ ap (λ (t : Step). t ∷ rest) (step_is d.fixed d.lots s rest k.claim) in
    let same : done_of d seen.Claimed (in_hand d) ≡ worked d o seen.Claimed (claim_step k.claim.chan ∷ rest) =
    ap (λ (p : Option Op). done_of d seen.Claimed p) k.hand ∙ ap (λ (p : Phase). done_in d o seen.Claimed p) k.phase ∙ ap (λ (r : List Step). worked d o seen.Claimed r) all in
    subst (λ (went : Went). IsLent d rest went) (sym same) (lent_from d o k.claim.chan rest (polled sc f w h o s rest k))

-- ---- what agrees with it

pub record IsBehind (w : WorldState) (went : Went) (ram : ℕ) : Type 0 where
  pub there : All (IsLotIn ram went.driver.fixed) went.driver.lots
  pub names : AreApart went.driver.lots
  pub owners : OwnersAgree went.driver.fixed.me (owners_moved w.owners went.moves.transfers) went.driver.lots

pub behind_so : (sc : Scenario) (f : List ℕ) (w : WorldState) (h : HartNo) (o : Op) (s : Step) (rest : List Step) (m : MachineState) (went : Went) → IsClaiming sc f w h o s rest → outcome w (events.Issue h) ≡ goes w h m went w.slots None [] → IsBehind w went (length m.cache.ram)
behind_so sc f w h o s rest m went k is =
    let flat = k.here.now.flat in
    let v = counted (after_outcome w (goes w h m went w.slots None [])) in
    let same : next w (events.Issue h) ≡ v = next_is w (events.Issue h) k.here.now.may ∙ ap (λ (r : Outcome). counted (after_outcome w r)) is in
    let world : IsWorldOf sc v = subst (IsWorldOf sc) same (worlds_stay sc w (events.Issue h) flat.world k.here.now.there) in
    let lt : h.0 < length v.machine.harts = omega (arith, world.of_scenario.harts, k.here.lt) in
    let at : driver_of v h.0 ≡ went.driver = get_or-set_same w.drivers h.0 went.driver no_driver (driven sc f w h flat k.here.lt) in
    let holds = world.holds.each h.0 lt in
    record {
      there = subst (λ (d : DriverState). All (IsLotIn (length m.cache.ram) d.fixed) d.lots) at holds.driver.lots;
      names = subst (λ (d : DriverState). AreApart d.lots) at holds.driver.apart;
      owners = subst (λ (d : DriverState). OwnersAgree d.fixed.me (owners_moved w.owners went.moves.transfers) d.lots) at holds.agrees.owners;
    }

-- ---- the ends among the lots behind it

pub source_behind : (lots : List Lot) (lot : Lot) → In lot lots → lot.id ≡ source → In (turned_lot sides.Lending lot) (both_lent lots)
source_behind lots lot here named =
    let first : In (turned_lot sides.Lending lot) (one_lent lots) = subst (λ (i : LotId). In (turned_lot sides.Lending lot) (set_side sides.Lending i lots)) named (set_here sides.Lending lots lot here) in
    kept_in sides.Lending target (one_lent lots) (turned_lot sides.Lending lot) (other_end lot.id named) first
  where
    other_end : (id : LotId) → id ≡ source → (id.label.0 == 1000 && id.first == 1) ≡ false
    other_end id is = ap (λ (i : LotId). i.label.0 == 1000 && i.first == 1) is

pub target_behind : (lots : List Lot) (lot : Lot) → In lot lots → lot.id ≡ target → In (turned_lot sides.Lending lot) (both_lent lots)
target_behind lots lot here named =
    let first : In lot (one_lent lots) = kept_in sides.Lending source lots lot (other_end lot.id named) here in
    subst (λ (i : LotId). In (turned_lot sides.Lending lot) (set_side sides.Lending i (one_lent lots))) named (set_here sides.Lending (one_lent lots) lot first)
  where
    other_end : (id : LotId) → id ≡ target → (id.label.0 == 1000 && id.first == 0) ≡ false
    other_end id is = ap (λ (i : LotId). i.label.0 == 1000 && i.first == 0) is

-- ---- the hart's other mappings

-- a mapping that exists is of no end
pub record IsFar (n : MapId) (src dst : Lot) : Type 0 where
  pub source : names_entry n src ≡ false
  pub target : names_entry n dst ≡ false

pub far_ends : (sc : Scenario) (f : List ℕ) (w : WorldState) (h : HartNo) (o : Op) (s : Step) (rest : List Step) (n : MapId) (l : Loan) → (k : IsClaiming sc f w h o s rest) → n.hart.0 ≡ h.0 → (book_of w).loan n ≡ Some l → IsFar n k.claim.reads k.claim.writes
far_ends sc f w h o s rest n l k own known =
    let d = driver_of w h.0 in
    let c = k.claim in
    let holds = its_holds sc f w h o s rest k in
    let is = loan_is sc f w n l k.here.now.flat known in
    let there : In is.lot d.lots = subst (λ (g : ℕ). In is.lot (driver_of w g).lots) own is.here.lot_in in
    let never : (end : Lot) → In end d.lots → is_wanted end.side ≡ true → names_entry n end ≡ true → ⊥ =
    λ end here wanted named.
    let one : is.lot ≡ end = entry_one (length w.machine.cache.ram) d.fixed d.lots is.lot end n holds.driver.lots holds.driver.apart there here (entry_named n is.lot is.entry_of) named in
    both_ways (is_wanted is.lot.side) is.lent (ap (λ (x : Lot). is_wanted x.side) one ∙ wanted) in
    record {
      source = false_from_ne_true (names_entry n c.reads) (never c.reads c.source_is.here (ap is_wanted c.wanted.0));
      target = false_from_ne_true (names_entry n c.writes) (never c.writes c.target_is.here (ap is_wanted c.wanted.1));
    }

-- so it stays what it is
pub loan_kept : (sc : Scenario) (f : List ℕ) (w : WorldState) (h : HartNo) (o : Op) (s : Step) (rest : List Step) (went : Went) (n : MapId) → (k : IsClaiming sc f w h o s rest) → IsLent (driver_of w h.0) rest went → IsFar n k.claim.reads k.claim.writes → loan_of went.driver n ≡ loan_of (driver_of w h.0) n
loan_kept sc f w h o s rest went n k lent far =
    let d = driver_of w h.0 in
    let c = k.claim in
    let names = (its_holds sc f w h o s rest k).driver.apart in
    let first : FarFrom n source d.lots = λ lot there named. ap (names_entry n) (same_named d.lots source lot c.reads names there c.source_is.here named (its_name c.reads source c.source_is.id_is)) ∙ far.source in
    let second : FarFrom n target (one_lent d.lots) =
    λ lot there named.
    let from = both_from (turns.Lend source) turns.Stay d.lots lot there in
    let same = from.2 in
    let was : is_lot target from.0 ≡ true = ap (λ (i : LotId). i.label.0 == 1000 && i.first == 1) (sym same.id) ∙ named in
    ap (λ (i : LotId). numbers n i lot.list.entries) same.id ∙ ap (λ (v : SgView). numbers n from.0.id v.entries) same.list
    ∙ ap (names_entry n) (same_named d.lots target from.0 c.writes names from.1 c.target_is.here was (its_name c.writes target c.target_is.id_is)) ∙ far.target in
    ap (λ (e : DriverState). loan_of e n) lent.driver ∙ ap (option_map (loan_by d.fixed n)) (other_set sides.Lending target n (one_lent d.lots) second ∙ other_set sides.Lending source n d.lots first)
