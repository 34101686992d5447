-- A driver that makes the next step of its plan: how it stands behind it, and what of the plan is to come.
use Rattle.std.specs.Prelude.{Option, Some, None, All, ◌&&◌, ◌==◌, ◌||◌, not}
use Rattle.std.specs.List.{list_any, find}
use Rattle.std.proofs.Common.{◌≡◌, ℕ, Bool, true, false, List, [], ◌∷◌, ◌++◌, refl, sym, ap, ◌∙◌, subst}
use Rattle.std.proofs.lemmas.Bool.{and_from, eq-eqb, cond-false}
use Rattle.nc_num.specs.declared.names.HartNo.{HartNo}
use Rattle.nc_num.specs.declared.names.MapId.{MapId}
use Rattle.nc_plan.specs.Plans.{In}
use Rattle.nc_ops.specs.declared.ops.Op.{Op}
use Rattle.nc_scen.specs.declared.events.Event.TheVariants as events
use Rattle.nc_scen.specs.declared.scenario.Scenario.{Scenario}
use Rattle.nc_rules.specs.declared.lots.Lot.{Lot}
use Rattle.nc_rules.specs.declared.lots.LotId.{LotId}
use Rattle.nc_rules.specs.declared.lots.Side.TheVariants as sides
use Rattle.nc_rules.specs.declared.steps.Act.{Act}
use Rattle.nc_rules.specs.declared.steps.Phase.TheVariants.{Work}
use Rattle.nc_rules.specs.declared.steps.Seen.{Seen}
use Rattle.nc_rules.specs.declared.steps.Step.{Step}
use Rattle.nc_rules.specs.declared.steps.Turn.{Turn}
use Rattle.nc_rules.specs.declared.steps.Turn.TheVariants as turns
use Rattle.nc_rules.specs.Lots.{DriverConfig, is_lot}
use Rattle.nc_rules.specs.Turns.{lots_after, lots_after_both, transfers_of, turned_by}
use Rattle.nc_rules.specs.Driver.{DriverState, Went, in_hand, kept, busy, went_to, done, done_of, done_unless, done_in, worked}
use Rattle.nc_rules.specs.World.{WorldState, driver_of}
use Rattle.nc_holds.proofs.owners.Ends.{left_all}
use Rattle.nc_rows.specs.Ahead.{ends, posts, stores_io, sends, is_settling, settling, act_coming, coming, sending}
use Rattle.nc_rows.proofs.Steps.{steps_ahead}
use Rattle.nc_flatness.specs.Lending.{is_lending}
use Rattle.nc_flatness.specs.Plans.{HasEnd, StepGoes, Loads, Stores, WritesBack, Drops, Gives, Fences, Ends, Zeroes, Flushes, Settles, GivesArea, TakesBack, Marks, Posts, Claims, Registers, Polls, TakesTarget, TakesSource, IsStill, lots_behind, PlanGoes, EndsOne}
use Rattle.nc_flatness.specs.Flatness.{IsMapping, PlanOf, Drives}
use Rattle.nc_flatness.specs.Steps.{IsNow, OfLots, kind_of_act}
use Rattle.nc_flatness.proofs.tokens.Lents.{sides_mapping}
use Rattle.nc_flatness.proofs.plans.LendingPlans.{plan_left}
use Rattle.nc_flatness.proofs.plans.Rests.{ends_later, back_moves, ends_one_next}

-- ---- the plan in hand

-- hart h's plan makes step s next, of which this rest is left
pub record IsNext (sc : Scenario) (f : List ℕ) (w : WorldState) (h : HartNo) (o : Op) (s : Step) (rest : List Step) : Type 0 where
  pub now : IsNow sc f w (events.Issue h)
  pub hand : in_hand (driver_of w h.0) ≡ Some o
  pub lends : is_lending o ≡ true
  pub phase : (driver_of w h.0).phase ≡ Work
  pub rest_is : (driver_of w h.0).rest ≡ s ∷ rest
  -- it is one of lots
  pub kind : kind_of_act s.act ≡ OfLots
  pub goes : StepGoes (driver_of w h.0).fixed (driver_of w h.0).lots s rest
  pub plan : PlanGoes (driver_of w h.0).fixed (driver_of w h.0).lots (s ∷ rest)
  pub left : PlanGoes (driver_of w h.0).fixed (lots_after_both s.first s.last (driver_of w h.0).lots) rest
  pub one : (driver_of w h.0).fixed.light ≡ true → EndsOne (s ∷ rest)

-- ---- the driver behind the step

pub record IsDone (d : DriverState) (s : Step) (left : List Step) (went : Went) : Type 0 where
  pub driver : went.driver ≡ went_to d (lots_after_both s.first s.last d.lots) d.saw left
  pub fixed : went.driver.fixed ≡ d.fixed
  pub lots : went.driver.lots ≡ lots_after_both s.first s.last d.lots
  pub rest : went.driver.rest ≡ left
  pub transfers : went.moves.transfers ≡ transfers_of d.fixed.me d.lots s.first ++ transfers_of d.fixed.me (lots_after s.first d.lots) s.last
  pub drives : Drives went.driver

-- with no first turn
pub stay_lots : (d : DriverState) (s : Step) (left : List Step) (went : Went) → IsDone d s left went → s.first ≡ turns.Stay → went.driver.lots ≡ lots_after s.last d.lots
stay_lots d s left went done first = done.lots ∙ ap (λ (t : Turn). lots_after_both t s.last d.lots) first

pub stay_transfers : (d : DriverState) (s : Step) (left : List Step) (went : Went) → IsDone d s left went → s.first ≡ turns.Stay → went.moves.transfers ≡ transfers_of d.fixed.me d.lots s.last
stay_transfers d s left went done first = done.transfers ∙ ap (λ (t : Turn). transfers_of d.fixed.me d.lots t ++ transfers_of d.fixed.me (lots_after t d.lots) s.last) first

-- each lot stays a mapping
turn_mapping : (f : DriverConfig) (t : Turn) (lots : List Lot) → All IsMapping lots → All IsMapping (lots_after t lots)
turn_mapping f turns.Stay lots all = all
turn_mapping f (turns.Pass range to) lots all = all
turn_mapping f (turns.Own range) lots all = all
turn_mapping f (turns.Lend id) lots all = sides_mapping f _ id lots all
turn_mapping f (turns.Give id) lots all = sides_mapping f _ id lots all
turn_mapping f (turns.Return id) lots all = sides_mapping f _ id lots all
turn_mapping f (turns.Sync id) lots all = sides_mapping f _ id lots all
turn_mapping f (turns.Settle id) lots all = sides_mapping f _ id lots all
turn_mapping f (turns.End id) lots all = left_all IsMapping (λ lot. not (is_lot id lot)) lots all

went_drives : (d : DriverState) (o : Op) (lots : List Lot) (saw : Seen) (rest : List Step) → in_hand d ≡ Some o → is_lending o ≡ true → All IsMapping lots → PlanGoes d.fixed lots rest → (d.fixed.light ≡ true → EndsOne rest) → Drives (went_to d lots saw rest)
went_drives d o lots saw [] hand is all left one = record { lots = all; stands = left; idle = refl }
went_drives d o lots saw (s ∷ rest) hand is all left one = let now = went_to d lots saw (s ∷ rest) in record {
  lots = all;
  stands = subst (λ (p : Option Op). PlanOf now p) (sym hand) ((plan_left now o is).is (record { goes = left; one = one }));
  idle = tt;
}

went_fixed : (d : DriverState) (lots : List Lot) (saw : Seen) (rest : List Step) → (went_to d lots saw rest).fixed ≡ d.fixed
went_fixed d lots saw [] = refl
went_fixed d lots saw (s ∷ rest) = refl

went_lots : (d : DriverState) (lots : List Lot) (saw : Seen) (rest : List Step) → (went_to d lots saw rest).lots ≡ lots
went_lots d lots saw [] = refl
went_lots d lots saw (s ∷ rest) = refl

went_rest : (d : DriverState) (lots : List Lot) (saw : Seen) (rest : List Step) → (went_to d lots saw rest).rest ≡ rest
went_rest d lots saw [] = refl
went_rest d lots saw (s ∷ rest) = refl

worked_so : (d : DriverState) (o : Op) (saw : Seen) (s : Step) (rest : List Step) → in_hand d ≡ Some o → is_lending o ≡ true → All IsMapping d.lots → saw ≡ d.saw → PlanGoes d.fixed (lots_after_both s.first s.last d.lots) rest
    → (d.fixed.light ≡ true → EndsOne rest) → IsDone d s rest (worked d o saw (s ∷ rest))
unfolding turned_by
worked_so d o saw s rest hand is all same left one =
    let lots = lots_after_both s.first s.last d.lots in
    record {
      driver = ap (λ (k : Seen). went_to d lots k rest) same;
      fixed = went_fixed d lots saw rest;
      lots = went_lots d lots saw rest;
      rest = went_rest d lots saw rest;
      transfers = refl;
      drives = went_drives d o lots saw rest hand is (turn_mapping d.fixed s.last (lots_after s.first d.lots) (turn_mapping d.fixed s.first d.lots all)) left one;
    }

pub done_so : (sc : Scenario) (f : List ℕ) (w : WorldState) (h : HartNo) (o : Op) (s : Step) (rest : List Step) (saw : Seen) → IsNext sc f w h o s rest → busy saw ≡ None → kept (driver_of w h.0).saw saw ≡ (driver_of w h.0).saw
    → IsDone (driver_of w h.0) s rest (done (driver_of w h.0) saw)
unfolding done
done_so sc f w h o s rest saw k free silent =
    let d = driver_of w h.0 in
    let same : done_of d saw (in_hand d) ≡ worked d o (kept d.saw saw) (s ∷ rest) =
    ap (done_of d saw) k.hand ∙ ap (done_unless d o saw) free ∙ ap (done_in d o (kept d.saw saw)) k.phase ∙ ap (worked d o (kept d.saw saw)) k.rest_is in
    let drives = k.now.flat.bytes.drives h.0 k.now.there in
    subst (λ (went : Went). IsDone d s rest went) (sym same) (worked_so d o (kept d.saw saw) s rest k.hand k.lends drives.lots silent k.left (λ light. ends_one_next s rest (k.one light)))

-- ---- no message is to come

load_posts : (f : DriverConfig) (lots : List Lot) (s : Step) (rest : List Step) (b : ℕ) → StepGoes f lots s rest → posts b s ≡ false
load_posts f lots s rest b (Loads is) = ap (posts b) is.step
load_posts f lots s rest b (Stores is) = ap (λ (a : Act). posts b (record s { act = a })) is.act
load_posts f lots s rest b (WritesBack is) = ap (posts b) is.step
load_posts f lots s rest b (Drops is) = ap (posts b) is.step
load_posts f lots s rest b (Gives is) = ap (posts b) is.step
load_posts f lots s rest b (Fences is) = ap (posts b) is.step
load_posts f lots s rest b (Ends is) = ap (posts b) is.step
load_posts f lots s rest b (Zeroes is) = ap (posts b) is.step
load_posts f lots s rest b (Flushes is) = ap (posts b) is.step
load_posts f lots s rest b (Settles is) = ap (posts b) is.step
load_posts f lots s rest b (GivesArea is) = ap (posts b) is.step
load_posts f lots s rest b (TakesBack is) = ap (posts b) is.step
load_posts f lots s rest b (Marks is) = ap (posts b) is.step
load_posts f lots s rest b (Posts is) = ap (posts b) is.step
load_posts f lots s rest b (Claims is) = ap first_posts is.steps
  where
    first_posts : List Step → Bool
    first_posts [] = false
    first_posts (t ∷ ts) = posts b t
load_posts f lots s rest b (Registers is) = ap (posts b) is.step
load_posts f lots s rest b (Polls is) = ap (posts b) is.step
load_posts f lots s rest b (TakesTarget is) = ap (λ (t : Step). stores_io (sends b) t.act) is.goes.step
load_posts f lots s rest b (TakesSource is) = ap (λ (t : Step). stores_io (sends b) t.act) is.goes.step

plan_posts : (f : DriverConfig) (lots : List Lot) (rest : List Step) (b : ℕ) → PlanGoes f lots rest → list_any (posts b) rest ≡ false
plan_posts f lots [] b left = refl
plan_posts f lots (s ∷ rest) b left = ap (λ (t : Bool). t || list_any (posts b) rest) (load_posts f lots s rest b left.0) ∙ plan_posts f (lots_after_both s.first s.last (lots_behind s.act lots)) rest b left.1

pub plan_silent : (f : DriverConfig) (lots : List Lot) (rest : List Step) (b : ℕ) → PlanGoes f lots rest → sending b rest ≡ []
plan_silent f lots rest b left = steps_ahead.send_none b rest (plan_posts f lots rest b left)

-- ---- what is to come of the lot in hand

-- a step with no turn goes off in front
pub coming_next : (lot : Lot) (n : MapId) (s : Step) (rest : List Step) → HasEnd lot.id rest → ends lot.id s ≡ false → coming n lot.id (s ∷ rest) ≡ act_coming s.act ++ coming n lot.id rest
coming_next lot n s rest later plain = steps_ahead.next n lot.id s rest plain later

-- the end of a lot that is not still is to come behind a step that does not end its stay
pub moves_later : (sc : Scenario) (f : List ℕ) (w : WorldState) (h : HartNo) (o : Op) (s : Step) (rest : List Step) (lot : Lot) → IsNext sc f w h o s rest → In lot (driver_of w h.0).lots → (IsStill (driver_of w h.0).fixed lot → ⊥) → ends lot.id s ≡ false → HasEnd lot.id rest
moves_later sc f w h o s rest lot next here moves plain =
    let d = driver_of w h.0 in
    sym (ap (λ (b : Bool). b || list_any (ends lot.id) rest) plain) ∙ ends_later d.fixed d.lots (s ∷ rest) lot next.plan here moves

pub returns_later : (sc : Scenario) (f : List ℕ) (w : WorldState) (h : HartNo) (o : Op) (s : Step) (rest : List Step) (lot : Lot) → IsNext sc f w h o s rest → In lot (driver_of w h.0).lots → lot.side ≡ sides.Returning → ends lot.id s ≡ false → HasEnd lot.id rest
returns_later sc f w h o s rest lot next here side plain = moves_later sc f w h o s rest lot next here (back_moves (driver_of w h.0).fixed lot side) plain

-- whether what is to come settles an area stays so
pub settling_next : (id : LotId) (s : Step) (rest : List Step) → ends id s ≡ false → settling id (s ∷ rest) ≡ settling id rest
settling_next id s rest plain = ap (is_settling id) (cond-false (ends id s) (Some s) (find (ends id) rest) plain)

pub same_id : (id : LotId) → (id.label.0 == id.label.0 && id.first == id.first) ≡ true
same_id id = and_from (id.label.0 == id.label.0) (id.first == id.first) (eq-eqb id.label.0 id.label.0 refl) (eq-eqb id.first id.first refl)
