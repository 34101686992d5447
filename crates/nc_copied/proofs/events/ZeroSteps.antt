-- A plan zeroes blocks of an area alone, and no end of a copy is one.
use Rattle.std.specs.Prelude.{Option, Some}
use Rattle.std.proofs.Common.{◌≡◌, ℕ, ◌/◌, Bool, true, false, List, [], ◌∷◌, refl, sym, ap, ◌∙◌, subst, inl, inr, arith}
use Rattle.std.proofs.lemmas.Bool.{false≢true}
use Rattle.nc_num.specs.declared.names.HartNo.{HartNo}
use Rattle.nc_num.specs.declared.places.Span.{Span}
use Rattle.nc_env.specs.declared.CboOp.{CboOp}
use Rattle.nc_env.specs.declared.CboOp.TheVariants as cbos
use Rattle.nc_queue.specs.Entries.{is_zero, writes_back}
use Rattle.nc_plan.specs.Plans.{In}
use Rattle.nc_plan.specs.declared.ops.HartOp.{HartOp}
use Rattle.nc_plan.specs.declared.ops.HartOp.TheVariants as hart_ops
use Rattle.nc_sg.specs.declared.list.Entry.{Entry}
use Rattle.nc_ops.specs.declared.ops.Op.{Op}
use Rattle.nc_ops.specs.declared.ops.Op.TheVariants as ops
use Rattle.nc_scen.specs.declared.scenario.Scenario.{Scenario}
use Rattle.nc_calls.specs.PlaceLaws.{drops_copies}
use Rattle.nc_rules.specs.declared.lots.Kind.{Kind}
use Rattle.nc_rules.specs.declared.lots.Kind.TheVariants as kinds
use Rattle.nc_rules.specs.declared.lots.Lot.{Lot}
use Rattle.nc_rules.specs.declared.lots.LotId.{LotId}
use Rattle.nc_rules.specs.declared.lots.Side.{Side}
use Rattle.nc_rules.specs.declared.steps.Act.{Act}
use Rattle.nc_rules.specs.declared.steps.Act.TheVariants as acts
use Rattle.nc_rules.specs.declared.steps.Phase.TheVariants.{Work}
use Rattle.nc_rules.specs.declared.steps.Step.{Step}
use Rattle.nc_rules.specs.declared.steps.Turn.TheVariants as turns
use Rattle.nc_rules.specs.Driver.{DriverState, in_hand}
use Rattle.nc_rules.specs.Handing.{hand_steps}
use Rattle.nc_rules.specs.Lots.{DriverConfig, map_id, owner_of_side}
use Rattle.nc_rules.specs.Turns.{is_area}
use Rattle.nc_rules.specs.EventTouches.{owner_of}
use Rattle.nc_rules.specs.World.{WorldState, driver_of, hart}
use Rattle.nc_scripts.specs.Drivers.{IsEndName, FitsKind}
use Rattle.nc_flatness.specs.Copying.{IsItsOwn}
use Rattle.nc_flatness.specs.Lending.{is_lending}
use Rattle.nc_flatness.specs.Flatness.{IsHanding, PlanIs, PlanOf, StandsAt, Drives, Flatness}
use Rattle.nc_flatness.specs.Plans.{IsZero, StepGoes, PlanGoes}
use Rattle.nc_flatness.specs.Plans.{Loads, Stores, WritesBack, Drops, Gives, Fences, Ends, Zeroes, Flushes, Settles, GivesArea, TakesBack, Marks, Posts, Claims, Registers, Polls, TakesTarget, TakesSource}
use Rattle.nc_flatness.proofs.books.Loans.{lot_in}
use Rattle.nc_flatness.proofs.books.Owned.{entry_owned}
use Rattle.nc_flat_scripts.proofs.copies.TransferDrivers.{at_work}

-- ---- the step

abbrev zero_op : HartOp → Bool
zero_op (hart_ops.Cbo op block) = is_zero op
zero_op _ = false

abbrev pub zeroes : Act → Bool
zeroes (acts.Op op) = zero_op op
zeroes (acts.Claim chan) = false
zeroes (acts.Poll chan) = false
zeroes (acts.Take buf) = false

back_zero : (op : CboOp) → writes_back op ≡ true → is_zero op ≡ false
back_zero cbos.Clean is = refl
back_zero cbos.Flush is = refl
back_zero cbos.Inval is = refl
back_zero cbos.Zero is = absurd (false≢true is)

drop_zero : (op : CboOp) → drops_copies op ≡ true → is_zero op ≡ false
drop_zero cbos.Clean is = refl
drop_zero cbos.Flush is = refl
drop_zero cbos.Inval is = refl
drop_zero cbos.Zero is = absurd (false≢true is)

zero_not : {A : Type 0} (s t : Step) → s ≡ t → zeroes s.act ≡ true → zeroes t.act ≡ false → A
zero_not s t same is off = absurd (false≢true (sym off ∙ ap (λ (k : Step). zeroes k.act) (sym same) ∙ is))

-- the first of some steps zeroes
abbrev first_zeroes : List Step → Bool
first_zeroes [] = false
first_zeroes (s ∷ rest) = zeroes s.act

claims_not : {A : Type 0} (s t : Step) (rest more : List Step) → s ∷ rest ≡ t ∷ more → zeroes s.act ≡ true → zeroes t.act ≡ false → A
claims_not s t rest more same is off = absurd (false≢true (sym off ∙ sym (ap first_zeroes same) ∙ is))

pub zero_step : (f : DriverConfig) (lots : List Lot) (s : Step) (rest : List Step) → zeroes s.act ≡ true → StepGoes f lots s rest → IsZero f lots s rest
zero_step f lots s rest is (Zeroes z) = z
zero_step f lots s rest is (Loads z) = zero_not s _ z.step is refl
zero_step f lots s rest is (Stores z) = absurd (false≢true (ap zeroes (sym z.act) ∙ is))
zero_step f lots s rest is (WritesBack z) = zero_not s _ z.step is (back_zero z.op z.writes)
zero_step f lots s rest is (Drops z) = zero_not s _ z.step is (drop_zero z.op z.drops)
zero_step f lots s rest is (Gives z) = zero_not s _ z.step is refl
zero_step f lots s rest is (Fences z) = zero_not s _ z.step is refl
zero_step f lots s rest is (Ends z) = zero_not s _ z.step is refl
zero_step f lots s rest is (Flushes z) = zero_not s _ z.step is refl
zero_step f lots s rest is (Settles z) = zero_not s _ z.step is refl
zero_step f lots s rest is (GivesArea z) = zero_not s _ z.step is refl
zero_step f lots s rest is (TakesBack z) = zero_not s _ z.step is refl
zero_step f lots s rest is (Marks z) = zero_not s _ z.step is refl
zero_step f lots s rest is (Posts z) = zero_not s _ z.step is refl
zero_step f lots s rest is (Claims z) = claims_not s _ rest _ z.steps is refl
zero_step f lots s rest is (Registers z) = zero_not s _ z.step is refl
zero_step f lots s rest is (Polls z) = zero_not s _ z.step is refl
zero_step f lots s rest is (TakesTarget z) = zero_not (record s { first = turns.Stay }) _ z.goes.step is (drop_zero z.goes.op z.goes.drops)
zero_step f lots s rest is (TakesSource z) = zero_not (record s { first = turns.Stay }) _ z.goes.step is refl

-- ---- a driver's

hand_first : (buf : ℕ) (to : HartNo) → first_zeroes (hand_steps buf to) ≡ false
hand_first buf to = refl

-- a buffer that is passed on is not zeroed
hand_not : {A : Type 0} (d : DriverState) (buf : ℕ) (to : HartNo) (s : Step) (rest : List Step) → IsHanding d buf to → d.rest ≡ s ∷ rest → zeroes s.act ≡ true → A
hand_not d buf to s rest h is on = elim h.left [
  | inl all ↦ absurd (false≢true (sym (hand_first buf to) ∙ ap first_zeroes (sym all ∙ is) ∙ on))
  | inr last ↦ absurd (false≢true (ap first_zeroes (sym last ∙ is) ∙ on))
]

plan_not : {A : Type 0} (d : DriverState) (o : Op) (s : Step) (rest : List Step) → is_lending o ≡ false → PlanIs d o → d.rest ≡ s ∷ rest → zeroes s.act ≡ true → A
plan_not d (ops.Hand buf to) s rest lends plan is on = hand_not d buf to s rest plan is on
plan_not d (ops.Map label buf off len dir chan) s rest lends plan is on = absurd cc
plan_not d (ops.Unmap label) s rest lends plan is on = absurd cc
plan_not d (ops.ToCpu label) s rest lends plan is on = absurd cc
plan_not d (ops.ToDev label) s rest lends plan is on = absurd cc
plan_not d (ops.MapSg label entries dir chan) s rest lends plan is on = absurd cc
plan_not d (ops.UnmapSg label count) s rest lends plan is on = absurd cc
plan_not d (ops.Calloc label pages chan) s rest lends plan is on = absurd cc
plan_not d (ops.Cgive label) s rest lends plan is on = absurd cc
plan_not d (ops.Ctake label) s rest lends plan is on = absurd cc
plan_not d (ops.Cfree label) s rest lends plan is on = absurd cc
plan_not d (ops.Copy chan src src_off dst dst_off len cfg) s rest lends plan is on = absurd cc
plan_not d (ops.Ld spot off len) s rest lends plan is on = absurd plan
plan_not d (ops.St spot off bytes) s rest lends plan is on = absurd plan
plan_not d (ops.Cbo op buf off) s rest lends plan is on = absurd plan
plan_not d (ops.Fence pred succ) s rest lends plan is on = absurd plan
plan_not d (ops.Take buf) s rest lends plan is on = absurd plan
plan_not d (ops.Claim chan) s rest lends plan is on = absurd plan
plan_not d (ops.Free chan) s rest lends plan is on = absurd plan
plan_not d (ops.Regs chan src dst len cfg) s rest lends plan is on = absurd plan
plan_not d (ops.Run chan) s rest lends plan is on = absurd plan
plan_not d (ops.Poll chan) s rest lends plan is on = absurd plan
plan_not d (ops.Regr chan off width) s rest lends plan is on = absurd plan
plan_not d (ops.Regw chan off width value) s rest lends plan is on = absurd plan

zero_by : (d : DriverState) (o : Op) (s : Step) (rest : List Step) (t : Bool) → is_lending o ≡ t → Drives d → in_hand d ≡ Some o → d.phase ≡ Work → d.rest ≡ s ∷ rest → zeroes s.act ≡ true → IsZero d.fixed d.lots s rest
zero_by d o s rest true lends drives hand phase is on =
    let plan = at_work d o drives hand lends phase in
    let goes : PlanGoes d.fixed d.lots (s ∷ rest) = subst (λ (r : List Step). PlanGoes d.fixed d.lots r) is plan.goes in
    zero_step d.fixed d.lots s rest on goes.0
zero_by d o s rest false lends drives hand phase is on =
    plan_not d o s rest lends (subst (λ (k : Option Op). PlanOf d k) hand (subst (λ (p : _). StandsAt d p) phase drives.stands)) is on

pub zero_of : (d : DriverState) (o : Op) (s : Step) (rest : List Step) → Drives d → in_hand d ≡ Some o → d.phase ≡ Work → d.rest ≡ s ∷ rest → zeroes s.act ≡ true → IsZero d.fixed d.lots s rest
zero_of d o s rest drives hand phase is on = zero_by d o s rest (is_lending o) refl drives hand phase is on

-- ---- its places

pub area_unended : (pool : Span) (kind : Kind) (id : LotId) (es : List Entry) → is_area kind ≡ true → FitsKind pool kind id es → IsEndName id → ⊥
area_unended pool kinds.Area id es area fits end = omega (arith, fits.0.label, end)
area_unended pool kinds.Single id es area fits end = false≢true area
area_unended pool kinds.List id es area fits end = false≢true area
area_unended pool kinds.Copy id es area fits end = false≢true area

-- an area is no end of a copy
pub area_apart : (sc : Scenario) (f : List ℕ) (w : WorldState) (g : ℕ) (lot : Lot) → Flatness sc f w → In lot (driver_of w g).lots → is_area lot.kind ≡ true → IsEndName lot.id → ⊥
area_apart sc f w g lot flat here area end = area_unended (driver_of w g).fixed.pool lot.kind lot.id lot.list.entries area (lot_in sc f w g lot flat here).kind end

-- so a place of its block is none of a copy
pub zero_apart : (sc : Scenario) (f : List ℕ) (w : WorldState) (g h : ℕ) (s : Step) (rest : List Step) (x : ℕ) → Flatness sc f w → (z : IsZero (driver_of w g).fixed (driver_of w g).lots s rest) → x / (driver_of w g).fixed.size ≡ z.block.0 → IsItsOwn h (owner_of w x) → ⊥
zero_apart sc f w g h s rest x flat z met own =
    let owner = entry_owned sc f w g z.lot z.i z.entry x flat z.here (z.whole x met) ∙ ap (λ (side : Side). owner_of_side (map_id (hart g) z.lot.id z.i) side) z.hand.side_is in
    area_apart sc f w g z.lot flat z.hand.here z.hand.area_is (subst (IsItsOwn h) owner own).1
