-- Each step of a driver whose operation neither lends nor takes back: a touch comes first, or flat memory stands behind it.
use Rattle.std.specs.Prelude.{Option, Some, None, Result, Ok, Err, Bool, true, false, if◌then◌else◌}
use Rattle.std.proofs.Common.{◌≡◌, ◌⊎◌, ℕ, List, [], length, refl, sym, ap, ◌∙◌, inl, inr, subst}
use Rattle.std.proofs.lemmas.Bool.{false≢true}
use Rattle.nc_num.specs.declared.names.HartNo.{HartNo}
use Rattle.nc_ops.specs.declared.ops.Op.{Op}
use Rattle.nc_ops.specs.declared.ops.Op.TheVariants as ops
use Rattle.nc_scen.specs.declared.events.Event.TheVariants as events
use Rattle.nc_scen.specs.declared.scenario.Scenario.{Scenario}
use Rattle.nc_rules.specs.declared.answers.Refusal.{Refusal}
use Rattle.nc_rules.specs.declared.steps.Next.TheVariants as nexts
use Rattle.nc_rules.specs.declared.steps.Phase.{Phase}
use Rattle.nc_rules.specs.declared.steps.Phase.TheVariants.{Steps, Search, Work}
use Rattle.nc_rules.specs.declared.steps.Step.{Step}
use Rattle.nc_rules.specs.Driver.{DriverState, in_hand, next_of, next_of_op, next_in, next_step, next_act, started}
use Rattle.nc_rules.specs.Events.{may_go_on}
use Rattle.nc_rules.specs.Operations.{step_at, has_start}
use Rattle.nc_rules.specs.World.{WorldState, driver_of}
use Rattle.nc_flatness.specs.Lending.{is_lending}
use Rattle.nc_flatness.specs.Flatness.{IsHanding, PlanIs, PlanOf, StandsAt}
use Rattle.nc_flatness.specs.Steps.{Goes, StepsAreFlat}
use Rattle.nc_flatness.proofs.worlds.Outcomes.{goes_go}
use Rattle.nc_flat_scripts.proofs.accesses.ActRows.{stands_now}
use Rattle.nc_flat_scripts.proofs.handing.HandStarts.{hand_goes}
use Rattle.nc_flat_scripts.proofs.steps.ScriptCalls.{bare_idles}
use Rattle.nc_flat_scripts.proofs.accesses.ScriptEvents.{IsHere, here_by, idle_by, outcome_is, start_is, quiet_go, act_goes}
use Rattle.nc_flat_scripts.proofs.accesses.ScriptSteps.{IsOwn, Takes, script_step}
use Rattle.nc_flat_scripts.proofs.handing.SendEvents.{send_goes}
use Rattle.nc_flat_scripts.proofs.handing.TakeEvents.{take_goes}

-- ---- the operation

pub record IsHand (o : Op) : Type 0 where
  pub buf : ℕ
  pub to : HartNo
  pub op : o ≡ ops.Hand buf to

-- of those that neither lend nor take back a hand alone has a start step
by_number : (o : Op) → is_lending o ≡ false → (has_start o ≡ false) ⊎ IsHand o
by_number (ops.Hand buf to) stays = inr (record { buf = buf; to = to; op = refl })
by_number (ops.Ld spot off len) stays = inl refl
by_number (ops.St spot off bytes) stays = inl refl
by_number (ops.Cbo op buf off) stays = inl refl
by_number (ops.Fence pred succ) stays = inl refl
by_number (ops.Take buf) stays = inl refl
by_number (ops.Claim chan) stays = inl refl
by_number (ops.Free chan) stays = inl refl
by_number (ops.Regs chan src dst len cfg) stays = inl refl
by_number (ops.Run chan) stays = inl refl
by_number (ops.Poll chan) stays = inl refl
by_number (ops.Regr chan off width) stays = inl refl
by_number (ops.Regw chan off width value) stays = inl refl
by_number (ops.Map label buf off len dir chan) stays = absurd cc
by_number (ops.Unmap label) stays = absurd cc
by_number (ops.ToCpu label) stays = absurd cc
by_number (ops.ToDev label) stays = absurd cc
by_number (ops.MapSg label entries dir chan) stays = absurd cc
by_number (ops.UnmapSg label count) stays = absurd cc
by_number (ops.Calloc label pages chan) stays = absurd cc
by_number (ops.Cgive label) stays = absurd cc
by_number (ops.Ctake label) stays = absurd cc
by_number (ops.Cfree label) stays = absurd cc
by_number (ops.Copy chan src src_off dst dst_off len cfg) stays = absurd cc

-- its plan is a hand's
pub record IsAtHand (d : DriverState) (o : Op) : Type 0 where
  pub is : IsHand o
  pub handing : IsHanding d is.buf is.to

at_hand : (d : DriverState) (o : Op) → is_lending o ≡ false → PlanIs d o → IsAtHand d o
at_hand d (ops.Hand buf to) lends plan = record { is = record { buf = buf; to = to; op = refl }; handing = plan }
at_hand d (ops.Map label buf off len dir chan) lends plan = absurd cc
at_hand d (ops.Unmap label) lends plan = absurd cc
at_hand d (ops.ToCpu label) lends plan = absurd cc
at_hand d (ops.ToDev label) lends plan = absurd cc
at_hand d (ops.MapSg label entries dir chan) lends plan = absurd cc
at_hand d (ops.UnmapSg label count) lends plan = absurd cc
at_hand d (ops.Ld spot off len) lends plan = absurd plan
at_hand d (ops.St spot off bytes) lends plan = absurd plan
at_hand d (ops.Cbo op buf off) lends plan = absurd plan
at_hand d (ops.Fence pred succ) lends plan = absurd plan
at_hand d (ops.Take buf) lends plan = absurd plan
at_hand d (ops.Claim chan) lends plan = absurd plan
at_hand d (ops.Free chan) lends plan = absurd plan
at_hand d (ops.Regs chan src dst len cfg) lends plan = absurd plan
at_hand d (ops.Run chan) lends plan = absurd plan
at_hand d (ops.Poll chan) lends plan = absurd plan
at_hand d (ops.Regr chan off width) lends plan = absurd plan
at_hand d (ops.Regw chan off width value) lends plan = absurd plan
at_hand d (ops.Calloc label pages chan) lends plan = absurd cc
at_hand d (ops.Cgive label) lends plan = absurd cc
at_hand d (ops.Ctake label) lends plan = absurd cc
at_hand d (ops.Cfree label) lends plan = absurd cc
at_hand d (ops.Copy chan src src_off dst dst_off len cfg) lends plan = absurd cc

-- ---- a step by number

next_now : (d : DriverState) (o : Op) (n : ℕ) (t : Bool) → in_hand d ≡ Some o → d.phase ≡ Steps n → has_start o ≡ t → next_of d ≡ (if t then nexts.Start else next_step (step_at d.fixed d.lots o n))
unfolding next_of
next_now d o n t hand phase is = ap (next_of_op d) hand ∙ ap (next_in d o) phase ∙ ap (λ (k : Bool). if k then nexts.Start else next_step (step_at d.fixed d.lots o n)) is

-- it is refused, or there is none
bare_goes : (sc : Scenario) (f : List ℕ) (w : WorldState) (h : HartNo) (o : Op) (n : ℕ) → IsHere sc f w h → in_hand (driver_of w h.0) ≡ Some o → (driver_of w h.0).phase ≡ Steps n → has_start o ≡ false → next_of (driver_of w h.0) ≡ nexts.Start → Goes sc f w (events.Issue h)
bare_goes sc f w h o n here hand phase none nx =
    let d = driver_of w h.0 in
    let idle = idle_by sc f w h n here phase in
    let went = started d w.owners w.pages in
    goes_go sc f w (events.Issue h) h w.machine went w.slots None [] here.now.may (outcome_is w h nexts.Start nx ∙ start_is w h)
    (λ quiet. quiet_go sc f w h w.machine went here idle (bare_idles d w.owners w.pages o idle hand none) (stands_now sc f w here.now.flat))

step_goes : (sc : Scenario) (f : List ℕ) (w : WorldState) (h : HartNo) (o : Op) (n : ℕ) (s : Step) → IsHere sc f w h → in_hand (driver_of w h.0) ≡ Some o → (driver_of w h.0).phase ≡ Steps n → step_at (driver_of w h.0).fixed (driver_of w h.0).lots o n ≡ Ok (Some s)
    → next_of (driver_of w h.0) ≡ next_act s.act → IsOwn (driver_of w h.0).fixed s ⊎ Takes (driver_of w h.0).fixed o s → Goes sc f w (events.Issue h)
step_goes sc f w h o n s here hand phase is nx (inl own) = act_goes sc f w h o n s s.act here (record { hand = hand; phase = phase; is = is; own = own }) refl nx
step_goes sc f w h o n s here hand phase is nx (inr takes) =
    let d = driver_of w h.0 in
    take_goes sc f w h takes.buf n here (hand ∙ ap (λ (p : Op). Some p) takes.op) phase (ap (λ (p : Op). step_at d.fixed d.lots p n) (sym takes.op) ∙ is ∙ ap (λ (t : Step). Ok (Some t)) takes.is)
    (nx ∙ ap (λ (t : Step). next_act t.act) takes.is)

result_goes : (sc : Scenario) (f : List ℕ) (w : WorldState) (h : HartNo) (o : Op) (n : ℕ) (r : Result (Option Step) Refusal) → IsHere sc f w h → in_hand (driver_of w h.0) ≡ Some o → (driver_of w h.0).phase ≡ Steps n → has_start o ≡ false
    → step_at (driver_of w h.0).fixed (driver_of w h.0).lots o n ≡ r → next_of (driver_of w h.0) ≡ next_step r → Goes sc f w (events.Issue h)
result_goes sc f w h o n (Err r) here hand phase none is nx = bare_goes sc f w h o n here hand phase none nx
result_goes sc f w h o n (Ok None) here hand phase none is nx = bare_goes sc f w h o n here hand phase none nx
result_goes sc f w h o n (Ok (Some s)) here hand phase none is nx =
    let d = driver_of w h.0 in
    let m = w.machine in
    let holds = here.now.flat.world.holds.each h.0 here.there in
    step_goes sc f w h o n s here hand phase is nx (script_step (length m.cache.ram) (length m.harts) d.fixed d.lots o n s holds.driver.fixed holds.regions is)

-- ---- all of them

-- a driver that searches makes no step
search_next : (d : DriverState) (o : Op) (k : ℕ) → in_hand d ≡ Some o → d.phase ≡ Search k → next_of d ≡ nexts.Search k
unfolding next_of
search_next d o k hand phase = ap (next_of_op d) hand ∙ ap (next_in d o) phase

phase_goes : (sc : Scenario) (f : List ℕ) (w : WorldState) (h : HartNo) (o : Op) (p : Phase) → IsHere sc f w h → in_hand (driver_of w h.0) ≡ Some o → is_lending o ≡ false → (has_start o ≡ false) ⊎ IsHand o → (driver_of w h.0).phase ≡ p → StandsAt (driver_of w h.0) p
    → Goes sc f w (events.Issue h)
phase_goes sc f w h o (Steps n) here hand lends (inl none) phase stands =
    let d = driver_of w h.0 in
    result_goes sc f w h o n (step_at d.fixed d.lots o n) here hand phase none refl (next_now d o n false hand phase none)
phase_goes sc f w h o (Steps n) here hand lends (inr is) phase stands =
    hand_goes sc f w h is.buf n is.to here (hand ∙ ap (λ (p : Op). Some p) is.op) phase (next_now (driver_of w h.0) o n true hand phase (ap has_start is.op))
phase_goes sc f w h o (Search k) here hand lends kind phase stands = absurd (false≢true (ap (may_go_on w h) (sym (search_next (driver_of w h.0) o k hand phase)) ∙ here.may))
phase_goes sc f w h o Work here hand lends kind phase stands =
    let d = driver_of w h.0 in
    let at = at_hand d o lends (subst (λ (k : Option Op). PlanOf d k) hand stands) in
    send_goes sc f w h at.is.buf at.is.to here (hand ∙ ap (λ (p : Op). Some p) at.is.op) phase at.handing.still at.handing.left

pub steps_go : StepsAreFlat
steps_go sc f w h o now hand lends =
    let here = here_by sc f w h now in
    let d = driver_of w h.0 in
    phase_goes sc f w h o d.phase here hand lends (by_number o lends) refl (now.flat.bytes.drives h.0 here.lt).stands
