-- Where an operation is answered, its hart has no end of a copy.
use Rattle.std.proofs.Common.{◌≡◌, ℕ, ◌<◌, ◌≤◌, true, [], ◌∷◌, length, ap, ◌∙◌, subst, arith, Some, None}
use Rattle.std.specs.Prelude.{All, is_some}
use Rattle.std.proofs.lemmas.List.Elements.{All-head}
use Rattle.nc_num.specs.declared.names.HartNo.{HartNo}
use Rattle.nc_scen.specs.Events.{IsThere}
use Rattle.nc_scen.specs.declared.events.Event.{Event}
use Rattle.nc_scen.specs.declared.scenario.Scenario.{Scenario}
use Rattle.nc_rules.specs.declared.lots.Lot.{Lot}
use Rattle.nc_rules.specs.declared.steps.Phase.{Phase}
use Rattle.nc_rules.specs.declared.steps.Phase.TheVariants.{Steps}
use Rattle.nc_rules.specs.Driver.{DriverState, started, told, done}
use Rattle.nc_rules.specs.Events.{enabled}
use Rattle.nc_rules.specs.Next.{after_outcome, counted, next}
use Rattle.nc_rules.specs.Outcomes.{Outcome, outcome}
use Rattle.nc_rules.specs.Run.{after}
use Rattle.nc_rules.specs.World.{WorldState, driver_of, start}
use Rattle.nc_scripts.specs.Drivers.{IsPhase, IsSettled, IsEndName}
use Rattle.nc_scripts.proofs.Lists.{all_to, all_left, all_right}
use Rattle.nc_holds.proofs.events.Holds.{next_is}
use Rattle.nc_flatness.specs.Flatness.{IsWorldOf}
use Rattle.nc_flatness.proofs.worlds.Worlds.{worlds_start, worlds_stay}
use Rattle.nc_refusals.specs.Refused.{maker, acted}
use Rattle.nc_refusals.specs.Laws.{AnswersLeaveNoEnds}
use Rattle.nc_refusals.proofs.Outcomes.{Made, Starts, Hears, Acts, made}
use Rattle.nc_refusals.proofs.Answered.{start_over, told_over, done_over}
use Rattle.nc_refusals.proofs.EarlierLaws.{along, drivers_long, phase_of, maker_there, call_driver}

made_over : (w : WorldState) (h : HartNo) (o : Outcome) → h.0 < length w.drivers → is_some o.moves.answer ≡ true → Made w h o → (driver_of (counted (after_outcome w o)) h.0).phase ≡ Steps 0
made_over w h o lt a (Starts touch records at e) =
    let went = started (driver_of w h.0) w.owners w.pages in
    ap (λ (x : Outcome). (driver_of (counted (after_outcome w x)) h.0).phase) e
    ∙ ap (λ (d : DriverState). d.phase) (call_driver w h w.machine went w.slots touch records lt)
    ∙ start_over (driver_of w h.0) w.owners w.pages (subst (λ (x : Outcome). is_some x.moves.answer ≡ true) e a)
made_over w h o lt a (Hears k got now records at words e) =
    let went = told (driver_of w h.0) got in
    ap (λ (x : Outcome). (driver_of (counted (after_outcome w x)) h.0).phase) e
    ∙ ap (λ (d : DriverState). d.phase) (call_driver w h w.machine went now None records lt)
    ∙ told_over (driver_of w h.0) got (subst (λ (x : Outcome). is_some x.moves.answer ≡ true) e a)
made_over w h o lt a (Acts act saw touch records at sees e) =
    let went = done (driver_of w h.0) saw in
    ap (λ (x : Outcome). (driver_of (counted (after_outcome w x)) h.0).phase) e
    ∙ ap (λ (d : DriverState). d.phase) (call_driver w h (acted w.machine h act) went w.slots touch records lt)
    ∙ done_over (driver_of w h.0) saw (subst (λ (x : Outcome). is_some x.moves.answer ≡ true) e a)

not_named : (lot : Lot) → IsSettled lot → IsEndName lot.id → ⊥
not_named lot s e = by lot.id.label.0 s.named.label e
  where
    by : (n : ℕ) → n ≤ 999 → n ≡ 1000 → ⊥
    by n le is = absurd (omega (arith, le, is))

settled_at : (v : WorldState) (h : ℕ) (p : Phase) → p ≡ Steps 0 → IsPhase (driver_of v h) p → All IsSettled (driver_of v h).lots
settled_at v h p e is = (subst (λ (q : Phase). IsPhase (driver_of v h) q) e is).settled

no_ends : (sc : Scenario) (w : WorldState) (e : Event) (h : HartNo) → IsWorldOf sc w → IsThere (length sc.harts) sc.block_size sc.ram e → maker e ≡ Some h → enabled w e ≡ true → is_some (outcome w e).moves.answer ≡ true → All (λ lot. IsEndName lot.id → ⊥) (driver_of (next w e) h.0).lots
no_ends sc w e h is there by may a =
    let lt = maker_there sc e h by there in
    let over = ap (λ (v : WorldState). (driver_of v h.0).phase) (next_is w e may) ∙ made_over w h (outcome w e) (drivers_long sc w h.0 is lt) a (made w e h by may) in
    let now = worlds_stay sc w e is there in
    all_to IsSettled (λ (lot : Lot). IsEndName lot.id → ⊥) (driver_of (next w e) h.0).lots (settled_at (next w e) h.0 (driver_of (next w e) h.0).phase over (phase_of sc (next w e) h.0 now lt)) (λ lot s. not_named lot s)

pub answers_leave_no_ends : AnswersLeaveNoEnds
answers_leave_no_ends sc before e h a there by may answer =
    let first = all_left (IsThere (length sc.harts) sc.block_size sc.ram) before (e ∷ []) there in
    let last = All-head (IsThere (length sc.harts) sc.block_size sc.ram) e [] (all_right (IsThere (length sc.harts) sc.block_size sc.ram) before (e ∷ []) there) in
    no_ends sc (after (start sc) before) e h (along sc (start sc) before (worlds_start sc a) first) last by may answer
