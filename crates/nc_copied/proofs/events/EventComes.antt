-- How a hart that is in a plan behind an event came there; only its own step goes on in a plan.
use Rattle.std.specs.Prelude.{Option, Some, None, Bool, true, false, is_some, slice_set}
use Rattle.std.proofs.Common.{◌≡◌, ◌⊎◌, ℕ, suc, ◌<◌, List, [], ◌∷◌, length, refl, sym, ap, ◌∙◌, subst, inl, inr, arith}
use Rattle.std.proofs.lemmas.Bool.{false≢true, cases_eq}
use Rattle.std.proofs.lemmas.List.{get_or-set_other}
use Rattle.nc_num.specs.declared.names.HartNo.{HartNo}
use Rattle.nc_queue.specs.declared.entry.Entry.{Entry}
use Rattle.nc_queue.specs.declared.entry.Entry.TheVariants as entries
use Rattle.nc_ops.specs.declared.ops.Op.{Op}
use Rattle.nc_scen.specs.Events.{IsThere}
use Rattle.nc_scen.specs.declared.events.Event.{Event}
use Rattle.nc_scen.specs.declared.events.Event.TheVariants as events
use Rattle.nc_scen.specs.declared.scenario.Scenario.{Scenario}
use Rattle.nc_rules.specs.declared.steps.Act.{Act}
use Rattle.nc_rules.specs.declared.steps.Act.TheVariants as acts
use Rattle.nc_rules.specs.declared.steps.Phase.{Phase}
use Rattle.nc_rules.specs.declared.steps.Phase.TheVariants.{Work}
use Rattle.nc_rules.specs.declared.steps.Step.{Step}
use Rattle.nc_rules.specs.declared.lots.Lot.{Lot}
use Rattle.nc_num.specs.declared.names.Label.{Label}
use Rattle.nc_rules.specs.Calls.{leaving}
use Rattle.nc_rules.specs.Driver.{DriverState, in_hand, next_of, next_of_op, next_in, next_rest, next_act, searched, searching, started, told, done, lent}
use Rattle.nc_rules.specs.Events.{enabled}
use Rattle.nc_rules.specs.Next.{next}
use Rattle.nc_rules.specs.Operations.{plan_of}
use Rattle.nc_rules.specs.Outcomes.{Outcome, outcome, drain_outcome, leaves}
use Rattle.nc_rules.specs.Machine.{MachineState}
use Rattle.nc_rules.specs.World.{WorldState, no_driver, driver_of}
use Rattle.nc_holds.proofs.events.Holds.{next_is, next_same}
use Rattle.nc_flatness.specs.Flatness.{IsWorldOf}
use Rattle.nc_refusals.proofs.Behind.{Behind, Same, Lent, Started, Told, Done, drivers_in, driver_now, mine, same_hart, behind}
use Rattle.nc_refusals.proofs.Outcomes.{Made, Starts, Hears, Acts, made}
use Rattle.nc_copied.proofs.events.Comings.{Came, Stays, Begins, Goes, IsSameOp, start_comes, told_comes, done_comes}

-- ---- who goes on in a plan

act_searched : (a : Act) → searched (next_act a) ≡ None
act_searched (acts.Op op) = refl
act_searched (acts.Claim chan) = refl
act_searched (acts.Poll chan) = refl
act_searched (acts.Take buf) = refl

rest_searched : (rest : List Step) → searched (next_rest rest) ≡ None
rest_searched [] = refl
rest_searched (s ∷ rest) = act_searched s.act

op_searched : (d : DriverState) (o : Option Op) → d.phase ≡ Work → searched (next_of_op d o) ≡ None
op_searched d None phase = refl
op_searched d (Some o) phase = ap (λ (p : Phase). searched (next_in d o p)) phase ∙ rest_searched d.rest

-- a driver in a plan searches for no slot
plan_searches : (d : DriverState) → d.phase ≡ Work → searching d ≡ None
unfolding searching next_of
plan_searches d phase = op_searched d (in_hand d) phase

none_some : {A : Type 0} (o : Option ℕ) → o ≡ None → is_some o ≡ true → A
none_some o none some = absurd (false≢true (sym (ap is_some none) ∙ some))

other_set : (w : WorldState) (g h : HartNo) (d : DriverState) → (h.0 ≡ g.0 → ⊥) → drivers_in w (slice_set w.drivers g.0 d) h.0 ≡ driver_of w h.0
other_set w g h d ne = get_or-set_other w.drivers g.0 h.0 d no_driver ne

-- the drivers behind an event by another hart
made_other : (w : WorldState) (g h : HartNo) (o : Outcome) → (h.0 ≡ g.0 → ⊥) → Made w g o → drivers_in w o.drivers h.0 ≡ driver_of w h.0
made_other w g h o ne (Starts touch records at e) = ap (λ (y : Outcome). drivers_in w y.drivers h.0) e ∙ other_set w g h _ ne
made_other w g h o ne (Hears k got now records at words e) = ap (λ (y : Outcome). drivers_in w y.drivers h.0) e ∙ other_set w g h _ ne
made_other w g h o ne (Acts act saw touch records at sees e) = ap (λ (y : Outcome). drivers_in w y.drivers h.0) e ∙ other_set w g h _ ne

lent_rest : (d : DriverState) (label : Label) (first : ℕ) → (lent d label first).driver.rest ≡ d.rest
unfolding lent
lent_rest d label first = refl

set_rest : (w : WorldState) (g h : HartNo) (d : DriverState) → h.0 < length w.drivers → d.rest ≡ (driver_of w g.0).rest → (drivers_in w (slice_set w.drivers g.0 d) h.0).rest ≡ (driver_of w h.0).rest
set_rest w g h d lt same = elim (cases_eq h.0 g.0) [
  | inl is ↦
      ap (λ (j : ℕ). (drivers_in w (slice_set w.drivers j d) h.0).rest) (sym is) ∙ ap (λ (e : DriverState). e.rest) (mine w h.0 d lt) ∙ same ∙ ap (λ (j : ℕ). (driver_of w j).rest) (sym is)
  | inr ne ↦ ap (λ (e : DriverState). e.rest) (other_set w g h d ne)
]

out_rest : (w : WorldState) (g h : HartNo) (m : MachineState) (touch : Option _) (rs : List _) (e : Entry) → h.0 < length w.drivers → (drivers_in w (leaves w g m touch rs e).drivers h.0).rest ≡ (driver_of w h.0).rest
out_rest w g h m touch rs (entries.Lend label first count) lt = set_rest w g h (lent (driver_of w g.0) label first).driver lt (lent_rest (driver_of w g.0) label first)
out_rest w g h m touch rs (entries.Store span bytes kind) lt = refl
out_rest w g h m touch rs (entries.Cbo block op) lt = refl
out_rest w g h m touch rs (entries.Reg chan off width value) lt = refl
out_rest w g h m touch rs (entries.Mail buf to) lt = refl
out_rest w g h m touch rs (entries.Mark pred succ) lt = refl

drain_rest : (w : WorldState) (g h : HartNo) (i : ℕ) (o : Option Entry) → h.0 < length w.drivers → (drivers_in w (drain_outcome w g i o).drivers h.0).rest ≡ (driver_of w h.0).rest
unfolding drain_outcome
drain_rest w g h i None lt = refl
drain_rest w g h i (Some e) lt = out_rest w g h _ _ _ e lt

-- this hart's own step, or the rest of its plan is as before
abbrev StepsOrStays : WorldState → Event → HartNo → Type 0
StepsOrStays w e h = (e ≡ events.Issue h) ⊎ ((drivers_in w (outcome w e).drivers h.0).rest ≡ (driver_of w h.0).rest)

kind_by : (w : WorldState) (e : Event) (h : HartNo) → enabled w e ≡ true → h.0 < length w.drivers → (driver_of w h.0).phase ≡ Work → StepsOrStays w e h
unfolding outcome enabled
kind_by w (events.Issue g) h may lt phase = elim (cases_eq h.0 g.0) [
  | inl is ↦ inl (ap events.Issue (sym (same_hart h g is)))
  | inr ne ↦ inr (ap (λ (d : DriverState). d.rest) (made_other w g h (outcome w (events.Issue g)) ne (made w (events.Issue g) g refl may)))
]
kind_by w (events.Try g) h may lt phase = elim (cases_eq h.0 g.0) [
  | inl is ↦ none_some (searching (driver_of w g.0)) (plan_searches (driver_of w g.0) (ap (λ (j : ℕ). (driver_of w j).phase) (sym is) ∙ phase)) may
  | inr ne ↦ inr (ap (λ (d : DriverState). d.rest) (made_other w g h (outcome w (events.Try g)) ne (made w (events.Try g) g refl may)))
]
kind_by w (events.Told g got) h may lt phase = elim (cases_eq h.0 g.0) [
  | inl is ↦ none_some (searching (driver_of w g.0)) (plan_searches (driver_of w g.0) (ap (λ (j : ℕ). (driver_of w j).phase) (sym is) ∙ phase)) may
  | inr ne ↦ inr (ap (λ (d : DriverState). d.rest) (made_other w g h (outcome w (events.Told g got)) ne (made w (events.Told g got) g refl may)))
]
kind_by w (events.Drain g i) h may lt phase = inr (drain_rest w g h i (leaving w.machine g.0 i) lt)
kind_by w (events.Fill g b) h may lt phase = inr refl
kind_by w (events.Evict g b) h may lt phase = inr refl
kind_by w (events.ChanRead chan) h may lt phase = inr refl
kind_by w (events.ChanWrite chan) h may lt phase = inr refl

loops : {A : Type 0} (s : Step) (rest : List Step) → rest ≡ s ∷ rest → A
loops s rest e = let k : length rest ≡ suc (length rest) = ap length e in absurd (omega (arith, k))

-- the event is the step of hart h
pub record IsItsStep (w : WorldState) (e : Event) (h : HartNo) : Type 0 where
  pub is : e ≡ events.Issue h
  pub may : enabled w e ≡ true

step_by : (w : WorldState) (e : Event) (h : HartNo) (s : Step) (t : Bool) → enabled w e ≡ t → h.0 < length w.drivers → (driver_of w h.0).phase ≡ Work → (driver_of w h.0).rest ≡ s ∷ (driver_of (next w e) h.0).rest → IsItsStep w e h
step_by w e h s false off lt phase goes =
    let rest = (driver_of w h.0).rest in
    loops s rest (goes ∙ ap (λ (v : WorldState). s ∷ (driver_of v h.0).rest) (next_same w e off))
step_by w e h s true may lt phase goes = elim (kind_by w e h may lt phase) [
  | inl is ↦ record { is = is; may = may }
  | inr stays ↦
      let same : (driver_of (next w e) h.0).rest ≡ (driver_of w h.0).rest = ap (λ (v : WorldState). (driver_of v h.0).rest) (next_is w e may) ∙ ap (λ (d : DriverState). d.rest) (driver_now w (outcome w e) h.0) ∙ stays in
      loops s (driver_of w h.0).rest (goes ∙ ap (λ (r : List Step). s ∷ r) same)
]

-- ---- how it came

pub data CameBy (w v : WorldState) (e : Event) (h : HartNo) : Type 0 where
  Kept : (driver_of w h.0).phase ≡ Work → (driver_of v h.0).rest ≡ (driver_of w h.0).rest → IsSameOp (driver_of w h.0) (driver_of v h.0) → CameBy w v e h
  Began : (o : Op) (lots : List Lot) → in_hand (driver_of w h.0) ≡ Some o → (driver_of v h.0).rest ≡ plan_of (driver_of w h.0).fixed lots o → IsSameOp (driver_of w h.0) (driver_of v h.0) → CameBy w v e h
  Stepped : (s : Step) → IsItsStep w e h → (driver_of w h.0).phase ≡ Work → (driver_of w h.0).rest ≡ s ∷ (driver_of v h.0).rest → IsSameOp (driver_of w h.0) (driver_of v h.0) → CameBy w v e h

came_of : (w : WorldState) (e : Event) (h : HartNo) → h.0 < length w.drivers → (driver_of (next w e) h.0).phase ≡ Work → Came (driver_of w h.0) (driver_of (next w e) h.0) → CameBy w (next w e) e h
came_of w e h lt work (Stays phase rest same) = Kept (sym phase ∙ work) rest same
came_of w e h lt work (Begins o lots hand rest same) = Began o lots hand rest same
came_of w e h lt work (Goes s phase rest same) = Stepped s (step_by w e h s (enabled w e) refl lt phase rest) phase rest same

came_as : (d : DriverState) (e f : DriverState) → e ≡ f → (f.phase ≡ Work → Came d f) → e.phase ≡ Work → Came d e
came_as d e f same came work = subst (Came d) (sym same) (came (ap (λ (k : DriverState). k.phase) (sym same) ∙ work))

lent_came : (d : DriverState) (label : Label) (first : ℕ) → Came d (lent d label first).driver
unfolding lent
lent_came d label first = Stays refl refl (record { op = refl; fixed = refl })

behind_came : (w v : WorldState) (h : HartNo) → (driver_of v h.0).phase ≡ Work → Behind w v h → Came (driver_of w h.0) (driver_of v h.0)
behind_came w v h work (Same e) = came_as (driver_of w h.0) (driver_of v h.0) (driver_of w h.0) e (λ k. Stays refl refl (record { op = refl; fixed = refl })) work
behind_came w v h work (Lent label first at e) = came_as (driver_of w h.0) (driver_of v h.0) (lent (driver_of w h.0) label first).driver e (λ k. lent_came (driver_of w h.0) label first) work
behind_came w v h work (Started at e) = came_as (driver_of w h.0) (driver_of v h.0) (started (driver_of w h.0) w.owners w.pages).driver e (start_comes (driver_of w h.0) w.owners w.pages) work
behind_came w v h work (Told k got at e) = came_as (driver_of w h.0) (driver_of v h.0) (told (driver_of w h.0) got).driver e (told_comes (driver_of w h.0) got) work
behind_came w v h work (Done act saw at e) = came_as (driver_of w h.0) (driver_of v h.0) (done (driver_of w h.0) saw).driver e (done_comes (driver_of w h.0) saw) work

pub came : (sc : Scenario) (w : WorldState) (e : Event) (h : HartNo) → IsWorldOf sc w → IsThere (length sc.harts) sc.block_size sc.ram e → h.0 < length w.drivers → (driver_of (next w e) h.0).phase ≡ Work → CameBy w (next w e) e h
came sc w e h world there lt work = came_of w e h lt work (behind_came w (next w e) h work (behind sc w e h world there lt))
