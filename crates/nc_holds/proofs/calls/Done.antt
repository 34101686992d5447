-- What a step that is made, and a token that is out of its queue, does to what a hart holds.
use Rattle.std.proofs.Common.{◌≡◌, ℕ, ◌+◌, Bool, true, false, List, [], ◌∷◌, refl, sym, ap, subst, inl, inr, Option, Some, None, Result, Ok, Err}
use Rattle.std.specs.Prelude.{All, if◌then◌else◌}
use Rattle.std.proofs.lemmas.Bool.{false≢true}
use Rattle.std.proofs.lemmas.List.Elements.{All-nil, All-head, All-tail}
use Rattle.nc_num.specs.declared.names.HartNo.{HartNo}
use Rattle.nc_num.specs.declared.names.Label.{Label}
use Rattle.nc_model.specs.declared.owners.Owner.TheVariants as owners
use Rattle.nc_ops.specs.declared.ops.Op.{Op}
use Rattle.nc_rules.specs.declared.answers.Refusal.{Refusal}
use Rattle.nc_rules.specs.declared.answers.Refusal.TheVariants as refusals
use Rattle.nc_rules.specs.declared.lots.Lot.{Lot}
use Rattle.nc_rules.specs.declared.steps.Next.{Next}
use Rattle.nc_rules.specs.declared.steps.Next.TheVariants as nexts
use Rattle.nc_rules.specs.declared.steps.Phase.{Phase}
use Rattle.nc_rules.specs.declared.steps.Phase.TheVariants.{Steps, Search, Work}
use Rattle.nc_rules.specs.declared.steps.Seen.{Seen}
use Rattle.nc_rules.specs.declared.steps.Seen.TheVariants as seen
use Rattle.nc_rules.specs.declared.steps.Step.{Step}
use Rattle.nc_rules.specs.declared.steps.Turn.{Turn}
use Rattle.nc_rules.specs.declared.steps.Turn.TheVariants as turns
use Rattle.nc_rules.specs.Lots.{DriverConfig, lot_id}
use Rattle.nc_rules.specs.Refusals.{buffer_of}
use Rattle.nc_rules.specs.Turns.{lots_after, lots_after_both}
use Rattle.nc_rules.specs.Operations.{has_start, step_at}
use Rattle.nc_rules.specs.Driver.{DriverState, in_hand, next_of, next_of_op, next_in, next_act, next_step, kept, answered, stepped_to, step_answer, stepped, worked, busy, done, done_of, done_unless, done_in, lent}
use Rattle.nc_scripts.specs.Scripts.{is_act}
use Rattle.nc_scripts.specs.Drivers.{IsAtWork, IsPhase, IsDriver, IsOwed, turns_of, IsLentAt}
use Rattle.nc_scripts.proofs.LotLaws.{owed_stay, placed_stay}
use Rattle.nc_scripts.proofs.DriverLaws.{next_step_is}
use Rattle.nc_holds.specs.Held.{Held, IsOwnedBy}
use Rattle.nc_holds.specs.Changes.{Turned, changed, IsPlanStep}
use Rattle.nc_holds.proofs.messages.Steps.{Numbered, Quietly, Takes, numbered, numbered_first}
use Rattle.nc_holds.proofs.calls.Plans.{ArePlanSteps}
use Rattle.nc_holds.proofs.calls.Shapes.{here, MakesTurn, IsQuietTurn, As, Turns, Plainly, IsCall, stays_turn, first_turn, last_turn, first_quiet, steps_stay}
use Rattle.nc_holds.proofs.calls.Starts.{gives_up, just_stays, went_plan, went_lots}

-- what a taken buffer needs: it was passed to this hart
abbrev pub CanTake : DriverConfig → Held → Next → Type 0
CanTake f s next = (buf : ℕ) → next ≡ nexts.Take buf → (g : HartNo) × IsOwnedBy s.owners (buffer_of f buf) (owners.Passing g f.me)

-- ---- a step by its number

last_by : (f : DriverConfig) (s : Held) (o : Op) (step : Step) → CanTake f s (next_act step.act) → Numbered f o step → MakesTurn f s step.last
last_by f s o step take (Quietly quiet) = stays_turn f s step.last quiet.last
last_by f s o step take (Takes buf op is) =
    let g = take buf (sym (ap (λ (x : Step). next_act x.act) is)) in
    subst (λ (x : Step). MakesTurn f s x.last) is (record { may = (buf, refl, g); fits = tt; placed = λ id e. absurd (cc) })

stepped_lots : (d : DriverState) (n : ℕ) (lots : List Lot) (saw : Seen) (r : Result (Option Step) Refusal) → (stepped_to d n lots saw r).lots ≡ lots
stepped_lots d n lots saw (Err r) = refl
stepped_lots d n lots saw (Ok (Some s)) = refl
stepped_lots d n lots saw (Ok None) = refl

stepped_plan : (d : DriverState) (n : ℕ) (lots : List Lot) (saw : Seen) (r : Result (Option Step) Refusal) → ArePlanSteps (stepped_to d n lots saw r).lots (stepped_to d n lots saw r).rest
stepped_plan d n lots saw (Err r) = All-nil (IsPlanStep lots)
stepped_plan d n lots saw (Ok (Some s)) = All-nil (IsPlanStep lots)
stepped_plan d n lots saw (Ok None) = All-nil (IsPlanStep lots)

-- over no turn at its beginning
same_here : (f : DriverConfig) (m : Held) (t : Turn) → t ≡ turns.Stay → changed f m (Turned t) ≡ m
same_here f m t e = ap (λ u. changed f m (Turned u)) e

stepped_call : (ram : ℕ) (d : DriverState) (s : Held) (o : Op) (n : ℕ) (saw : Seen) (step : Step) (r : Result (Option Step) Refusal) → Numbered d.fixed o step → CanTake d.fixed s (next_act step.act) → IsCall ram d.fixed (here s d.lots) s.slots (stepped d o n saw (Ok (Some step)) r)
stepped_call ram d s o n saw step r is take =
    let first = numbered_first d.fixed o step is in record {
      shape = Plainly (here s d.lots) (As refl) (Turns step.first step.last (step_answer d o saw r) (stays_turn d.fixed (here s d.lots) step.first first)
          (subst (λ (m : Held). MakesTurn d.fixed m step.last) (sym (same_here d.fixed (here s d.lots) step.first first)) (last_by d.fixed (here s d.lots) o step take is))
          (inr (subst (λ (t : Turn). IsQuietTurn d.fixed d.lots t) (sym first) (record { ended = refl; pages = refl })))
          (stepped_lots d n (lots_after_both step.first step.last d.lots) saw r) refl) refl;
      plan = stepped_plan d n (lots_after_both step.first step.last d.lots) saw r;
    }

-- ---- a step of a plan

worked_call : (ram harts : ℕ) (d : DriverState) (s : Held) (o : Op) (saw : Seen) (rest : List Step) → d.rest ≡ rest → IsDriver ram harts d → IsAtWork d → ArePlanSteps d.lots rest → IsCall ram d.fixed (here s d.lots) s.slots (worked d o saw rest)
worked_call ram harts d s o saw [] e h k plan = just_stays ram d s (subst (λ (r : List Step). ArePlanSteps d.lots r) (sym e) plan)
worked_call ram harts d s o saw (step ∷ rest) e h k plan =
    let is = All-head (IsPlanStep d.lots) step rest plan in
    let more = All-tail (IsPlanStep d.lots) step rest plan in
    let now = steps_stay step.first d.lots (step ∷ rest) plan in
    let owed = subst (λ (r : List Step). All (IsOwed (turns_of r)) d.lots) e k.owed in
    let later = owed_stay step.first (step.last ∷ turns_of rest) d.lots owed in
    record {
      shape = Plainly (here s d.lots) (As refl) (Turns step.first step.last (answered d o saw rest) (first_turn d.fixed (here s d.lots) step.first (step.last ∷ turns_of rest) is.first owed k.placed)
          (last_turn d.fixed (changed d.fixed (here s d.lots) (Turned step.first)) step.last (turns_of rest) (All-head (IsPlanStep (lots_after step.first d.lots)) step rest now).last later (placed_stay step.first d.lots k.placed))
          (inr (first_quiet ram d.fixed d.lots step.first h.lots is.first))
          (went_lots d (lots_after_both step.first step.last d.lots) saw rest) refl) refl;
      plan = went_plan d (lots_after_both step.first step.last d.lots) saw rest (steps_stay step.last (lots_after step.first d.lots) rest (steps_stay step.first d.lots rest more));
    }

-- ---- done

done_in_call : (ram harts : ℕ) (d : DriverState) (s : Held) (o : Op) (saw : Seen) (p : Phase) → IsDriver ram harts d → IsPhase d p → ArePlanSteps d.lots d.rest → CanTake d.fixed s (next_in d o p) → is_act (next_in d o p) ≡ true → IsCall ram d.fixed (here s d.lots) s.slots (done_in d o saw p)
done_in_call ram harts d s o saw (Steps n) h is plan take act =
    let k = next_step_is d o n act in
    subst (λ (r : Result (Option Step) Refusal). IsCall ram d.fixed (here s d.lots) s.slots (stepped d o (n + 1) saw r (step_at d.fixed d.lots o (n + 1)))) (sym k.1)
    (stepped_call ram d s o (n + 1) saw k.0 (step_at d.fixed d.lots o (n + 1)) (numbered d.fixed d.lots o n k.0 k.1) (takes_by (has_start o) k.0 (step_at d.fixed d.lots o n) k.1 act take))
  where
    takes_by : (t : Bool) (step : Step) (r : Result (Option Step) Refusal) → r ≡ Ok (Some step) → is_act (if t then nexts.Start else next_step r) ≡ true → CanTake d.fixed s (if t then nexts.Start else next_step r) → CanTake d.fixed s (next_act step.act)
    takes_by true step r e act take = absurd (false≢true act)
    takes_by false step r e act take = subst (λ (x : Result (Option Step) Refusal). CanTake d.fixed s (next_step x)) e take
done_in_call ram harts d s o saw (Search k) h is plan take act = just_stays ram d s plan
done_in_call ram harts d s o saw Work h is plan take act = worked_call ram harts d s o saw d.rest refl h is plan

unless_call : (ram harts : ℕ) (d : DriverState) (s : Held) (o : Op) (saw : Seen) → IsDriver ram harts d → ArePlanSteps d.lots d.rest → CanTake d.fixed s (next_in d o d.phase) → is_act (next_in d o d.phase) ≡ true → IsCall ram d.fixed (here s d.lots) s.slots (done_unless d o saw (busy saw))
unless_call ram harts d s o (seen.Busy g) h plan take act = gives_up ram d s o (refusals.ChannelBusy g)
unless_call ram harts d s o seen.Nothing h plan take act = done_in_call ram harts d s o (kept d.saw seen.Nothing) d.phase h h.phase plan take act
unless_call ram harts d s o (seen.Control control) h plan take act = done_in_call ram harts d s o (seen.Control control) d.phase h h.phase plan take act
unless_call ram harts d s o seen.Claimed h plan take act = done_in_call ram harts d s o seen.Claimed d.phase h h.phase plan take act
unless_call ram harts d s o (seen.Value value) h plan take act = done_in_call ram harts d s o (seen.Value value) d.phase h h.phase plan take act

done_by : (ram harts : ℕ) (d : DriverState) (s : Held) (saw : Seen) (o : Option Op) → IsDriver ram harts d → ArePlanSteps d.lots d.rest → CanTake d.fixed s (next_of_op d o) → is_act (next_of_op d o) ≡ true → IsCall ram d.fixed (here s d.lots) s.slots (done_of d saw o)
done_by ram harts d s saw None h plan take act = absurd (false≢true act)
done_by ram harts d s saw (Some o) h plan take act = unless_call ram harts d s o saw h plan take act

pub done_call : (ram harts : ℕ) (d : DriverState) (s : Held) (saw : Seen) → IsDriver ram harts d → ArePlanSteps d.lots d.rest → CanTake d.fixed s (next_of d) → is_act (next_of d) ≡ true → IsCall ram d.fixed (here s d.lots) s.slots (done d saw)
unfolding done next_of
done_call ram harts d s saw h plan take act = done_by ram harts d s saw (in_hand d) h plan take act

-- ---- lent

pub lent_call : (ram : ℕ) (d : DriverState) (s : Held) (label : Label) (first : ℕ) → IsLentAt d.lots (lot_id label first) → ArePlanSteps d.lots d.rest → IsCall ram d.fixed (here s d.lots) s.slots (lent d label first)
unfolding lent
lent_call ram d s label first at plan = record {
  shape = Plainly (here s d.lots) (As refl) (Turns (turns.Give (lot_id label first)) turns.Stay None (record { may = at; fits = tt; placed = λ id e. absurd (cc) }) (stays_turn d.fixed _ turns.Stay refl) (inl refl) refl refl) refl;
  plan = steps_stay (turns.Give (lot_id label first)) d.lots d.rest plan;
}
