-- What a driver goes on to with an operation that goes step by step: its steps move no lot, and it knows what it knew.
use Rattle.std.proofs.Common.{◌≡◌, ℕ, Bool, true, false, List, [], ◌∷◌, refl, ◌∙◌, Option, Some, None, Result, Ok, Err}
use Rattle.std.specs.Prelude.{if◌then◌else◌}
use Rattle.nc_ops.specs.declared.ops.Op.{Op}
use Rattle.nc_rules.specs.declared.answers.Refusal.{Refusal}
use Rattle.nc_rules.specs.declared.lots.Lot.{Lot}
use Rattle.nc_rules.specs.declared.steps.Next.TheVariants as nexts
use Rattle.nc_rules.specs.declared.steps.Phase.TheVariants.{Steps}
use Rattle.nc_rules.specs.declared.steps.Seen.{Seen}
use Rattle.nc_rules.specs.declared.steps.Step.{Step}
use Rattle.nc_rules.specs.declared.steps.Turn.{Turn}
use Rattle.nc_rules.specs.declared.steps.Turn.TheVariants as turns
use Rattle.nc_rules.specs.Turns.{lots_after, lots_after_both}
use Rattle.nc_rules.specs.Operations.{step_at, has_start}
use Rattle.nc_rules.specs.Driver.{DriverState, next_in, next_step, went_to, stepped_to}
use Rattle.nc_scripts.specs.Scripts.{TurnIsThere, is_act}

-- ---- what it knows

pub went_fixed : (d : DriverState) (lots : List Lot) (saw : Seen) (rest : List Step) → (went_to d lots saw rest).fixed ≡ d.fixed
went_fixed d lots saw [] = refl
went_fixed d lots saw (s ∷ rest) = refl

pub stepped_to_fixed : (d : DriverState) (n : ℕ) (lots : List Lot) (saw : Seen) (r : Result (Option Step) Refusal) → (stepped_to d n lots saw r).fixed ≡ d.fixed
stepped_to_fixed d n lots saw (Err r) = refl
stepped_to_fixed d n lots saw (Ok (Some s)) = refl
stepped_to_fixed d n lots saw (Ok None) = refl

-- ---- its lots

-- a turn of such a step moves no lot
lots_stay : (ram : ℕ) (lots : List Lot) (t : Turn) → TurnIsThere ram t → lots_after t lots ≡ lots
lots_stay ram lots turns.Stay h = refl
lots_stay ram lots (turns.Pass range to) h = refl
lots_stay ram lots (turns.Own range) h = refl
lots_stay ram lots (turns.Lend id) h = absurd h
lots_stay ram lots (turns.Give id) h = absurd h
lots_stay ram lots (turns.Return id) h = absurd h
lots_stay ram lots (turns.Sync id) h = absurd h
lots_stay ram lots (turns.Settle id) h = absurd h
lots_stay ram lots (turns.End id) h = absurd h

pub both_stay : (ram : ℕ) (lots : List Lot) (t u : Turn) → TurnIsThere ram t → TurnIsThere ram u → lots_after_both t u lots ≡ lots
both_stay ram lots t u h k = lots_stay ram (lots_after t lots) u k ∙ lots_stay ram lots t h

-- ---- its steps

-- a step that comes next is one of the operation
next_some : (r : Result (Option Step) Refusal) → is_act (next_step r) ≡ true → (s : Step) × (r ≡ Ok (Some s))
next_some (Err r) e = absurd (cc)
next_some (Ok None) e = absurd (cc)
next_some (Ok (Some s)) e = (s, refl)

next_unless : (t : Bool) (r : Result (Option Step) Refusal) → is_act (if t then nexts.Start else next_step r) ≡ true → (s : Step) × (r ≡ Ok (Some s))
next_unless true r e = absurd (cc)
next_unless false r e = next_some r e

-- step n comes next
pub next_step_is : (d : DriverState) (o : Op) (n : ℕ) → is_act (next_in d o (Steps n)) ≡ true → (s : Step) × (step_at d.fixed d.lots o n ≡ Ok (Some s))
next_step_is d o n e = next_unless (has_start o) (step_at d.fixed d.lots o n) e
