-- A driver: where it stands in its script, what it does next, and what each of its calls changes. This project's own.
use Rattle.std.specs.Prelude.{ℕ, ◌+◌, nat_lt, Bool, true, false, if◌then◌else◌, List, [], ◌∷◌, ◌++◌, Option, Some, None, Result, Ok, Err, slice_get, option_map}
use Rattle.nc_num.specs.declared.names.Label.{Label}
use Rattle.nc_model.specs.declared.owners.Owner.{Owner}
use Rattle.nc_coherent.specs.Pages.{PageMap}
use Rattle.nc_ops.specs.declared.ops.Op.{Op}
use Rattle.nc_rules.specs.declared.answers.Answer.{Answer}
use Rattle.nc_rules.specs.declared.answers.Refusal.{Refusal}
use Rattle.nc_rules.specs.declared.answers.Refusal.TheVariants as refusals
use Rattle.nc_rules.specs.declared.lots.Lot.{Lot}
use Rattle.nc_rules.specs.declared.steps.Act.{Act}
use Rattle.nc_rules.specs.declared.steps.Act.TheVariants as acts
use Rattle.nc_rules.specs.declared.steps.Next.{Next}
use Rattle.nc_rules.specs.declared.steps.Next.TheVariants as nexts
use Rattle.nc_rules.specs.declared.steps.Phase.{Phase}
use Rattle.nc_rules.specs.declared.steps.Phase.TheVariants.{Steps, Search, Work}
use Rattle.nc_rules.specs.declared.steps.Seen.{Seen}
use Rattle.nc_rules.specs.declared.steps.Seen.TheVariants as seen
use Rattle.nc_rules.specs.declared.steps.Step.{Step}
use Rattle.nc_rules.specs.declared.steps.Turn.TheVariants as turns
use Rattle.nc_rules.specs.Lots.{DriverConfig, lot_id, some_lot_waits, slot_given}
use Rattle.nc_rules.specs.Turns.{Moved, moved, lots_after, lots_after_both, turned, given_up, without_wanted}
use Rattle.nc_rules.specs.Operations.{step_at, has_start, begin, opening, plan_of, good_answer, bad_answer, waited_label}

pub record DriverState : Type 0 where
  pub fixed : DriverConfig
  -- the number of the operation in hand
  pub op : ℕ
  -- how many of its steps are done, which slot word it tries, or that it has a plan
  pub phase : Phase
  -- the rest of its plan
  pub rest : List Step
  -- all lots of the hart, in order of making, those that the operation in hand makes too
  pub lots : List Lot
  -- what the steps of the operation in hand saw last, but for Nothing
  pub saw : Seen

-- the operation in hand, where the script is not at its end
abbrev pub in_hand : DriverState → Option Op
in_hand d = slice_get d.fixed.script d.op

-- its number
abbrev pub left_op : DriverState → Option ℕ
left_op d = option_map (λ o. d.op) (in_hand d)

-- ---- what comes next

abbrev pub next_act : Act → Next
next_act (acts.Op op) = nexts.Op op
next_act (acts.Claim chan) = nexts.Claim chan
next_act (acts.Poll chan) = nexts.Poll chan
next_act (acts.Take buf) = nexts.Take buf

-- a refused step is a start
abbrev pub next_step : Result (Option Step) Refusal → Next
next_step (Err r) = nexts.Start
next_step (Ok None) = nexts.Start
next_step (Ok (Some s)) = next_act s.act

abbrev pub next_rest : List Step → Next
next_rest [] = nexts.Start
next_rest (s ∷ rest) = next_act s.act

abbrev pub next_in : DriverState → Op → Phase → Next
next_in d o (Steps n) = if has_start o then nexts.Start else next_step (step_at d.fixed d.lots o n)
next_in d o (Search k) = nexts.Search k
next_in d o Work = next_rest d.rest

abbrev pub next_of_op : DriverState → Option Op → Next
next_of_op d None = nexts.End
next_of_op d (Some o) = next_in d o d.phase

unfoldable pub next_of : DriverState → Next
next_of d = next_of_op d (in_hand d)

-- the slot word that the driver tries next
abbrev pub searched : Next → Option ℕ
searched (nexts.Search k) = Some k
searched nexts.End = None
searched nexts.Start = None
searched (nexts.Op op) = None
searched (nexts.Claim chan) = None
searched (nexts.Poll chan) = None
searched (nexts.Take buf) = None

unfoldable pub searching : DriverState → Option ℕ
searching d = searched (next_of d)

-- whether the operation in hand is made of the script's own accesses, and not of a plan's
abbrev pub is_script : Phase → Bool
is_script (Steps n) = true
is_script (Search k) = false
is_script Work = false

-- with light fences, the label whose token has to be out of the hart's queue before the next step
abbrev pub waited_in : Option Op → Phase → Option Label
waited_in None p = None
waited_in (Some o) (Steps n) = waited_label o
waited_in (Some o) (Search k) = None
waited_in (Some o) Work = None

unfoldable pub waits_for : DriverState → Option Label
waits_for d = if d.fixed.light then waited_in (in_hand d) d.phase else None

-- ---- what a call of a driver gives: the driver after it, and what it changes beside it

pub record Went : Type 0 where
  pub driver : DriverState
  pub moves : Moved

abbrev pub stays : DriverState → Went
stays d = record { driver = d; moves = moved [] None }

-- the operation in hand is over, and the hart has these lots
abbrev pub over : DriverState → List Lot → DriverState
over d lots = record { fixed = d.fixed; op = d.op + 1; phase = Steps 0; rest = []; lots = lots; saw = seen.Nothing }

-- the operation in hand stands so
abbrev pub stands : DriverState → Phase → List Step → List Lot → Seen → DriverState
stands d phase rest lots saw = record { fixed = d.fixed; op = d.op; phase = phase; rest = rest; lots = lots; saw = saw }

-- what was seen last, but for Nothing
abbrev pub kept : Seen → Seen → Seen
kept old seen.Nothing = old
kept old (seen.Control control) = seen.Control control
kept old seen.Claimed = seen.Claimed
kept old (seen.Busy g) = seen.Busy g
kept old (seen.Value value) = seen.Value value

-- it gives up, before anything is lent: the lots that it made are gone, and their slots are given back
abbrev pub give_up : DriverState → Op → Refusal → Went
give_up d o r = record { driver = over d (without_wanted d.lots); moves = given_up d.lots (bad_answer d.fixed d.lots o r) }

-- on with this rest of a plan; over where nothing is left
abbrev pub went_to : DriverState → List Lot → Seen → List Step → DriverState
went_to d lots saw [] = over d lots
went_to d lots saw (s ∷ rest) = stands d Work (s ∷ rest) lots saw

abbrev pub answered : DriverState → Op → Seen → List Step → Option Answer
answered d o saw [] = good_answer d.fixed d.lots o saw
answered d o saw (s ∷ rest) = None

-- ---- start: the start step of an operation that has one, or the refusal of a step

-- no entry waits for a slot: the opening turn, and the plan
abbrev pub opened : DriverState → Op → Went
opened d o = record {
  driver = went_to d (lots_after (opening d.fixed d.lots o) d.lots) d.saw (plan_of d.fixed d.lots o);
  moves = turned d.fixed d.lots (opening d.fixed d.lots o) turns.Stay (answered d o d.saw (plan_of d.fixed d.lots o));
}

abbrev pub searches : DriverState → ℕ → DriverState
searches d k = stands d (Search k) [] d.lots d.saw

-- a search from the first slot word on, where an entry waits for a slot
abbrev pub placed : DriverState → Op → Went
placed d o = if some_lot_waits d.lots then stays (searches d 0) else opened d o

abbrev pub with_lots : DriverState → List Lot → DriverState
with_lots d lots = record d { lots = lots }

abbrev pub begun : DriverState → Op → Result (List Lot) Refusal → Went
begun d o (Err r) = give_up d o r
begun d o (Ok new) = placed (with_lots d (d.lots ++ new)) o

-- a step of an operation without a start step is refused; it is no start otherwise
abbrev pub refused_step : DriverState → Op → Result (Option Step) Refusal → Went
refused_step d o (Err r) = give_up d o r
refused_step d o (Ok s) = stays d

abbrev pub steps_done : Phase → ℕ
steps_done (Steps n) = n
steps_done (Search k) = 0
steps_done Work = 0

abbrev pub started_op : DriverState → List Owner → PageMap → Op → Went
started_op d owners pages o =
    if has_start o then begun d o (begin d.fixed d.lots owners pages o) else refused_step d o (step_at d.fixed d.lots o (steps_done d.phase))

abbrev pub started_of : DriverState → List Owner → PageMap → Option Op → Went
started_of d owners pages None = stays d
started_of d owners pages (Some o) = started_op d owners pages o

unfoldable pub started : DriverState → List Owner → PageMap → Went
started d owners pages = started_of d owners pages (in_hand d)

-- ---- told: whether the slot word is got

-- on to the next slot word; where there is none, no slot was found
abbrev pub missed : DriverState → Op → ℕ → Went
missed d o k = if nat_lt (k + 1) d.fixed.slots then stays (searches d (k + 1)) else give_up d o refusals.NoSlot

abbrev pub told_word : DriverState → Op → ℕ → Bool → Went
told_word d o k true = placed (with_lots d (slot_given k d.lots)) o
told_word d o k false = missed d o k

abbrev pub told_in : DriverState → Op → Phase → Bool → Went
told_in d o (Search k) got = told_word d o k got
told_in d o (Steps n) got = stays d
told_in d o Work got = stays d

abbrev pub told_of : DriverState → Option Op → Bool → Went
told_of d None got = stays d
told_of d (Some o) got = told_in d o d.phase got

unfoldable pub told : DriverState → Bool → Went
told d got = told_of d (in_hand d) got

-- ---- done: a step that was not refused, and what it saw

-- a claim that found the channel granted
abbrev pub busy : Seen → Option Refusal
busy (seen.Busy g) = Some (refusals.ChannelBusy g)
busy seen.Nothing = None
busy (seen.Control control) = None
busy seen.Claimed = None
busy (seen.Value value) = None

-- what step n of an operation without a start step leaves: step n + 1, be it refused, or the end
abbrev pub stepped_to : DriverState → ℕ → List Lot → Seen → Result (Option Step) Refusal → DriverState
stepped_to d n lots saw (Err r) = stands d (Steps n) [] lots saw
stepped_to d n lots saw (Ok (Some s)) = stands d (Steps n) [] lots saw
stepped_to d n lots saw (Ok None) = over d lots

abbrev pub step_answer : DriverState → Op → Seen → Result (Option Step) Refusal → Option Answer
step_answer d o saw (Err r) = None
step_answer d o saw (Ok (Some s)) = None
step_answer d o saw (Ok None) = good_answer d.fixed d.lots o saw

-- step s is made; it leaves this next one
abbrev pub stepped : DriverState → Op → ℕ → Seen → Result (Option Step) Refusal → Result (Option Step) Refusal → Went
stepped d o n saw (Ok (Some s)) next = record {
  driver = stepped_to d n (lots_after_both s.first s.last d.lots) saw next;
  moves = turned d.fixed d.lots s.first s.last (step_answer d o saw next);
}
stepped d o n saw (Ok None) next = stays d
stepped d o n saw (Err r) next = stays d

abbrev pub worked : DriverState → Op → Seen → List Step → Went
worked d o saw [] = stays d
worked d o saw (s ∷ rest) = record {
  driver = went_to d (lots_after_both s.first s.last d.lots) saw rest;
  moves = turned d.fixed d.lots s.first s.last (answered d o saw rest);
}

abbrev pub done_in : DriverState → Op → Seen → Phase → Went
done_in d o saw (Steps n) = stepped d o (n + 1) saw (step_at d.fixed d.lots o n) (step_at d.fixed d.lots o (n + 1))
done_in d o saw (Search k) = stays d
done_in d o saw Work = worked d o saw d.rest

abbrev pub done_unless : DriverState → Op → Seen → Option Refusal → Went
done_unless d o saw (Some r) = give_up d o r
done_unless d o saw None = done_in d o (kept d.saw saw) d.phase

abbrev pub done_of : DriverState → Seen → Option Op → Went
done_of d saw None = stays d
done_of d saw (Some o) = done_unless d o saw (busy saw)

unfoldable pub done : DriverState → Seen → Went
done d saw = done_of d saw (in_hand d)

-- ---- lent: a token of a lot is out of the queue, with which the lot is the device's

unfoldable pub lent : DriverState → Label → ℕ → Went
lent d label first = record {
  driver = with_lots d (lots_after (turns.Give (lot_id label first)) d.lots);
  moves = turned d.fixed d.lots (turns.Give (lot_id label first)) turns.Stay None;
}
