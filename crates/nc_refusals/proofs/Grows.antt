-- No call takes a driver back to an earlier operation.
use Rattle.std.proofs.Common.{ℕ, ◌+◌, ◌≤◌, Bool, true, false, List, [], ◌∷◌, ◌++◌, arith, Option, Some, None, Result, Ok, Err}
use Rattle.std.specs.Prelude.{if◌then◌else◌, nat_lt}
use Rattle.nc_model.specs.declared.owners.Owner.{Owner}
use Rattle.nc_coherent.specs.Pages.{PageMap}
use Rattle.nc_ops.specs.declared.ops.Op.{Op}
use Rattle.nc_rules.specs.declared.answers.Refusal.{Refusal}
use Rattle.nc_rules.specs.declared.answers.Refusal.TheVariants as refusals
use Rattle.nc_rules.specs.declared.lots.Lot.{Lot}
use Rattle.nc_rules.specs.declared.steps.Phase.{Phase}
use Rattle.nc_rules.specs.declared.steps.Phase.TheVariants.{Steps, Search, Work}
use Rattle.nc_rules.specs.declared.steps.Seen.{Seen}
use Rattle.nc_rules.specs.declared.steps.Step.{Step}
use Rattle.nc_rules.specs.Lots.{some_lot_waits, slot_given}
use Rattle.nc_rules.specs.Turns.{lots_after, lots_after_both}
use Rattle.nc_rules.specs.Operations.{has_start, step_at, begin, opening, plan_of}
use Rattle.nc_rules.specs.Driver.{DriverState, in_hand, stays, give_up, went_to, opened, searches, placed, with_lots, begun, refused_step, steps_done, started, started_of, told, told_of, told_in, told_word, kept, busy, stepped_to, stepped, worked, done, done_of, done_unless, done_in}

abbrev Grows : DriverState → DriverState → Type 0
Grows d e = d.op ≤ e.op

same : (n : ℕ) → n ≤ n
same n = omega arith

more : (n : ℕ) → n ≤ n + 1
more n = omega arith

went_grows : (d : DriverState) (lots : List Lot) (saw : Seen) (rest : List Step) → Grows d (went_to d lots saw rest)
went_grows d lots saw [] = more d.op
went_grows d lots saw (s ∷ rest) = same d.op

placed_if : (d e : DriverState) (o : Op) (t : Bool) → Grows d e → Grows d (if t then stays e else opened d o).driver
placed_if d e o true h = h
placed_if d e o false h = went_grows d (lots_after (opening d.fixed d.lots o) d.lots) d.saw (plan_of d.fixed d.lots o)

placed_grows : (d : DriverState) (o : Op) → Grows d (placed d o).driver
placed_grows d o = placed_if d (searches d 0) o (some_lot_waits d.lots) (same d.op)

begun_grows : (d : DriverState) (o : Op) (r : Result (List Lot) Refusal) → Grows d (begun d o r).driver
begun_grows d o (Err r) = more d.op
begun_grows d o (Ok new) = placed_grows (with_lots d (d.lots ++ new)) o

step_grows : (d : DriverState) (o : Op) (r : Result (Option Step) Refusal) → Grows d (refused_step d o r).driver
step_grows d o (Err r) = more d.op
step_grows d o (Ok s) = same d.op

start_if : (d : DriverState) (o : Op) (r : Result (List Lot) Refusal) (s : Result (Option Step) Refusal) (t : Bool) → Grows d (if t then begun d o r else refused_step d o s).driver
start_if d o r s true = begun_grows d o r
start_if d o r s false = step_grows d o s

start_by : (d : DriverState) (ws : List Owner) (pages : PageMap) (o : Option Op) → Grows d (started_of d ws pages o).driver
start_by d ws pages None = same d.op
start_by d ws pages (Some o) = start_if d o (begin d.fixed d.lots ws pages o) (step_at d.fixed d.lots o (steps_done d.phase)) (has_start o)

pub start_grows : (d : DriverState) (ws : List Owner) (pages : PageMap) → d.op ≤ (started d ws pages).driver.op
unfolding started
start_grows d ws pages = start_by d ws pages (in_hand d)

missed_if : (d e : DriverState) (o : Op) (t : Bool) → Grows d e → Grows d (if t then stays e else give_up d o refusals.NoSlot).driver
missed_if d e o true h = h
missed_if d e o false h = more d.op

word_grows : (d : DriverState) (o : Op) (k : ℕ) (got : Bool) → Grows d (told_word d o k got).driver
word_grows d o k true = placed_grows (with_lots d (slot_given k d.lots)) o
word_grows d o k false = missed_if d (searches d (k + 1)) o (nat_lt (k + 1) d.fixed.slots) (same d.op)

told_in_grows : (d : DriverState) (o : Op) (p : Phase) (got : Bool) → Grows d (told_in d o p got).driver
told_in_grows d o (Steps n) got = same d.op
told_in_grows d o (Search k) got = word_grows d o k got
told_in_grows d o Work got = same d.op

told_by : (d : DriverState) (o : Option Op) (got : Bool) → Grows d (told_of d o got).driver
told_by d None got = same d.op
told_by d (Some o) got = told_in_grows d o d.phase got

pub told_grows : (d : DriverState) (got : Bool) → d.op ≤ (told d got).driver.op
unfolding told
told_grows d got = told_by d (in_hand d) got

stepped_to_grows : (d : DriverState) (n : ℕ) (lots : List Lot) (saw : Seen) (r : Result (Option Step) Refusal) → Grows d (stepped_to d n lots saw r)
stepped_to_grows d n lots saw (Err r) = same d.op
stepped_to_grows d n lots saw (Ok (Some s)) = same d.op
stepped_to_grows d n lots saw (Ok None) = more d.op

stepped_grows : (d : DriverState) (o : Op) (n : ℕ) (saw : Seen) (r next : Result (Option Step) Refusal) → Grows d (stepped d o n saw r next).driver
stepped_grows d o n saw (Ok (Some s)) next = stepped_to_grows d n (lots_after_both s.first s.last d.lots) saw next
stepped_grows d o n saw (Ok None) next = same d.op
stepped_grows d o n saw (Err r) next = same d.op

worked_grows : (d : DriverState) (o : Op) (saw : Seen) (rest : List Step) → Grows d (worked d o saw rest).driver
worked_grows d o saw [] = same d.op
worked_grows d o saw (s ∷ rest) = went_grows d (lots_after_both s.first s.last d.lots) saw rest

done_in_grows : (d : DriverState) (o : Op) (saw : Seen) (p : Phase) → Grows d (done_in d o saw p).driver
done_in_grows d o saw (Steps n) = stepped_grows d o (n + 1) saw (step_at d.fixed d.lots o n) (step_at d.fixed d.lots o (n + 1))
done_in_grows d o saw (Search k) = same d.op
done_in_grows d o saw Work = worked_grows d o saw d.rest

unless_grows : (d : DriverState) (o : Op) (saw : Seen) (r : Option Refusal) → Grows d (done_unless d o saw r).driver
unless_grows d o saw (Some r) = more d.op
unless_grows d o saw None = done_in_grows d o (kept d.saw saw) d.phase

done_by : (d : DriverState) (saw : Seen) (o : Option Op) → Grows d (done_of d saw o).driver
done_by d saw None = same d.op
done_by d saw (Some o) = unless_grows d o saw (busy saw)

pub done_grows : (d : DriverState) (saw : Seen) → d.op ≤ (done d saw).driver.op
unfolding done
done_grows d saw = done_by d saw (in_hand d)
