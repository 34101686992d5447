-- An operation that is answered is over.
use Rattle.std.proofs.Common.{◌≡◌, ℕ, ◌+◌, Bool, true, false, List, [], ◌∷◌, ◌++◌, refl, Option, Some, None, Result, Ok, Err}
use Rattle.std.specs.Prelude.{if◌then◌else◌, nat_lt, is_some}
use Rattle.std.proofs.lemmas.Bool.{false≢true}
use Rattle.nc_model.specs.declared.owners.Owner.{Owner}
use Rattle.nc_coherent.specs.Pages.{PageMap}
use Rattle.nc_ops.specs.declared.ops.Op.{Op}
use Rattle.nc_rules.specs.declared.answers.Refusal.{Refusal}
use Rattle.nc_rules.specs.declared.answers.Refusal.TheVariants as refusals
use Rattle.nc_rules.specs.declared.lots.Lot.{Lot}
use Rattle.nc_rules.specs.declared.steps.Phase.{Phase}
use Rattle.nc_rules.specs.declared.steps.Phase.TheVariants.{Steps, Search, Work}
use Rattle.nc_rules.specs.declared.steps.Seen.{Seen}
use Rattle.nc_rules.specs.declared.steps.Step.{Step}
use Rattle.nc_rules.specs.Lots.{some_lot_waits, slot_given}
use Rattle.nc_rules.specs.Turns.{lots_after, lots_after_both, turned_by}
use Rattle.nc_rules.specs.Operations.{has_start, step_at, begin, opening, plan_of}
use Rattle.nc_rules.specs.Driver.{DriverState, Went, in_hand, stays, give_up, went_to, answered, opened, searches, placed, with_lots, begun, refused_step, steps_done, started, started_of, told, told_of, told_in, told_word, kept, busy, stepped_to, step_answer, stepped, worked, done, done_of, done_unless, done_in}

abbrev IsOver : Went → Type 0
IsOver went = is_some went.moves.answer ≡ true → went.driver.phase ≡ Steps 0

went_over : (d : DriverState) (o : Op) (at : DriverState) (lots : List Lot) (saw : Seen) (rest : List Step) → is_some (answered at o saw rest) ≡ true → (went_to d lots saw rest).phase ≡ Steps 0
went_over d o at lots saw [] e = refl
went_over d o at lots saw (s ∷ rest) e = absurd (false≢true e)

opened_over : (d : DriverState) (o : Op) → IsOver (opened d o)
unfolding turned_by
opened_over d o e = went_over d o d (lots_after (opening d.fixed d.lots o) d.lots) d.saw (plan_of d.fixed d.lots o) e

placed_if : (d e : DriverState) (o : Op) (t : Bool) → IsOver (if t then stays e else opened d o)
placed_if d e o true a = absurd (false≢true a)
placed_if d e o false a = opened_over d o a

placed_over : (d : DriverState) (o : Op) → IsOver (placed d o)
placed_over d o = placed_if d (searches d 0) o (some_lot_waits d.lots)

begun_over : (d : DriverState) (o : Op) (r : Result (List Lot) Refusal) → IsOver (begun d o r)
begun_over d o (Err r) a = refl
begun_over d o (Ok new) a = placed_over (with_lots d (d.lots ++ new)) o a

step_over : (d : DriverState) (o : Op) (r : Result (Option Step) Refusal) → IsOver (refused_step d o r)
step_over d o (Err r) a = refl
step_over d o (Ok s) a = absurd (false≢true a)

start_if : (d : DriverState) (o : Op) (r : Result (List Lot) Refusal) (s : Result (Option Step) Refusal) (t : Bool) → IsOver (if t then begun d o r else refused_step d o s)
start_if d o r s true a = begun_over d o r a
start_if d o r s false a = step_over d o s a

start_by : (d : DriverState) (ws : List Owner) (pages : PageMap) (o : Option Op) → IsOver (started_of d ws pages o)
start_by d ws pages None a = absurd (false≢true a)
start_by d ws pages (Some o) a = start_if d o (begin d.fixed d.lots ws pages o) (step_at d.fixed d.lots o (steps_done d.phase)) (has_start o) a

pub start_over : (d : DriverState) (ws : List Owner) (pages : PageMap) → is_some (started d ws pages).moves.answer ≡ true → (started d ws pages).driver.phase ≡ Steps 0
unfolding started
start_over d ws pages a = start_by d ws pages (in_hand d) a

missed_if : (d e : DriverState) (o : Op) (t : Bool) → IsOver (if t then stays e else give_up d o refusals.NoSlot)
missed_if d e o true a = absurd (false≢true a)
missed_if d e o false a = refl

word_over : (d : DriverState) (o : Op) (k : ℕ) (got : Bool) → IsOver (told_word d o k got)
word_over d o k true a = placed_over (with_lots d (slot_given k d.lots)) o a
word_over d o k false a = missed_if d (searches d (k + 1)) o (nat_lt (k + 1) d.fixed.slots) a

told_in_over : (d : DriverState) (o : Op) (p : Phase) (got : Bool) → IsOver (told_in d o p got)
told_in_over d o (Steps n) got a = absurd (false≢true a)
told_in_over d o (Search k) got a = word_over d o k got a
told_in_over d o Work got a = absurd (false≢true a)

told_by : (d : DriverState) (o : Option Op) (got : Bool) → IsOver (told_of d o got)
told_by d None got a = absurd (false≢true a)
told_by d (Some o) got a = told_in_over d o d.phase got a

pub told_over : (d : DriverState) (got : Bool) → is_some (told d got).moves.answer ≡ true → (told d got).driver.phase ≡ Steps 0
unfolding told
told_over d got a = told_by d (in_hand d) got a

number_over : (d at : DriverState) (o : Op) (n : ℕ) (lots : List Lot) (saw : Seen) (r : Result (Option Step) Refusal) → is_some (step_answer at o saw r) ≡ true → (stepped_to d n lots saw r).phase ≡ Steps 0
number_over d at o n lots saw (Err r) a = absurd (false≢true a)
number_over d at o n lots saw (Ok (Some s)) a = absurd (false≢true a)
number_over d at o n lots saw (Ok None) a = refl

stepped_over : (d : DriverState) (o : Op) (n : ℕ) (saw : Seen) (r next : Result (Option Step) Refusal) → IsOver (stepped d o n saw r next)
unfolding turned_by
stepped_over d o n saw (Ok (Some s)) next a = number_over d d o n (lots_after_both s.first s.last d.lots) saw next a
stepped_over d o n saw (Ok None) next a = absurd (false≢true a)
stepped_over d o n saw (Err r) next a = absurd (false≢true a)

worked_over : (d : DriverState) (o : Op) (saw : Seen) (rest : List Step) → IsOver (worked d o saw rest)
unfolding turned_by
worked_over d o saw [] a = absurd (false≢true a)
worked_over d o saw (s ∷ rest) a = went_over d o d (lots_after_both s.first s.last d.lots) saw rest a

done_in_over : (d : DriverState) (o : Op) (saw : Seen) (p : Phase) → IsOver (done_in d o saw p)
done_in_over d o saw (Steps n) a = stepped_over d o (n + 1) saw (step_at d.fixed d.lots o n) (step_at d.fixed d.lots o (n + 1)) a
done_in_over d o saw (Search k) a = absurd (false≢true a)
done_in_over d o saw Work a = worked_over d o saw d.rest a

unless_over : (d : DriverState) (o : Op) (saw : Seen) (r : Option Refusal) → IsOver (done_unless d o saw r)
unless_over d o saw (Some r) a = refl
unless_over d o saw None a = done_in_over d o (kept d.saw saw) d.phase a

done_by : (d : DriverState) (saw : Seen) (o : Option Op) → IsOver (done_of d saw o)
done_by d saw None a = absurd (false≢true a)
done_by d saw (Some o) a = unless_over d o saw (busy saw) a

pub done_over : (d : DriverState) (saw : Seen) → is_some (done d saw).moves.answer ≡ true → (done d saw).driver.phase ≡ Steps 0
unfolding done
done_over d saw a = done_by d saw (in_hand d) a
