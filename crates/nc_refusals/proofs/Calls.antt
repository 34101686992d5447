-- Which calls of a driver refuse its operation, and what they change then: nothing, but that slots are given back.
use Rattle.std.proofs.Common.{◌≡◌, ℕ, ◌+◌, Bool, true, false, List, [], ◌∷◌, ◌++◌, refl, sym, ◌∙◌, subst, Option, Some, None, Result, Ok, Err}
use Rattle.std.specs.Prelude.{if◌then◌else◌, nat_lt}
use Rattle.std.proofs.lemmas.Bool.{false≢true}
use Rattle.nc_num.specs.declared.names.HartNo.{HartNo}
use Rattle.nc_model.specs.declared.owners.Owner.{Owner}
use Rattle.nc_coherent.specs.Pages.{PageMap}
use Rattle.nc_ops.specs.declared.ops.Op.{Op}
use Rattle.nc_rules.specs.declared.answers.Refusal.{Refusal}
use Rattle.nc_rules.specs.declared.answers.Refusal.TheVariants as refusals
use Rattle.nc_rules.specs.declared.lots.Lot.{Lot}
use Rattle.nc_rules.specs.declared.steps.Phase.{Phase}
use Rattle.nc_rules.specs.declared.steps.Phase.TheVariants.{Steps, Search, Work}
use Rattle.nc_rules.specs.declared.steps.Seen.{Seen}
use Rattle.nc_rules.specs.declared.steps.Seen.TheVariants as seen
use Rattle.nc_rules.specs.declared.steps.Step.{Step}
use Rattle.nc_rules.specs.Lots.{some_lot_waits, slot_given}
use Rattle.nc_rules.specs.Turns.{turned_by}
use Rattle.nc_rules.specs.Operations.{has_start, step_at, begin, plan_of}
use Rattle.nc_rules.specs.Driver.{DriverState, Went, in_hand, stays, give_up, answered, opened, searches, placed, with_lots, begun, refused_step, steps_done, started, started_of, told, told_of, told_in, told_word, kept, busy, step_answer, stepped, worked, done, done_of, done_unless, done_in}
use Rattle.nc_refusals.specs.Refused.{refuses}
use Rattle.nc_refusals.proofs.Answers.{good_is}

-- ---- a call that gives up

pub record GivesUp (d : DriverState) (went : Went) : Type 0 where
  pub op : Op
  pub why : Refusal
  pub is : went ≡ give_up d op why

gives : (d : DriverState) (o : Op) (r : Refusal) → GivesUp d (give_up d o r)
gives d o r = record { op = o; why = r; is = refl }

none : {X : Type 0} (a : Bool) → a ≡ false → a ≡ true → X
none a off on = absurd (false≢true (sym off ∙ on))

-- ---- a start

answered_good : (d : DriverState) (o : Op) (saw : Seen) (rest : List Step) → refuses (answered d o saw rest) ≡ false
answered_good d o saw [] = good_is d.fixed d.lots o saw
answered_good d o saw (s ∷ rest) = refl

opened_good : (d : DriverState) (o : Op) → refuses (opened d o).moves.answer ≡ false
unfolding turned_by
opened_good d o = answered_good d o d.saw (plan_of d.fixed d.lots o)

placed_if : (d e : DriverState) (o : Op) (t : Bool) → refuses (if t then stays e else opened d o).moves.answer ≡ false
placed_if d e o true = refl
placed_if d e o false = opened_good d o

placed_good : (d : DriverState) (o : Op) → refuses (placed d o).moves.answer ≡ false
placed_good d o = placed_if d (searches d 0) o (some_lot_waits d.lots)

begun_up : (d : DriverState) (o : Op) (r : Result (List Lot) Refusal) → refuses (begun d o r).moves.answer ≡ true → GivesUp d (begun d o r)
begun_up d o (Err r) e = gives d o r
begun_up d o (Ok new) e = none (refuses (placed (with_lots d (d.lots ++ new)) o).moves.answer) (placed_good (with_lots d (d.lots ++ new)) o) e

step_up : (d : DriverState) (o : Op) (r : Result (Option Step) Refusal) → refuses (refused_step d o r).moves.answer ≡ true → GivesUp d (refused_step d o r)
step_up d o (Err r) e = gives d o r
step_up d o (Ok s) e = absurd (false≢true e)

start_if : (d : DriverState) (o : Op) (r : Result (List Lot) Refusal) (s : Result (Option Step) Refusal) (t : Bool) → refuses (if t then begun d o r else refused_step d o s).moves.answer ≡ true → GivesUp d (if t then begun d o r else refused_step d o s)
start_if d o r s true e = begun_up d o r e
start_if d o r s false e = step_up d o s e

start_by : (d : DriverState) (ws : List Owner) (pages : PageMap) (o : Option Op) → refuses (started_of d ws pages o).moves.answer ≡ true → GivesUp d (started_of d ws pages o)
start_by d ws pages None e = absurd (false≢true e)
start_by d ws pages (Some o) e = start_if d o (begin d.fixed d.lots ws pages o) (step_at d.fixed d.lots o (steps_done d.phase)) (has_start o) e

pub start_up : (d : DriverState) (ws : List Owner) (pages : PageMap) → refuses (started d ws pages).moves.answer ≡ true → GivesUp d (started d ws pages)
unfolding started
start_up d ws pages e = start_by d ws pages (in_hand d) e

-- ---- a slot word

missed_if : (d e : DriverState) (o : Op) (t : Bool) → refuses (if t then stays e else give_up d o refusals.NoSlot).moves.answer ≡ true → GivesUp d (if t then stays e else give_up d o refusals.NoSlot)
missed_if d e o true h = absurd (false≢true h)
missed_if d e o false h = gives d o refusals.NoSlot

-- only a word that is not got ends the search so
pub record ToldUp (d : DriverState) (got : Bool) : Type 0 where
  pub missed : got ≡ false
  pub up : GivesUp d (told d got)

word_missed : (d : DriverState) (o : Op) (k : ℕ) (got : Bool) → refuses (told_word d o k got).moves.answer ≡ true → got ≡ false
word_missed d o k true e = none (refuses (placed (with_lots d (slot_given k d.lots)) o).moves.answer) (placed_good (with_lots d (slot_given k d.lots)) o) e
word_missed d o k false e = refl

word_up : (d : DriverState) (o : Op) (k : ℕ) (got : Bool) → refuses (told_word d o k got).moves.answer ≡ true → GivesUp d (told_word d o k got)
word_up d o k true e = none (refuses (placed (with_lots d (slot_given k d.lots)) o).moves.answer) (placed_good (with_lots d (slot_given k d.lots)) o) e
word_up d o k false e = missed_if d (searches d (k + 1)) o (nat_lt (k + 1) d.fixed.slots) e

told_missed_in : (d : DriverState) (o : Op) (p : Phase) (got : Bool) → refuses (told_in d o p got).moves.answer ≡ true → got ≡ false
told_missed_in d o (Steps n) got e = absurd (false≢true e)
told_missed_in d o (Search k) got e = word_missed d o k got e
told_missed_in d o Work got e = absurd (false≢true e)

told_missed_by : (d : DriverState) (o : Option Op) (got : Bool) → refuses (told_of d o got).moves.answer ≡ true → got ≡ false
told_missed_by d None got e = absurd (false≢true e)
told_missed_by d (Some o) got e = told_missed_in d o d.phase got e

told_up_in : (d : DriverState) (o : Op) (p : Phase) (got : Bool) → refuses (told_in d o p got).moves.answer ≡ true → GivesUp d (told_in d o p got)
told_up_in d o (Steps n) got e = absurd (false≢true e)
told_up_in d o (Search k) got e = word_up d o k got e
told_up_in d o Work got e = absurd (false≢true e)

told_up_by : (d : DriverState) (o : Option Op) (got : Bool) → refuses (told_of d o got).moves.answer ≡ true → GivesUp d (told_of d o got)
told_up_by d None got e = absurd (false≢true e)
told_up_by d (Some o) got e = told_up_in d o d.phase got e

pub told_up : (d : DriverState) (got : Bool) → refuses (told d got).moves.answer ≡ true → ToldUp d got
unfolding told
told_up d got e = record { missed = told_missed_by d (in_hand d) got e; up = told_up_by d (in_hand d) got e }

-- ---- a step that is made

step_answer_good : (d : DriverState) (o : Op) (saw : Seen) (r : Result (Option Step) Refusal) → refuses (step_answer d o saw r) ≡ false
step_answer_good d o saw (Err r) = refl
step_answer_good d o saw (Ok (Some s)) = refl
step_answer_good d o saw (Ok None) = good_is d.fixed d.lots o saw

stepped_good : (d : DriverState) (o : Op) (n : ℕ) (saw : Seen) (r next : Result (Option Step) Refusal) → refuses (stepped d o n saw r next).moves.answer ≡ false
unfolding turned_by
stepped_good d o n saw (Ok (Some s)) next = step_answer_good d o saw next
stepped_good d o n saw (Ok None) next = refl
stepped_good d o n saw (Err r) next = refl

worked_good : (d : DriverState) (o : Op) (saw : Seen) (rest : List Step) → refuses (worked d o saw rest).moves.answer ≡ false
unfolding turned_by
worked_good d o saw [] = refl
worked_good d o saw (s ∷ rest) = answered_good d o saw rest

done_in_good : (d : DriverState) (o : Op) (saw : Seen) (p : Phase) → refuses (done_in d o saw p).moves.answer ≡ false
done_in_good d o saw (Steps n) = stepped_good d o (n + 1) saw (step_at d.fixed d.lots o n) (step_at d.fixed d.lots o (n + 1))
done_in_good d o saw (Search k) = refl
done_in_good d o saw Work = worked_good d o saw d.rest

-- only a claim that found its channel granted ends so
pub record DoneUp (d : DriverState) (saw : Seen) : Type 0 where
  pub other : HartNo
  pub saw_busy : saw ≡ seen.Busy other
  pub up : GivesUp d (done d saw)

busy_is : (d : DriverState) (o : Op) (saw : Seen) → refuses (done_unless d o saw (busy saw)).moves.answer ≡ true → (g : HartNo) × (saw ≡ seen.Busy g)
busy_is d o (seen.Busy g) e = (g, refl)
busy_is d o seen.Nothing e = none (refuses (done_in d o (kept d.saw seen.Nothing) d.phase).moves.answer) (done_in_good d o (kept d.saw seen.Nothing) d.phase) e
busy_is d o (seen.Control control) e = none (refuses (done_in d o (seen.Control control) d.phase).moves.answer) (done_in_good d o (seen.Control control) d.phase) e
busy_is d o seen.Claimed e = none (refuses (done_in d o seen.Claimed d.phase).moves.answer) (done_in_good d o seen.Claimed d.phase) e
busy_is d o (seen.Value value) e = none (refuses (done_in d o (seen.Value value) d.phase).moves.answer) (done_in_good d o (seen.Value value) d.phase) e

busy_by : (d : DriverState) (saw : Seen) (o : Option Op) → refuses (done_of d saw o).moves.answer ≡ true → (g : HartNo) × (saw ≡ seen.Busy g)
busy_by d saw None e = absurd (false≢true e)
busy_by d saw (Some o) e = busy_is d o saw e

up_by : (d : DriverState) (g : HartNo) (o : Option Op) → refuses (done_of d (seen.Busy g) o).moves.answer ≡ true → GivesUp d (done_of d (seen.Busy g) o)
up_by d g None e = absurd (false≢true e)
up_by d g (Some o) e = gives d o (refusals.ChannelBusy g)

up_of : (d : DriverState) (saw : Seen) (g : HartNo) → saw ≡ seen.Busy g → refuses (done_of d saw (in_hand d)).moves.answer ≡ true → GivesUp d (done_of d saw (in_hand d))
up_of d saw g same e =
    subst (λ (s : Seen). GivesUp d (done_of d s (in_hand d))) (sym same)
    (up_by d g (in_hand d) (subst (λ (s : Seen). refuses (done_of d s (in_hand d)).moves.answer ≡ true) same e))

pub done_up : (d : DriverState) (saw : Seen) → refuses (done d saw).moves.answer ≡ true → DoneUp d saw
unfolding done
done_up d saw e = let k = busy_by d saw (in_hand d) e in record { other = k.0; saw_busy = k.1; up = up_of d saw k.0 k.1 e }
