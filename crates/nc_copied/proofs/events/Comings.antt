-- A driver that is in a plan behind one of its calls: it was there before, or began the plan, or made a step of it.
use Rattle.std.specs.Prelude.{Option, Some, None, Result, Ok, Err, if◌then◌else◌, nat_lt}
use Rattle.std.proofs.Common.{◌≡◌, ℕ, ◌+◌, Bool, true, false, List, [], ◌∷◌, ◌++◌, refl, ap}
use Rattle.nc_model.specs.declared.owners.Owner.{Owner}
use Rattle.nc_coherent.specs.Pages.{PageMap}
use Rattle.nc_ops.specs.declared.ops.Op.{Op}
use Rattle.nc_rules.specs.declared.answers.Refusal.{Refusal}
use Rattle.nc_rules.specs.declared.answers.Refusal.TheVariants as refusals
use Rattle.nc_rules.specs.declared.lots.Lot.{Lot}
use Rattle.nc_rules.specs.declared.steps.Phase.{Phase}
use Rattle.nc_rules.specs.declared.steps.Phase.TheVariants.{Steps, Search, Work}
use Rattle.nc_rules.specs.declared.steps.Seen.{Seen}
use Rattle.nc_rules.specs.declared.steps.Step.{Step}
use Rattle.nc_rules.specs.Driver.{DriverState, Went, in_hand, went_to, opened, searches, stays, give_up, placed, with_lots, begun, refused_step, steps_done, started, started_of, told, told_of, told_in, told_word, kept, busy, stepped_to, stepped, worked, done, done_of, done_unless, done_in}
use Rattle.nc_rules.specs.Lots.{DriverConfig, some_lot_waits, slot_given}
use Rattle.nc_rules.specs.Operations.{has_start, step_at, begin, opening, plan_of}
use Rattle.nc_rules.specs.Turns.{lots_after, lots_after_both}

-- the operation in hand is the same
pub record IsSameOp (d e : DriverState) : Type 0 where
  pub op : e.op ≡ d.op
  pub fixed : e.fixed ≡ d.fixed

pub data Came (d e : DriverState) : Type 0 where
  -- it is as far as it was
  Stays : e.phase ≡ d.phase → e.rest ≡ d.rest → IsSameOp d e → Came d e
  -- it has the whole plan before it
  Begins : (o : Op) (lots : List Lot) → in_hand d ≡ Some o → e.rest ≡ plan_of d.fixed lots o → IsSameOp d e → Came d e
  -- it made a step
  Goes : (s : Step) → d.phase ≡ Work → d.rest ≡ s ∷ e.rest → IsSameOp d e → Came d e

-- where the operation in hand is at its plan
abbrev Comes : DriverState → Went → Type 0
Comes d went = went.driver.phase ≡ Work → Came d went.driver

steps_not : {X : Type 0} (n : ℕ) → Steps n ≡ Work → X
steps_not n e = absurd cc

search_not : {X : Type 0} (n : ℕ) → Search n ≡ Work → X
search_not n e = absurd cc

still : (d : DriverState) → Comes d (stays d)
still d work = Stays refl refl (record { op = refl; fixed = refl })

-- ---- a plan that begins

-- the driver d, with such lots
record IsLike (d c : DriverState) : Type 0 where
  op : c.op ≡ d.op
  fixed : c.fixed ≡ d.fixed

whole : (d c : DriverState) (o : Op) (lots now : List Lot) (saw : Seen) (rest : List Step) → in_hand d ≡ Some o → IsLike d c → rest ≡ plan_of d.fixed lots o → (went_to c now saw rest).phase ≡ Work → Came d (went_to c now saw rest)
whole d c o lots now saw [] hand like is work = steps_not 0 work
whole d c o lots now saw (s ∷ rest) hand like is work = Begins o lots hand is (record { op = like.op; fixed = like.fixed })

opens : (d c : DriverState) (o : Op) → in_hand d ≡ Some o → IsLike d c → (opened c o).driver.phase ≡ Work → Came d (opened c o).driver
opens d c o hand like work = whole d c o c.lots (lots_after (opening c.fixed c.lots o) c.lots) c.saw (plan_of c.fixed c.lots o) hand like (ap (λ (f : DriverConfig). plan_of f c.lots o) like.fixed) work

place_by : (d c : DriverState) (o : Op) (t : Bool) → in_hand d ≡ Some o → IsLike d c → (if t then stays (searches c 0) else opened c o).driver.phase ≡ Work → Came d (if t then stays (searches c 0) else opened c o).driver
place_by d c o true hand like work = search_not 0 work
place_by d c o false hand like work = opens d c o hand like work

places : (d c : DriverState) (o : Op) → in_hand d ≡ Some o → IsLike d c → (placed c o).driver.phase ≡ Work → Came d (placed c o).driver
places d c o hand like work = place_by d c o (some_lot_waits c.lots) hand like work

begins : (d : DriverState) (o : Op) (r : Result (List Lot) Refusal) → in_hand d ≡ Some o → Comes d (begun d o r)
begins d o (Err r) hand work = steps_not 0 work
begins d o (Ok new) hand work = places d (with_lots d (d.lots ++ new)) o hand (record { op = refl; fixed = refl }) work

refused : (d : DriverState) (o : Op) (r : Result (Option Step) Refusal) → Comes d (refused_step d o r)
refused d o (Err r) work = steps_not 0 work
refused d o (Ok s) work = still d work

start_by : (d : DriverState) (o : Op) (r : Result (List Lot) Refusal) (s : Result (Option Step) Refusal) (t : Bool) → in_hand d ≡ Some o → Comes d (if t then begun d o r else refused_step d o s)
start_by d o r s true hand work = begins d o r hand work
start_by d o r s false hand work = refused d o s work

start_of : (d : DriverState) (owners : List Owner) (pages : PageMap) (o : Option Op) → in_hand d ≡ o → Comes d (started_of d owners pages o)
start_of d owners pages None hand work = still d work
start_of d owners pages (Some o) hand work = start_by d o (begin d.fixed d.lots owners pages o) (step_at d.fixed d.lots o (steps_done d.phase)) (has_start o) hand work

pub start_comes : (d : DriverState) (owners : List Owner) (pages : PageMap) → (started d owners pages).driver.phase ≡ Work → Came d (started d owners pages).driver
unfolding started
start_comes d owners pages work = start_of d owners pages (in_hand d) refl work

-- ---- a search that is told

missed_by : (d : DriverState) (o : Op) (k : ℕ) (t : Bool) → Comes d (if t then stays (searches d (k + 1)) else give_up d o refusals.NoSlot)
missed_by d o k true work = search_not (k + 1) work
missed_by d o k false work = steps_not 0 work

word_by : (d : DriverState) (o : Op) (k : ℕ) (got : Bool) → in_hand d ≡ Some o → Comes d (told_word d o k got)
word_by d o k true hand work = places d (with_lots d (slot_given k d.lots)) o hand (record { op = refl; fixed = refl }) work
word_by d o k false hand work = missed_by d o k (nat_lt (k + 1) d.fixed.slots) work

told_by : (d : DriverState) (o : Op) (p : Phase) (got : Bool) → in_hand d ≡ Some o → Comes d (told_in d o p got)
told_by d o (Steps n) got hand work = still d work
told_by d o (Search k) got hand work = word_by d o k got hand work
told_by d o Work got hand work = still d work

told_op : (d : DriverState) (o : Option Op) (got : Bool) → in_hand d ≡ o → Comes d (told_of d o got)
told_op d None got hand work = still d work
told_op d (Some o) got hand work = told_by d o d.phase got hand work

pub told_comes : (d : DriverState) (got : Bool) → (told d got).driver.phase ≡ Work → Came d (told d got).driver
unfolding told
told_comes d got work = told_op d (in_hand d) got refl work

-- ---- a step

on_by : (d : DriverState) (now : List Lot) (saw : Seen) (s : Step) (rest : List Step) → d.phase ≡ Work → d.rest ≡ s ∷ rest → (went_to d now saw rest).phase ≡ Work → Came d (went_to d now saw rest)
on_by d now saw s [] phase is work = steps_not 0 work
on_by d now saw s (t ∷ rest) phase is work = Goes s phase is (record { op = refl; fixed = refl })

works : (d : DriverState) (o : Op) (saw : Seen) (rest : List Step) → d.phase ≡ Work → d.rest ≡ rest → Comes d (worked d o saw rest)
works d o saw [] phase is work = still d work
works d o saw (s ∷ rest) phase is work = on_by d (lots_after_both s.first s.last d.lots) saw s rest phase is work

stepped_not : {X : Type 0} (d : DriverState) (n : ℕ) (lots : List Lot) (saw : Seen) (r : Result (Option Step) Refusal) → (stepped_to d n lots saw r).phase ≡ Work → X
stepped_not d n lots saw (Err r) work = steps_not n work
stepped_not d n lots saw (Ok (Some s)) work = steps_not n work
stepped_not d n lots saw (Ok None) work = steps_not 0 work

step_by : (d : DriverState) (o : Op) (n : ℕ) (saw : Seen) (r next : Result (Option Step) Refusal) → Comes d (stepped d o n saw r next)
step_by d o n saw (Ok (Some s)) next work = stepped_not d n (lots_after_both s.first s.last d.lots) saw next work
step_by d o n saw (Ok None) next work = still d work
step_by d o n saw (Err r) next work = still d work

done_by : (d : DriverState) (o : Op) (saw : Seen) (p : Phase) → d.phase ≡ p → Comes d (done_in d o saw p)
done_by d o saw (Steps n) phase work = step_by d o (n + 1) saw (step_at d.fixed d.lots o n) (step_at d.fixed d.lots o (n + 1)) work
done_by d o saw (Search k) phase work = still d work
done_by d o saw Work phase work = works d o saw d.rest phase refl work

unless_by : (d : DriverState) (o : Op) (saw : Seen) (r : Option Refusal) → Comes d (done_unless d o saw r)
unless_by d o saw (Some r) work = steps_not 0 work
unless_by d o saw None work = done_by d o (kept d.saw saw) d.phase refl work

done_op : (d : DriverState) (saw : Seen) (o : Option Op) → Comes d (done_of d saw o)
done_op d saw None work = still d work
done_op d saw (Some o) work = unless_by d o saw (busy saw) work

pub done_comes : (d : DriverState) (saw : Seen) → (done d saw).driver.phase ≡ Work → Came d (done d saw).driver
unfolding done
done_comes d saw work = done_op d saw (in_hand d) work
