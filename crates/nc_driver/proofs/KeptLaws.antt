-- What nc_rules says of a driver's calls, case by case.
use Rattle.std.proofs.Common.{arith, ◌≡◌, ℕ, zero, suc, ◌<◌, ◌+◌, true, false, List, [], ◌∷◌, length, refl, sym, ap, subst, ◌∙◌, Option, Some, None, Ok, Err, Result, Vec, Global}
use Rattle.std.specs.Prelude.{drop, if◌then◌else◌, Bool, slice_index_or, slice_get, nat_lt}
use Rattle.std.proofs.lemmas.Option.{slice_get_within}
use Rattle.nc_model.specs.declared.owners.Owner.{Owner}
use Rattle.nc_coherent.specs.Pages.{PageMap}
use Rattle.nc_ops.specs.declared.ops.Op.{Op}
use Rattle.nc_rules.specs.declared.answers.Refusal.{Refusal}
use Rattle.nc_rules.specs.declared.answers.Refusal.TheVariants as refusals
use Rattle.nc_rules.specs.declared.lots.Lot.{Lot}
use Rattle.nc_rules.specs.declared.steps.Act.{Act}
use Rattle.nc_rules.specs.declared.steps.Act.TheVariants as acts
use Rattle.nc_rules.specs.declared.steps.Next.TheVariants as nexts
use Rattle.nc_rules.specs.declared.steps.Phase.{Phase}
use Rattle.nc_rules.specs.declared.steps.Phase.TheVariants.{Steps, Search, Work}
use Rattle.nc_rules.specs.declared.steps.Seen.{Seen}
use Rattle.nc_rules.specs.declared.steps.Step.{Step}
use Rattle.nc_rules.specs.declared.answers.Answer.{Answer}
use Rattle.nc_rules.specs.declared.steps.Turn.{Turn}
use Rattle.nc_rules.specs.Lots.{DriverConfig, slot_given}
use Rattle.nc_rules.specs.Turns.{lots_after, lots_after_both, turned}
use Rattle.nc_rules.specs.Operations.{has_start, begin, step_at, opening, plan_of}
use Rattle.nc_rules.specs.Driver.{DriverState, Went, in_hand, next_of, next_of_op, next_in, next_rest, next_act, over, stands, stays, searches, kept, give_up, went_to, answered, opened, placed, with_lots, begun, refused_step, steps_done, started, started_of, told, told_of, told_in, missed, busy, stepped_to, step_answer, stepped, worked, done, done_of, done_unless, done_in}
use Rattle.nc_scripts.specs.Scripts.{is_act}
use Rattle.nc_scripts.specs.Drivers.{AreThere, IsAtWork, IsPhase}
use Rattle.nc_scripts.proofs.DriverLaws.{next_step_is, both_stay, stepped_to_fixed, went_fixed}
use Rattle.nc_scripts.proofs.EveryDriver.{in_hand_is, step_of as step_of_script}
use Rattle.nc_checks.specs.Due.{step_of, step_due, ok_as}
use Rattle.nc_driver.specs.Kept.{DriverInvariant, IsDue, IsDueIn, IsSound, due_of}
use Rattle.nc_driver.specs.Rests.{is_more, made_first, made_last}

-- ---- the operation in hand

here_by : (d : DriverState) (o : Option Op) → in_hand d ≡ o → is_act (next_of_op d o) ≡ true → d.op < length d.fixed.script
here_by d None e act = absurd (cc)
here_by d (Some o) e act = slice_get_within d.fixed.script d.op o e

-- a step that the machine makes is one of an operation in hand
pub act_here : (d : DriverState) → is_act (next_of d) ≡ true → d.op < length d.fixed.script
unfolding next_of
act_here d act = here_by d (in_hand d) refl act

hand_by : (d : DriverState) (o : Option Op) → in_hand d ≡ o → is_act (next_of_op d o) ≡ true → (p : Op) × (in_hand d ≡ Some p)
hand_by d None e act = absurd (cc)
hand_by d (Some o) e act = (o, e)

pub act_hand : (d : DriverState) → is_act (next_of d) ≡ true → (o : Op) × (in_hand d ≡ Some o)
unfolding next_of
act_hand d act = hand_by d (in_hand d) refl act

-- it is the next step of that operation
pub act_in : (d : DriverState) (o : Op) → in_hand d ≡ Some o → is_act (next_of d) ≡ true → is_act (next_in d o d.phase) ≡ true
unfolding next_of
act_in d o e act = subst (λ (x : Option Op). is_act (next_of_op d x) ≡ true) e act

pub same_op : (d : DriverState) (o p : Op) → in_hand d ≡ Some o → in_hand d ≡ Some p → o ≡ p
same_op d o p e f = cc

searches_not : (d : DriverState) (o : Option Op) (k : ℕ) (p : Phase) → p ≡ d.phase → d.phase ≡ Search k → is_act (next_of_op d o) ≡ true → ⊥
searches_not d None k p e at act = absurd (cc)
searches_not d (Some o) k p e at act = let not : is_act (next_in d o (Search k)) ≡ true = subst (λ (q : Phase). is_act (next_in d o q) ≡ true) at act in absurd (cc)

-- where a slot is searched the machine makes no step
pub not_searching : (d : DriverState) (k : ℕ) → is_act (next_of d) ≡ true → d.phase ≡ Search k → ⊥
unfolding next_of
not_searching d k act at = searches_not d (in_hand d) k d.phase refl at act

-- an operation of that number is in hand
pub none_not : {A : Type 0} (xs : List A) (n : ℕ) → slice_get xs n ≡ None → n < length xs → ⊥
none_not [] n e lt = absurd (omega (arith, lt))
none_not (x ∷ xs) zero e lt = absurd (cc)
none_not (x ∷ xs) (suc n) e lt = none_not xs n e (omega (arith, lt))

hand_of : (d : DriverState) (o : Option Op) → in_hand d ≡ o → d.op < length d.fixed.script → (p : Op) × (in_hand d ≡ Some p)
hand_of d None e lt = absurd (none_not d.fixed.script d.op e lt)
hand_of d (Some o) e lt = (o, e)

pub some_hand : (d : DriverState) → d.op < length d.fixed.script → (o : Op) × (in_hand d ≡ Some o)
some_hand d lt = hand_of d (in_hand d) refl lt

-- ---- start

pub start_ends : (d : DriverState) (ws : List Owner) (pages : PageMap) → in_hand d ≡ None → started d ws pages ≡ stays d
unfolding started
start_ends d ws pages e = ap (λ (x : Option Op). started_of d ws pages x) e

on_start : (d : DriverState) (ws : List Owner) (pages : PageMap) (o : Op) → in_hand d ≡ Some o → has_start o ≡ true → started d ws pages ≡ begun d o (begin d.fixed d.lots ws pages o)
unfolding started
on_start d ws pages o e start =
    ap (λ (x : Option Op). started_of d ws pages x) e
    ∙ ap (λ (t : Bool). if t then begun d o (begin d.fixed d.lots ws pages o) else refused_step d o (step_at d.fixed d.lots o (steps_done d.phase))) start

-- what the tests of its start made of these lots is what it begins with
pub begins_by : (d : DriverState) (lots : List Lot) (ws : List Owner) (pages : PageMap) (o : Op) (made r : Result (Vec Lot Global) Refusal) → lots ≡ d.lots → made ≡ r
    → ok_as made (λ v. v.items) ≡ begin d.fixed lots ws pages o → begin d.fixed d.lots ws pages o ≡ ok_as r (λ v. v.items)
begins_by d lots ws pages o made r same by is = sym (ap (λ (ls : List Lot). begin d.fixed ls ws pages o) same) ∙ sym is ∙ ap (λ (q : Result (Vec Lot Global) Refusal). ok_as q (λ v. v.items)) by

pub started_by : (d : DriverState) (lots : List Lot) (ws : List Owner) (pages : PageMap) (o : Op) (made r : Result (Vec Lot Global) Refusal) → in_hand d ≡ Some o
    → ((p : Op) → in_hand d ≡ Some p → has_start p ≡ true)
    → lots ≡ d.lots → made ≡ r → ok_as made (λ v. v.items) ≡ begin d.fixed lots ws pages o → started d ws pages ≡ begun d o (ok_as r (λ v. v.items))
started_by d lots ws pages o made r e start same by is = on_start d ws pages o e (start o e) ∙ ap (begun d o) (begins_by d lots ws pages o made r same by is)

-- what holds of that holds of the start
pub as_started : (d : DriverState) (lots : List Lot) (ws : List Owner) (pages : PageMap) (o : Op) (made r : Result (Vec Lot Global) Refusal) (P : Went → Type 0) → in_hand d ≡ Some o
    → ((p : Op) → in_hand d ≡ Some p → has_start p ≡ true)
    → lots ≡ d.lots → made ≡ r → ok_as made (λ v. v.items) ≡ begin d.fixed lots ws pages o → P (begun d o (ok_as r (λ v. v.items))) → P (started d ws pages)
as_started d lots ws pages o made r P e start same by is holds = subst P (sym (started_by d lots ws pages o made r e start same by is)) holds

no_start : (d : DriverState) (ws : List Owner) (pages : PageMap) (o : Op) → in_hand d ≡ Some o → has_start o ≡ false → started d ws pages ≡ refused_step d o (due_of d)
unfolding started
no_start d ws pages o e start =
    ap (λ (x : Option Op). started_of d ws pages x) e
    ∙ ap (λ (t : Bool). if t then begun d o (begin d.fixed d.lots ws pages o) else refused_step d o (step_at d.fixed d.lots o (steps_done d.phase))) start
    ∙ ap (refused_step d o) (sym (ap (λ (x : Option Op). step_of d.fixed d.lots (steps_done d.phase) x) e))

next_act_not : (a : Act) → next_act a ≡ nexts.Start → ⊥
next_act_not (acts.Op op) e = absurd (cc)
next_act_not (acts.Claim chan) e = absurd (cc)
next_act_not (acts.Poll chan) e = absurd (cc)
next_act_not (acts.Take buf) e = absurd (cc)

next_rest_not : (rest : List Step) → 0 < length rest → next_rest rest ≡ nexts.Start → ⊥
next_rest_not [] lt e = absurd (omega arith)
next_rest_not (s ∷ rest) lt e = next_act_not s.act e

-- a start is due where steps are counted
steps_start : (d : DriverState) (o : Op) (p : Phase) → IsPhase d p → next_in d o p ≡ nexts.Start → (n : ℕ) × (p ≡ Steps n)
steps_start d o (Steps n) h e = (n, refl)
steps_start d o (Search k) h e = absurd (cc)
steps_start d o Work h e = absurd (next_rest_not d.rest h.some e)

pub start_at : (d : DriverState) (o : Op) → DriverInvariant d → in_hand d ≡ Some o → next_of d ≡ nexts.Start → (n : ℕ) × (d.phase ≡ Steps n)
unfolding next_of
start_at d o k e start = steps_start d o d.phase k.driver.phase (subst (λ (x : Option Op). next_of_op d x ≡ nexts.Start) e start)

due_in : (d : DriverState) (n : ℕ) (p : Phase) (due : Result (Option Step) Refusal) → p ≡ Steps n → IsDueIn d p due → due ≡ step_due d.fixed d.lots d.op n
due_in d n (Steps m) due e at = let same : m ≡ n = cc in at ∙ ap (λ (k : ℕ). step_due d.fixed d.lots d.op k) same
due_in d n (Search k) due e at = absurd (cc)
due_in d n Work due e at = absurd (cc)

pub due_at : (d : DriverState) (n : ℕ) (due : Result (Option Step) Refusal) → d.phase ≡ Steps n → IsDue d due → due ≡ step_due d.fixed d.lots d.op n
due_at d n due e at = due_in d n d.phase due e at

due_start : (d : DriverState) (o : Op) (due : Result (Option Step) Refusal) → DriverInvariant d → in_hand d ≡ Some o → next_of d ≡ nexts.Start → IsDue d due → due_of d ≡ due
due_start d o due k e start at =
    let s = start_at d o k e start in
    ap (λ (p : Phase). step_due d.fixed d.lots d.op (steps_done p)) s.1 ∙ sym (due_at d s.0 due s.1 at)

-- without a start step of its own it is refused by the step that is due, or stays
pub started_due : (d : DriverState) (ws : List Owner) (pages : PageMap) (o : Op) (due r : Result (Option Step) Refusal) → DriverInvariant d → in_hand d ≡ Some o → next_of d ≡ nexts.Start → IsDue d due
    → has_start o ≡ false → due ≡ r → started d ws pages ≡ refused_step d o r
started_due d ws pages o due r k e start at none is = no_start d ws pages o e none ∙ ap (refused_step d o) (due_start d o due k e start at ∙ is)

pub as_due : (d : DriverState) (ws : List Owner) (pages : PageMap) (o : Op) (due r : Result (Option Step) Refusal) (P : Went → Type 0) → DriverInvariant d → in_hand d ≡ Some o
    → next_of d ≡ nexts.Start → IsDue d due → has_start o ≡ false → due ≡ r
    → P (refused_step d o r) → P (started d ws pages)
as_due d ws pages o due r P k e start at none is holds = subst P (sym (started_due d ws pages o due r k e start at none is)) holds

-- ---- a search, or the opening

-- ---- told

pub told_ends : (d : DriverState) (got : Bool) → in_hand d ≡ None → told d got ≡ stays d
unfolding told
told_ends d got e = ap (λ (x : Option Op). told_of d x got) e

told_some : (d : DriverState) (o : Op) (got : Bool) (p : Phase) → in_hand d ≡ Some o → d.phase ≡ p → told d got ≡ told_in d o p got
unfolding told
told_some d o got p e at = ap (λ (x : Option Op). told_of d x got) e ∙ ap (λ (q : Phase). told_in d o q got) at

told_idle : (d : DriverState) (o : Option Op) (got : Bool) (p : Phase) → p ≡ d.phase → ((o : Op) → told_in d o p got ≡ stays d) → told_of d o got ≡ stays d
told_idle d None got p e h = refl
told_idle d (Some o) got p e h = subst (λ (q : Phase). told_in d o q got ≡ stays d) e (h o)

pub told_steps : (d : DriverState) (got : Bool) (n : ℕ) → d.phase ≡ Steps n → told d got ≡ stays d
unfolding told
told_steps d got n e = told_idle d (in_hand d) got (Steps n) (sym e) (λ o. refl)

pub told_work : (d : DriverState) (got : Bool) → d.phase ≡ Work → told d got ≡ stays d
unfolding told
told_work d got e = told_idle d (in_hand d) got Work (sym e) (λ o. refl)

pub told_got : (d : DriverState) (o : Op) (k : ℕ) → in_hand d ≡ Some o → d.phase ≡ Search k → told d true ≡ placed (with_lots d (slot_given k d.lots)) o
told_got d o k e at = told_some d o true (Search k) e at

pub told_missed : (d : DriverState) (o : Op) (k : ℕ) → in_hand d ≡ Some o → d.phase ≡ Search k → told d false ≡ missed d o k
told_missed d o k e at = told_some d o false (Search k) e at

pub missed_all : (d : DriverState) (o : Op) (k : ℕ) → nat_lt (k + 1) d.fixed.slots ≡ false → missed d o k ≡ give_up d o refusals.NoSlot
missed_all d o k e = ap (λ (t : Bool). if t then stays (searches d (k + 1)) else give_up d o refusals.NoSlot) e

-- ---- done

pub done_busy : (d : DriverState) (saw : Seen) (o : Op) (r : Refusal) → in_hand d ≡ Some o → busy saw ≡ Some r → done d saw ≡ give_up d o r
unfolding done
done_busy d saw o r e b = ap (λ (x : Option Op). done_of d saw x) e ∙ ap (λ (x : Option Refusal). done_unless d o saw x) b

pub done_made : (d : DriverState) (saw now : Seen) (o : Op) (p : Phase) → in_hand d ≡ Some o → busy saw ≡ None → d.phase ≡ p → now ≡ kept d.saw saw → done d saw ≡ done_in d o now p
unfolding done
done_made d saw now o p e b at is =
    ap (λ (x : Option Op). done_of d saw x) e ∙ ap (λ (x : Option Refusal). done_unless d o saw x) b ∙ ap (λ (q : Phase). done_in d o (kept d.saw saw) q) at ∙ sym (ap (λ (s : Seen). done_in d o s p) is)

-- the step that is due is one of the operation in hand
due_is : (d : DriverState) (o : Op) (n : ℕ) → in_hand d ≡ Some o → step_due d.fixed d.lots d.op n ≡ step_at d.fixed d.lots o n
due_is d o n e = ap (λ (x : Option Op). step_of d.fixed d.lots n x) e

-- a step that is made, which is due: its turns leave the lots as they are, and few steps are done
pub record IsMade (d : DriverState) (n : ℕ) : Type 0 where
  pub step : Step
  pub due : step_due d.fixed d.lots d.op n ≡ Ok (Some step)
  pub few : n < 4096
  pub lots : lots_after_both step.first step.last d.lots ≡ d.lots

pub made_at : (d : DriverState) (o : Op) (n : ℕ) → DriverInvariant d → d.phase ≡ Steps n → in_hand d ≡ Some o → is_act (next_of d) ≡ true → IsMade d n
made_at d o n k p e act =
    let s = next_step_is d o n (subst (λ (q : Phase). is_act (next_in d o q) ≡ true) p (act_in d o e act)) in
    let is = step_of_script k.ram k.harts d o n s.0 k.driver (in_hand_is k.ram k.harts d o k.driver.fixed e) s.1 in
    record { step = s.0; due = due_is d o n e ∙ s.1; few = is.few; lots = both_stay k.ram d.lots s.0.first s.0.last is.there.first is.there.last }

-- step n is made, and leaves this one
abbrev Stepped : DriverState → Op → ℕ → Seen → Result (Option Step) Refusal → Result (Option Step) Refusal → Type 0
Stepped d o n saw r next = stepped d o (n + 1) saw r next ≡ record {
  driver = stepped_to d (n + 1) d.lots saw next;
  moves = turned d.fixed d.lots (made_first r) (made_last r) (step_answer d o saw next);
}

stepped_by : (d : DriverState) (o : Op) (n : ℕ) (saw : Seen) (s : Step) (next : Result (Option Step) Refusal) → lots_after_both s.first s.last d.lots ≡ d.lots → Stepped d o n saw (Ok (Some s)) next
stepped_by d o n saw s next same =
    ap (λ (ls : List Lot). record { driver = stepped_to d (n + 1) ls saw next; moves = turned d.fixed d.lots s.first s.last (step_answer d o saw next) }) same

pub step_done : (d : DriverState) (o : Op) (n : ℕ) (saw : Seen) (due after : Result (Option Step) Refusal) → IsMade d n → in_hand d ≡ Some o → due ≡ step_due d.fixed d.lots d.op n → after ≡ step_due d.fixed d.lots d.op (n + 1)
    → done_in d o saw (Steps n) ≡ record {
      driver = stepped_to d (n + 1) d.lots saw after;
      moves = turned d.fixed d.lots (made_first due) (made_last due) (step_answer d o saw after);
    }
step_done d o n saw due after m e b a =
    let next = step_at d.fixed d.lots o (n + 1) in
    let is = sym (due_is d o n e) ∙ m.due in
    let made = subst (λ (r : Result (Option Step) Refusal). Stepped d o n saw r next) (sym is) (stepped_by d o n saw m.step next m.lots) in
    made
    ∙ ap (λ (r : Result (Option Step) Refusal). record { driver = stepped_to d (n + 1) d.lots saw next; moves = turned d.fixed d.lots (made_first r) (made_last r) (step_answer d o saw next) }) (sym (b ∙ due_is d o n e))
    ∙ ap (λ (t : Result (Option Step) Refusal). record { driver = stepped_to d (n + 1) d.lots saw t; moves = turned d.fixed d.lots (made_first due) (made_last due) (step_answer d o saw t) }) (sym (a ∙ due_is d o (n + 1) e))

-- what it moves is there
pub step_there : (d : DriverState) (o : Op) (n : ℕ) (saw : Seen) (due after : Result (Option Step) Refusal) (t u : Turn) (a : Option Answer) → IsMade d n → in_hand d ≡ Some o → due ≡ step_due d.fixed d.lots d.op n → after ≡ step_due d.fixed d.lots d.op (n + 1)
    → t ≡ made_first due → u ≡ made_last due → a ≡ step_answer d o saw after → IsSound (done_in d o saw (Steps n)) → (ram : ℕ) × AreThere ram d.fixed (turned d.fixed d.lots t u a)
step_there d o n saw due after t u a m e b k first last is sound =
    let s = subst (λ (w : Went). IsSound w) (step_done d o n saw due after m e b k) sound in
    let fixed = stepped_to_fixed d (n + 1) d.lots saw after in
    (s.ram, rw (first, last, is) (subst (λ (f : DriverConfig). AreThere s.ram f (turned d.fixed d.lots (made_first due) (made_last due) (step_answer d o saw after))) fixed s.moves))

pub more_left : (d : DriverState) (n : ℕ) (lots : List Lot) (saw : Seen) (step : Result (Option Step) Refusal) → is_more step ≡ true → stepped_to d n lots saw step ≡ stands d (Steps n) [] lots saw
more_left d n lots saw (Err r) m = refl
more_left d n lots saw (Ok (Some s)) m = refl
more_left d n lots saw (Ok None) m = absurd (cc)

pub none_left : (d : DriverState) (n : ℕ) (lots : List Lot) (saw : Seen) (step : Result (Option Step) Refusal) → is_more step ≡ false → stepped_to d n lots saw step ≡ over d lots
none_left d n lots saw (Err r) m = absurd (cc)
none_left d n lots saw (Ok (Some s)) m = absurd (cc)
none_left d n lots saw (Ok None) m = refl

-- ---- a plan that is at work

-- the first step of a rest, and what it leaves
pub work_done : (d : DriverState) (o : Op) (saw : Seen) (s : Step) (rest : List Step) → d.rest ≡ s ∷ rest → worked d o saw d.rest ≡ record {
  driver = went_to d (lots_after_both s.first s.last d.lots) saw rest;
  moves = turned d.fixed d.lots s.first s.last (answered d o saw rest);
}
work_done d o saw s rest is = ap (worked d o saw) is

pub first_is : (rest : List Step) (s : Step) → 0 < length rest → s ≡ slice_index_or rest 0 s → rest ≡ s ∷ drop 1 rest
first_is [] s lt e = absurd (omega (arith, lt))
first_is (t ∷ rest) s lt e = ap (λ (x : Step). x ∷ rest) (sym e)

-- a plan that is at work has a first step, and all lots have their slots
work_in : (d : DriverState) (p : Phase) → p ≡ Work → IsPhase d p → IsAtWork d
work_in d (Steps n) e h = absurd (cc)
work_in d (Search k) e h = absurd (cc)
work_in d Work e h = h

pub at_work : (d : DriverState) → DriverInvariant d → d.phase ≡ Work → IsAtWork d
at_work d k e = work_in d d.phase e k.driver.phase

pub work_there : (d : DriverState) (o : Op) (saw : Seen) (s : Step) (a : Option Answer) → 0 < length d.rest → s ≡ slice_index_or d.rest 0 s → a ≡ answered d o saw (drop 1 d.rest) → IsSound (worked d o saw d.rest)
    → (ram : ℕ) × AreThere ram d.fixed (turned d.fixed d.lots s.first s.last a)
work_there d o saw s a some first is sound =
    let k = subst (λ (w : Went). IsSound w) (work_done d o saw s (drop 1 d.rest) (first_is d.rest s some first)) sound in
    let fixed = went_fixed d (lots_after_both s.first s.last d.lots) saw (drop 1 d.rest) in
    (k.ram, rw is (subst (λ (f : DriverConfig). AreThere k.ram f (turned d.fixed d.lots s.first s.last (answered d o saw (drop 1 d.rest)))) fixed k.moves))

-- ---- the lots before a step are of no account behind it

went_lots : (d : DriverState) (now lots : List Lot) (saw : Seen) (rest : List Step) → went_to (with_lots d now) lots saw rest ≡ went_to d lots saw rest
went_lots d now lots saw [] = refl
went_lots d now lots saw (s ∷ rest) = refl

pub open_went : (d : DriverState) (o p : Op) (t : Turn) (now : List Lot) (plan : List Step) → in_hand d ≡ Some o → in_hand d ≡ Some p → now ≡ lots_after t d.lots → t ≡ opening d.fixed d.lots p → plan ≡ plan_of d.fixed d.lots p
    → went_to (with_lots d now) now d.saw plan ≡ (opened d o).driver
open_went d o p t now plan e f after turn is =
    went_lots d now now d.saw plan
    ∙ ap (λ (ls : List Lot). went_to d ls d.saw plan) (after ∙ ap (λ (u : Turn). lots_after u d.lots) turn)
    ∙ ap (λ (rest : List Step). went_to d (lots_after (opening d.fixed d.lots p) d.lots) d.saw rest) is
    ∙ ap (λ (q : Op). (opened d q).driver) (same_op d p o f e)

pub work_went : (d : DriverState) (o : Op) (saw : Seen) (s : Step) (now : List Lot) → 0 < length d.rest → s ≡ slice_index_or d.rest 0 s → now ≡ lots_after_both s.first s.last d.lots → went_to (with_lots d now) now saw (drop 1 d.rest) ≡ (worked d o saw d.rest).driver
work_went d o saw s now some first after =
    went_lots d now now saw (drop 1 d.rest)
    ∙ ap (λ (ls : List Lot). went_to d ls saw (drop 1 d.rest)) after
    ∙ sym (ap (λ (w : Went). w.driver) (work_done d o saw s (drop 1 d.rest) (first_is d.rest s some first)))
