-- The calls of a driver by which an operation goes on that may still be refused: they move nothing.
use Rattle.std.proofs.Common.{◌≡◌, ℕ, suc, ◌+◌, ◌<◌, Bool, true, false, List, [], ◌∷◌, ◌++◌, length, refl, sym, ap, ◌∙◌, arith, inl, inr, Option, Some, None, Result, Ok, Err}
use Rattle.std.specs.Prelude.{◌⊎◌, if◌then◌else◌, nat_lt}
use Rattle.std.proofs.lemmas.Bool.{false≢true}
use Rattle.std.proofs.lemmas.List.Elements.{All-head}
use Rattle.nc_num.specs.declared.names.ChanNo.{ChanNo}
use Rattle.nc_model.specs.declared.owners.Owner.{Owner}
use Rattle.nc_coherent.specs.Pages.{PageMap}
use Rattle.nc_ops.specs.declared.ops.Op.{Op}
use Rattle.nc_ops.specs.declared.ops.Op.TheVariants as ops
use Rattle.nc_rules.specs.declared.answers.Refusal.{Refusal}
use Rattle.nc_rules.specs.declared.answers.Refusal.TheVariants as refusals
use Rattle.nc_rules.specs.declared.lots.Lot.{Lot}
use Rattle.nc_rules.specs.declared.steps.Act.{Act}
use Rattle.nc_rules.specs.declared.steps.Act.TheVariants as acts
use Rattle.nc_rules.specs.declared.steps.Next.{Next}
use Rattle.nc_rules.specs.declared.steps.Next.TheVariants as nexts
use Rattle.nc_rules.specs.declared.steps.Phase.{Phase}
use Rattle.nc_rules.specs.declared.steps.Phase.TheVariants.{Steps, Search, Work}
use Rattle.nc_rules.specs.declared.steps.Seen.{Seen}
use Rattle.nc_rules.specs.declared.steps.Seen.TheVariants as seen
use Rattle.nc_rules.specs.declared.steps.Step.{Step}
use Rattle.nc_rules.specs.declared.steps.Turn.{Turn}
use Rattle.nc_rules.specs.declared.steps.Turn.TheVariants as turns
use Rattle.nc_rules.specs.Lots.{DriverConfig, some_lot_waits, slot_given}
use Rattle.nc_rules.specs.Turns.{moved, lots_after, lots_after_both, turned_by, turned}
use Rattle.nc_rules.specs.Handing as handing
use Rattle.nc_rules.specs.Operations.{meaning, has_start, step_at, begin, opening, plan_of}
use Rattle.nc_rules.specs.Driver.{DriverState, Went, in_hand, next_of, next_of_op, next_in, next_act, next_step, next_rest, searched, searching, stays, give_up, went_to, answered, opened, searches, placed, with_lots, begun, refused_step, steps_done, started, started_of, told, told_of, told_in, told_word, kept, busy, stepped, worked, done, done_of, done_unless, done_in}
use Rattle.nc_scripts.specs.Drivers.{IsPhase, ClaimsNothing, ClaimsFirst, is_claim}
use Rattle.nc_scripts.proofs.DriverLaws.{next_step_is}
use Rattle.nc_scripts.specs.Scripts.{is_act}
use Rattle.nc_holds.proofs.messages.Steps.{Numbered, Quietly, Takes, numbered, numbered_first}
use Rattle.nc_refusals.proofs.Heads.{begins_claim, quiet_opening}

-- ---- an operation that may still be refused

-- it has made no plan, or one that begins with a claim
abbrev pub IsOpenAt : Phase → List Step → Type 0
IsOpenAt (Steps n) rest = Unit {0}
IsOpenAt (Search k) rest = Unit {0}
IsOpenAt Work rest = begins_claim rest ≡ true

abbrev pub IsOpen : DriverState → Type 0
IsOpen d = IsOpenAt d.phase d.rest

-- only claims, searches and starts come next where it is open
act_not_start : (a : Act) → next_act a ≡ nexts.Start → ⊥
act_not_start (acts.Op op) e = absurd (cc)
act_not_start (acts.Claim chan) e = absurd (cc)
act_not_start (acts.Poll chan) e = absurd (cc)
act_not_start (acts.Take buf) e = absurd (cc)

act_not_search : (a : Act) (k : ℕ) → searched (next_act a) ≡ Some k → ⊥
act_not_search (acts.Op op) k e = absurd (cc)
act_not_search (acts.Claim chan) k e = absurd (cc)
act_not_search (acts.Poll chan) k e = absurd (cc)
act_not_search (acts.Take buf) k e = absurd (cc)

act_claims : (a : Act) (chan : ChanNo) → next_act a ≡ nexts.Claim chan → is_claim a ≡ true
act_claims (acts.Op op) chan e = absurd (cc)
act_claims (acts.Claim c) chan e = refl
act_claims (acts.Poll c) chan e = absurd (cc)
act_claims (acts.Take buf) chan e = absurd (cc)

pub rest_not_start : (rest : List Step) → 0 < length rest → next_rest rest ≡ nexts.Start → ⊥
rest_not_start [] lt e = absurd (omega arith)
rest_not_start (s ∷ rest) lt e = act_not_start s.act e

rest_not_search : (rest : List Step) (k : ℕ) → searched (next_rest rest) ≡ Some k → ⊥
rest_not_search [] k e = absurd (cc)
rest_not_search (s ∷ rest) k e = act_not_search s.act k e

rest_claims : (rest : List Step) (chan : ChanNo) → next_rest rest ≡ nexts.Claim chan → begins_claim rest ≡ true
rest_claims [] chan e = absurd (cc)
rest_claims (s ∷ rest) chan e = act_claims s.act chan e

start_in : (d : DriverState) (o : Op) (p : Phase) → IsPhase d p → next_in d o p ≡ nexts.Start → IsOpenAt p d.rest
start_in d o (Steps n) h e = tt
start_in d o (Search k) h e = tt
start_in d o Work h e = absurd (rest_not_start d.rest h.some e)

start_by : (d : DriverState) (o : Option Op) → IsPhase d d.phase → next_of_op d o ≡ nexts.Start → IsOpen d
start_by d None h e = absurd (cc)
start_by d (Some o) h e = start_in d o d.phase h e

pub start_open : (d : DriverState) → IsPhase d d.phase → next_of d ≡ nexts.Start → IsOpen d
unfolding next_of
start_open d h e = start_by d (in_hand d) h e

search_in : (d : DriverState) (o : Op) (p : Phase) (k : ℕ) → searched (next_in d o p) ≡ Some k → IsOpenAt p d.rest
search_in d o (Steps n) k e = tt
search_in d o (Search j) k e = tt
search_in d o Work k e = absurd (rest_not_search d.rest k e)

search_by : (d : DriverState) (o : Option Op) (k : ℕ) → searched (next_of_op d o) ≡ Some k → IsOpen d
search_by d None k e = absurd (cc)
search_by d (Some o) k e = search_in d o d.phase k e

pub search_open : (d : DriverState) (k : ℕ) → searching d ≡ Some k → IsOpen d
unfolding searching next_of
search_open d k e = search_by d (in_hand d) k e

claim_in : (d : DriverState) (o : Op) (p : Phase) (chan : ChanNo) → next_in d o p ≡ nexts.Claim chan → IsOpenAt p d.rest
claim_in d o (Steps n) chan e = tt
claim_in d o (Search j) chan e = tt
claim_in d o Work chan e = rest_claims d.rest chan e

claim_by : (d : DriverState) (o : Option Op) (chan : ChanNo) → next_of_op d o ≡ nexts.Claim chan → IsOpen d
claim_by d None chan e = absurd (cc)
claim_by d (Some o) chan e = claim_in d o d.phase chan e

pub claim_open : (d : DriverState) (chan : ChanNo) → next_of d ≡ nexts.Claim chan → IsOpen d
unfolding next_of
claim_open d chan e = claim_by d (in_hand d) chan e

-- ---- starts

pub one_more_not : (n : ℕ) → n + 1 ≡ n → ⊥
one_more_not n e = absurd (omega (arith, e))

no_turn : (f : DriverConfig) (lots : List Lot) (t : Turn) → t ≡ turns.Stay → turned f lots t turns.Stay None ≡ moved [] None
unfolding turned_by
no_turn f lots t e = ap (λ u. turned f lots u turns.Stay None) e

opened_by : (d : DriverState) (o : Op) (ps : List Step) → plan_of d.fixed d.lots o ≡ ps → (went_to d (lots_after (opening d.fixed d.lots o) d.lots) d.saw ps).op ≡ d.op → IsOpen (went_to d (lots_after (opening d.fixed d.lots o) d.lots) d.saw ps)
    → turned d.fixed d.lots (opening d.fixed d.lots o) turns.Stay (answered d o d.saw ps) ≡ moved [] None
opened_by d o [] e same can = absurd (one_more_not d.op same)
opened_by d o (s ∷ rest) e same can = no_turn d.fixed d.lots (opening d.fixed d.lots o) (quiet_opening d.fixed d.lots o (ap begins_claim e ∙ can))

placed_if : (d e : DriverState) (o : Op) (t : Bool) → (if t then stays e else opened d o).driver.op ≡ d.op → IsOpen (if t then stays e else opened d o).driver → (if t then stays e else opened d o).moves ≡ moved [] None
placed_if d e o true same can = refl
placed_if d e o false same can = opened_by d o (plan_of d.fixed d.lots o) refl same can

placed_quiet : (d : DriverState) (o : Op) → (placed d o).driver.op ≡ d.op → IsOpen (placed d o).driver → (placed d o).moves ≡ moved [] None
placed_quiet d o same can = placed_if d (searches d 0) o (some_lot_waits d.lots) same can

begun_quiet : (d : DriverState) (o : Op) (r : Result (List Lot) Refusal) → (begun d o r).driver.op ≡ d.op → IsOpen (begun d o r).driver → (begun d o r).moves ≡ moved [] None
begun_quiet d o (Err r) same can = absurd (one_more_not d.op same)
begun_quiet d o (Ok new) same can = placed_quiet (with_lots d (d.lots ++ new)) o same can

refused_quiet : (d : DriverState) (o : Op) (r : Result (Option Step) Refusal) → (refused_step d o r).driver.op ≡ d.op → (refused_step d o r).moves ≡ moved [] None
refused_quiet d o (Err r) same = absurd (one_more_not d.op same)
refused_quiet d o (Ok s) same = refl

start_if : (d : DriverState) (o : Op) (r : Result (List Lot) Refusal) (s : Result (Option Step) Refusal) (t : Bool) → (if t then begun d o r else refused_step d o s).driver.op ≡ d.op → IsOpen (if t then begun d o r else refused_step d o s).driver
    → (if t then begun d o r else refused_step d o s).moves ≡ moved [] None
start_if d o r s true same can = begun_quiet d o r same can
start_if d o r s false same can = refused_quiet d o s same

start_quiet_by : (d : DriverState) (ws : List Owner) (pages : PageMap) (o : Option Op) → (started_of d ws pages o).driver.op ≡ d.op → IsOpen (started_of d ws pages o).driver → (started_of d ws pages o).moves ≡ moved [] None
start_quiet_by d ws pages None same can = refl
start_quiet_by d ws pages (Some o) same can = start_if d o (begin d.fixed d.lots ws pages o) (step_at d.fixed d.lots o (steps_done d.phase)) (has_start o) same can

pub start_quiet : (d : DriverState) (ws : List Owner) (pages : PageMap) → (started d ws pages).driver.op ≡ d.op → IsOpen (started d ws pages).driver → (started d ws pages).moves ≡ moved [] None
unfolding started
start_quiet d ws pages same can = start_quiet_by d ws pages (in_hand d) same can

-- ---- slot words

missed_if : (d e : DriverState) (o : Op) (t : Bool) → (if t then stays e else give_up d o refusals.NoSlot).driver.op ≡ d.op → (if t then stays e else give_up d o refusals.NoSlot).moves ≡ moved [] None
missed_if d e o true same = refl
missed_if d e o false same = absurd (one_more_not d.op same)

word_quiet : (d : DriverState) (o : Op) (k : ℕ) (got : Bool) → (told_word d o k got).driver.op ≡ d.op → IsOpen (told_word d o k got).driver → (told_word d o k got).moves ≡ moved [] None
word_quiet d o k true same can = placed_quiet (with_lots d (slot_given k d.lots)) o same can
word_quiet d o k false same can = missed_if d (searches d (k + 1)) o (nat_lt (k + 1) d.fixed.slots) same

told_in_quiet : (d : DriverState) (o : Op) (p : Phase) (got : Bool) → (told_in d o p got).driver.op ≡ d.op → IsOpen (told_in d o p got).driver → (told_in d o p got).moves ≡ moved [] None
told_in_quiet d o (Steps n) got same can = refl
told_in_quiet d o (Search k) got same can = word_quiet d o k got same can
told_in_quiet d o Work got same can = refl

told_quiet_by : (d : DriverState) (o : Option Op) (got : Bool) → (told_of d o got).driver.op ≡ d.op → IsOpen (told_of d o got).driver → (told_of d o got).moves ≡ moved [] None
told_quiet_by d None got same can = refl
told_quiet_by d (Some o) got same can = told_in_quiet d o d.phase got same can

pub told_quiet : (d : DriverState) (got : Bool) → (told d got).driver.op ≡ d.op → IsOpen (told d got).driver → (told d got).moves ≡ moved [] None
unfolding told
told_quiet d got same can = told_quiet_by d (in_hand d) got same can

-- ---- steps that are made

-- step n of an operation by number, behind which the operation goes on
pub record IsNumberDone (d : DriverState) (next : Next) (went : Went) : Type 0 where
  pub op : Op
  pub n : ℕ
  pub step : Step
  pub here : in_hand d ≡ Some op
  pub by_number : has_start op ≡ false
  pub before : d.phase ≡ Steps n
  pub is : step_at d.fixed d.lots op n ≡ Ok (Some step)
  pub next_is : next ≡ next_act step.act
  pub after : went.driver.phase ≡ Steps (n + 1)
  pub moves : went.moves ≡ moved [] None
  pub lots : went.driver.lots ≡ d.lots

both_none : (f : DriverConfig) (lots : List Lot) (t u : Turn) → t ≡ turns.Stay → u ≡ turns.Stay → turned f lots t u None ≡ moved [] None
unfolding turned_by
both_none f lots t u e k = ap (λ x. turned f lots x u None) e ∙ ap (λ x. turned f lots turns.Stay x None) k

-- what is behind a step that is not the last
record GoesOn (d : DriverState) (n : ℕ) (went : Went) : Type 0 where
  after : went.driver.phase ≡ Steps n
  moves : went.moves ≡ moved [] None
  lots : went.driver.lots ≡ d.lots

lots_none : (lots : List Lot) (t u : Turn) → t ≡ turns.Stay → u ≡ turns.Stay → lots_after_both t u lots ≡ lots
lots_none lots t u e k = ap (λ x. lots_after_both x u lots) e ∙ ap (λ x. lots_after x lots) k

no_end : (s : Step) (r next : Result (Option Step) Refusal) → (s.last ≡ turns.Stay) ⊎ (next ≡ Ok None) → (next ≡ Ok None → ⊥) → s.last ≡ turns.Stay
no_end s r next (inl e) some = e
no_end s r next (inr e) some = absurd (some e)

stepped_quiet : (d : DriverState) (o : Op) (n : ℕ) (saw : Seen) (s : Step) (next : Result (Option Step) Refusal) → s.first ≡ turns.Stay → (s.last ≡ turns.Stay) ⊎ (next ≡ Ok None) → (stepped d o n saw (Ok (Some s)) next).driver.op ≡ d.op → GoesOn d n (stepped d o n saw (Ok (Some s)) next)
stepped_quiet d o n saw s (Err r) first last same = record { after = refl; moves = both_none d.fixed d.lots s.first s.last first (no_end s (Err r) (Err r) last (λ e. absurd (cc))); lots = lots_none d.lots s.first s.last first (no_end s (Err r) (Err r) last (λ e. absurd (cc))) }
stepped_quiet d o n saw s (Ok (Some t)) first last same = record { after = refl; moves = both_none d.fixed d.lots s.first s.last first (no_end s (Ok (Some t)) (Ok (Some t)) last (λ e. absurd (cc))); lots = lots_none d.lots s.first s.last first (no_end s (Ok (Some t)) (Ok (Some t)) last (λ e. absurd (cc))) }
stepped_quiet d o n saw s (Ok None) first last same = absurd (one_more_not d.op same)

next_number : (d : DriverState) (o : Op) (n : ℕ) (s : Step) (a : Act) (r : Result (Option Step) Refusal) (t : Bool) → r ≡ Ok (Some s) → (if t then nexts.Start else next_step r) ≡ next_act a → (t ≡ false) × (next_act s.act ≡ next_act a)
next_number d o n s a r true e at = absurd (act_not_start a (sym at))
next_number d o n s a r false e at = (refl, sym (ap next_step e) ∙ at)

acts_now : (a : Act) → is_act (next_act a) ≡ true
acts_now (acts.Op op) = refl
acts_now (acts.Claim chan) = refl
acts_now (acts.Poll chan) = refl
acts_now (acts.Take buf) = refl

-- a take has one step
took : (f : DriverConfig) (lots : List Lot) (buf n : ℕ) → step_at f lots (ops.Take buf) (suc n) ≡ Ok None
unfolding step_at meaning handing.take
took f lots buf n = refl

-- a step behind which another one comes makes no turn at its end
last_now : (f : DriverConfig) (lots : List Lot) (o : Op) (n : ℕ) (s : Step) → Numbered f o s → (s.last ≡ turns.Stay) ⊎ (step_at f lots o (n + 1) ≡ Ok None)
last_now f lots o n s (Quietly quiet) = inl quiet.last
last_now f lots o n s (Takes buf op is) = inr (ap (step_at f lots o) (omega arith) ∙ ap (λ (p : Op). step_at f lots p (suc n)) op ∙ took f lots buf n)

number_done : (d : DriverState) (o : Op) (saw : Seen) (n : ℕ) (a : Act) → in_hand d ≡ Some o → d.phase ≡ Steps n → next_in d o (Steps n) ≡ next_act a → (done_in d o saw (Steps n)).driver.op ≡ d.op → IsNumberDone d (next_act a) (done_in d o saw (Steps n))
number_done d o saw n a here p at same =
    let s = next_step_is d o n (ap is_act at ∙ acts_now a) in
    let k = next_number d o n s.0 a (step_at d.fixed d.lots o n) (has_start o) s.1 at in
    let went = stepped d o (n + 1) saw (Ok (Some s.0)) (step_at d.fixed d.lots o (n + 1)) in
    let is : done_in d o saw (Steps n) ≡ went = ap (λ (r : Result (Option Step) Refusal). stepped d o (n + 1) saw r (step_at d.fixed d.lots o (n + 1))) s.1 in
    let by = numbered d.fixed d.lots o n s.0 s.1 in
    let on = stepped_quiet d o (n + 1) saw s.0 (step_at d.fixed d.lots o (n + 1)) (numbered_first d.fixed o s.0 by) (last_now d.fixed d.lots o n s.0 by) (sym (ap (λ (x : Went). x.driver.op) is) ∙ same) in
    record {
      op = o;
      n = n;
      step = s.0;
      here = here;
      by_number = k.0;
      before = p;
      is = s.1;
      next_is = sym k.1;
      after = ap (λ (x : Went). x.driver.phase) is ∙ on.after;
      moves = ap (λ (x : Went). x.moves) is ∙ on.moves;
      lots = ap (λ (x : Went). x.driver.lots) is ∙ on.lots;
    }

claims_not : {X : Type 0} (rest : List Step) → ClaimsNothing rest → begins_claim rest ≡ true → X
claims_not [] all e = absurd (false≢true e)
claims_not (s ∷ rest) all e = absurd (false≢true (sym (All-head (λ (x : Step). is_claim x.act ≡ false) s rest all) ∙ e))

went_not : {X : Type 0} (d : DriverState) (lots : List Lot) (saw : Seen) (rest : List Step) → ClaimsNothing rest → (went_to d lots saw rest).op ≡ d.op → IsOpen (went_to d lots saw rest) → X
went_not d lots saw [] all same can = absurd (one_more_not d.op same)
went_not d lots saw (s ∷ rest) all same can = claims_not (s ∷ rest) all can

worked_not : {X : Type 0} (d : DriverState) (o : Op) (saw : Seen) (rest : List Step) (a : Act) → ClaimsFirst d.lots rest → next_rest rest ≡ next_act a → (worked d o saw rest).driver.op ≡ d.op → IsOpen (worked d o saw rest).driver → X
worked_not d o saw [] a claims at same can = absurd (act_not_start a (sym at))
worked_not d o saw (s ∷ rest) a claims at same can = went_not d (lots_after_both s.first s.last d.lots) saw rest claims.1 same can

search_not : {X : Type 0} (k : ℕ) (a : Act) → nexts.Search k ≡ next_act a → X
search_not k a e = absurd (act_not_search a k (ap searched (sym e)))

done_in_quiet : (d : DriverState) (o : Op) (saw : Seen) (p : Phase) (a : Act) → in_hand d ≡ Some o → d.phase ≡ p → IsPhase d p → next_in d o p ≡ next_act a → (done_in d o saw p).driver.op ≡ d.op → IsOpen (done_in d o saw p).driver → IsNumberDone d (next_act a) (done_in d o saw p)
done_in_quiet d o saw (Steps n) a here p h at same can = number_done d o saw n a here p at same
done_in_quiet d o saw (Search k) a here p h at same can = search_not k a at
done_in_quiet d o saw Work a here p h at same can = worked_not d o saw d.rest a h.claims at same can

unless_quiet : (d : DriverState) (o : Op) (saw : Seen) (a : Act) → in_hand d ≡ Some o → IsPhase d d.phase → next_in d o d.phase ≡ next_act a → (done_unless d o saw (busy saw)).driver.op ≡ d.op → IsOpen (done_unless d o saw (busy saw)).driver
    → IsNumberDone d (next_act a) (done_unless d o saw (busy saw))
unless_quiet d o (seen.Busy g) a here h at same can = absurd (one_more_not d.op same)
unless_quiet d o seen.Nothing a here h at same can = done_in_quiet d o (kept d.saw seen.Nothing) d.phase a here refl h at same can
unless_quiet d o (seen.Control control) a here h at same can = done_in_quiet d o (seen.Control control) d.phase a here refl h at same can
unless_quiet d o seen.Claimed a here h at same can = done_in_quiet d o seen.Claimed d.phase a here refl h at same can
unless_quiet d o (seen.Value value) a here h at same can = done_in_quiet d o (seen.Value value) d.phase a here refl h at same can

end_not : {X : Type 0} (a : Act) → nexts.End ≡ next_act a → X
end_not (acts.Op op) e = absurd (cc)
end_not (acts.Claim chan) e = absurd (cc)
end_not (acts.Poll chan) e = absurd (cc)
end_not (acts.Take buf) e = absurd (cc)

done_quiet_by : (d : DriverState) (saw : Seen) (a : Act) (o : Option Op) → in_hand d ≡ o → IsPhase d d.phase → next_of_op d o ≡ next_act a → (done_of d saw o).driver.op ≡ d.op → IsOpen (done_of d saw o).driver → IsNumberDone d (next_act a) (done_of d saw o)
done_quiet_by d saw a None here h at same can = end_not a at
done_quiet_by d saw a (Some o) here h at same can = unless_quiet d o saw a here h at same can

pub done_quiet : (d : DriverState) (saw : Seen) (a : Act) → IsPhase d d.phase → next_of d ≡ next_act a → (done d saw).driver.op ≡ d.op → IsOpen (done d saw).driver → IsNumberDone d (next_act a) (done d saw)
unfolding done next_of
done_quiet d saw a h at same can = done_quiet_by d saw a (in_hand d) refl h at same can
