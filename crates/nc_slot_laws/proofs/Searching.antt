-- A driver's search: where a call of the driver leaves it, and which call answers that no slot was found.
use Rattle.std.proofs.Common.{◌≡◌, ℕ, zero, suc, ◌+◌, ◌<◌, ◌≤◌, Bool, true, false, List, [], ◌∷◌, ◌++◌, refl, sym, ap, subst, ◌∙◌, arith, inl, inr, Option, Some, None}
use Rattle.std.specs.Prelude.{nat_lt, if◌then◌else◌, Result, Ok, Err}
use Rattle.std.proofs.lemmas.Bool.{false≢true, cases_lt}
use Rattle.std.proofs.lemmas.Bool.Decides.{nat_tests}
use Rattle.nc_num.specs.declared.names.Label.{Label}
use Rattle.nc_model.specs.declared.owners.Owner.{Owner}
use Rattle.nc_coherent.specs.Pages.{PageMap}
use Rattle.nc_ops.specs.declared.ops.Op.{Op}
use Rattle.nc_rules.specs.declared.answers.Refusal.{Refusal}
use Rattle.nc_rules.specs.declared.answers.Refusal.TheVariants as refusals
use Rattle.nc_rules.specs.declared.lots.Lot.{Lot}
use Rattle.nc_rules.specs.declared.steps.Act.{Act}
use Rattle.nc_rules.specs.declared.steps.Act.TheVariants as acts
use Rattle.nc_rules.specs.declared.steps.Next.TheVariants as nexts
use Rattle.nc_rules.specs.declared.steps.Phase.{Phase}
use Rattle.nc_rules.specs.declared.steps.Phase.TheVariants.{Steps, Search, Work}
use Rattle.nc_rules.specs.declared.steps.Seen.{Seen}
use Rattle.nc_rules.specs.declared.steps.Seen.TheVariants as seen
use Rattle.nc_rules.specs.declared.steps.Step.{Step}
use Rattle.nc_rules.specs.declared.steps.Turn.TheVariants as turns
use Rattle.nc_rules.specs.Lots.{some_lot_waits, slot_given, lot_id}
use Rattle.nc_rules.specs.Turns.{lots_after, lots_after_both, turned_by, without_wanted}
use Rattle.nc_rules.specs.Operations.{has_start, step_at, begin, opening, plan_of}
use Rattle.nc_rules.specs.Driver.{DriverState, Went, in_hand, next_act, next_step, next_rest, next_in, next_of_op, next_of, searched, searching, stays, over, stands, kept, give_up, went_to, answered, opened, searches, placed, with_lots, begun, refused_step, steps_done, started_of, started, told_word, told, busy, stepped_to, step_answer, stepped, worked, done_in, done_unless, done_of, done, lent}
use Rattle.nc_slot_laws.specs.Looks.{is_unslotted}
use Rattle.nc_slot_laws.proofs.Refusing.{Clear, begin_clear, step_clear, noslot_in, good_not, bad_is}

-- ---- the driver's phase

act_not : (a : Act) (k : ℕ) → searched (next_act a) ≡ Some k → ⊥
act_not (acts.Op op) k e = absurd (cc)
act_not (acts.Claim chan) k e = absurd (cc)
act_not (acts.Poll chan) k e = absurd (cc)
act_not (acts.Take buf) k e = absurd (cc)

step_not : (t : Bool) (r : Result (Option Step) Refusal) (k : ℕ) → searched (if t then nexts.Start else next_step r) ≡ Some k → ⊥
step_not true r k e = absurd (cc)
step_not false (Err r) k e = absurd (cc)
step_not false (Ok None) k e = absurd (cc)
step_not false (Ok (Some s)) k e = act_not s.act k e

rest_not : (rest : List Step) (k : ℕ) → searched (next_rest rest) ≡ Some k → ⊥
rest_not [] k e = absurd (cc)
rest_not (s ∷ rest) k e = act_not s.act k e

-- it tries word k, for this operation
pub record SearchesAt (d : DriverState) (k : ℕ) : Type 0 where
  pub o : Op
  pub hand : in_hand d ≡ Some o
  pub phase : d.phase ≡ Search k

phase_is : (d : DriverState) (o : Op) (p : Phase) (k : ℕ) → searched (next_in d o p) ≡ Some k → p ≡ Search k
phase_is d o (Steps n) k e = absurd (step_not (has_start o) (step_at d.fixed d.lots o n) k e)
phase_is d o (Search n) k e = let same : n ≡ k = cc in ap (λ (m : ℕ). Search m) same
phase_is d o Work k e = absurd (rest_not d.rest k e)

search_by : (d : DriverState) (o : Option Op) (k : ℕ) → in_hand d ≡ o → searched (next_of_op d o) ≡ Some k → SearchesAt d k
search_by d None k hand e = absurd (cc)
search_by d (Some o) k hand e = record { o = o; hand = hand; phase = phase_is d o d.phase k e }

pub search_is : (d : DriverState) (k : ℕ) → searching d ≡ Some k → SearchesAt d k
unfolding searching next_of
search_is d k e = search_by d (in_hand d) k refl e

search_at : (d : DriverState) (k : ℕ) → SearchesAt d k → searching d ≡ Some k
unfolding searching next_of
search_at d k s = ap (λ (o : Option Op). searched (next_of_op d o)) s.hand ∙ ap (λ (p : Phase). searched (next_in d s.o p)) s.phase

-- ---- where a search stands behind a call

-- at the first word, or there is none
pub record AtFirst (d : DriverState) : Type 0 where
  pub at : (k : ℕ) → searching d ≡ Some k → k ≡ 0

off_steps : (n k : ℕ) → Steps n ≡ Search k → ⊥
off_steps n k e = cc

off_work : (k : ℕ) → Work ≡ Search k → ⊥
off_work k e = cc

pub steps_first : (d : DriverState) (n : ℕ) → d.phase ≡ Steps n → AtFirst d
steps_first d n e = record { at = λ k s. absurd (off_steps n k (sym e ∙ (search_is d k s).phase)) }

work_first : (d : DriverState) → d.phase ≡ Work → AtFirst d
work_first d e = record { at = λ k s. absurd (off_work k (sym e ∙ (search_is d k s).phase)) }

same_word : (n k : ℕ) → Search n ≡ Search k → k ≡ n
same_word n k e = cc

word_is : (d : DriverState) (n k : ℕ) → d.phase ≡ Search n → searching d ≡ Some k → k ≡ n
word_is d n k e s = same_word n k (sym e ∙ (search_is d k s).phase)

off_none : (k : ℕ) → ◌≡◌ {A = Option ℕ} None (Some k) → ⊥
off_none k e = cc

none_first : (d : DriverState) → searching d ≡ None → AtFirst d
none_first d e = record { at = λ k s. absurd (off_none k (sym e ∙ s)) }

went_first : (d : DriverState) (lots : List Lot) (saw : Seen) (rest : List Step) → AtFirst (went_to d lots saw rest)
went_first d lots saw [] = steps_first (over d lots) 0 refl
went_first d lots saw (s ∷ rest) = work_first (stands d Work (s ∷ rest) lots saw) refl

-- ---- placed

pub record IsCall (went : Went) : Type 0 where
  pub first : AtFirst went.driver
  pub answer : noslot_in went.moves.answer ≡ false

stays_call : (d : DriverState) → AtFirst d → IsCall (stays d)
stays_call d first = record { first = first; answer = refl }

answered_not : (d : DriverState) (o : Op) (saw : Seen) (rest : List Step) → noslot_in (answered d o saw rest) ≡ false
answered_not d o saw [] = good_not d.fixed d.lots o saw
answered_not d o saw (s ∷ rest) = refl

opened_call : (d : DriverState) (o : Op) → IsCall (opened d o)
unfolding turned_by
opened_call d o = record {
  first = went_first d (lots_after (opening d.fixed d.lots o) d.lots) d.saw (plan_of d.fixed d.lots o);
  answer = answered_not d o d.saw (plan_of d.fixed d.lots o);
}

placed_by : (d : DriverState) (o : Op) (t : Bool) → IsCall (if t then stays (searches d 0) else opened d o)
placed_by d o true = stays_call (searches d 0) (record { at = λ k s. word_is (searches d 0) 0 k refl s })
placed_by d o false = opened_call d o

placed_call : (d : DriverState) (o : Op) → IsCall (placed d o)
placed_call d o = placed_by d o (some_lot_waits d.lots)

-- ---- a start

-- it answers that no slot was found only where there are none
pub record IsStart (d : DriverState) (went : Went) : Type 0 where
  pub first : AtFirst went.driver
  pub answer : noslot_in went.moves.answer ≡ true → d.fixed.slots ≡ 0

no_slots : (n : ℕ) → (0 < n → ⊥) → n ≡ 0
no_slots zero off = refl
no_slots (suc n) off = absurd (off (omega arith))

call_start : (d : DriverState) (went : Went) → IsCall went → IsStart d went
call_start d went call = record { first = call.first; answer = λ e. absurd (false≢true (sym call.answer ∙ e)) }

give_start : (d : DriverState) (o : Op) (r : Refusal) → (0 < d.fixed.slots → is_unslotted r ≡ false) → IsStart d (give_up d o r)
give_start d o r clear = record {
  first = steps_first (over d (without_wanted d.lots)) 0 refl;
  answer = λ e. no_slots d.fixed.slots (λ some. false≢true (sym (clear some) ∙ sym (bad_is d.fixed d.lots o r) ∙ e));
}

begun_start : (d : DriverState) (o : Op) (r : Result (List Lot) Refusal) → (0 < d.fixed.slots → Clear r) → IsStart d (begun d o r)
begun_start d o (Err e) clear = give_start d o e clear
begun_start d o (Ok new) clear = call_start d (placed (with_lots d (d.lots ++ new)) o) (placed_call (with_lots d (d.lots ++ new)) o)

refused_start : (d : DriverState) (o : Op) (r : Result (Option Step) Refusal) → AtFirst d → Clear r → IsStart d (refused_step d o r)
refused_start d o (Err e) first clear = give_start d o e (λ some. clear)
refused_start d o (Ok s) first clear = call_start d (stays d) (stays_call d first)

op_by : (d : DriverState) (owners : List Owner) (pages : PageMap) (o : Op) (t : Bool) → AtFirst d → IsStart d (if t then begun d o (begin d.fixed d.lots owners pages o) else refused_step d o (step_at d.fixed d.lots o (steps_done d.phase)))
op_by d owners pages o true first = begun_start d o (begin d.fixed d.lots owners pages o) (begin_clear d.fixed d.lots owners pages o)
op_by d owners pages o false first = refused_start d o (step_at d.fixed d.lots o (steps_done d.phase)) first (step_clear d.fixed d.lots o (steps_done d.phase))

start_by : (d : DriverState) (owners : List Owner) (pages : PageMap) (o : Option Op) → AtFirst d → IsStart d (started_of d owners pages o)
start_by d owners pages None first = call_start d (stays d) (stays_call d first)
start_by d owners pages (Some o) first = op_by d owners pages o (has_start o) first

pub start_is : (d : DriverState) (owners : List Owner) (pages : PageMap) → searching d ≡ None → IsStart d (started d owners pages)
unfolding started
start_is d owners pages none = start_by d owners pages (in_hand d) (none_first d none)

-- ---- a step that is made

step_first : (d : DriverState) (n : ℕ) (lots : List Lot) (saw : Seen) (next : Result (Option Step) Refusal) → AtFirst (stepped_to d n lots saw next)
step_first d n lots saw (Err r) = steps_first (stands d (Steps n) [] lots saw) n refl
step_first d n lots saw (Ok (Some s)) = steps_first (stands d (Steps n) [] lots saw) n refl
step_first d n lots saw (Ok None) = steps_first (over d lots) 0 refl

step_not_noslot : (d : DriverState) (o : Op) (saw : Seen) (next : Result (Option Step) Refusal) → noslot_in (step_answer d o saw next) ≡ false
step_not_noslot d o saw (Err r) = refl
step_not_noslot d o saw (Ok (Some s)) = refl
step_not_noslot d o saw (Ok None) = good_not d.fixed d.lots o saw

stepped_call : (d : DriverState) (o : Op) (n : ℕ) (saw : Seen) (now next : Result (Option Step) Refusal) → AtFirst d → IsCall (stepped d o n saw now next)
unfolding turned_by
stepped_call d o n saw (Ok (Some s)) next first = record { first = step_first d n (lots_after_both s.first s.last d.lots) saw next; answer = step_not_noslot d o saw next }
stepped_call d o n saw (Ok None) next first = stays_call d first
stepped_call d o n saw (Err r) next first = stays_call d first

worked_call : (d : DriverState) (o : Op) (saw : Seen) (rest : List Step) → AtFirst d → IsCall (worked d o saw rest)
unfolding turned_by
worked_call d o saw [] first = stays_call d first
worked_call d o saw (s ∷ rest) first = record { first = went_first d (lots_after_both s.first s.last d.lots) saw rest; answer = answered_not d o saw rest }

done_in_call : (d : DriverState) (o : Op) (saw : Seen) (p : Phase) → AtFirst d → IsCall (done_in d o saw p)
done_in_call d o saw (Steps n) first = stepped_call d o (n + 1) saw (step_at d.fixed d.lots o n) (step_at d.fixed d.lots o (n + 1)) first
done_in_call d o saw (Search k) first = stays_call d first
done_in_call d o saw Work first = worked_call d o saw d.rest first

busy_not : (saw : Seen) (r : Refusal) → busy saw ≡ Some r → is_unslotted r ≡ false
busy_not (seen.Busy g) r e = let same : refusals.ChannelBusy g ≡ r = cc in subst (λ (x : Refusal). is_unslotted x ≡ false) same refl
busy_not seen.Nothing r e = absurd (cc)
busy_not (seen.Control control) r e = absurd (cc)
busy_not seen.Claimed r e = absurd (cc)
busy_not (seen.Value value) r e = absurd (cc)

unless_call : (d : DriverState) (o : Op) (saw : Seen) (b : Option Refusal) → busy saw ≡ b → AtFirst d → IsCall (done_unless d o saw b)
unless_call d o saw (Some r) e first = record { first = steps_first (over d (without_wanted d.lots)) 0 refl; answer = bad_is d.fixed d.lots o r ∙ busy_not saw r e }
unless_call d o saw None e first = done_in_call d o (kept d.saw saw) d.phase first

done_by : (d : DriverState) (saw : Seen) (o : Option Op) → AtFirst d → IsCall (done_of d saw o)
done_by d saw None first = stays_call d first
done_by d saw (Some o) first = unless_call d o saw (busy saw) refl first

pub done_is : (d : DriverState) (saw : Seen) → searching d ≡ None → IsStart d (done d saw)
unfolding done
done_is d saw none = call_start d (done_of d saw (in_hand d)) (done_by d saw (in_hand d) (none_first d none))

-- ---- a word that is got, or missed

told_as : (d : DriverState) (k : ℕ) (got : Bool) → (s : SearchesAt d k) → told d got ≡ told_word d s.o k got
unfolding told
told_as d k got s = rw (s.hand, s.phase) refl

pub got_is : (d : DriverState) (k : ℕ) → searching d ≡ Some k → IsCall (told d true)
got_is d k e =
    let s = search_is d k e in
    subst (λ (w : Went). IsCall w) (sym (told_as d k true s)) (placed_call (with_lots d (slot_given k d.lots)) s.o)

-- on to the next word; and where no slot was found, it was the last
pub record IsMiss (d : DriverState) (k : ℕ) (went : Went) : Type 0 where
  pub next : (j : ℕ) → searching went.driver ≡ Some j → j ≡ k + 1
  pub answer : noslot_in went.moves.answer ≡ true → d.fixed.slots ≤ k + 1

past : (n k : ℕ) → nat_lt k n ≡ false → n ≤ k
past n k e = elim (cases_lt k n) [ inl lt ↦ absurd (grind (arith, nat_tests)) | inr le ↦ omega (arith, le) ]

missed_by : (d : DriverState) (o : Op) (k : ℕ) (t : Bool) → nat_lt (k + 1) d.fixed.slots ≡ t → IsMiss d k (if t then stays (searches d (k + 1)) else give_up d o refusals.NoSlot)
missed_by d o k true e = record { next = λ j s. word_is (searches d (k + 1)) (k + 1) j refl s; answer = λ un. absurd (false≢true un) }
missed_by d o k false e = record {
  next = λ j s. absurd (off_steps 0 j (search_is (over d (without_wanted d.lots)) j s).phase);
  answer = λ un. past d.fixed.slots (k + 1) e;
}

pub missed_is : (d : DriverState) (k : ℕ) → searching d ≡ Some k → IsMiss d k (told d false)
missed_is d k e =
    let s = search_is d k e in
    subst (λ (w : Went). IsMiss d k w) (sym (told_as d k false s)) (missed_by d s.o k (nat_lt (k + 1) d.fixed.slots) refl)

-- ---- a token

pub record IsToken (d : DriverState) (went : Went) : Type 0 where
  pub same : (k : ℕ) → searching went.driver ≡ Some k → searching d ≡ Some k
  pub answer : noslot_in went.moves.answer ≡ false

with_search : (d : DriverState) (lots : List Lot) (k : ℕ) → searching (with_lots d lots) ≡ Some k → searching d ≡ Some k
with_search d lots k e = let s = search_is (with_lots d lots) k e in search_at d k (record { o = s.o; hand = s.hand; phase = s.phase })

pub lent_is : (d : DriverState) (label : Label) (first : ℕ) → IsToken d (lent d label first)
unfolding lent turned_by
lent_is d label first = record { same = λ k e. with_search d (lots_after (turns.Give (lot_id label first)) d.lots) k e; answer = refl }
