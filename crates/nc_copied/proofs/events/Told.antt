-- The record of an answer is of a call of a driver that gives it.
use Rattle.std.proofs.Common.{◌≡◌, ◌⊎◌, ℕ, Bool, true, false, List, [], ◌∷◌, ◌++◌, refl, sym, ap, ◌∙◌, subst, inl, inr, Option, Some, None}
use Rattle.std.proofs.lemmas.Bool.{false≢true}
use Rattle.std.proofs.lemmas.List.Elements.{All-head, All-tail}
use Rattle.nc_num.specs.declared.names.HartNo.{HartNo}
use Rattle.nc_num.specs.declared.places.Span.{Span}
use Rattle.nc_queue.specs.declared.entry.Entry.{Entry}
use Rattle.nc_queue.specs.declared.entry.Entry.TheVariants as entries
use Rattle.nc_plan.specs.Plans.{In}
use Rattle.nc_slots.specs.SlotWords.{holder_of}
use Rattle.nc_model.specs.declared.owners.Access.TheVariants.{Read, Write}
use Rattle.nc_model.specs.declared.owners.Owner.{Owner}
use Rattle.nc_model.specs.declared.touches.Touch.{Touch}
use Rattle.nc_scen.specs.declared.events.Event.{Event}
use Rattle.nc_scen.specs.declared.events.Event.TheVariants as events
use Rattle.nc_rules.specs.declared.answers.Answer.{Answer}
use Rattle.nc_rules.specs.declared.records.Record.{Record}
use Rattle.nc_rules.specs.declared.records.Record.TheVariants as records
use Rattle.nc_rules.specs.declared.steps.Next.{Next}
use Rattle.nc_rules.specs.declared.steps.Next.TheVariants as nexts
use Rattle.nc_rules.specs.Calls.{fill_next, fill_answer, evict_next, evict_answer, chan_read_next, chan_read_step, chan_write_next, chan_write_step, leaving, drain_next}
use Rattle.nc_rules.specs.Driver.{Went, next_of, searching, is_script, lent}
use Rattle.nc_rules.specs.Events.{enabled}
use Rattle.nc_rules.specs.Machine.{MachineState}
use Rattle.nc_rules.specs.Next.{event_records}
use Rattle.nc_rules.specs.Outcomes.{Outcome, goes, runs, at_word, leaves, outcome, step_outcome, start_outcome, op_outcome, claim_outcome, poll_outcome, take_outcome, try_outcome, told_outcome, drain_outcome}
use Rattle.nc_rules.specs.Records.{touch_records, owner_records, back_records, answered, op_records, drain_records, answer_records, read_records, write_records, try_records, told_records}
use Rattle.nc_rules.specs.Turns.{turned_by}
use Rattle.nc_rules.specs.EventTouches.{drain_touch, transaction_touch}
use Rattle.nc_rules.specs.World.{WorldState, driver_of}
use Rattle.nc_counts.proofs.Plain.{is_plain, ArePlain, plain_op, plain_drain, plain_answer, plain_read, plain_write, plain_backs}
use Rattle.nc_refusals.specs.Refused.{maker}

-- ---- records without an answer

abbrev is_answer : Record → Bool
is_answer (records.Ans h op a) = true
is_answer _ = false

abbrev HasNone : List Record → Type 0
HasNone [] = Unit {0}
HasNone (r ∷ rs) = (is_answer r ≡ false) × HasNone rs

plain_not : (r : Record) → is_plain r ≡ true → is_answer r ≡ false
plain_not (records.Ans h op a) e = absurd (false≢true e)
plain_not (records.Event x) e = refl
plain_not (records.Touched x) e = refl
plain_not (records.Ow x y) e = refl
plain_not (records.Try x y z) e = refl
plain_not (records.Told x y z) e = refl
plain_not _ e = refl

plain_none : (rs : List Record) → ArePlain rs → HasNone rs
plain_none [] all = tt
plain_none (r ∷ rs) all = (plain_not r (All-head (λ (s : Record). is_plain s ≡ true) r rs all), plain_none rs (All-tail (λ (s : Record). is_plain s ≡ true) r rs all))

none_in : (rs : List Record) (h : HartNo) (n : ℕ) (a : Answer) → HasNone rs → In (records.Ans h n a) rs → ⊥
none_in [] h n a none here = here
none_in (r ∷ rs) h n a none (inl e) = false≢true (sym none.0 ∙ ap is_answer e)
none_in (r ∷ rs) h n a none (inr here) = none_in rs h n a none.1 here

none_append : (rs ss : List Record) → HasNone rs → HasNone ss → HasNone (rs ++ ss)
none_append [] ss a b = b
none_append (r ∷ rs) ss a b = (a.0, none_append rs ss a.1 b)

touch_none : (t : Option Touch) → HasNone (touch_records t)
touch_none None = tt
touch_none (Some t) = (refl, tt)

owners_none : (ts : List (Span × Owner)) → HasNone (owner_records ts)
owners_none [] = tt
owners_none (t ∷ ts) = (refl, owners_none ts)

in_either : (r : Record) (rs ss : List Record) → In r (rs ++ ss) → In r rs ⊎ In r ss
in_either r [] ss here = inr here
in_either r (s ∷ rs) ss (inl e) = inl (inl e)
in_either r (s ∷ rs) ss (inr here) = elim (in_either r rs ss here) [ inl k ↦ inl (inr k) | inr k ↦ inr k ]

-- ---- an outcome

-- this hart's driver gives the answer, to its operation of this number
pub record IsAnswered (w : WorldState) (o : Outcome) (by : Option HartNo) (h : HartNo) (n : ℕ) (a : Answer) : Type 0 where
  pub by_is : by ≡ Some h
  pub op : (driver_of w h.0).op ≡ n
  pub answer : o.moves.answer ≡ Some a

-- what is behind records without an answer
behind : (rs ss : List Record) (h : HartNo) (n : ℕ) (a : Answer) → HasNone rs → In (records.Ans h n a) (rs ++ ss) → In (records.Ans h n a) ss
behind rs ss h n a none here = elim (in_either (records.Ans h n a) rs ss here) [ inl k ↦ absurd (none_in rs h n a none k) | inr k ↦ k ]

record IsTheAnswer (g : HartNo) (m : ℕ) (o : Option Answer) (h : HartNo) (n : ℕ) (a : Answer) : Type 0 where
  hart : g ≡ h
  op : m ≡ n
  answer : o ≡ Some a

the_answer : (g : HartNo) (m : ℕ) (o : Option Answer) (h : HartNo) (n : ℕ) (a : Answer) → In (records.Ans h n a) (answered g m o) → IsTheAnswer g m o h n a
the_answer g m None h n a here = absurd here
the_answer g m (Some b) h n a (inl e) = record { hart = cc; op = cc; answer = (let same : b ≡ a = cc in ap Some same) }
the_answer g m (Some b) h n a (inr here) = absurd here

goes_answer : (w : WorldState) (g : HartNo) (machine : MachineState) (went : Went) (slots : List (Option HartNo)) (touch : Option Touch) (rs : List Record) (h : HartNo) (n : ℕ) (a : Answer) → HasNone rs → In (records.Ans h n a) (goes w g machine went slots touch rs).records
    → IsAnswered w (goes w g machine went slots touch rs) (Some g) h n a
goes_answer w g machine went slots touch rs h n a none here =
    let ms = went.moves in
    let op = (driver_of w g.0).op in
    let prefix = touch_records touch ++ rs in
    let moves = owner_records ms.transfers ++ back_records g ms.backs in
    let k = behind prefix (moves ++ answered g op ms.answer) h n a (none_append (touch_records touch) rs (touch_none touch) none) here in
    let last = behind moves (answered g op ms.answer) h n a (none_append (owner_records ms.transfers) (back_records g ms.backs) (owners_none ms.transfers) (plain_none (back_records g ms.backs) (plain_backs g ms.backs))) k in
    let it = the_answer g op ms.answer h n a last in
    record { by_is = ap Some it.hart; op = ap (λ (x : HartNo). (driver_of w x.0).op) (sym it.hart) ∙ it.op; answer = it.answer }

runs_answer : {X : Type 0} (w : WorldState) (machine : MachineState) (touch : Option Touch) (rs : List Record) (h : HartNo) (n : ℕ) (a : Answer) → HasNone rs → In (records.Ans h n a) (runs w machine touch rs).records → X
runs_answer w machine touch rs h n a none here = absurd (none_in rs h n a none (behind (touch_records touch) rs h n a (touch_none touch) here))

-- ---- every event

step_answer : (w : WorldState) (g : HartNo) (next : Next) (h : HartNo) (n : ℕ) (a : Answer) → In (records.Ans h n a) (step_outcome w g next).records → IsAnswered w (step_outcome w g next) (Some g) h n a
unfolding step_outcome start_outcome op_outcome claim_outcome poll_outcome take_outcome
step_answer w g nexts.End h n a here = runs_answer w w.machine None [] h n a tt here
step_answer w g (nexts.Search k) h n a here = runs_answer w w.machine None [] h n a tt here
step_answer w g nexts.Start h n a here = goes_answer w g _ _ _ _ [] h n a tt here
step_answer w g (nexts.Op op) h n a here =
    let by_script = is_script (driver_of w g.0).phase in
    goes_answer w g _ _ _ _ (op_records w.machine g by_script op) h n a (plain_none (op_records w.machine g by_script op) (plain_op w.machine g by_script op)) here
step_answer w g (nexts.Claim chan) h n a here = goes_answer w g _ _ _ _ [] h n a tt here
step_answer w g (nexts.Poll chan) h n a here = goes_answer w g _ _ _ _ [] h n a tt here
step_answer w g (nexts.Take buf) h n a here = goes_answer w g _ _ _ _ [] h n a tt here

word_answer : (w : WorldState) (g : HartNo) (f : ℕ → Outcome) (o : Option ℕ) (h : HartNo) (n : ℕ) (a : Answer) → ((k : ℕ) → In (records.Ans h n a) (f k).records → IsAnswered w (f k) (Some g) h n a) → In (records.Ans h n a) (at_word w f o).records
    → IsAnswered w (at_word w f o) (Some g) h n a
word_answer w g f None h n a each here = runs_answer w w.machine None [] h n a tt here
word_answer w g f (Some k) h n a each here = each k here

none_some : (a : Answer) → None ≡ Some a → ⊥
none_some a e = cc

leaves_answer : {X : Type 0} (w : WorldState) (g : HartNo) (machine : MachineState) (touch : Option Touch) (rs : List Record) (e : Entry) (h : HartNo) (n : ℕ) (a : Answer) → HasNone rs → In (records.Ans h n a) (leaves w g machine touch rs e).records → X
unfolding lent turned_by
leaves_answer w g machine touch rs (entries.Lend label first count) h n a none here =
    absurd (none_some a (goes_answer w g machine (lent (driver_of w g.0) label first) w.slots touch rs h n a none here).answer)
leaves_answer w g machine touch rs (entries.Store span bytes kind) h n a none here = runs_answer w machine touch rs h n a none here
leaves_answer w g machine touch rs (entries.Cbo block op) h n a none here = runs_answer w machine touch rs h n a none here
leaves_answer w g machine touch rs (entries.Reg chan off width value) h n a none here = runs_answer w machine touch rs h n a none here
leaves_answer w g machine touch rs (entries.Mail buf to) h n a none here = runs_answer w machine touch rs h n a none here
leaves_answer w g machine touch rs (entries.Mark pred succ) h n a none here = runs_answer w machine touch rs h n a none here

drain_answer : {X : Type 0} (w : WorldState) (g : HartNo) (i : ℕ) (o : Option Entry) (h : HartNo) (n : ℕ) (a : Answer) → In (records.Ans h n a) (drain_outcome w g i o).records → X
unfolding drain_outcome
drain_answer w g i None h n a here = runs_answer w w.machine None [] h n a tt here
drain_answer w g i (Some e) h n a here = leaves_answer w g (drain_next w.machine g.0 i) (drain_touch w g e) (drain_records w.machine g e) e h n a (plain_none (drain_records w.machine g e) (plain_drain w.machine g e)) here

outcome_answer : (w : WorldState) (e : Event) (h : HartNo) (n : ℕ) (a : Answer) → In (records.Ans h n a) (outcome w e).records → IsAnswered w (outcome w e) (maker e) h n a
unfolding outcome try_outcome told_outcome
outcome_answer w (events.Issue g) h n a here = step_answer w g (next_of (driver_of w g.0)) h n a here
outcome_answer w (events.Try g) h n a here = word_answer w g (try_outcome w g) (searching (driver_of w g.0)) h n a (λ k at. goes_answer w g _ _ _ None (try_records g k (holder_of w.slots k)) h n a (refl, tt) at) here
outcome_answer w (events.Told g got) h n a here = word_answer w g (told_outcome w g got) (searching (driver_of w g.0)) h n a (λ k at. goes_answer w g _ _ _ None (told_records g k got (holder_of w.slots k)) h n a (refl, tt) at) here
outcome_answer w (events.Drain g i) h n a here = drain_answer w g i (leaving w.machine g.0 i) h n a here
outcome_answer w (events.Fill g b) h n a here =
    let rs = answer_records w.machine.size (fill_answer w.machine g.0 b.0) in runs_answer w (fill_next w.machine g.0 b.0) None rs h n a (plain_none rs (plain_answer w.machine.size (fill_answer w.machine g.0 b.0))) here
outcome_answer w (events.Evict g b) h n a here =
    let rs = answer_records w.machine.size (evict_answer w.machine g.0 b.0) in runs_answer w (evict_next w.machine g.0 b.0) None rs h n a (plain_none rs (plain_answer w.machine.size (evict_answer w.machine g.0 b.0))) here
outcome_answer w (events.ChanRead chan) h n a here =
    let t = chan_read_step w.machine chan.0 in
    runs_answer w (chan_read_next w.machine chan.0) (transaction_touch w chan Read t) (read_records chan t) h n a (plain_none (read_records chan t) (plain_read chan t)) here
outcome_answer w (events.ChanWrite chan) h n a here =
    let t = chan_write_step w.machine chan.0 in
    runs_answer w (chan_write_next w.machine chan.0) (transaction_touch w chan Write t) (write_records chan t) h n a (plain_none (write_records chan t) (plain_write chan t)) here

-- the event may happen
pub record IsTold (w : WorldState) (e : Event) (h : HartNo) (n : ℕ) (a : Answer) : Type 0 where
  pub may : enabled w e ≡ true
  pub is : IsAnswered w (outcome w e) (maker e) h n a

on_records : (w : WorldState) (e : Event) → enabled w e ≡ true → event_records w e ≡ records.Event e ∷ (outcome w e).records
unfolding event_records
on_records w e may = rw may refl

off_records : (w : WorldState) (e : Event) → enabled w e ≡ false → event_records w e ≡ []
unfolding event_records
off_records w e off = rw off refl

told_if : (w : WorldState) (e : Event) (h : HartNo) (n : ℕ) (a : Answer) (t : Bool) → enabled w e ≡ t → In (records.Ans h n a) (event_records w e) → IsTold w e h n a
told_if w e h n a true may here = elim (subst (λ (rs : List Record). In (records.Ans h n a) rs) (on_records w e may) here) [
  | inl same ↦ absurd (false≢true (ap is_answer same))
  | inr k ↦ record { may = may; is = outcome_answer w e h n a k }
]
told_if w e h n a false off here = absurd (subst (λ (rs : List Record). In (records.Ans h n a) rs) (off_records w e off) here)

pub told : (w : WorldState) (e : Event) (h : HartNo) (n : ℕ) (a : Answer) → In (records.Ans h n a) (event_records w e) → IsTold w e h n a
told w e h n a here = told_if w e h n a (enabled w e) refl here
