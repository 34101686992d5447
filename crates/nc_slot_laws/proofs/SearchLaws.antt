-- Each answer that no slot was found stands behind a miss of every word.
use Rattle.std.proofs.Common.{◌≡◌, ℕ, ◌+◌, ◌<◌, Bool, true, false, List, [], ◌∷◌, ◌++◌, length, inl, inr, refl, sym, ap, subst, ◌∙◌, arith, Option, Some, None}
use Rattle.std.specs.Prelude.{◌==◌, ◌≢◌, not, is_none, is_some, if◌then◌else◌, slice_set}
use Rattle.std.specs.List.{list_any}
use Rattle.std.proofs.lemmas.Bool.{false≢true, and_parts, cases_eq, cases_lt, or_from}
use Rattle.std.proofs.lemmas.Bool.Decides.{nat_tests}
use Rattle.std.proofs.lemmas.List.{append-nil, append_assoc, get_or-set_same, get_or-set_other, get_or_past}
use Rattle.std.proofs.lemmas.List.Elements.{All-head, All-tail}
use Rattle.std.proofs.lemmas.List.Folds.{list_any-append}
use Rattle.nc_num.specs.declared.names.HartNo.{HartNo}
use Rattle.nc_queue.specs.declared.entry.Entry.{Entry}
use Rattle.nc_queue.specs.declared.entry.Entry.TheVariants as entries
use Rattle.nc_slots.specs.SlotWords.{holder_of, answer_to, tried}
use Rattle.nc_model.specs.declared.owners.Access.TheVariants.{Read, Write}
use Rattle.nc_model.specs.declared.touches.Touch.{Touch}
use Rattle.nc_scen.specs.Events.{IsThere}
use Rattle.nc_scen.specs.declared.events.Event.{Event}
use Rattle.nc_scen.specs.declared.events.Event.TheVariants as events
use Rattle.nc_scen.specs.declared.scenario.Scenario.{Scenario}
use Rattle.nc_rules.specs.declared.answers.Answer.{Answer}
use Rattle.nc_rules.specs.declared.records.Record.{Record}
use Rattle.nc_rules.specs.declared.records.Record.TheVariants as records
use Rattle.nc_rules.specs.declared.steps.Next.{Next}
use Rattle.nc_rules.specs.declared.steps.Next.TheVariants as nexts
use Rattle.nc_rules.specs.declared.steps.Phase.TheVariants.{Steps}
use Rattle.nc_rules.specs.declared.steps.Seen.TheVariants.{Nothing, Control}
use Rattle.nc_rules.specs.Machine.{MachineState, grantee_of}
use Rattle.nc_rules.specs.Calls.{issue_next, issue_answer, leaving, drain_next, fill_next, fill_answer, evict_next, evict_answer, chan_read_next, chan_read_step, chan_write_next, chan_write_step, control_of, claim_next, take_next}
use Rattle.nc_rules.specs.Driver.{DriverState, Went, next_of, searched, searching, is_script, waits_for, started, told, done, lent}
use Rattle.nc_rules.specs.Events.{enabled, may_go_on, is_out}
use Rattle.nc_rules.specs.Flat.{AreThere}
use Rattle.nc_rules.specs.Next.{touched_by, after_outcome, counted, next, event_records}
use Rattle.nc_rules.specs.Outcomes.{Outcome, goes, runs, seen_of, claim_seen, got_word, told_slots, step_outcome, start_outcome, op_outcome, claim_outcome, poll_outcome, take_outcome, try_outcome, told_outcome, at_word, leaves, drain_outcome, outcome}
use Rattle.nc_rules.specs.Records.{touch_records, op_records, drain_records, answer_records, read_records, write_records, try_records, told_records, told_answer, owner_records, back_records, answered}
use Rattle.nc_rules.specs.Run as run
use Rattle.nc_rules.specs.Start.{first_driver}
use Rattle.nc_rules.specs.EventTouches.{issue_touch, poll_touch, drain_touch, transaction_touch}
use Rattle.nc_rules.specs.World.{WorldState, no_driver, driver_of, with_moves, hart, start}
use Rattle.nc_holds.proofs.calls.Told.{slot_there}
use Rattle.nc_holds.proofs.events.Given.{IsEvent}
use Rattle.nc_holds.proofs.events.Holds.{next_is, next_same}
use Rattle.nc_flatness.specs.Flatness.{IsWorldOf}
use Rattle.nc_flatness.proofs.worlds.Worlds.{worlds_start, worlds_stay, event_now, driver_start}
use Rattle.nc_counts.proofs.Plain.{plain_op, plain_drain, plain_answer, plain_read, plain_write, plain_backs}
use Rattle.nc_slot_laws.specs.Looks.{Look, look_in, look_of, looks, is_step, is_look, looks_since, last_event, is_noslot, misses, EachIsSearched}
use Rattle.nc_slot_laws.proofs.LookLists.{is_answer, AreQuiet, plain_quiet, touch_quiet, owners_quiet, quiet_append, quiet_since, quiet_looks, quiet_last, quiet_answers, since_append, last_append, looks_append, last_later, look_later, front_looks, EndsIn, ends_nil, ends_more, last_misses, since_last, ends_on, SplitBy, in_first, in_second, split, last_answer}
use Rattle.nc_slot_laws.proofs.Refusing.{noslot_in}
use Rattle.nc_slot_laws.proofs.Searching.{IsStart, steps_first, start_is, done_is, got_is, missed_is, lent_is}

-- ---- a hart, what it has seen, and its driver

-- in a search the looks since the last step end in a miss of each word before the one that is tried next
abbrev HasSeen : HartNo → List Look → DriverState → Type 0
HasSeen g seen d = (k : ℕ) → searching d ≡ Some k → EndsIn seen (misses g k)

-- what stands before an answer that no slot was found, of such an event
record Found (g : HartNo) (slots : ℕ) (seen : List Look) (before : List Record) : Type 0 where
  since : EndsIn (looks_since g seen before) (misses g slots)
  event : slots ≡ 0 → last_event None before ≡ Some (events.Issue g)
  look : 0 < slots → is_look g (last_event None before) ≡ true

-- through an event with these records, behind which the hart's driver is this
record Kept (g : HartNo) (slots : ℕ) (seen : List Look) (rs : List Record) (d : DriverState) : Type 0 where
  goes : HasSeen g (looks_since g seen rs) d
  none : slots ≡ 0 → looks g rs ≡ []
  answers : (op : ℕ) (a : Answer) (before behind : List Record) → rs ≡ before ++ records.Ans g op a ∷ behind → is_noslot a ≡ true → Found g slots seen before

-- ---- records of an outcome

-- what is seen when an event begins
abbrev at_first : HartNo → List Look → Event → List Look
at_first g seen e = if is_step g (Some e) then [] else seen

first_by : (t : Bool) (seen : List Look) → (if t then [] else seen ++ []) ≡ (if t then [] else seen)
first_by true seen = refl
first_by false seen = append-nil seen

-- the records that an event has before it tells what is moved
record Middle (g : HartNo) (slots : ℕ) (base mid : List Look) (rs : List Record) : Type 0 where
  since : looks_since g base rs ≡ mid
  none : slots ≡ 0 → looks g rs ≡ []
  last : (e : Option Event) → last_event e rs ≡ e
  answers : list_any is_answer rs ≡ false

quiet_middle : (g : HartNo) (slots : ℕ) (base : List Look) (rs : List Record) → AreQuiet rs → Middle g slots base base rs
quiet_middle g slots base rs quiet = record {
  since = quiet_since g base rs quiet;
  none = λ z. quiet_looks g rs quiet;
  last = λ e. quiet_last e rs quiet;
  answers = quiet_answers rs quiet;
}

middle_join : (g : HartNo) (slots : ℕ) (a b c : List Look) (rs ss : List Record) → Middle g slots a b rs → Middle g slots b c ss → Middle g slots a c (rs ++ ss)
middle_join g slots a b c rs ss x y = record {
  since = since_append g a rs ss ∙ ap (λ (ls : List Look). looks_since g ls ss) x.since ∙ y.since;
  none = λ z. looks_append g rs ss ∙ (rw (x.none z, y.none z) refl);
  last = λ e. last_append e rs ss ∙ ap (λ (o : Option Event). last_event o ss) (x.last e) ∙ y.last e;
  answers = any_join x.answers y.answers;
}
  where
    any_join : list_any is_answer rs ≡ false → list_any is_answer ss ≡ false → list_any is_answer (rs ++ ss) ≡ false
    any_join p q = list_any-append is_answer rs ss ∙ or_from (list_any is_answer rs) (list_any is_answer ss) p q

-- with the event in prefix
record Begun (g : HartNo) (slots : ℕ) (seen mid : List Look) (e : Event) (rs : List Record) : Type 0 where
  since : looks_since g seen (records.Event e ∷ rs) ≡ mid
  none : slots ≡ 0 → looks g (records.Event e ∷ rs) ≡ []
  last : last_event None (records.Event e ∷ rs) ≡ Some e
  answers : list_any is_answer (records.Event e ∷ rs) ≡ false

begun : (g : HartNo) (slots : ℕ) (seen mid : List Look) (e : Event) (rs : List Record) → Middle g slots (at_first g seen e) mid rs → Begun g slots seen mid e rs
begun g slots seen mid e rs m = record {
  since = ap (λ (ls : List Look). looks_since g ls rs) (first_by (is_step g (Some e)) seen) ∙ m.since;
  none = λ z. m.none z;
  last = m.last (Some e);
  answers = m.answers;
}

answered_since : (g h : HartNo) (op : ℕ) (o : Option Answer) (seen : List Look) → looks_since g seen (answered h op o) ≡ seen
answered_since g h op None seen = refl
answered_since g h op (Some a) seen = append-nil seen

answered_looks : (g h : HartNo) (op : ℕ) (o : Option Answer) → looks g (answered h op o) ≡ []
answered_looks g h op None = refl
answered_looks g h op (Some a) = refl

-- ---- a driver goes on

-- the event of such an answer
record IsOf (g : HartNo) (slots : ℕ) (e : Event) : Type 0 where
  start : slots ≡ 0 → e ≡ events.Issue g
  look : 0 < slots → is_look g (Some e) ≡ true

record Going (g : HartNo) (slots : ℕ) (mid : List Look) (e : Event) (h : HartNo) (went : Went) (d : DriverState) : Type 0 where
  goes : HasSeen g mid d
  noslot : h ≡ g → noslot_in went.moves.answer ≡ true → EndsIn mid (misses g slots) × IsOf g slots e

goes_kept : (w : WorldState) (g : HartNo) (slots : ℕ) (seen mid : List Look) (e : Event) (h : HartNo) (machine : MachineState) (went : Went) (now : List (Option HartNo)) (touch : Option Touch) (rs : List Record) (d : DriverState)
    → Middle g slots (at_first g seen e) mid rs → Going g slots mid e h went d → Kept g slots seen (records.Event e ∷ (goes w h machine went now touch rs).records) d
goes_kept w g slots seen mid e h machine went now touch rs d m go =
    let op = (driver_of w h.0).op in
    let owners = owner_records went.moves.transfers in
    let backs = back_records h went.moves.backs in
    let answer = answered h op went.moves.answer in
    let base = at_first g seen e in
    let touches = touch_records touch in
    let prefix : List Record = touches ++ rs ++ (owners ++ backs) in
    let all = middle_join g slots base mid mid (touches ++ rs) (owners ++ backs) (middle_join g slots base base mid touches rs (quiet_middle g slots base touches (touch_quiet touch)) m)
    (quiet_middle g slots mid (owners ++ backs) (quiet_append owners backs (owners_quiet went.moves.transfers) (plain_quiet backs (plain_backs h went.moves.backs)))) in
    let b : Begun g slots seen mid e prefix = begun g slots seen mid e prefix all in
    let is : touches ++ rs ++ (owners ++ backs ++ answer) ≡ prefix ++ answer = sym (append_assoc (touches ++ rs) (owners ++ backs) answer) in
    subst (λ (ss : List Record). Kept g slots seen (records.Event e ∷ ss) d) (sym is)
    (record {
      goes = subst (λ (ls : List Look). HasSeen g ls d) (sym (since_append g seen (records.Event e ∷ prefix) answer ∙ answered_since g h op went.moves.answer (looks_since g seen (records.Event e ∷ prefix)) ∙ b.since)) go.goes;
      none = λ z. looks_append g (records.Event e ∷ prefix) answer ∙ (rw (b.none z, answered_looks g h op went.moves.answer) refl);
      answers = λ n a before behind at un.
          let l = last_answer (records.Event e ∷ prefix) before behind h g op n went.moves.answer a b.answers at in
          let f = go.noslot l.hart (ap noslot_in l.is ∙ un) in
          found before l.prefix b f;
    })
  where
    found : {prefix : List Record} (before : List Record) → before ≡ records.Event e ∷ prefix → Begun g slots seen mid e prefix → EndsIn mid (misses g slots) × IsOf g slots e → Found g slots seen before
    found {prefix} before same b f =
        subst (λ (ss : List Record). Found g slots seen ss) (sym same)
        (record {
          since = subst (λ (ls : List Look). EndsIn ls (misses g slots)) (sym b.since) f.0;
          event = λ z. b.last ∙ ap (λ (x : Event). Some x) (f.1.start z);
          look = λ some. ap (is_look g) b.last ∙ f.1.look some;
        })

-- ---- the machine alone goes on

no_answer : (rs before behind : List Record) (g : HartNo) (op : ℕ) (a : Answer) → list_any is_answer rs ≡ false → rs ≡ before ++ records.Ans g op a ∷ behind → ⊥
no_answer rs before behind g op a none at =
    let l = last_answer rs before behind g g 0 op None a none (append-nil rs ∙ at) in
    absurd (off l.is)
  where
    off : ◌≡◌ {A = Option Answer} None (Some a) → ⊥
    off e = cc

runs_kept : (w : WorldState) (g : HartNo) (slots : ℕ) (seen : List Look) (e : Event) (machine : MachineState) (touch : Option Touch) (rs : List Record) (d : DriverState) → is_step g (Some e) ≡ false → AreQuiet rs → HasSeen g seen d
    → Kept g slots seen (records.Event e ∷ (runs w machine touch rs).records) d
runs_kept w g slots seen e machine touch rs d off quiet has =
    let base : at_first g seen e ≡ seen = rw off refl in
    let all = quiet_middle g slots (at_first g seen e) (touch_records touch ++ rs) (quiet_append (touch_records touch) rs (touch_quiet touch) quiet) in
    let b = begun g slots seen (at_first g seen e) e (touch_records touch ++ rs) all in
    record {
      goes = subst (λ (ls : List Look). HasSeen g ls d) (sym (b.since ∙ base)) has;
      none = b.none;
      answers = λ op a before behind at un. absurd (no_answer (records.Event e ∷ (touch_records touch ++ rs)) before behind g op a b.answers at);
    }

-- ---- whose hart it is

same_hart : (h g : HartNo) → g.0 ≡ h.0 → h ≡ g
same_hart h g e = λ i. record { 0 = sym e i }

is_mine : (h g : HartNo) → g.0 ≡ h.0 → (h.0 == g.0) ≡ true
is_mine h g e = grind (arith, nat_tests)

not_mine : (h g : HartNo) → g.0 ≢ h.0 → (h.0 == g.0) ≡ false
not_mine h g ne = grind (arith, nat_tests)

-- the driver of hart g, where that of hart h goes on to this one
abbrev driver_by : WorldState → HartNo → Went → HartNo → DriverState
driver_by w h went g = driver_of (record w { drivers = slice_set w.drivers h.0 went.driver }) g.0

driver_same : (w : WorldState) (h g : HartNo) (went : Went) → h.0 < length w.drivers → g.0 ≡ h.0 → driver_by w h went g ≡ went.driver
driver_same w h g went lt e = ap (λ (n : ℕ). driver_of (record w { drivers = slice_set w.drivers h.0 went.driver }) n) e ∙ get_or-set_same w.drivers h.0 went.driver no_driver lt

driver_other : (w : WorldState) (h g : HartNo) (went : Went) → g.0 ≢ h.0 → driver_by w h went g ≡ driver_of w g.0
driver_other w h g went ne = get_or-set_other w.drivers h.0 g.0 went.driver no_driver ne

-- ---- a step

record Now (sc : Scenario) (w : WorldState) (g : HartNo) (seen : List Look) : Type 0 where
  is : IsWorldOf sc w
  has : HasSeen g seen (driver_of w g.0)

slots_are : (sc : Scenario) (w : WorldState) (h : HartNo) → IsWorldOf sc w → h.0 < length w.machine.harts → (driver_of w h.0).fixed.slots ≡ sc.slots
slots_are sc w h is lt = rw (is.fixed h.0 (omega (arith, lt, is.of_scenario.harts))) refl

step_going : (sc : Scenario) (w : WorldState) (g h : HartNo) (seen : List Look) (went : Went) → Now sc w g seen → h.0 < length w.machine.harts → IsStart (driver_of w h.0) went
    → Going g sc.slots (at_first g seen (events.Issue h)) (events.Issue h) h went (driver_by w h went g)
step_going sc w g h seen went now lt call = elim (cases_eq g.0 h.0) [
  | inl same ↦
      let first : at_first g seen (events.Issue h) ≡ [] = rw (is_mine h g same) refl in
      subst (λ (ls : List Look). Going g sc.slots ls (events.Issue h) h went (driver_by w h went g)) (sym first)
      (subst (λ (d : DriverState). Going g sc.slots [] (events.Issue h) h went d) (sym (driver_same w h g went (omega (arith, lt, now.is.holds.drivers)) same))
      (record {
        goes = λ k at. none k (call.first.at k at);
        noslot = λ mine un.
            let zero_is : sc.slots ≡ 0 = sym (slots_are sc w h now.is lt) ∙ call.answer un in
            (none sc.slots zero_is, record { start = λ z. ap (λ (x : HartNo). events.Issue x) mine; look = λ some. absurd (omega (arith, zero_is, some)) });
      }))
  | inr ne ↦
      let first : at_first g seen (events.Issue h) ≡ seen = rw (not_mine h g ne) refl in
      subst (λ (ls : List Look). Going g sc.slots ls (events.Issue h) h went (driver_by w h went g)) (sym first)
      (subst (λ (d : DriverState). Going g sc.slots seen (events.Issue h) h went d) (sym (driver_other w h g went ne))
      (record { goes = now.has; noslot = λ mine un. absurd (ne (sym (ap (λ (x : HartNo). x.0) mine))) }))
]
  where
    none : (k : ℕ) → k ≡ 0 → EndsIn [] (misses g k)
    none k e = subst (λ (n : ℕ). EndsIn [] (misses g n)) (sym e) (ends_nil [])

step_kept : (sc : Scenario) (w : WorldState) (g h : HartNo) (seen : List Look) (machine : MachineState) (went : Went) (touch : Option Touch) (rs : List Record) → Now sc w g seen → h.0 < length w.machine.harts → IsStart (driver_of w h.0) went → AreQuiet rs
    → Kept g sc.slots seen (records.Event (events.Issue h) ∷ (goes w h machine went w.slots touch rs).records) (driver_by w h went g)
step_kept sc w g h seen machine went touch rs now lt call quiet =
    goes_kept w g sc.slots seen (at_first g seen (events.Issue h)) (events.Issue h) h machine went w.slots touch rs (driver_by w h went g)
    (quiet_middle g sc.slots (at_first g seen (events.Issue h)) rs quiet) (step_going sc w g h seen went now lt call)

no_search : (d : DriverState) (next : Next) → next_of d ≡ next → searched next ≡ None → searching d ≡ None
unfolding searching
no_search d next e none = ap searched e ∙ none

-- an outcome, by hart g's driver behind it
abbrev KeptBy : Scenario → WorldState → HartNo → List Look → Event → Outcome → Type 0
KeptBy sc w g seen e o = Kept g sc.slots seen (records.Event e ∷ o.records) (driver_of (record w { drivers = o.drivers }) g.0)

issue_by : (sc : Scenario) (w : WorldState) (g h : HartNo) (seen : List Look) (next : Next) → Now sc w g seen → h.0 < length w.machine.harts → next_of (driver_of w h.0) ≡ next → may_go_on w h next ≡ true → KeptBy sc w g seen (events.Issue h) (step_outcome w h next)
unfolding step_outcome start_outcome op_outcome claim_outcome poll_outcome take_outcome
issue_by sc w g h seen nexts.End now lt e may = absurd (false≢true may)
issue_by sc w g h seen (nexts.Search k) now lt e may = absurd (false≢true may)
issue_by sc w g h seen nexts.Start now lt e may =
    step_kept sc w g h seen w.machine (started (driver_of w h.0) w.owners w.pages) None [] now lt (start_is (driver_of w h.0) w.owners w.pages (no_search (driver_of w h.0) nexts.Start e refl)) tt
issue_by sc w g h seen (nexts.Op op) now lt e may =
    step_kept sc w g h seen (issue_next w.machine h.0 op) (done (driver_of w h.0) (seen_of (issue_answer w.machine h.0 op))) (issue_touch w h (is_script (driver_of w h.0).phase) op) (op_records w.machine h (is_script (driver_of w h.0).phase) op) now lt
    (done_is (driver_of w h.0) (seen_of (issue_answer w.machine h.0 op)) (no_search (driver_of w h.0) (nexts.Op op) e refl)) (plain_quiet (op_records w.machine h (is_script (driver_of w h.0).phase) op) (plain_op w.machine h (is_script (driver_of w h.0).phase) op))
issue_by sc w g h seen (nexts.Claim chan) now lt e may =
    step_kept sc w g h seen (claim_next w.machine h chan.0) (done (driver_of w h.0) (claim_seen (grantee_of w.machine chan.0))) None [] now lt
    (done_is (driver_of w h.0) (claim_seen (grantee_of w.machine chan.0)) (no_search (driver_of w h.0) (nexts.Claim chan) e refl)) tt
issue_by sc w g h seen (nexts.Poll chan) now lt e may =
    step_kept sc w g h seen w.machine (done (driver_of w h.0) (Control (control_of w.machine chan.0))) (poll_touch w h chan) [] now lt
    (done_is (driver_of w h.0) (Control (control_of w.machine chan.0)) (no_search (driver_of w h.0) (nexts.Poll chan) e refl)) tt
issue_by sc w g h seen (nexts.Take buf) now lt e may =
    step_kept sc w g h seen (take_next w.machine h.0 buf) (done (driver_of w h.0) Nothing) None [] now lt
    (done_is (driver_of w h.0) Nothing (no_search (driver_of w h.0) (nexts.Take buf) e refl)) tt

-- ---- a look

-- hart h's look at word k, which is got or not
abbrev look : HartNo → ℕ → Bool → Look
look h k got = record { hart = h; word = k; missed = not got }

record IsLook (h : HartNo) (k : ℕ) (got : Bool) (e : Event) (r : Record) : Type 0 where
  step : (g : HartNo) → is_step g (Some e) ≡ false
  event : (g : HartNo) → is_look g (Some e) ≡ (h.0 == g.0)
  look_is : look_in r ≡ Some (look h k got)
  last : (x : Option Event) → last_event x (r ∷ []) ≡ x
  answer : list_any is_answer (r ∷ []) ≡ false
  since : (g : HartNo) (seen : List Look) → looks_since g seen (r ∷ []) ≡ seen ++ look_of g (look_in r)

look_mine : (h g : HartNo) (l : Look) → l.hart ≡ h → g.0 ≡ h.0 → look_of g (Some l) ≡ l ∷ []
look_mine h g l e same = rw (e, is_mine h g same) refl

look_other : (h g : HartNo) (l : Look) → l.hart ≡ h → g.0 ≢ h.0 → look_of g (Some l) ≡ []
look_other h g l e ne = rw (e, not_mine h g ne) refl

look_middle : (sc : Scenario) (w : WorldState) (g h : HartNo) (seen mid : List Look) (k : ℕ) (got : Bool) (e : Event) (r : Record) → IsLook h k got e r → k < sc.slots → seen ++ look_of g (Some (look h k got)) ≡ mid → Middle g sc.slots (at_first g seen e) mid (r ∷ [])
look_middle sc w g h seen mid k got e r is lt same =
    let first : at_first g seen e ≡ seen = rw (is.step g) refl in
    record {
      since = ap (λ (ls : List Look). looks_since g ls (r ∷ [])) first ∙ is.since g seen ∙ ap (λ (o : Option Look). seen ++ look_of g o) is.look_is ∙ same;
      none = λ z. absurd (omega (arith, lt, z));
      last = is.last;
      answers = is.answer;
    }

missed_going : (sc : Scenario) (w : WorldState) (g h : HartNo) (seen : List Look) (k : ℕ) (e : Event) → ((x : HartNo) → is_look x (Some e) ≡ (h.0 == x.0)) → Now sc w g seen → h.0 < length w.machine.harts → searching (driver_of w h.0) ≡ Some k → k < sc.slots → g.0 ≡ h.0
    → Going g sc.slots (seen ++ look h k false ∷ []) e h (told (driver_of w h.0) false) (told (driver_of w h.0) false).driver
missed_going sc w g h seen k e event now lt at few same =
    let m = missed_is (driver_of w h.0) k at in
    let mine : h ≡ g = same_hart h g same in
    let before : EndsIn seen (misses g k) = now.has k (ap (λ (n : ℕ). searching (driver_of w n)) same ∙ at) in
    let ends : EndsIn (seen ++ look h k false ∷ []) (misses g (k + 1)) = subst (λ (x : HartNo). EndsIn (seen ++ look x k false ∷ []) (misses g (k + 1))) (sym mine) (ends_more g k seen before) in
    record {
      goes = λ j is. subst (λ (n : ℕ). EndsIn (seen ++ look h k false ∷ []) (misses g n)) (sym (m.next j is)) ends;
      noslot = λ _ un.
          let all : k + 1 ≡ sc.slots = omega (arith, m.answer un, slots_are sc w h now.is lt, few) in
          (subst (λ (n : ℕ). EndsIn (seen ++ look h k false ∷ []) (misses g n)) all ends, record { start = λ z. absurd (omega (arith, z, few)); look = λ some. event g ∙ is_mine h g same });
    }

got_going : (sc : Scenario) (w : WorldState) (g h : HartNo) (seen : List Look) (k : ℕ) (e : Event) → searching (driver_of w h.0) ≡ Some k
    → Going g sc.slots (seen ++ look h k true ∷ []) e h (told (driver_of w h.0) true) (told (driver_of w h.0) true).driver
got_going sc w g h seen k e at =
    let call = got_is (driver_of w h.0) k at in
    record {
      goes = λ j is. subst (λ (n : ℕ). EndsIn (seen ++ look h k true ∷ []) (misses g n)) (sym (call.first.at j is)) (ends_nil (seen ++ look h k true ∷ []));
      noslot = λ _ un. absurd (false≢true (sym call.answer ∙ un));
    }

look_going : (sc : Scenario) (w : WorldState) (g h : HartNo) (seen : List Look) (k : ℕ) (got : Bool) (e : Event) → ((x : HartNo) → is_look x (Some e) ≡ (h.0 == x.0)) → Now sc w g seen → h.0 < length w.machine.harts → searching (driver_of w h.0) ≡ Some k → k < sc.slots → g.0 ≡ h.0
    → Going g sc.slots (seen ++ look h k got ∷ []) e h (told (driver_of w h.0) got) (told (driver_of w h.0) got).driver
look_going sc w g h seen k true e event now lt at few same = got_going sc w g h seen k e at
look_going sc w g h seen k false e event now lt at few same = missed_going sc w g h seen k e event now lt at few same

few_words : (sc : Scenario) (w : WorldState) (h : HartNo) (k : ℕ) → IsWorldOf sc w → h.0 < length w.machine.harts → searching (driver_of w h.0) ≡ Some k → k < sc.slots
few_words sc w h k is lt at =
    subst (λ (n : ℕ). k < n) (slots_are sc w h is lt) (slot_there (length w.machine.cache.ram) (length w.machine.harts) (driver_of w h.0) k (is.holds.each h.0 lt).driver at)

look_kept : (sc : Scenario) (w : WorldState) (g h : HartNo) (seen : List Look) (k : ℕ) (got : Bool) (e : Event) (now : List (Option HartNo)) (r : Record) → Now sc w g seen → h.0 < length w.machine.harts → searching (driver_of w h.0) ≡ Some k → IsLook h k got e r
    → KeptBy sc w g seen e (goes w h w.machine (told (driver_of w h.0) got) now None (r ∷ []))
look_kept sc w g h seen k got e slots r now lt at is =
    let went = told (driver_of w h.0) got in
    let few = few_words sc w h k now.is lt at in
    elim (cases_eq g.0 h.0) [
      | inl same ↦
          let mid = look_middle sc w g h seen (seen ++ look h k got ∷ []) k got e r is few (ap (λ (ls : List Look). seen ++ ls) (look_mine h g (look h k got) refl same)) in
          goes_kept w g sc.slots seen (seen ++ look h k got ∷ []) e h w.machine went slots None (r ∷ []) (driver_by w h went g) mid
          (subst (λ (d : DriverState). Going g sc.slots (seen ++ look h k got ∷ []) e h went d) (sym (driver_same w h g went (omega (arith, lt, now.is.holds.drivers)) same)) (look_going sc w g h seen k got e is.event now lt at few same))
      | inr ne ↦
          let mid = look_middle sc w g h seen seen k got e r is few (ap (λ (ls : List Look). seen ++ ls) (look_other h g (look h k got) refl ne) ∙ append-nil seen) in
          goes_kept w g sc.slots seen seen e h w.machine went slots None (r ∷ []) (driver_by w h went g) mid
          (subst (λ (d : DriverState). Going g sc.slots seen e h went d) (sym (driver_other w h g went ne))
          (record { goes = now.has; noslot = λ mine un. absurd (ne (sym (ap (λ (x : HartNo). x.0) mine))) }))
    ]

try_at : (sc : Scenario) (w : WorldState) (g h : HartNo) (seen : List Look) (k : ℕ) (o : Option HartNo) (slots : List (Option HartNo)) → Now sc w g seen → h.0 < length w.machine.harts → searching (driver_of w h.0) ≡ Some k
    → KeptBy sc w g seen (events.Try h) (goes w h w.machine (told (driver_of w h.0) (is_none o)) slots None (try_records h k o))
try_at sc w g h seen k None slots now lt at =
    look_kept sc w g h seen k true (events.Try h) slots (records.Try h k (answer_to None)) now lt at
    (record { step = λ g. refl; event = λ g. refl; look_is = refl; last = λ x. refl; answer = refl; since = λ g seen. refl })
try_at sc w g h seen k (Some x) slots now lt at =
    look_kept sc w g h seen k false (events.Try h) slots (records.Try h k (answer_to (Some x))) now lt at
    (record { step = λ g. refl; event = λ g. refl; look_is = refl; last = λ x. refl; answer = refl; since = λ g seen. refl })

told_at : (sc : Scenario) (w : WorldState) (g h : HartNo) (seen : List Look) (k : ℕ) (got : Bool) (o : Option HartNo) (slots : List (Option HartNo)) → Now sc w g seen → h.0 < length w.machine.harts → searching (driver_of w h.0) ≡ Some k
    → KeptBy sc w g seen (events.Told h got) (goes w h w.machine (told (driver_of w h.0) (got_word got o)) slots None (told_records h k got o))
told_at sc w g h seen k true None slots now lt at =
    look_kept sc w g h seen k true (events.Told h true) slots (records.Told h k (told_answer true None)) now lt at
    (record { step = λ g. refl; event = λ g. refl; look_is = refl; last = λ x. refl; answer = refl; since = λ g seen. refl })
told_at sc w g h seen k true (Some x) slots now lt at =
    look_kept sc w g h seen k false (events.Told h true) slots (records.Told h k (told_answer true (Some x))) now lt at
    (record { step = λ g. refl; event = λ g. refl; look_is = refl; last = λ x. refl; answer = refl; since = λ g seen. refl })
told_at sc w g h seen k false o slots now lt at =
    look_kept sc w g h seen k false (events.Told h false) slots (records.Told h k (told_answer false o)) now lt at
    (record { step = λ g. refl; event = λ g. refl; look_is = refl; last = λ x. refl; answer = refl; since = λ g seen. refl })

word_kept : (sc : Scenario) (w : WorldState) (g h : HartNo) (seen : List Look) (e : Event) (f : ℕ → Outcome) (o : Option ℕ) → searching (driver_of w h.0) ≡ o → is_some o ≡ true → ((k : ℕ) → searching (driver_of w h.0) ≡ Some k → KeptBy sc w g seen e (f k)) → KeptBy sc w g seen e (at_word w f o)
word_kept sc w g h seen e f None at may each = absurd (false≢true may)
word_kept sc w g h seen e f (Some k) at may each = each k at

-- ---- a drain

token_kept : (sc : Scenario) (w : WorldState) (g h : HartNo) (seen : List Look) (i : ℕ) (machine : MachineState) (went : Went) (touch : Option Touch) (rs : List Record) → Now sc w g seen → h.0 < length w.machine.harts
    → ((k : ℕ) → searching went.driver ≡ Some k → searching (driver_of w h.0) ≡ Some k) → noslot_in went.moves.answer ≡ false → AreQuiet rs → KeptBy sc w g seen (events.Drain h i) (goes w h machine went w.slots touch rs)
token_kept sc w g h seen i machine went touch rs now lt back none quiet =
    goes_kept w g sc.slots seen seen (events.Drain h i) h machine went w.slots touch rs (driver_by w h went g) (quiet_middle g sc.slots seen rs quiet)
    (record { goes = has; noslot = λ mine un. absurd (false≢true (sym none ∙ un)) })
  where
    has : HasSeen g seen (driver_by w h went g)
    has k at = elim (cases_eq g.0 h.0) [
      | inl same ↦
          let is : searching went.driver ≡ Some k = ap searching (sym (driver_same w h g went (omega (arith, lt, now.is.holds.drivers)) same)) ∙ at in
          now.has k (ap (λ (n : ℕ). searching (driver_of w n)) same ∙ back k is)
      | inr ne ↦ now.has k (ap searching (sym (driver_other w h g went ne)) ∙ at)
    ]

leaves_kept : (sc : Scenario) (w : WorldState) (g h : HartNo) (seen : List Look) (i : ℕ) (machine : MachineState) (touch : Option Touch) (rs : List Record) (e : Entry) → Now sc w g seen → h.0 < length w.machine.harts → AreQuiet rs → KeptBy sc w g seen (events.Drain h i) (leaves w h machine touch rs e)
leaves_kept sc w g h seen i machine touch rs (entries.Lend label first count) now lt quiet =
    let t = lent_is (driver_of w h.0) label first in
    token_kept sc w g h seen i machine (lent (driver_of w h.0) label first) touch rs now lt t.same t.answer quiet
leaves_kept sc w g h seen i machine touch rs (entries.Store span bytes kind) now lt quiet = runs_kept w g sc.slots seen (events.Drain h i) machine touch rs (driver_of w g.0) refl quiet now.has
leaves_kept sc w g h seen i machine touch rs (entries.Cbo block op) now lt quiet = runs_kept w g sc.slots seen (events.Drain h i) machine touch rs (driver_of w g.0) refl quiet now.has
leaves_kept sc w g h seen i machine touch rs (entries.Reg chan off width value) now lt quiet = runs_kept w g sc.slots seen (events.Drain h i) machine touch rs (driver_of w g.0) refl quiet now.has
leaves_kept sc w g h seen i machine touch rs (entries.Mail buf to) now lt quiet = runs_kept w g sc.slots seen (events.Drain h i) machine touch rs (driver_of w g.0) refl quiet now.has
leaves_kept sc w g h seen i machine touch rs (entries.Mark pred succ) now lt quiet = runs_kept w g sc.slots seen (events.Drain h i) machine touch rs (driver_of w g.0) refl quiet now.has

drain_kept : (sc : Scenario) (w : WorldState) (g h : HartNo) (seen : List Look) (i : ℕ) (o : Option Entry) → Now sc w g seen → h.0 < length w.machine.harts → KeptBy sc w g seen (events.Drain h i) (drain_outcome w h i o)
unfolding drain_outcome
drain_kept sc w g h seen i None now lt = runs_kept w g sc.slots seen (events.Drain h i) w.machine None [] (driver_of w g.0) refl tt now.has
drain_kept sc w g h seen i (Some e) now lt = leaves_kept sc w g h seen i (drain_next w.machine h.0 i) (drain_touch w h e) (drain_records w.machine h e) e now lt (plain_quiet (drain_records w.machine h e) (plain_drain w.machine h e))

-- ---- every event

outcome_kept : (sc : Scenario) (w : WorldState) (g : HartNo) (seen : List Look) (e : Event) → Now sc w g seen → IsEvent w e → KeptBy sc w g seen e (outcome w e)
unfolding outcome enabled try_outcome told_outcome
outcome_kept sc w g seen (events.Issue h) now is =
    issue_by sc w g h seen (next_of (driver_of w h.0)) now is.there refl (and_parts (is_out w.machine h (waits_for (driver_of w h.0))) (may_go_on w h (next_of (driver_of w h.0))) is.may).1
outcome_kept sc w g seen (events.Try h) now is =
    word_kept sc w g h seen (events.Try h) (try_outcome w h) (searching (driver_of w h.0)) refl is.may (λ k at. try_at sc w g h seen k (holder_of w.slots k) (tried w.slots h k) now is.there at)
outcome_kept sc w g seen (events.Told h got) now is =
    word_kept sc w g h seen (events.Told h got) (told_outcome w h got) (searching (driver_of w h.0)) refl is.may (λ k at. told_at sc w g h seen k got (holder_of w.slots k) (told_slots got w.slots h k) now is.there at)
outcome_kept sc w g seen (events.Drain h i) now is = drain_kept sc w g h seen i (leaving w.machine h.0 i) now is.there
outcome_kept sc w g seen (events.Fill h b) now is =
    runs_kept w g sc.slots seen (events.Fill h b) (fill_next w.machine h.0 b.0) None (answer_records w.machine.size (fill_answer w.machine h.0 b.0)) (driver_of w g.0) refl (plain_quiet (answer_records w.machine.size (fill_answer w.machine h.0 b.0)) (plain_answer w.machine.size (fill_answer w.machine h.0 b.0))) now.has
outcome_kept sc w g seen (events.Evict h b) now is =
    runs_kept w g sc.slots seen (events.Evict h b) (evict_next w.machine h.0 b.0) None (answer_records w.machine.size (evict_answer w.machine h.0 b.0)) (driver_of w g.0) refl (plain_quiet (answer_records w.machine.size (evict_answer w.machine h.0 b.0)) (plain_answer w.machine.size (evict_answer w.machine h.0 b.0))) now.has
outcome_kept sc w g seen (events.ChanRead chan) now is =
    runs_kept w g sc.slots seen (events.ChanRead chan) (chan_read_next w.machine chan.0) (transaction_touch w chan Read (chan_read_step w.machine chan.0)) (read_records chan (chan_read_step w.machine chan.0)) (driver_of w g.0) refl
    (plain_quiet (read_records chan (chan_read_step w.machine chan.0)) (plain_read chan (chan_read_step w.machine chan.0))) now.has
outcome_kept sc w g seen (events.ChanWrite chan) now is =
    runs_kept w g sc.slots seen (events.ChanWrite chan) (chan_write_next w.machine chan.0) (transaction_touch w chan Write (chan_write_step w.machine chan.0)) (write_records chan (chan_write_step w.machine chan.0)) (driver_of w g.0) refl
    (plain_quiet (write_records chan (chan_write_step w.machine chan.0)) (plain_write chan (chan_write_step w.machine chan.0))) now.has

drivers_after : (w : WorldState) (o : Outcome) → (counted (after_outcome w o)).drivers ≡ o.drivers
drivers_after w o = touched (with_moves (record w { machine = o.machine; drivers = o.drivers; slots = o.slots }) o.moves) o.touch
  where
    touched : (v : WorldState) (t : Option Touch) → (counted (touched_by v t)).drivers ≡ v.drivers
    touched v None = refl
    touched v (Some t) = refl

on_records : (w : WorldState) (e : Event) → enabled w e ≡ true → event_records w e ≡ records.Event e ∷ (outcome w e).records
unfolding event_records
on_records w e may = rw may refl

off_records : (w : WorldState) (e : Event) → enabled w e ≡ false → event_records w e ≡ []
unfolding event_records
off_records w e off = rw off refl

event_if : (sc : Scenario) (w : WorldState) (g : HartNo) (seen : List Look) (e : Event) (t : Bool) → enabled w e ≡ t → Now sc w g seen → IsThere (length sc.harts) sc.block_size sc.ram e → Kept g sc.slots seen (event_records w e) (driver_of (next w e) g.0)
event_if sc w g seen e true may now there =
    let is = event_now sc w e now.is there may in
    let drivers : (next w e).drivers ≡ (outcome w e).drivers = ap (λ (x : WorldState). x.drivers) (next_is w e may) ∙ drivers_after w (outcome w e) in
    subst (λ (rs : List Record). Kept g sc.slots seen rs (driver_of (next w e) g.0)) (sym (on_records w e may))
    (subst (λ (ds : List DriverState). Kept g sc.slots seen (records.Event e ∷ (outcome w e).records) (driver_of (record w { drivers = ds }) g.0)) (sym drivers) (outcome_kept sc w g seen e now is))
event_if sc w g seen e false off now there =
    subst (λ (rs : List Record). Kept g sc.slots seen rs (driver_of (next w e) g.0)) (sym (off_records w e off))
    (subst (λ (x : WorldState). Kept g sc.slots seen [] (driver_of x g.0)) (sym (next_same w e off))
    (record { goes = now.has; none = λ z. refl; answers = λ op a before behind at un. absurd (no_answer [] before behind g op a refl at) }))

event_kept : (sc : Scenario) (w : WorldState) (g : HartNo) (seen : List Look) (e : Event) → Now sc w g seen → IsThere (length sc.harts) sc.block_size sc.ram e → Kept g sc.slots seen (event_records w e) (driver_of (next w e) g.0)
event_kept sc w g seen e now there = event_if sc w g seen e (enabled w e) refl now there

-- ---- runs

record RunKept (g : HartNo) (slots : ℕ) (seen : List Look) (rs : List Record) : Type 0 where
  none : slots ≡ 0 → looks g rs ≡ []
  answers : (op : ℕ) (a : Answer) (before behind : List Record) → rs ≡ before ++ records.Ans g op a ∷ behind → is_noslot a ≡ true → Found g slots seen before

-- what stands before an answer, behind earlier records, the last event among them or theirs
behind_found : (g : HartNo) (slots : ℕ) (seen : List Look) (rs before : List Record) → Found g slots (looks_since g seen rs) before → Found g slots seen (rs ++ before)
behind_found g slots seen rs before f = record {
  since = subst (λ (ls : List Look). EndsIn ls (misses g slots)) (sym (since_append g seen rs before)) f.since;
  event = λ z. last_append None rs before ∙ last_later (last_event None rs) before (events.Issue g) (f.event z);
  look = λ some. ap (is_look g) (last_append None rs before) ∙ look_later g (last_event None rs) before (f.look some);
}

run_kept : (sc : Scenario) (w : WorldState) (g : HartNo) (seen : List Look) (es : List Event) → Now sc w g seen → AreThere sc es → RunKept g sc.slots seen (run.records w es)
unfolding run.records
run_kept sc w g seen [] now there = record { none = λ z. refl; answers = λ op a before behind at un. absurd (no_answer [] before behind g op a refl at) }
run_kept sc w g seen (e ∷ es) now there =
    let here = All-head (IsThere (length sc.harts) sc.block_size sc.ram) e es there in
    let one = event_kept sc w g seen e now here in
    let rest = run_kept sc (next w e) g (looks_since g seen (event_records w e)) es (record { is = worlds_stay sc w e now.is here; has = one.goes }) (All-tail (IsThere (length sc.harts) sc.block_size sc.ram) e es there) in
    record {
      none = λ z. looks_append g (event_records w e) (run.records (next w e) es) ∙ (rw (one.none z, rest.none z) refl);
      answers = λ op a before behind at un. by one rest op a before behind un (split (event_records w e) (run.records (next w e) es) before (records.Ans g op a) behind at);
    }
  where
    by : Kept g sc.slots seen (event_records w e) (driver_of (next w e) g.0) → RunKept g sc.slots (looks_since g seen (event_records w e)) (run.records (next w e) es) → (op : ℕ) (a : Answer) (before behind : List Record) → is_noslot a ≡ true
        → SplitBy (event_records w e) (run.records (next w e) es) before (records.Ans g op a) behind → Found g sc.slots seen before
    by one rest op a before behind un (in_first ws at) = one.answers op a before ws at un
    by one rest op a before behind un (in_second ws at left) = subst (λ (ss : List Record). Found g sc.slots seen ss) (sym at) (behind_found g sc.slots seen (event_records w e) ws (rest.answers op a ws behind left un))

-- ---- the law

first_phase : (sc : Scenario) (me : HartNo) → (first_driver sc me).phase ≡ Steps 0
unfolding first_driver
first_phase sc me = refl

start_phase : (sc : Scenario) (g : ℕ) → IsWorldOf sc (start sc) → (driver_of (start sc) g).phase ≡ Steps 0
start_phase sc g is = elim (cases_lt g (length (start sc).drivers)) [
  | inl lt ↦ ap (λ (d : DriverState). d.phase) (driver_start sc g (omega (arith, lt, is.holds.drivers, is.of_scenario.harts))) ∙ first_phase sc (hart g)
  | inr past ↦ ap (λ (d : DriverState). d.phase) (get_or_past (start sc).drivers g no_driver past)
]

start_seen : (sc : Scenario) (g : HartNo) → IsWorldOf sc (start sc) → HasSeen g [] (driver_of (start sc) g.0)
start_seen sc g is k at =
    subst (λ (n : ℕ). EndsIn [] (misses g n)) (sym ((steps_first (driver_of (start sc) g.0) 0 (start_phase sc g.0 is)).at k at)) (ends_nil [])

pub searched_always : EachIsSearched
searched_always sc es h op a before behind accepted there at un =
    let world = worlds_start sc accepted in
    let run_is = run_kept sc (start sc) h [] es (record { is = world; has = start_seen sc h world }) there in
    let found = run_is.answers op a before behind at un in
    record {
      looked = last_misses h sc.slots (looks h before) (ends_on (looks h before) (looks_since h [] before) (misses h sc.slots) (since_last h [] before) found.since);
      since = last_misses h sc.slots (looks_since h [] before) found.since;
      none = λ z. front_looks h before (records.Ans h op a ∷ behind) (ap (looks h) (sym at) ∙ run_is.none z);
      last = found.look;
      start = found.event;
    }
