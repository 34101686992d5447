-- The events that are still to come, one after another.
use Rattle.std.proofs.Common.{◌≡◌, ℕ, zero, suc, ◌+◌, ◌-◌, ◌<◌, ◌≤◌, Bool, true, false, not, ◌||◌, ◌&&◌, leb, List, [], ◌∷◌, ◌++◌, length, take, drop, Some, None, refl, sym, ap, ◌∙◌, arith}
use Rattle.std.specs.Prelude.{if◌then◌else◌, slice_get, nat_lt, ◌==◌}
use Rattle.std.proofs.lemmas.Bool.{and_parts, leb-true, le-leb}
use Rattle.std.proofs.lemmas.Bool.Decides.{nat_tests}
use Rattle.std.proofs.Math.Seq.{drop-nil, take-nil}
use Rattle.std.proofs.lemmas.List.{drop_all}
use Rattle.rand_pcg.specs.Lcg.{Lcg}
use Rattle.nc_scen.specs.declared.events.Event.{Event}
use Rattle.nc_scen.specs.declared.scenario.Plan.{Plan}
use Rattle.nc_scen.specs.declared.scenario.Plan.TheVariants as plans
use Rattle.nc_scen.specs.declared.scenario.Scenario.{Scenario}
use Rattle.nc_rules.specs.declared.records.Record.{Record}
use Rattle.nc_rules.specs.declared.records.Record.TheVariants as records
use Rattle.nc_rules.specs.World.{WorldState, start}
use Rattle.nc_rules.specs.Events.{enabled}
use Rattle.nc_rules.specs.Next.{next, event_records}
use Rattle.nc_rules.specs.Run as run
use Rattle.nc_rules.specs.Outcomes.{outcome}
use Rattle.nc_rules.specs.Schedule.{Size, size_of, after_words, drawn, draws, round_event, round_len, round_from, round, rounds, finishing, no_event_enabled, is_nothing, sched}
use Rattle.nc_sched.specs.declared.sched.Phase.{Phase}
use Rattle.nc_sched.specs.declared.sched.Phase.TheVariants as phases
use Rattle.nc_sched.specs.Stands.{Stand, listed, first_stand, after_answer, harts_of, round_on, then_rounds, follow, to_come, enter_round, given, next_phase, next_generator}

-- ---- prefixes of lists

take-front : (k : ℕ) (front a b : List Event) → ((j : ℕ) → j ≤ k → take j a ≡ take j b) → take k (front ++ a) ≡ take k (front ++ b)
take-front k [] a b same = same k (omega arith)
take-front zero (x ∷ front) a b same = refl
take-front (suc k) (x ∷ front) a b same = ap (λ es. x ∷ es) (take-front k front a b (λ j le. same j (omega arith)))

-- a prefix that is not empty leaves one event less
take-front-less : (k : ℕ) (front a b : List Event) → 0 < length front → ((j : ℕ) → j < k → take j a ≡ take j b) → take k (front ++ a) ≡ take k (front ++ b)
take-front-less k [] a b some same = absurd (omega (arith, some))
take-front-less zero (x ∷ front) a b some same = refl
take-front-less (suc k) (x ∷ front) a b some same = ap (λ es. x ∷ es) (take-front k front a b (λ j le. same j (omega arith)))

-- ---- a round has events

length-round_from : (harts i n : ℕ) (w : WorldState) → length (round_from harts i n w) ≡ n
unfolding round_from
length-round_from harts i zero w = refl
length-round_from harts i (suc n) w = ap suc (length-round_from harts (i + 1) n (next w (round_event harts w i)))

some-round : (harts : ℕ) (w : WorldState) → 0 < length (round harts w)
some-round harts w = omega (arith, length-round_from harts 0 (round_len harts) w)

-- ---- how many rounds are allowed does not matter beyond the events that are taken

choose-same : (t : Bool) (k : ℕ) (a b : List Event) → take k a ≡ take k b → take k (if t then [] else a) ≡ take k (if t then [] else b)
choose-same true k a b e = refl
choose-same false k a b e = e

choose-more : (t : Bool) (k : ℕ) (a b : List Event) → take k a ≡ take k b → take k (if t then a else []) ≡ take k (if t then b else [])
choose-more true k a b e = e
choose-more false k a b e = refl

rounds-same : (harts n m k : ℕ) (w : WorldState) → k ≤ n → k ≤ m → take k (rounds harts n w) ≡ take k (rounds harts m w)
unfolding rounds
rounds-same harts zero m zero w a b = refl
rounds-same harts zero m (suc k) w a b = absurd (omega arith)
rounds-same harts (suc n) zero zero w a b = refl
rounds-same harts (suc n) zero (suc k) w a b = absurd (omega arith)
rounds-same harts (suc n) (suc m) k w a b =
    let es = round harts w in
    let u = run.after w es in
    take-front-less k es (if no_event_enabled w es then [] else rounds harts n u) (if no_event_enabled w es then [] else rounds harts m u) (some-round harts w)
    (λ j less. choose-same (no_event_enabled w es) j (rounds harts n u) (rounds harts m u) (rounds-same harts n m j u (omega arith) (omega arith)))

finishing-same : (f : Bool) (harts n m k : ℕ) (w : WorldState) → k ≤ n → k ≤ m → take k (finishing f harts n w) ≡ take k (finishing f harts m w)
finishing-same true harts n m k w a b = rounds-same harts n m k w a b
finishing-same false harts n m k w a b = refl

turn : (idle : Bool) (k : ℕ) (a b : List Event) → take k a ≡ take k b → take k (if idle then [] else a) ≡ take k (if not idle then b else [])
turn true k a b e = refl
turn false k a b e = e

-- rounds are a round from its start on
begins : (harts n k : ℕ) (w : WorldState) → k ≤ n → take k (rounds harts n w) ≡ take k (round_on harts n false (round harts w) w)
unfolding rounds round_on
begins harts zero zero w le = refl
begins harts zero (suc k) w le = absurd (omega arith)
begins harts (suc n) k w le =
    let es = round harts w in
    let u = run.after w es in
    take-front-less k es (if no_event_enabled w es then [] else rounds harts n u) (if not (no_event_enabled w es) then rounds harts (suc n) u else []) (some-round harts w)
    (λ j less. turn (no_event_enabled w es) j (rounds harts n u) (rounds harts (suc n) u) (rounds-same harts n (suc n) j u (omega arith) (omega arith)))

-- ---- one element of a list

drop-step : (l : List Event) (i : ℕ) (e : Event) → slice_get l i ≡ Some e → drop i l ≡ e ∷ drop (i + 1) l
drop-step [] i e h = absurd (cc)
drop-step (x ∷ xs) zero e h = let same : x ≡ e = cc in ap (λ y. y ∷ xs) same
drop-step (x ∷ xs) (suc i) e h = let next : suc (i + 1) ≡ suc i + 1 = omega arith in drop-step xs i e h ∙ ap (λ n. e ∷ drop n (x ∷ xs)) next

drop-none : (l : List Event) (i : ℕ) → slice_get l i ≡ None → (drop i l ≡ []) × (length l ≤ i)
drop-none [] i h = (drop-nil i, omega arith)
drop-none (x ∷ xs) zero h = absurd (cc)
drop-none (x ∷ xs) (suc i) h = let p = drop-none xs i h in (p.0, omega (arith, p.1))

-- ---- from a settled phase

-- the whole of a round, from its first event on
whole : (sc : Scenario) (n : ℕ) (g : Lcg) (w : WorldState) → follow sc n (phases.Round 0 false) g w ≡ round_on (harts_of sc) n false (round (harts_of sc) w) w
unfolding follow
whole sc n g w = let all : round_len (harts_of sc) - 0 ≡ round_len (harts_of sc) = omega arith in ap (λ k. round_on (harts_of sc) n false (round_from (harts_of sc) 0 k w) w) all

-- the events from a phase are those from where it settles
settle-if : (sc : Scenario) (n k : ℕ) (p : Phase) (g : Lcg) (w : WorldState) (t : Bool) → k ≤ n → (t ≡ true → follow sc n p g w ≡ rounds (harts_of sc) n w)
    → take k (follow sc n p g w) ≡ take k (follow sc n (if t then phases.Round 0 false else p) g w)
settle-if sc n k p g w true le h = ap (λ (es : List Event). take k es) (h refl) ∙ begins (harts_of sc) n k w le ∙ ap (λ (es : List Event). take k es) (sym (whole sc n g w))
settle-if sc n k p g w false le h = refl

-- past the plan, rounds follow where they are wanted
past-plan : (sc : Scenario) (n : ℕ) (es : List Event) (w : WorldState) → es ≡ [] → sc.finish ≡ true → then_rounds sc n es w ≡ rounds (harts_of sc) n w
unfolding run.after
past-plan sc n es w none wanted =
    ap (λ (fs : List Event). fs ++ finishing sc.finish (harts_of sc) n (run.after w fs)) none ∙ ap (λ (f : Bool). finishing f (harts_of sc) n w) wanted

past-list : (sc : Scenario) (n i : ℕ) (g : Lcg) (w : WorldState) → (leb (length (listed sc.plan)) i && sc.finish) ≡ true → follow sc n (phases.List i) g w ≡ rounds (harts_of sc) n w
unfolding follow
past-list sc n i g w h =
    let p = and_parts (leb (length (listed sc.plan)) i) sc.finish h in
    past-plan sc n (drop i (listed sc.plan)) w (drop_all i (listed sc.plan) (leb-true (length (listed sc.plan)) i p.0)) p.1

no-draws : (k : ℕ) (s : Size) (g : Lcg) (w : WorldState) → k ≡ 0 → draws k s g w ≡ []
unfolding draws
no-draws k s g w e = ap (λ n. draws n s g w) e

past-draws : (sc : Scenario) (n k : ℕ) (g : Lcg) (w : WorldState) → (k == 0 && sc.finish) ≡ true → follow sc n (phases.Drawn k) g w ≡ rounds (harts_of sc) n w
unfolding follow
past-draws sc n k g w h =
    let p = and_parts (k == 0) sc.finish h in
    let none : k ≡ 0 = grind (arith, nat_tests) in
    past-plan sc n (draws k (size_of sc) g w) w (no-draws k (size_of sc) g w none) p.1

no-round : (harts i n : ℕ) (w : WorldState) → n ≡ 0 → round_from harts i n w ≡ []
unfolding round_from
no-round harts i n w e = ap (λ k. round_from harts i k w) e

-- past a round in which an event was done, rounds follow
past-round : (sc : Scenario) (n at : ℕ) (moved : Bool) (g : Lcg) (w : WorldState) → (leb (round_len (harts_of sc)) at && moved) ≡ true → follow sc n (phases.Round at moved) g w ≡ rounds (harts_of sc) n w
unfolding run.after follow round_on
past-round sc n at moved g w h =
    let harts = harts_of sc in
    let p = and_parts (leb (round_len harts) at) moved h in
    let le = leb-true (round_len harts) at p.0 in
    let none = no-round harts at (round_len harts - at) w (omega (arith, le)) in
    ap (λ (es : List Event). round_on harts n moved es w) none ∙ ap (λ (m : Bool). round_on harts n m [] w) p.1

pub settle : (sc : Scenario) (n k : ℕ) (p : Phase) (g : Lcg) (w : WorldState) → k ≤ n → take k (follow sc n p g w) ≡ take k (follow sc n (enter_round sc p) g w)
settle sc n k (phases.List i) g w le = settle-if sc n k (phases.List i) g w (leb (length (listed sc.plan)) i && sc.finish) le (λ h. past-list sc n i g w h)
settle sc n k (phases.Drawn m) g w le = settle-if sc n k (phases.Drawn m) g w (m == 0 && sc.finish) le (λ h. past-draws sc n m g w h)
settle sc n k (phases.Round at moved) g w le = settle-if sc n k (phases.Round at moved) g w (leb (round_len (harts_of sc)) at && moved) le (λ h. past-round sc n at moved g w h)

-- ---- one event

-- whether an event is done
abbrev pub done : WorldState → Event → Bool
done w e = enabled w e

-- an event, and then a plan's rest with its rounds
step-plan : (sc : Scenario) (m : ℕ) (es rest : List Event) (e : Event) (w : WorldState) → es ≡ e ∷ rest
    → take (suc m) (then_rounds sc (suc m) es w) ≡ e ∷ take m (then_rounds sc m rest (next w e))
unfolding run.after
step-plan sc m es rest e w here =
    let u = run.after (next w e) rest in
    ap (λ (fs : List Event). take (suc m) (then_rounds sc (suc m) fs w)) here
    ∙ ap (λ (fs : List Event). e ∷ fs) (take-front m rest (finishing sc.finish (harts_of sc) (suc m) u) (finishing sc.finish (harts_of sc) m u) (λ j le. finishing-same sc.finish (harts_of sc) (suc m) m j u (omega arith) le))

-- an event is done where it has a record
done-by : (t moved : Bool) (e : Event) (rs later : List Record) → (moved || not (is_nothing ((if t then records.Event e ∷ rs else []) ++ later))) ≡ ((moved || t) || not (is_nothing later))
done-by true true e rs later = refl
done-by true false e rs later = refl
done-by false true e rs later = refl
done-by false false e rs later = refl

done-here : (moved : Bool) (w : WorldState) (e : Event) (rest : List Event) → (moved || not (no_event_enabled w (e ∷ rest))) ≡ ((moved || done w e) || not (no_event_enabled (next w e) rest))
unfolding no_event_enabled run.records event_records
done-here moved w e rest = done-by (enabled w e) moved e (outcome w e).records (run.records (next w e) rest)

step-round : (harts m : ℕ) (moved : Bool) (es rest : List Event) (e : Event) (w : WorldState) → es ≡ e ∷ rest
    → take (suc m) (round_on harts (suc m) moved es w) ≡ e ∷ take m (round_on harts m (moved || done w e) rest (next w e))
unfolding run.after round_on
step-round harts m moved es rest e w here =
    let u = run.after (next w e) rest in
    let before = moved || not (no_event_enabled w (e ∷ rest)) in
    let now = (moved || done w e) || not (no_event_enabled (next w e) rest) in
    ap (λ (fs : List Event). take (suc m) (round_on harts (suc m) moved fs w)) here
    ∙ ap (λ (fs : List Event). e ∷ fs) (take-front m rest (if before then rounds harts (suc m) u else []) (if now then rounds harts m u else [])
    (λ j le. ap (λ (t : Bool). take j (if t then rounds harts (suc m) u else [])) (done-here moved w e rest) ∙ choose-more now j (rounds harts (suc m) u) (rounds harts m u) (rounds-same harts (suc m) m j u (omega arith) le)))

is-drawn : (t : Bool) (f e : Event) → (if t then None else Some f) ≡ Some e → (t ≡ false) × (f ≡ e)
is-drawn true f e h = absurd (cc)
is-drawn false f e h = (refl, cc)

draws-more : (k : ℕ) (s : Size) (g : Lcg) (w : WorldState) (e : Event) → drawn w s g ≡ e → draws (suc k) s g w ≡ e ∷ draws k s (after_words g) (next w e)
unfolding draws
draws-more k s g w e h = ap (λ f. f ∷ draws k s (after_words g) (next w f)) h

some-draw : (k : ℕ) (s : Size) (g : Lcg) (w : WorldState) (e : Event) → (if k == 0 then None else Some (drawn w s g)) ≡ Some e
    → draws k s g w ≡ e ∷ draws (k - 1) s (after_words g) (next w e)
some-draw k s g w e h =
    let p = is-drawn (k == 0) (drawn w s g) e h in
    let test = p.0 in
    let some : k ≡ suc (k - 1) = grind (arith, nat_tests) in
    ap (λ n. draws n s g w) some ∙ draws-more (k - 1) s g w e p.1

some-event : (t : Bool) (f e : Event) → (if t then Some f else None) ≡ Some e → (t ≡ true) × (f ≡ e)
some-event true f e h = (refl, cc)
some-event false f e h = absurd (cc)

round-more : (harts i n : ℕ) (w : WorldState) (e : Event) → round_event harts w i ≡ e → round_from harts i (suc n) w ≡ e ∷ round_from harts (i + 1) n (next w e)
unfolding round_from
round-more harts i n w e h = ap (λ f. f ∷ round_from harts (i + 1) n (next w f)) h

some-left : (harts at : ℕ) (w : WorldState) (e : Event) → (if nat_lt at (round_len harts) then Some (round_event harts w at) else None) ≡ Some e
    → round_from harts at (round_len harts - at) w ≡ e ∷ round_from harts (at + 1) (round_len harts - (at + 1)) (next w e)
some-left harts at w e h =
    let p = some-event (nat_lt at (round_len harts)) (round_event harts w at) e h in
    let t = p.0 in
    let less : at < round_len harts = grind (arith, nat_tests) in
    let count : round_len harts - at ≡ suc (round_len harts - (at + 1)) = omega (arith, less) in
    ap (λ n. round_from harts at n w) count ∙ round-more harts at (round_len harts - (at + 1)) w e p.1

pub step : (sc : Scenario) (m : ℕ) (p : Phase) (g : Lcg) (w : WorldState) (e : Event) → given sc p g w ≡ Some e
    → take (suc m) (follow sc (suc m) p g w) ≡ e ∷ take m (follow sc m (after_answer (next_phase p) (done w e)) (next_generator p g) (next w e))
unfolding follow
step sc m (phases.List i) g w e h = step-plan sc m (drop i (listed sc.plan)) (drop (i + 1) (listed sc.plan)) e w (drop-step (listed sc.plan) i e h)
step sc m (phases.Drawn k) g w e h = step-plan sc m (draws k (size_of sc) g w) (draws (k - 1) (size_of sc) (after_words g) (next w e)) e w (some-draw k (size_of sc) g w e h)
step sc m (phases.Round at moved) g w e h =
    step-round (harts_of sc) m moved (round_from (harts_of sc) at (round_len (harts_of sc) - at) w) (round_from (harts_of sc) (at + 1) (round_len (harts_of sc) - (at + 1)) (next w e)) e w (some-left (harts_of sc) at w e h)

-- ---- the end

-- nothing is left of the plan, and no rounds are wanted
end-plan : (sc : Scenario) (n : ℕ) (es : List Event) (w : WorldState) → es ≡ [] → sc.finish ≡ false → then_rounds sc n es w ≡ []
unfolding run.after
end-plan sc n es w none unwanted =
    ap (λ (fs : List Event). fs ++ finishing sc.finish (harts_of sc) n (run.after w fs)) none ∙ ap (λ (f : Bool). finishing f (harts_of sc) n w) unwanted

no-round-event : (sc : Scenario) (g : Lcg) (w : WorldState) → given sc (phases.Round 0 false) g w ≡ None → ⊥
no-round-event sc g w h = grind (arith, nat_tests)

ends-list : (sc : Scenario) (n i : ℕ) (g : Lcg) (w : WorldState) (t : Bool) → (leb (length (listed sc.plan)) i && sc.finish) ≡ t
    → given sc (if t then phases.Round 0 false else phases.List i) g w ≡ None → follow sc n (if t then phases.Round 0 false else phases.List i) g w ≡ []
unfolding follow
ends-list sc n i g w true e h = absurd (no-round-event sc g w h)
ends-list sc n i g w false e h =
    let p = drop-none (listed sc.plan) i h in
    let unwanted : sc.finish ≡ false = ap (λ (b : Bool). b && sc.finish) (sym (le-leb (length (listed sc.plan)) i p.1)) ∙ e in
    end-plan sc n (drop i (listed sc.plan)) w p.0 unwanted

none-drawn : (t : Bool) (e : Event) → (if t then None else Some e) ≡ None → t ≡ true
none-drawn true e h = refl
none-drawn false e h = absurd (cc)

ends-draws : (sc : Scenario) (n k : ℕ) (g : Lcg) (w : WorldState) (t : Bool) → (k == 0 && sc.finish) ≡ t
    → given sc (if t then phases.Round 0 false else phases.Drawn k) g w ≡ None → follow sc n (if t then phases.Round 0 false else phases.Drawn k) g w ≡ []
unfolding follow
ends-draws sc n k g w true e h = absurd (no-round-event sc g w h)
ends-draws sc n k g w false e h =
    let test = none-drawn (k == 0) (drawn w (size_of sc) g) h in
    let none : k ≡ 0 = grind (arith, nat_tests) in
    let unwanted : sc.finish ≡ false = ap (λ (b : Bool). b && sc.finish) (sym test) ∙ e in
    end-plan sc n (draws k (size_of sc) g w) w (no-draws k (size_of sc) g w none) unwanted

none-given : (t : Bool) (e : Event) → (if t then Some e else None) ≡ None → t ≡ false
none-given true e h = absurd (cc)
none-given false e h = refl

ends-round : (sc : Scenario) (n at : ℕ) (moved : Bool) (g : Lcg) (w : WorldState) (t : Bool) → (leb (round_len (harts_of sc)) at && moved) ≡ t
    → given sc (if t then phases.Round 0 false else phases.Round at moved) g w ≡ None → follow sc n (if t then phases.Round 0 false else phases.Round at moved) g w ≡ []
unfolding follow round_on no_event_enabled run.records
ends-round sc n at moved g w true e h = absurd (no-round-event sc g w h)
ends-round sc n at moved g w false e h =
    let harts = harts_of sc in
    let test = none-given (nat_lt at (round_len harts)) (round_event harts w at) h in
    let past : round_len harts ≤ at = grind (arith, nat_tests) in
    let still : moved ≡ false = ap (λ (b : Bool). b && moved) (sym (le-leb (round_len harts) at past)) ∙ e in
    let none = no-round harts at (round_len harts - at) w (omega (arith, past)) in
    ap (λ (es : List Event). round_on harts n moved es w) none ∙ ap (λ (m : Bool). round_on harts n m [] w) still

pub ends : (sc : Scenario) (n : ℕ) (p : Phase) (g : Lcg) (w : WorldState) → given sc (enter_round sc p) g w ≡ None → follow sc n (enter_round sc p) g w ≡ []
ends sc n (phases.List i) g w h = ends-list sc n i g w (leb (length (listed sc.plan)) i && sc.finish) refl h
ends sc n (phases.Drawn k) g w h = ends-draws sc n k g w (k == 0 && sc.finish) refl h
ends sc n (phases.Round at moved) g w h = ends-round sc n at moved g w (leb (round_len (harts_of sc)) at && moved) refl h

-- ---- what the schedule gives

pub to_come-none : (sc : Scenario) (s : Stand) (w : WorldState) (was_done : Bool) → s.left ≡ 0 → to_come sc s w was_done ≡ []
unfolding to_come
to_come-none sc s w was_done e = ap (λ n. take n (follow sc s.left (after_answer s.phase was_done) s.generator w)) e

pub to_come-end : (sc : Scenario) (s : Stand) (w : WorldState) (was_done : Bool) → given sc (enter_round sc (after_answer s.phase was_done)) s.generator w ≡ None → to_come sc s w was_done ≡ []
unfolding to_come
to_come-end sc s w was_done h =
    let p = after_answer s.phase was_done in
    settle sc s.left s.left p s.generator w (omega arith) ∙ ap (λ (es : List Event). take s.left es) (ends sc s.left p s.generator w h) ∙ take-nil s.left

pub to_come-step : (sc : Scenario) (n m : ℕ) (p : Phase) (g : Lcg) (w : WorldState) (was_done : Bool) (e : Event) → n ≡ suc m → given sc (enter_round sc (after_answer p was_done)) g w ≡ Some e
    → to_come sc (record { left = n; phase = p; generator = g }) w was_done
    ≡ e ∷ to_come sc (record { left = m; phase = next_phase (enter_round sc (after_answer p was_done)); generator = next_generator (enter_round sc (after_answer p was_done)) g }) (next w e) (enabled w e)
unfolding to_come
to_come-step sc n m p g w was_done e is h =
    let q = after_answer p was_done in
    settle sc n n q g w (omega arith) ∙ ap (λ k. take k (follow sc k (enter_round sc q) g w)) is ∙ step sc m (enter_round sc q) g w e h

-- at the start all events of the schedule are to come
start-by : (sc : Scenario) (p : Plan) → sc.plan ≡ p → to_come sc (first_stand sc) (start sc) false ≡ sched sc
unfolding to_come sched follow
start-by sc (plans.List es) is = rw is refl
start-by sc (plans.Seeded seed events) is = rw is refl

pub to_come-start : (sc : Scenario) → to_come sc (first_stand sc) (start sc) false ≡ sched sc
to_come-start sc = start-by sc sc.plan refl

-- at the start of finishing rounds as many of their events are to come as may be tried
pub to_come-rounds : (sc : Scenario) (left n : ℕ) (g : Lcg) (w : WorldState) → left ≤ n → to_come sc (record { left = left; phase = phases.Round 0 false; generator = g }) w false ≡ take left (rounds (harts_of sc) n w)
unfolding to_come
to_come-rounds sc left n g w le =
    ap (λ (es : List Event). take left es) (whole sc left g w) ∙ sym (begins (harts_of sc) left left w (omega arith)) ∙ rounds-same (harts_of sc) left n left w (omega arith) le
