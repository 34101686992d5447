-- The done events of a run give the run again.
use Rattle.std.proofs.Common.{◌≡◌, suc, ◌+◌, ◌≤◌, Bool, true, false, List, [], ◌∷◌, ◌++◌, length, take, refl, sym, ap, ◌∙◌, arith, append-nil}
use Rattle.std.specs.List.{flat_map}
use Rattle.std.proofs.lemmas.List.{length-take, take_all}
use Rattle.nc_scen.specs.declared.events.Event.{Event}
use Rattle.nc_scen.specs.declared.scenario.Scenario.{Scenario}
use Rattle.nc_rules.specs.World.{WorldState, start, first_owners}
use Rattle.nc_rules.specs.Start.{first_machine, first_driver, memory}
use Rattle.nc_rules.specs.Events.{enabled}
use Rattle.nc_rules.specs.Next.{next, event_records}
use Rattle.nc_rules.specs.Run as run
use Rattle.nc_rules.specs.Lines.{line, text_of, tail, report, status, status_at}
use Rattle.nc_rules.specs.Schedule.{plan_events, finishing, sched}
use Rattle.nc_sched.specs.Replay.{done_events, done_of, scheduled, replayed, Replays}

-- a skipped event changes nothing and records nothing
next-skipped : (w : WorldState) (e : Event) → enabled w e ≡ false → next w e ≡ w
unfolding next
next-skipped w e h = rw h refl

records-skipped : (w : WorldState) (e : Event) → enabled w e ≡ false → event_records w e ≡ []
unfolding event_records
records-skipped w e h = rw h refl

kept : (w : WorldState) (e : Event) (es : List Event) → enabled w e ≡ true → done_events w (e ∷ es) ≡ e ∷ done_events (next w e) es
unfolding done_events
kept w e es h = rw h refl

left_out : (w : WorldState) (e : Event) (es : List Event) → enabled w e ≡ false → done_events w (e ∷ es) ≡ done_events w es
unfolding done_events
left_out w e es h = rw h refl

after-more : (w : WorldState) (e : Event) (es : List Event) → run.after w (e ∷ es) ≡ run.after (next w e) es
unfolding run.after
after-more w e es = refl

records-more : (w : WorldState) (e : Event) (es : List Event) → run.records w (e ∷ es) ≡ event_records w e ++ run.records (next w e) es
unfolding run.records
records-more w e es = refl

after-one : (w : WorldState) (e : Event) (es : List Event) (t : Bool) → enabled w e ≡ t → ((v : WorldState) → run.after v (done_events v es) ≡ run.after v es)
    → run.after w (done_events w (e ∷ es)) ≡ run.after w (e ∷ es)
after-one w e es true h same = ap (run.after w) (kept w e es h) ∙ after-more w e (done_events (next w e) es) ∙ same (next w e) ∙ sym (after-more w e es)
after-one w e es false h same = ap (run.after w) (left_out w e es h) ∙ same w ∙ ap (λ v. run.after v es) (sym (next-skipped w e h)) ∙ sym (after-more w e es)

after-done : (w : WorldState) (es : List Event) → run.after w (done_events w es) ≡ run.after w es
unfolding done_events
after-done w [] = refl
after-done w (e ∷ es) = after-one w e es (enabled w e) refl (λ v. after-done v es)

records-one : (w : WorldState) (e : Event) (es : List Event) (t : Bool) → enabled w e ≡ t → ((v : WorldState) → run.records v (done_events v es) ≡ run.records v es)
    → run.records w (done_events w (e ∷ es)) ≡ run.records w (e ∷ es)
records-one w e es true h same =
    ap (run.records w) (kept w e es h) ∙ records-more w e (done_events (next w e) es) ∙ ap (λ rs. event_records w e ++ rs) (same (next w e)) ∙ sym (records-more w e es)
records-one w e es false h same =
    ap (run.records w) (left_out w e es h) ∙ same w
    ∙ sym (records-more w e es ∙ ap (λ rs. rs ++ run.records (next w e) es) (records-skipped w e h) ∙ ap (λ v. run.records v es) (next-skipped w e h))

records-done : (w : WorldState) (es : List Event) → run.records w (done_events w es) ≡ run.records w es
unfolding done_events
records-done w [] = refl
records-done w (e ∷ es) = records-one w e es (enabled w e) refl (λ v. records-done v es)

-- the start does not depend on the schedule
same-start : (sc : Scenario) (es : List Event) → start (scheduled sc es) ≡ start sc
unfolding start first_owners first_machine first_driver memory
same-start sc es = refl

same-report : (sc : Scenario) (es : List Event) → report (scheduled sc (done_of sc es)) (done_of sc es) ≡ report sc es
unfolding report text_of tail
same-report sc es =
    let w = start sc in
    let d = done_of sc es in
    ap (λ v. flat_map line (run.records v d) ++ tail (scheduled sc d) (run.after v d)) (same-start sc d)
    ∙ ap (λ rs. flat_map line rs ++ tail sc (run.after w d)) (records-done w es)
    ∙ ap (λ v. flat_map line (run.records w es) ++ tail sc v) (after-done w es)

same-status : (sc : Scenario) (es : List Event) → status (scheduled sc (done_of sc es)) (done_of sc es) ≡ status sc es
unfolding status
same-status sc es =
    let w = start sc in
    let d = done_of sc es in
    ap (λ v. status_at (run.after v d)) (same-start sc d) ∙ ap status_at (after-done w es)

-- ---- the done events of the schedule are within the limit

fewer-one : (w : WorldState) (e : Event) (es : List Event) (t : Bool) → enabled w e ≡ t → ((v : WorldState) → length (done_events v es) ≤ length es)
    → length (done_events w (e ∷ es)) ≤ length (e ∷ es)
fewer-one w e es true h few = rw (kept w e es h) (omega (arith, few (next w e)))
fewer-one w e es false h few = rw (left_out w e es h) (omega (arith, few w))

fewer : (w : WorldState) (es : List Event) → length (done_events w es) ≤ length es
unfolding done_events
fewer w [] = omega arith
fewer w (e ∷ es) = fewer-one w e es (enabled w e) refl (λ v. fewer v es)

limited : (sc : Scenario) → length (sched sc) ≤ sc.limit
unfolding sched
limited sc = let all = plan_events sc ++ finishing sc.finish (length sc.harts) sc.limit (run.after (start sc) (plan_events sc)) in omega (arith, length-take sc.limit all)

-- so they are the whole schedule of the scenario that lists them
listed-all : (sc : Scenario) (es : List Event) → length es ≤ sc.limit → sched (scheduled sc es) ≡ es
unfolding sched
listed-all sc es few = ap (take sc.limit) (append-nil es) ∙ take_all sc.limit es few

own : (sc : Scenario) → sched (replayed sc) ≡ done_of sc (sched sc)
own sc = listed-all sc (done_of sc (sched sc)) (omega (arith, fewer (start sc) (sched sc), limited sc))

pub each_replays : (sc : Scenario) → Replays sc
each_replays sc = record {
  text = same-report sc;
  answer = same-status sc;
  own_text = ap (report (replayed sc)) (own sc) ∙ same-report sc (sched sc);
  own_answer = ap (status (replayed sc)) (own sc) ∙ same-status sc (sched sc);
}
