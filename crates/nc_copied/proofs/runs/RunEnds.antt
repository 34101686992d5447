-- A run, its flat memory and its records, by its last event.
use Rattle.std.proofs.Common.{◌≡◌, List, [], ◌∷◌, ◌++◌, length, refl, sym, ap, ◌∙◌, subst, inl, inr}
use Rattle.nc_plan.specs.Plans.{In}
use Rattle.nc_model.specs.Flat.{TraceItem, Did, Touched, Untouched, flat, deeds}
use Rattle.nc_model.proofs.FlatLaws.{in_order}
use Rattle.nc_model.proofs.LatestLaws.{deeds-append}
use Rattle.nc_scen.specs.Accepted.{IsAccepted}
use Rattle.nc_scen.specs.Events.{IsThere}
use Rattle.nc_scen.specs.declared.events.Event.{Event}
use Rattle.nc_scen.specs.declared.scenario.Scenario.{Scenario}
use Rattle.nc_rules.specs.declared.records.Record.{Record}
use Rattle.nc_rules.specs.Flat.{event_trace, run_trace, flat_after, AreThere}
use Rattle.nc_rules.specs.Next.{next, event_records}
use Rattle.nc_rules.specs.Run.{after}
use Rattle.nc_rules.specs.Run as run
use Rattle.nc_rules.specs.Start.{memory}
use Rattle.nc_rules.specs.World.{WorldState, start}
use Rattle.nc_scripts.proofs.Lists.{all_left}
use Rattle.nc_flatness.specs.Flatness.{Flatness}
use Rattle.nc_flatness.proofs.worlds.Trace.{append_none}

-- ---- worlds

pub after_two : (w : WorldState) (a b : List Event) → after w (a ++ b) ≡ after (after w a) b
unfolding after
after_two w [] b = refl
after_two w (e ∷ a) b = after_two (next w e) a b

after_one : (w : WorldState) (e : Event) → after w (e ∷ []) ≡ next w e
unfolding after
after_one w e = refl

pub after_end : (w : WorldState) (es : List Event) (e : Event) → after w (es ++ e ∷ []) ≡ next (after w es) e
after_end w es e = after_two w es (e ∷ []) ∙ after_one (after w es) e

-- ---- traces

assoc : (a b c : List TraceItem) → (a ++ b) ++ c ≡ a ++ (b ++ c)
assoc [] b c = refl
assoc (m ∷ a) b c = ap (λ (ms : List TraceItem). m ∷ ms) (assoc a b c)

pub trace_two : (w : WorldState) (a b : List Event) → run_trace w (a ++ b) ≡ run_trace w a ++ run_trace (after w a) b
unfolding run_trace after
trace_two w [] b = refl
trace_two w (e ∷ a) b = ap (λ (ms : List TraceItem). event_trace w e ++ ms) (trace_two (next w e) a b) ∙ sym (assoc (event_trace w e) (run_trace (next w e) a) (run_trace (after (next w e) a) b))

trace_one : (w : WorldState) (e : Event) → run_trace w (e ∷ []) ≡ event_trace w e
unfolding run_trace
trace_one w e = append_none (event_trace w e)

pub trace_end : (w : WorldState) (es : List Event) (e : Event) → run_trace w (es ++ e ∷ []) ≡ run_trace w es ++ event_trace (after w es) e
trace_end w es e = trace_two w es (e ∷ []) ∙ ap (λ (ms : List TraceItem). run_trace w es ++ ms) (trace_one (after w es) e)

-- flat memory behind the last event
pub flat_end : (sc : Scenario) (es : List Event) (e : Event) → flat_after sc (es ++ e ∷ []) ≡ flat (flat_after sc es) (deeds (event_trace (after (start sc) es) e))
flat_end sc es e =
    let a = run_trace (start sc) es in
    let b = event_trace (after (start sc) es) e in
    ap (λ (ms : List TraceItem). flat (memory sc) (deeds ms)) (trace_end (start sc) es e) ∙ ap (flat (memory sc)) (deeds-append a b) ∙ in_order (memory sc) (deeds a) (deeds b)

untouched_front : (ms ns : List TraceItem) → Untouched (ms ++ ns) → Untouched ms
untouched_front [] ns u = tt
untouched_front (Did d ∷ ms) ns u = untouched_front ms ns u
untouched_front (Touched ∷ ms) ns u = u

untouched_back : (ms ns : List TraceItem) → Untouched (ms ++ ns) → Untouched ns
untouched_back [] ns u = u
untouched_back (Did d ∷ ms) ns u = untouched_back ms ns u
untouched_back (Touched ∷ ms) ns u = absurd u

-- ---- records

in_front : (r : Record) (rs ss : List Record) → In r rs → In r (rs ++ ss)
in_front r [] ss here = absurd here
in_front r (s ∷ rs) ss (inl e) = inl e
in_front r (s ∷ rs) ss (inr here) = inr (in_front r rs ss here)

in_back : (r : Record) (rs ss : List Record) → In r ss → In r (rs ++ ss)
in_back r [] ss here = here
in_back r (s ∷ rs) ss here = inr (in_back r rs ss here)

pub in_before : (w : WorldState) (es : List Event) (e : Event) (r : Record) → In r (run.records w es) → In r (run.records w (es ++ e ∷ []))
unfolding run.records
in_before w [] e r here = absurd here
in_before w (f ∷ es) e r here = in_more r (event_records w f) (run.records (next w f) es) (run.records (next w f) (es ++ e ∷ [])) here (in_before (next w f) es e r)
  where
    in_more : (r : Record) (rs ss us : List Record) → In r (rs ++ ss) → (In r ss → In r us) → In r (rs ++ us)
    in_more r [] ss us here on = on here
    in_more r (s ∷ rs) ss us (inl e) on = inl e
    in_more r (s ∷ rs) ss us (inr here) on = inr (in_more r rs ss us here on)

pub in_last : (w : WorldState) (es : List Event) (e : Event) (r : Record) → In r (event_records (after w es) e) → In r (run.records w (es ++ e ∷ []))
unfolding run.records after
in_last w [] e r here = in_front r (event_records w e) [] here
in_last w (f ∷ es) e r here = in_back r (event_records w f) (run.records (next w f) (es ++ e ∷ [])) (in_last (next w f) es e r here)

-- ---- a run without a touch

pub record IsFine (sc : Scenario) (es : List Event) : Type 0 where
  pub there : AreThere sc es
  pub untouched : Untouched (run_trace (start sc) es)

pub fine_front : (sc : Scenario) (a b : List Event) → IsFine sc (a ++ b) → IsFine sc a
fine_front sc a b fine = record {
  there = all_left (IsThere (length sc.harts) sc.block_size sc.ram) a b fine.there;
  untouched = untouched_front (run_trace (start sc) a) (run_trace (after (start sc) a) b) (subst Untouched (trace_two (start sc) a b) fine.untouched);
}

pub last_untouched : (sc : Scenario) (es : List Event) (e : Event) → IsFine sc (es ++ e ∷ []) → Untouched (event_trace (after (start sc) es) e)
last_untouched sc es e fine = untouched_back (run_trace (start sc) es) (event_trace (after (start sc) es) e) (subst Untouched (trace_end (start sc) es e) fine.untouched)

-- flat memory stands behind each
abbrev pub RunsAreFlat : Type 0
RunsAreFlat = (sc : Scenario) (es : List Event) → IsAccepted sc → AreThere sc es → Untouched (run_trace (start sc) es) → Flatness sc (flat_after sc es) (after (start sc) es)
