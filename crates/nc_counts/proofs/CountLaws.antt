-- The counts after a run, and its owners.
use Rattle.std.proofs.Common.{◌≡◌, ℕ, ◌+◌, ◌-◌, ◌^◌, ◌≤◌, Bool, true, false, List, [], ◌∷◌, ◌++◌, Option, Some, None, refl, sym, ap, ◌∙◌, arith}
use Rattle.std.specs.Prelude.{min, if◌then◌else◌}
use Rattle.std.specs.List.{count_by}
use Rattle.std.proofs.lemmas.Grind.{flat_map-append}
use Rattle.nc_num.specs.declared.places.Span.{Span}
use Rattle.nc_model.specs.declared.owners.Owner.{Owner}
use Rattle.nc_model.specs.declared.touches.Touch.{Touch}
use Rattle.nc_own.specs.Books.{transferred}
use Rattle.nc_scen.specs.declared.events.Event.{Event}
use Rattle.nc_scen.specs.declared.scenario.Scenario.{Scenario}
use Rattle.nc_rules.specs.declared.records.Record.{Record}
use Rattle.nc_rules.specs.declared.records.Record.TheVariants as records
use Rattle.nc_rules.specs.Events.{enabled}
use Rattle.nc_rules.specs.Next.{touched_by, after_outcome, performed, counted, next, event_records}
use Rattle.nc_rules.specs.Outcomes.{Outcome, outcome}
use Rattle.nc_rules.specs.Run as run
use Rattle.nc_rules.specs.World.{WorldState, start, first_owners, owners_moved, one_more, with_moves}
use Rattle.nc_counts.specs.Counts.{is_event, is_touch, owner_change, owner_changes, up_to_end, EachRunIsCounted, EachRunTellsOwners}
use Rattle.nc_counts.proofs.Tells.{count-append, count-cons, touches_of, Tells, outcome_tells}

-- ---- one event

-- one more of a count, for each of so many, of which there is one at most
abbrev more : ℕ → ℕ → ℕ
more n k = min (n + k) (2 ^ 64 - 1)

-- an event moves the counts and the owners by what its records tell
record Goes (w v : WorldState) (rs : List Record) : Type 0 where
  events : v.events ≡ more w.events (count_by is_event rs)
  touches : v.touches ≡ more w.touches (count_by is_touch rs)
  owners : v.owners ≡ owners_moved w.owners (owner_changes rs)

-- counts that have not passed their end
record AreBelow (w : WorldState) : Type 0 where
  events : w.events ≤ 2 ^ 64 - 1
  touches : w.touches ≤ 2 ^ 64 - 1

touched_on : (w : WorldState) (t : Option Touch) → w.touches ≤ 2 ^ 64 - 1 → (touched_by w t).touches ≡ more w.touches (touches_of t)
touched_on w None le = omega (arith, le)
touched_on w (Some t) le = refl

touched_events : (w : WorldState) (t : Option Touch) → (touched_by w t).events ≡ w.events
touched_events w None = refl
touched_events w (Some t) = refl

touched_owners : (w : WorldState) (t : Option Touch) → (touched_by w t).owners ≡ w.owners
touched_owners w None = refl
touched_owners w (Some t) = refl

-- the world before the touch is counted
abbrev changed : WorldState → Outcome → WorldState
changed w o = with_moves (record w { machine = o.machine; drivers = o.drivers; slots = o.slots }) o.moves

done_goes : (w : WorldState) (e : Event) (o : Outcome) → AreBelow w → Tells o → Goes w (counted (after_outcome w o)) (records.Event e ∷ o.records)
done_goes w e o below tells =
    let one : count_by is_event (records.Event e ∷ o.records) ≡ 1 + count_by is_event o.records = count-cons is_event (records.Event e) o.records in
    let none : count_by is_touch (records.Event e ∷ o.records) ≡ 0 + count_by is_touch o.records = count-cons is_touch (records.Event e) o.records in
    let more_events : 1 ≡ count_by is_event (records.Event e ∷ o.records) = omega (arith, one, tells.of_events) in
    let more_touches : touches_of o.touch ≡ count_by is_touch (records.Event e ∷ o.records) = omega (arith, none, tells.of_touches) in
    record {
      events = ap one_more (touched_events (changed w o) o.touch) ∙ ap (λ (n : ℕ). more w.events n) more_events;
      touches = touched_on (changed w o) o.touch below.touches ∙ ap (λ (n : ℕ). more w.touches n) more_touches;
      owners = touched_owners (changed w o) o.touch ∙ ap (owners_moved w.owners) (sym tells.of_owners);
    }

same_goes : (w : WorldState) → AreBelow w → Goes w w []
same_goes w below = record { events = omega (arith, below.events); touches = omega (arith, below.touches); owners = refl }

goes_if : (w v : WorldState) (rs : List Record) (t : Bool) → AreBelow w → Goes w v rs → Goes w (if t then v else w) (if t then rs else [])
goes_if w v rs true below goes = goes
goes_if w v rs false below goes = same_goes w below

event_goes : (w : WorldState) (e : Event) → AreBelow w → Goes w (next w e) (event_records w e)
unfolding next performed event_records
event_goes w e below = goes_if w (counted (after_outcome w (outcome w e))) (records.Event e ∷ (outcome w e).records) (enabled w e) below (done_goes w e (outcome w e) below (outcome_tells w e))

-- ---- all of them

below_on : (w v : WorldState) (rs : List Record) → Goes w v rs → AreBelow v
below_on w v rs goes = record { events = omega (arith, goes.events); touches = omega (arith, goes.touches) }

moved_on : (owners : List Owner) (ts us : List (Span × Owner)) → owners_moved owners (ts ++ us) ≡ owners_moved (owners_moved owners ts) us
moved_on owners [] us = refl
moved_on owners (t ∷ ts) us = moved_on (transferred owners t.0 t.1) ts us

on : (u v w : WorldState) (rs ss : List Record) → Goes u v rs → Goes v w ss → Goes u w (rs ++ ss)
on u v w rs ss a b = record {
  events = omega (arith, a.events, b.events, count-append is_event rs ss);
  touches = omega (arith, a.touches, b.touches, count-append is_touch rs ss);
  owners = b.owners ∙ ap (λ (os : List Owner). owners_moved os (owner_changes ss)) a.owners ∙ sym (moved_on u.owners (owner_changes rs) (owner_changes ss)) ∙ ap (owners_moved u.owners) (sym (flat_map-append owner_change rs ss));
}

run_goes : (w : WorldState) (es : List Event) → AreBelow w → Goes w (run.after w es) (run.records w es)
unfolding run.after run.records
run_goes w [] below = same_goes w below
run_goes w (e ∷ es) below =
    let goes = event_goes w e below in
    on w (next w e) (run.after (next w e) es) (event_records w e) (run.records (next w e) es) goes (run_goes (next w e) es (below_on w (next w e) (event_records w e) goes))

-- ---- the laws

start_below : (sc : Scenario) → AreBelow (start sc)
unfolding start
start_below sc = record { events = omega arith; touches = omega arith }

start_events : (sc : Scenario) → (start sc).events ≡ 0
unfolding start
start_events sc = refl

start_touches : (sc : Scenario) → (start sc).touches ≡ 0
unfolding start
start_touches sc = refl

start_owners : (sc : Scenario) → (start sc).owners ≡ first_owners sc
unfolding start
start_owners sc = refl

from_none : (n k : ℕ) → n ≡ 0 → more n k ≡ up_to_end k
from_none n k e = ap up_to_end (omega (arith, e))

pub counts_always : EachRunIsCounted
counts_always sc es =
    let goes = run_goes (start sc) es (start_below sc) in
    let events : more (start sc).events (count_by is_event (run.records (start sc) es)) ≡ up_to_end (count_by is_event (run.records (start sc) es)) = from_none (start sc).events (count_by is_event (run.records (start sc) es)) (start_events sc) in
    let touches : more (start sc).touches (count_by is_touch (run.records (start sc) es)) ≡ up_to_end (count_by is_touch (run.records (start sc) es)) = from_none (start sc).touches (count_by is_touch (run.records (start sc) es)) (start_touches sc) in
    record { events = goes.events ∙ events; touches = goes.touches ∙ touches }

pub owners_always : EachRunTellsOwners
owners_always sc es =
    let goes = run_goes (start sc) es (start_below sc) in
    goes.owners ∙ ap (λ (os : List Owner). owners_moved os (owner_changes (run.records (start sc) es))) (start_owners sc)
