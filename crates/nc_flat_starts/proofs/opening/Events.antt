-- The starts of operations that lend and take back, and their searches, as events.
use Rattle.std.specs.Prelude.{Option, Some, None, not, is_none, is_some, Bool, true, false}
use Rattle.std.proofs.Common.{◌≡◌, ℕ, List, [], refl, ap, ◌∙◌, subst}
use Rattle.std.proofs.lemmas.Bool.{and_parts, cond-true}
use Rattle.nc_num.specs.declared.names.HartNo.{HartNo}
use Rattle.nc_num.specs.declared.names.Label.{Label}
use Rattle.nc_queue.specs.Rules.{lends}
use Rattle.nc_slots.specs.SlotWords.{holder_of, tried}
use Rattle.nc_ops.specs.declared.ops.Op.{Op}
use Rattle.nc_scen.specs.declared.events.Event.TheVariants as events
use Rattle.nc_scen.specs.declared.scenario.Scenario.{Scenario}
use Rattle.nc_rules.specs.declared.steps.Next.{Next}
use Rattle.nc_rules.specs.declared.steps.Next.TheVariants as nexts
use Rattle.nc_rules.specs.declared.steps.Phase.TheVariants.{Steps}
use Rattle.nc_rules.specs.Machine.{queue_of}
use Rattle.nc_rules.specs.Operations.{has_start}
use Rattle.nc_rules.specs.Driver.{DriverState, in_hand, next_of, next_of_op, next_in, waited_in, waits_for, searching, started, told}
use Rattle.nc_rules.specs.Events.{is_out, may_go_on, enabled}
use Rattle.nc_rules.specs.Outcomes.{start_outcome, step_outcome, try_outcome, told_outcome, got_word, told_slots, at_word, outcome}
use Rattle.nc_rules.specs.Records.{try_records, told_records}
use Rattle.nc_rules.specs.World.{WorldState, driver_of}
use Rattle.nc_flatness.specs.Lending.{is_lending}
use Rattle.nc_flatness.specs.Steps.{IsNow, Goes, StartsAreFlat}
use Rattle.nc_flatness.proofs.worlds.Outcomes.{gone, goes_go, goes_silent}
use Rattle.nc_flat_starts.proofs.opening.Lendings.{lending_starts}
use Rattle.nc_flat_starts.proofs.opening.Searches.{told_bytes}
use Rattle.nc_flat_starts.proofs.opening.AllStarts.{start_bytes}
use Rattle.nc_flat_starts.proofs.opening.Starts.{IsOut, at_steps}

-- ---- a start

pub next_start : (d : DriverState) (o : Op) (n : ℕ) → in_hand d ≡ Some o → is_lending o ≡ true → d.phase ≡ Steps n → next_of d ≡ nexts.Start
unfolding next_of
next_start d o n hand is phase = ap (next_of_op d) hand ∙ ap (next_in d o) phase ∙ cond-true (has_start o) nexts.Start _ (lending_starts o is)

pub issues : (w : WorldState) (h : HartNo) (nx : Next) → next_of (driver_of w h.0) ≡ nx → outcome w (events.Issue h) ≡ step_outcome w h nx
unfolding outcome
issues w h nx is = ap (step_outcome w h) is

not_so : (b : Bool) → not b ≡ true → b ≡ false
not_so true e = absurd cc
not_so false e = refl

-- the token of the label that it waits for is out of the queue
start_out : (w : WorldState) (h : HartNo) (o : Op) (n : ℕ) → enabled w (events.Issue h) ≡ true → in_hand (driver_of w h.0) ≡ Some o → (driver_of w h.0).phase ≡ Steps n → IsOut w h o
unfolding enabled waits_for
start_out w h o n may hand phase label light waits =
    let d = driver_of w h.0 in
    let is : waits_for d ≡ Some label = cond-true d.fixed.light (waited_in (in_hand d) d.phase) None light ∙ ap (λ (p : Option Op). waited_in p d.phase) hand ∙ ap (waited_in (Some o)) phase ∙ waits in
    let out = (and_parts (is_out w.machine h (waits_for d)) (may_go_on w h (next_of d)) may).0 in
    not_so (lends (queue_of w.machine h.0) label.0) (subst (λ (k : Option Label). is_out w.machine h k ≡ true) is out)

start_goes : (sc : Scenario) (f : List ℕ) (w : WorldState) (h : HartNo) (o : Op) (n : ℕ) → IsNow sc f w (events.Issue h) → in_hand (driver_of w h.0) ≡ Some o → is_lending o ≡ true → (driver_of w h.0).phase ≡ Steps n → Goes sc f w (events.Issue h)
unfolding step_outcome start_outcome
start_goes sc f w h o n now hand is phase =
    let d = driver_of w h.0 in
    let went = started d w.owners w.pages in
    goes_go sc f w (events.Issue h) h w.machine went w.slots None [] now.may (issues w h nexts.Start (next_start d o n hand is phase))
    (λ none. goes_silent sc f [] (gone w h w.machine went) refl (start_bytes sc f w h o (at_steps sc f w h o n now.flat now.there (start_out w h o n now.may hand phase) hand is phase)))

-- ---- a search

word_there : (o : Option ℕ) → is_some o ≡ true → (k : ℕ) × (o ≡ Some k)
word_there None is = absurd cc
word_there (Some k) is = (k, refl)

none_so : (o : Option HartNo) → is_none o ≡ true → o ≡ None
none_so None is = refl
none_so (Some g) is = absurd cc

got_so : (got : Bool) (o : Option HartNo) → got_word got o ≡ true → o ≡ None
got_so true o is = none_so o is
got_so false o is = absurd cc

try_goes : (sc : Scenario) (f : List ℕ) (w : WorldState) (h : HartNo) → IsNow sc f w (events.Try h) → Goes sc f w (events.Try h)
unfolding outcome enabled try_outcome
try_goes sc f w h now =
    let d = driver_of w h.0 in
    let k = word_there (searching d) now.may in
    let holder = holder_of w.slots k.0 in
    let went = told d (is_none holder) in
    goes_go sc f w (events.Try h) h w.machine went (tried w.slots h k.0) None (try_records h k.0 holder) now.may (ap (at_word w (try_outcome w h)) k.1)
    (λ none. goes_silent sc f [] (gone w h w.machine went) refl (told_bytes sc f w h k.0 (is_none holder) now.flat now.there k.1 (λ is. none_so holder is)))

told_goes : (sc : Scenario) (f : List ℕ) (w : WorldState) (h : HartNo) (got : Bool) → IsNow sc f w (events.Told h got) → Goes sc f w (events.Told h got)
unfolding outcome enabled told_outcome
told_goes sc f w h got now =
    let d = driver_of w h.0 in
    let k = word_there (searching d) now.may in
    let holder = holder_of w.slots k.0 in
    let went = told d (got_word got holder) in
    goes_go sc f w (events.Told h got) h w.machine went (told_slots got w.slots h k.0) None (told_records h k.0 got holder) now.may (ap (at_word w (told_outcome w h got)) k.1)
    (λ none. goes_silent sc f [] (gone w h w.machine went) refl (told_bytes sc f w h k.0 (got_word got holder) now.flat now.there k.1 (λ is. got_so got holder is)))

pub starts_go : StartsAreFlat
starts_go = record { start = start_goes; tried = try_goes; told = told_goes }
