-- A run that is written as it goes: what was written, and what is still to come.
use Rattle.std.proofs.Common.{◌≡◌, ℕ, List, [], ◌∷◌, ◌++◌, length, Option, Some, None, sym, ap, ◌∙◌, append_assoc, append-nil, refl, subst}
use Rattle.std.specs.List.{flat_map}
use Rattle.std.specs.Io.KnownBytes.{Appends}
use Rattle.std.proofs.KnownBytes.{Appends-nil, Appends-trans}
use Rattle.std.proofs.lemmas.Grind.{flat_map-append}
use Rattle.nc_io.specs.Streams.{GrowsByPrefix}
use Rattle.std.specs.Prelude.{Bool, true, false, if◌then◌else◌}
use Rattle.nc_scen.specs.Accepted.{IsAccepted}
use Rattle.nc_scen.specs.declared.events.Event.{Event}
use Rattle.nc_scen.specs.declared.scenario.Scenario.{Scenario}
use Rattle.nc_rules.specs.Events.{enabled}
use Rattle.nc_rules.specs.Lines.{line, text_of, report, status, status_at, tail}
use Rattle.nc_calls.specs.MachineLaws.{SameShape}
use Rattle.nc_rules.specs.Next.{next, event_records}
use Rattle.nc_rules.specs.Run.{after, records}
use Rattle.nc_rules.specs.Schedule.{sched}
use Rattle.nc_rules.specs.World.{WorldState, start}
use Rattle.nc_sched.specs.Stands.{Stand, to_come, is_done}
use Rattle.nc_world.proofs.Starts.{start_harts, start_size, start_ram}
use Rattle.nc_world.specs.WorldView.{WorldView, answer}
use Rattle.nc_world.specs.declared.world.Stepped.{Stepped}
use Rattle.nc_world.specs.declared.world.Stepped.TheVariants.{Done, Skipped}

text_more : (w : WorldState) (e : Event) (es : List Event) → text_of w (e ∷ es) ≡ flat_map line (event_records w e) ++ text_of (next w e) es
unfolding text_of records
text_more w e es = flat_map-append line (event_records w e) (records (next w e) es)

state_more : (w : WorldState) (e : Event) (es : List Event) → after w (e ∷ es) ≡ after (next w e) es
unfolding after
state_more w e es = refl

text_none : (w : WorldState) → text_of w [] ≡ []
unfolding text_of records
text_none w = refl

state_none : (w : WorldState) → after w [] ≡ w
unfolding after
state_none w = refl

-- The whole run is what was written, and then the run of the events that are left.
pub record SoFar (held now : Option (List ℕ)) (w0 w : WorldState) (all left : List Event) : Type 0 where
  pub done : List ℕ
  pub grown : Appends held now done
  pub text : text_of w0 all ≡ done ++ text_of w left
  pub state : after w0 all ≡ after w left

pub at_start : (held now : Option (List ℕ)) (w0 : WorldState) (all : List Event) → Appends held now [] → SoFar held now w0 w0 all all
at_start held now w0 all h = record { done = []; grown = h; text = refl; state = refl }

pub one_more : (held mid now : Option (List ℕ)) (w0 w : WorldState) (all left rest : List Event) (e : Event) → left ≡ e ∷ rest
    → Appends mid now (flat_map line (event_records w e)) → SoFar held mid w0 w all left → SoFar held now w0 (next w e) all rest
one_more held mid now w0 w all left rest e here grown s = record {
  done = s.done ++ flat_map line (event_records w e);
  grown = Appends-trans held mid now s.done (flat_map line (event_records w e)) s.grown grown;
  text = s.text ∙ ap (λ es. s.done ++ text_of w es) here ∙ ap (λ t. s.done ++ t) (text_more w e rest) ∙ sym (append_assoc s.done (flat_map line (event_records w e)) (text_of (next w e) rest));
  state = s.state ∙ ap (after w) here ∙ state_more w e rest;
}

-- all events are made: what was written is the whole run
pub at_end : (held now : Option (List ℕ)) (w0 w : WorldState) (all left : List Event) → left ≡ [] → SoFar held now w0 w all left → Appends held now (text_of w0 all) × (w ≡ after w0 all)
at_end held now w0 w all left none s =
    let whole : text_of w0 all ≡ s.done = s.text ∙ ap (λ es. s.done ++ text_of w es) none ∙ ap (λ t. s.done ++ t) (text_none w) ∙ append-nil s.done in
    (subst (λ t. Appends held now t) (sym whole) s.grown, sym (s.state ∙ ap (after w) none ∙ state_none w))

-- a prefix of what one event writes, after all before it, is a prefix of the run and whatever follows it
pub stopped : (held mid now : Option (List ℕ)) (w0 w : WorldState) (all left rest : List Event) (e : Event) (end : List ℕ) → left ≡ e ∷ rest
    → GrowsByPrefix mid now (flat_map line (event_records w e)) → SoFar held mid w0 w all left → GrowsByPrefix held now (text_of w0 all ++ end)
stopped held mid now w0 w all left rest e end here g s =
    let (behind, is) = g.begins in
    let more = text_of (next w e) rest in
    record {
      prefix = s.done ++ g.prefix;
      grown = Appends-trans held mid now s.done g.prefix s.grown g.grown;
      begins = (behind ++ more ++ end, ap (λ t. t ++ end) (s.text ∙ ap (λ es. s.done ++ text_of w es) here ∙ ap (λ t. s.done ++ t) (text_more w e rest ∙ ap (λ t. t ++ more) is)) ∙ simp append_assoc);
    }

-- nothing of what follows the run
pub paused : (held now : Option (List ℕ)) (run end : List ℕ) → Appends held now run → GrowsByPrefix held now (run ++ end)
paused held now run end h = record { prefix = run; grown = h; begins = (end, refl) }

-- a prefix of what follows the run
pub cut : (held mid now : Option (List ℕ)) (run end : List ℕ) → Appends held mid run → GrowsByPrefix mid now end → GrowsByPrefix held now (run ++ end)
cut held mid now run end h g =
    let (behind, is) = g.begins in
    record { prefix = run ++ g.prefix; grown = Appends-trans held mid now run g.prefix h g.grown; begins = (behind, ap (λ t. run ++ t) is ∙ sym (append_assoc run g.prefix behind)) }

-- ---- a scenario's run in the middle

-- the world has the sizes of the scenario, no records are left, and the events still to come are those of its schedule
pub record Goes (held now : Option (List ℕ)) (sc : Scenario) (w : WorldView) (s : Stand) (last : Option Stepped) : Type 0 where
  pub so_far : SoFar held now (start sc) w.state (sched sc) (to_come sc s w.state (is_done last))
  pub none : w.records ≡ []
  pub harts : length w.state.machine.harts ≡ length sc.harts
  pub size : w.state.machine.size ≡ sc.block_size
  pub ram : length w.state.machine.cache.ram ≡ sc.ram

pub go_start : (held : Option (List ℕ)) (sc : Scenario) (w : WorldView) (s : Stand) → IsAccepted sc → w.state ≡ start sc → w.records ≡ [] → to_come sc s (start sc) (is_done None) ≡ sched sc → Goes held held sc w s None
go_start held sc w s a at none whole = record {
  so_far = subst (λ v. SoFar held held (start sc) v (sched sc) (to_come sc s v false)) (sym at)
      (subst (λ left. SoFar held held (start sc) (start sc) (sched sc) left) (sym whole) (at_start held held (start sc) (sched sc) (Appends-nil held)));
  none = none;
  harts = ap (λ (v : WorldState). length v.machine.harts) at ∙ start_harts sc;
  size = ap (λ (v : WorldState). v.machine.size) at ∙ start_size sc;
  ram = ap (λ (v : WorldState). length v.machine.cache.ram) at ∙ start_ram sc a;
}

-- an event is answered Done exactly where it may happen
done_is : (t : Bool) → is_done (Some (if t then Done else Skipped)) ≡ t
done_is true = refl
done_is false = refl

pub go_on : (held mid now : Option (List ℕ)) (sc : Scenario) (w v : WorldView) (s t : Stand) (last : Option Stepped) (a : Stepped) (e : Event)
    → to_come sc s w.state (is_done last) ≡ e ∷ to_come sc t (next w.state e) (enabled w.state e)
    → v.state ≡ next w.state e → v.records ≡ [] → SameShape w.state.machine v.state.machine → a ≡ answer w.state e → Appends mid now (flat_map line (event_records w.state e)) → Goes held mid sc w s last → Goes held now sc v t (Some a)
go_on held mid now sc w v s t last a e here stepped none same answered grown g =
    let done : is_done (Some a) ≡ enabled w.state e = ap (λ b. is_done (Some b)) answered ∙ done_is (enabled w.state e) in
    let gone : SoFar held now (start sc) (next w.state e) (sched sc) (to_come sc t (next w.state e) (enabled w.state e)) =
    one_more held mid now (start sc) w.state (sched sc) (to_come sc s w.state (is_done last)) (to_come sc t (next w.state e) (enabled w.state e)) e here grown g.so_far in
    record {
      so_far = subst (λ (u : WorldState). SoFar held now (start sc) u (sched sc) (to_come sc t u (is_done (Some a)))) (sym stepped)
          (subst (λ b. SoFar held now (start sc) (next w.state e) (sched sc) (to_come sc t (next w.state e) b)) (sym done) gone);
      none = none;
      harts = same.harts ∙ g.harts;
      size = same.size ∙ g.size;
      ram = same.ram ∙ g.ram;
    }

pub go_stopped : (held mid now : Option (List ℕ)) (sc : Scenario) (w : WorldView) (s t : Stand) (last : Option Stepped) (e : Event) → to_come sc s w.state (is_done last) ≡ e ∷ to_come sc t (next w.state e) (enabled w.state e)
    → GrowsByPrefix mid now (flat_map line (event_records w.state e)) → Goes held mid sc w s last → GrowsByPrefix held now (report sc (sched sc))
unfolding report
go_stopped held mid now sc w s t last e here grown g =
    stopped held mid now (start sc) w.state (sched sc) (to_come sc s w.state (is_done last)) (to_come sc t (next w.state e) (enabled w.state e)) e (tail sc (after (start sc) (sched sc))) here grown g.so_far

-- the events are at their end
pub go_end : (held now : Option (List ℕ)) (sc : Scenario) (w : WorldView) (s : Stand) (last : Option Stepped) → to_come sc s w.state (is_done last) ≡ [] → Goes held now sc w s last
    → Appends held now (text_of (start sc) (sched sc)) × (w.state ≡ after (start sc) (sched sc))
go_end held now sc w s last none g = at_end held now (start sc) w.state (sched sc) (to_come sc s w.state (is_done last)) none g.so_far

pub go_paused : (held now : Option (List ℕ)) (sc : Scenario) (w : WorldView) (s : Stand) (last : Option Stepped) → to_come sc s w.state (is_done last) ≡ [] → Goes held now sc w s last → GrowsByPrefix held now (report sc (sched sc))
unfolding report
go_paused held now sc w s last none g = paused held now (text_of (start sc) (sched sc)) (tail sc (after (start sc) (sched sc))) (go_end held now sc w s last none g).0

pub go_cut : (held mid now : Option (List ℕ)) (sc : Scenario) (w : WorldView) (s : Stand) (last : Option Stepped) (text : List ℕ) → to_come sc s w.state (is_done last) ≡ [] → text ≡ tail sc w.state → GrowsByPrefix mid now text → Goes held mid sc w s last
    → GrowsByPrefix held now (report sc (sched sc))
unfolding report
go_cut held mid now sc w s last text none is grown g =
    let p = go_end held mid sc w s last none g in
    cut held mid now (text_of (start sc) (sched sc)) (tail sc (after (start sc) (sched sc))) p.0 (subst (λ t. GrowsByPrefix mid now t) (is ∙ ap (tail sc) p.1) grown)

pub go_done : (held mid now : Option (List ℕ)) (sc : Scenario) (w : WorldView) (s : Stand) (last : Option Stepped) (text : List ℕ) → to_come sc s w.state (is_done last) ≡ [] → text ≡ tail sc w.state → Appends mid now text → Goes held mid sc w s last
    → Appends held now (report sc (sched sc))
unfolding report
go_done held mid now sc w s last text none is grown g =
    let p = go_end held mid sc w s last none g in
    Appends-trans held mid now (text_of (start sc) (sched sc)) (tail sc (after (start sc) (sched sc))) p.0 (subst (λ t. Appends mid now t) (is ∙ ap (tail sc) p.1) grown)

pub go_status : (held now : Option (List ℕ)) (sc : Scenario) (w : WorldView) (s : Stand) (last : Option Stepped) → to_come sc s w.state (is_done last) ≡ [] → Goes held now sc w s last → status_at w.state ≡ status sc (sched sc)
unfolding status
go_status held now sc w s last none g = ap status_at (go_end held now sc w s last none g).1
