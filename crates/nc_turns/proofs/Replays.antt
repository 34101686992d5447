-- A run that is made again in a new world, and written as it happens.
use Rattle.std.proofs.Common.{◌≡◌, ℕ, List, [], ◌∷◌, ◌++◌, length, Option, sym, ap, ◌∙◌, subst, append_assoc}
use Rattle.std.specs.List.{flat_map}
use Rattle.std.specs.Prelude.{Result, Ok, Err, OnErr}
use Rattle.std.specs.Io.KnownBytes.{Appends}
use Rattle.std.proofs.KnownBytes.{Appends-nil, Appends-trans}
use Rattle.nc_io.specs.Streams.{GrowsByPrefix}
use Rattle.nc_scen.specs.Accepted.{IsAccepted}
use Rattle.nc_scen.specs.declared.events.Event.{Event}
use Rattle.nc_scen.specs.declared.scenario.Scenario.{Scenario}
use Rattle.nc_rules.specs.Lines.{line, text_of, report, status, status_at, tail}
use Rattle.nc_rules.specs.Next.{next, event_records}
use Rattle.nc_rules.specs.Run.{after}
use Rattle.nc_rules.specs.World.{WorldState, start}
use Rattle.nc_calls.specs.MachineLaws.{SameShape}
use Rattle.nc_world.specs.WorldView.{WorldView}
use Rattle.nc_world.proofs.Starts.{start_harts, start_size, start_ram}
use Rattle.nc_top.proofs.SoFar.{SoFar, at_start, one_more, at_end, stopped, paused, cut}
use Rattle.nc_turns.specs.Played.{history_lines, live_text}

-- the world has the sizes of the scenario and no records, and these events are left
pub record Replaying (held now : Option (List ℕ)) (sc : Scenario) (w : WorldView) (es left : List Event) : Type 0 where
  pub so_far : SoFar held now (start sc) w.state es left
  pub none : w.records ≡ []
  pub harts : length w.state.machine.harts ≡ length sc.harts
  pub size : w.state.machine.size ≡ sc.block_size
  pub ram : length w.state.machine.cache.ram ≡ sc.ram

pub replay_start : (held : Option (List ℕ)) (sc : Scenario) (w : WorldView) (es : List Event) → IsAccepted sc → w.state ≡ start sc → w.records ≡ [] → Replaying held held sc w es es
replay_start held sc w es a at none = record {
  so_far = subst (λ v. SoFar held held (start sc) v es es) (sym at) (at_start held held (start sc) es (Appends-nil held));
  none = none;
  harts = ap (λ (v : WorldState). length v.machine.harts) at ∙ start_harts sc;
  size = ap (λ (v : WorldState). v.machine.size) at ∙ start_size sc;
  ram = ap (λ (v : WorldState). length v.machine.cache.ram) at ∙ start_ram sc a;
}

pub replay_on : (held mid now : Option (List ℕ)) (sc : Scenario) (w v : WorldView) (es left rest : List Event) (e : Event) → left ≡ e ∷ rest
    → v ≡ record { state = next w.state e; records = [] } → SameShape w.state.machine v.state.machine → Appends mid now (flat_map line (event_records w.state e)) → Replaying held mid sc w es left → Replaying held now sc v es rest
replay_on held mid now sc w v es left rest e here stepped same grown r = record {
  so_far = subst (λ (u : WorldState). SoFar held now (start sc) u es rest) (sym (ap (λ (s : WorldView). s.state) stepped)) (one_more held mid now (start sc) w.state es left rest e here grown r.so_far);
  none = ap (λ (s : WorldView). s.records) stepped;
  harts = same.harts ∙ r.harts;
  size = same.size ∙ r.size;
  ram = same.ram ∙ r.ram;
}

pub replay_stopped : (held mid now : Option (List ℕ)) (sc : Scenario) (w : WorldView) (es left rest : List Event) (e : Event) → left ≡ e ∷ rest → GrowsByPrefix mid now (flat_map line (event_records w.state e)) → Replaying held mid sc w es left
    → GrowsByPrefix held now (report sc es)
unfolding report
replay_stopped held mid now sc w es left rest e here grown r = stopped held mid now (start sc) w.state es left rest e (tail sc (after (start sc) es)) here grown r.so_far

pub replay_paused : (held now : Option (List ℕ)) (sc : Scenario) (w : WorldView) (es left : List Event) → left ≡ [] → Replaying held now sc w es left → GrowsByPrefix held now (report sc es)
unfolding report
replay_paused held now sc w es left none r =
    paused held now (text_of (start sc) es) (tail sc (after (start sc) es)) (at_end held now (start sc) w.state es left none r.so_far).0

pub replay_cut : (held mid now : Option (List ℕ)) (sc : Scenario) (w : WorldView) (es left : List Event) (text : List ℕ) → left ≡ [] → text ≡ tail sc w.state → GrowsByPrefix mid now text → Replaying held mid sc w es left → GrowsByPrefix held now (report sc es)
unfolding report
replay_cut held mid now sc w es left text none is grown r =
    let p = at_end held mid (start sc) w.state es left none r.so_far in
    cut held mid now (text_of (start sc) es) (tail sc (after (start sc) es)) p.0 (subst (λ t. GrowsByPrefix mid now t) (is ∙ ap (tail sc) p.1) grown)

pub replay_done : (held mid now : Option (List ℕ)) (sc : Scenario) (w : WorldView) (es left : List Event) (text : List ℕ) → left ≡ [] → text ≡ tail sc w.state → Appends mid now text → Replaying held mid sc w es left → Appends held now (report sc es)
unfolding report
replay_done held mid now sc w es left text none is grown r =
    let p = at_end held mid (start sc) w.state es left none r.so_far in
    Appends-trans held mid now (text_of (start sc) es) (tail sc (after (start sc) es)) p.0 (subst (λ t. Appends mid now t) (is ∙ ap (tail sc) p.1) grown)

pub replay_status : (held now : Option (List ℕ)) (sc : Scenario) (w : WorldView) (es left : List Event) → left ≡ [] → Replaying held now sc w es left → status_at w.state ≡ status sc es
unfolding status
replay_status held now sc w es left none r = ap status_at (at_end held now (start sc) w.state es left none r.so_far).1

-- ---- a history before its report

pub live_cut : (held mid now : Option (List ℕ)) (sc : Scenario) (es : List Event) → Appends held mid (history_lines es) → GrowsByPrefix mid now (report sc es) → GrowsByPrefix held now (live_text sc es)
unfolding live_text
live_cut held mid now sc es prefix grown = cut held mid now (history_lines es) (report sc es) prefix grown

pub live_front : (held now : Option (List ℕ)) (sc : Scenario) (es : List Event) → GrowsByPrefix held now (history_lines es) → GrowsByPrefix held now (live_text sc es)
unfolding live_text
live_front held now sc es g =
    let (behind, is) = g.begins in
    record { prefix = g.prefix; grown = g.grown; begins = (behind ++ report sc es, ap (λ t. t ++ report sc es) is ∙ append_assoc g.prefix behind (report sc es)) }

pub live_done : (held mid now : Option (List ℕ)) (sc : Scenario) (es : List Event) → Appends held mid (history_lines es) → Appends mid now (report sc es) → Appends held now (live_text sc es)
unfolding live_text
live_done held mid now sc es a b = Appends-trans held mid now (history_lines es) (report sc es) a b

-- what follows from a fact of a bad answer
pub on_err : {X E : Type 0} (r : Result X E) (P Q : Type 0) → (P → Q) → OnErr r P → OnErr r Q
on_err (Ok x) P Q f h = h
on_err (Err e) P Q f h = f h
