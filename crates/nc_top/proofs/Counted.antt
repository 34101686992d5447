-- A run of which only counts are kept: what was counted, and what is still to come.
use Rattle.std.proofs.Common.{◌≡◌, ◌<◌, ◌≤◌, ◌+◌, ℕ, List, [], ◌∷◌, ◌++◌, length, Option, Some, None, Bool, true, false, refl, sym, ap, subst, ◌∙◌, arith}
use Rattle.std.specs.Prelude.{if◌then◌else◌, cond}
use Rattle.std.specs.List.{count_by}
use Rattle.std.proofs.lemmas.List.Sums.{sum_by-append}
use Rattle.nc_gen.specs.Generator.{harts, scenario}
use Rattle.nc_gen.specs.Summary.{is_copydone, is_noslot, line, line_of, summary}
use Rattle.nc_gen.proofs.Accepting.{count_harts}
use Rattle.nc_gen.proofs.Answering.{one_copydone, one_noslot}
use Rattle.nc_scen.specs.Accepted.{IsAccepted}
use Rattle.nc_scen.specs.declared.events.Event.{Event}
use Rattle.nc_scen.specs.declared.scenario.Scenario.{Scenario}
use Rattle.nc_calls.specs.MachineLaws.{SameShape}
use Rattle.nc_rules.specs.declared.records.Record.{Record}
use Rattle.nc_rules.specs.Events.{enabled}
use Rattle.nc_rules.specs.Lines.{status, status_at}
use Rattle.nc_rules.specs.Next.{next, event_records}
use Rattle.nc_rules.specs.Run.{after, records}
use Rattle.nc_rules.specs.Schedule.{sched}
use Rattle.nc_rules.specs.World.{WorldState, start}
use Rattle.nc_sched.specs.Stands.{Stand, first_stand, to_come, is_done}
use Rattle.nc_world.proofs.Starts.{start_harts, start_size, start_ram}
use Rattle.nc_world.specs.WorldView.{WorldView, answer}
use Rattle.nc_world.specs.declared.world.Stepped.{Stepped}
use Rattle.nc_world.specs.declared.world.Stepped.TheVariants.{Done, Skipped}
use Rattle.nc_top.specs.declared.generated.Tally.{Tally}
use Rattle.nc_top.specs.Tallies.{counted, tally_of}

count_more : (p : Record → Bool) (rs ss : List Record) → count_by p (rs ++ ss) ≡ count_by p rs + count_by p ss
count_more p rs ss = sum_by-append (λ (r : Record). cond (p r) 1 0) rs ss

count_next : (p : Record → Bool) (w : WorldState) (e : Event) (es : List Event) → count_by p (records w (e ∷ es)) ≡ count_by p (event_records w e) + count_by p (records (next w e) es)
unfolding records
count_next p w e es = count_more p (event_records w e) (records (next w e) es)

count_none : (p : Record → Bool) (w : WorldState) → count_by p (records w []) ≡ 0
unfolding records
count_none p w = refl

state_next : (w : WorldState) (e : Event) (es : List Event) → after w (e ∷ es) ≡ after (next w e) es
unfolding after
state_next w e es = refl

state_none : (w : WorldState) → after w [] ≡ w
unfolding after
state_none w = refl

-- The whole run is what was counted, and then the run of the events that are left.
pub record IsCounted (w0 w : WorldState) (all left : List Event) (t : Tally) : Type 0 where
  pub state : after w0 all ≡ after w left
  pub done : count_by is_copydone (records w0 all) ≡ t.done + count_by is_copydone (records w left)
  pub missed : count_by is_noslot (records w0 all) ≡ t.missed + count_by is_noslot (records w left)

pub at_start : (w0 : WorldState) (all : List Event) → IsCounted w0 w0 all all (record { done = 0; missed = 0 })
at_start w0 all = record { state = refl; done = omega arith; missed = omega arith }

pub one_more : (w0 w : WorldState) (all left rest : List Event) (e : Event) (t : Tally) → left ≡ e ∷ rest → IsCounted w0 w all left t → IsCounted w0 (next w e) all rest (counted t (event_records w e))
one_more w0 w all left rest e t here s = record {
  state = s.state ∙ ap (after w) here ∙ state_next w e rest;
  done = omega (arith, s.done, ap (λ es. count_by is_copydone (records w es)) here, count_next is_copydone w e rest);
  missed = omega (arith, s.missed, ap (λ es. count_by is_noslot (records w es)) here, count_next is_noslot w e rest);
}

-- all events are made: the whole run is counted
pub at_end : (w0 w : WorldState) (all left : List Event) (t : Tally) → left ≡ [] → IsCounted w0 w all left t → (w ≡ after w0 all) × (t ≡ tally_of (records w0 all))
at_end w0 w all left t none s =
    let done : t.done ≡ count_by is_copydone (records w0 all) = omega (arith, s.done, ap (λ es. count_by is_copydone (records w es)) none, count_none is_copydone w) in
    let missed : t.missed ≡ count_by is_noslot (records w0 all) = omega (arith, s.missed, ap (λ es. count_by is_noslot (records w es)) none, count_none is_noslot w) in
    (sym (s.state ∙ ap (after w) none ∙ state_none w), ap (λ (d : ℕ). record { done = d; missed = t.missed }) done ∙ ap (λ (m : ℕ). record { done = count_by is_copydone (records w0 all); missed = m }) missed)

-- ---- a scenario's run in the middle

-- the world has the sizes of the scenario, no records are left, the events still to come are those of its schedule, and
-- each answer came at most as often as events were tried
pub record Counts (sc : Scenario) (w : WorldView) (s : Stand) (last : Option Stepped) (t : Tally) : Type 0 where
  pub so_far : IsCounted (start sc) w.state (sched sc) (to_come sc s w.state (is_done last)) t
  pub few_done : t.done + s.left ≤ 400000
  pub few_missed : t.missed + s.left ≤ 400000
  pub none : w.records ≡ []
  pub harts : length w.state.machine.harts ≡ length sc.harts
  pub size : w.state.machine.size ≡ sc.block_size
  pub ram : length w.state.machine.cache.ram ≡ sc.ram

pub count_start : (sc : Scenario) (w : WorldView) (s : Stand) → IsAccepted sc → w.state ≡ start sc → w.records ≡ [] → s ≡ first_stand sc → to_come sc s (start sc) (is_done None) ≡ sched sc
    → Counts sc w s None (record { done = 0; missed = 0 })
count_start sc w s a at none first whole =
    let left : s.left ≤ 400000 = omega (arith, ap (λ (v : Stand). v.left) first, a.limit) in
    record {
      so_far = subst (λ v. IsCounted (start sc) v (sched sc) (to_come sc s v false) (record { done = 0; missed = 0 })) (sym at)
          (subst (λ left. IsCounted (start sc) (start sc) (sched sc) left (record { done = 0; missed = 0 })) (sym whole) (at_start (start sc) (sched sc)));
      few_done = omega (arith, left);
      few_missed = omega (arith, left);
      none = none;
      harts = ap (λ (v : WorldState). length v.machine.harts) at ∙ start_harts sc;
      size = ap (λ (v : WorldState). v.machine.size) at ∙ start_size sc;
      ram = ap (λ (v : WorldState). length v.machine.cache.ram) at ∙ start_ram sc a;
    }

-- an event is answered Done exactly where it may happen
done_is : (t : Bool) → is_done (Some (if t then Done else Skipped)) ≡ t
done_is true = refl
done_is false = refl

pub count_on : (sc : Scenario) (w v : WorldView) (s u : Stand) (last : Option Stepped) (a : Stepped) (e : Event) (t n : Tally)
    → to_come sc s w.state (is_done last) ≡ e ∷ to_come sc u (next w.state e) (enabled w.state e)
    → v.state ≡ next w.state e → v.records ≡ [] → SameShape w.state.machine v.state.machine → a ≡ answer w.state e → n ≡ counted t (event_records w.state e) → u.left < s.left
    → Counts sc w s last t → Counts sc v u (Some a) n
count_on sc w v s u last a e t n here stepped none same answered tally fewer c =
    let done : is_done (Some a) ≡ enabled w.state e = ap (λ b. is_done (Some b)) answered ∙ done_is (enabled w.state e) in
    let gone : IsCounted (start sc) (next w.state e) (sched sc) (to_come sc u (next w.state e) (enabled w.state e)) n =
    subst (λ m. IsCounted (start sc) (next w.state e) (sched sc) (to_come sc u (next w.state e) (enabled w.state e)) m) (sym tally)
    (one_more (start sc) w.state (sched sc) (to_come sc s w.state (is_done last)) (to_come sc u (next w.state e) (enabled w.state e)) e t here c.so_far) in
    record {
      so_far = subst (λ (x : WorldState). IsCounted (start sc) x (sched sc) (to_come sc u x (is_done (Some a))) n) (sym stepped)
          (subst (λ b. IsCounted (start sc) (next w.state e) (sched sc) (to_come sc u (next w.state e) b) n) (sym done) gone);
      few_done = omega (arith, fewer, c.few_done, one_copydone w.state e, ap (λ (m : Tally). m.done) tally);
      few_missed = omega (arith, fewer, c.few_missed, one_noslot w.state e, ap (λ (m : Tally). m.missed) tally);
      none = none;
      harts = same.harts ∙ c.harts;
      size = same.size ∙ c.size;
      ram = same.ram ∙ c.ram;
    }

-- the events are at their end
pub count_end : (sc : Scenario) (w : WorldView) (s : Stand) (last : Option Stepped) (t : Tally) → to_come sc s w.state (is_done last) ≡ [] → Counts sc w s last t
    → (w.state ≡ after (start sc) (sched sc)) × (t ≡ tally_of (records (start sc) (sched sc)))
count_end sc w s last t none c = at_end (start sc) w.state (sched sc) (to_come sc s w.state (is_done last)) t none c.so_far

-- ---- the run of a number's scenario

pub status_is : (n : ℕ) (sc : Scenario) (w : WorldState) → sc ≡ scenario n → w ≡ after (start sc) (sched sc) → status_at w ≡ status (scenario n) (sched (scenario n))
unfolding status
status_is n sc w same at = ap status_at at ∙ ap (λ (s : Scenario). status_at (after (start s) (sched s))) same

pub line_is : (n count : ℕ) (sc : Scenario) (w : WorldState) (t : Tally) → sc ≡ scenario n → count ≡ length sc.harts → w ≡ after (start sc) (sched sc) → t ≡ tally_of (records (start sc) (sched sc))
    → line n count w t.done t.missed ≡ summary n
unfolding summary
line_is n count sc w t same all at tally =
    let there : count ≡ harts n = all ∙ ap (λ (s : Scenario). length s.harts) same ∙ count_harts n in
    ap (λ (k : ℕ). line n k w t.done t.missed) there
    ∙ ap (λ (v : WorldState). line n (harts n) v t.done t.missed) at
    ∙ ap (λ (m : Tally). line n (harts n) (after (start sc) (sched sc)) m.done m.missed) tally
    ∙ ap (λ (s : Scenario). line_of n (after (start s) (sched s)) (records (start s) (sched s))) same
