-- The state before any event.
use Rattle.std.proofs.Common.{◌≡◌, ℕ, ◌/◌, List, [], length, refl, sym, ◌∙◌, subst, arith}
use Rattle.nc_scen.specs.declared.events.Event.{Event}
use Rattle.nc_scen.specs.declared.scenario.Scenario.{Scenario}
use Rattle.nc_scen.specs.Accepted.{IsAccepted}
use Rattle.nc_rules.specs.Run.{after}
use Rattle.nc_rules.specs.Schedule.{begun}
use Rattle.nc_rules.specs.World.{start}
use Rattle.nc_sched.specs.Stands.{seed_of}
use Rattle.nc_flatness.specs.Flatness.{IsWorldOf}
use Rattle.nc_flatness.specs.Steps.{WorldsStart}
use Rattle.nc_world.specs.WorldView.{WorldView}
use Rattle.nc_turns.specs.declared.counts.Counts.{Counts}
use Rattle.nc_turns.specs.declared.draws.Draws.{Draws}
use Rattle.nc_turns.specs.Draws.{draw_from}
use Rattle.nc_turns.specs.States.{AreCounts, IsLive, IsRun}
use Rattle.nc_turns.specs.Threads.{world_of, IsThreaded}
use Rattle.nc_turns.proofs.Runs.{shown_is}

world-nil : (sc : Scenario) → world_of sc [] ≡ start sc
unfolding after
world-nil sc = refl

run-nil : (sc : Scenario) (w : WorldView) → IsAccepted sc → WorldsStart → w.state ≡ start sc → w.records ≡ [] → IsRun sc w []
run-nil sc w a law at none = record {
  accepted = a;
  world = shown_is w (world_of sc []) (at ∙ sym (world-nil sc)) none;
  of_scenario = subst (IsWorldOf sc) (sym (world-nil sc)) (law sc a);
  there = λ k d lt. absurd (omega (arith, lt));
  few = omega arith;
}

threaded-nil : (sc : Scenario) → IsThreaded sc []
threaded-nil sc = record { each = λ n e h. absurd (cc); few = λ t. omega arith }

live-nil : (sc : Scenario) (harts : ℕ) (counts : Counts) (draws : Draws) (w : WorldView) → IsAccepted sc → WorldsStart → harts ≡ length sc.harts → AreCounts counts [] → draws ≡ draw_from (begun (seed_of sc.plan))
    → w.state ≡ start sc → w.records ≡ [] → IsLive sc sc.limit harts (sc.ram / sc.block_size) counts draws w []
live-nil sc harts counts draws w a law is are drawn at none = record {
  limit_is = refl;
  harts_is = is;
  blocks_is = refl;
  run = run-nil sc w a law at none;
  threaded = threaded-nil sc;
  all = omega arith;
  counts_are = are;
  draws_is = drawn;
}

pub live_start : (sc : Scenario) (harts : ℕ) (counts : Counts) (draws : Draws) (w : WorldView) (es : List Event) → IsAccepted sc → WorldsStart → harts ≡ length sc.harts → AreCounts counts [] → draws ≡ draw_from (begun (seed_of sc.plan))
    → w.state ≡ start sc → w.records ≡ [] → es ≡ [] → IsLive sc sc.limit harts (sc.ram / sc.block_size) counts draws w es
live_start sc harts counts draws w es a law is are drawn at none empty =
    subst (λ (fs : List Event). IsLive sc sc.limit harts (sc.ram / sc.block_size) counts draws w fs) (sym empty) (live-nil sc harts counts draws w a law is are drawn at none)
