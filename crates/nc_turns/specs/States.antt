-- What holds of the states that keep a history beside its world. This project's own.
use Rattle.std.specs.Prelude.{◌≡◌, ℕ, ◌+◌, ◌/◌, ◌≤◌, ◌<◌, List, [], length, take, slice_index}
use Rattle.nc_scen.specs.declared.events.Event.{Event}
use Rattle.nc_scen.specs.declared.scenario.Scenario.{Scenario}
use Rattle.nc_scen.specs.Accepted.{IsAccepted}
use Rattle.nc_flatness.specs.Flatness.{IsWorldOf}
use Rattle.nc_rules.specs.Flat.{AreThere}
use Rattle.nc_rules.specs.Schedule.{begun}
use Rattle.nc_rules.specs.World.{hart}
use Rattle.nc_sched.specs.Stands.{seed_of}
use Rattle.nc_world.specs.WorldView.{WorldView}
use Rattle.nc_turns.specs.declared.counts.Counts.{Counts}
use Rattle.nc_turns.specs.declared.draws.Draws.{Draws}
use Rattle.nc_turns.specs.declared.threads.Turner.{Turner}
use Rattle.nc_turns.specs.declared.threads.Turner.TheVariants.{Driver, Channels, Caches}
use Rattle.nc_turns.specs.Draws.{after_draws, draw_from}
use Rattle.nc_turns.specs.Threads.{world_of, made_by, IsThreaded, AreThrough}

-- a history, and how many of its first events the threads made
pub record Past : Type 0 where
  pub events : List Event
  pub turns : ℕ

-- ---- counts

abbrev pub count_at : Counts → Turner → ℕ
count_at c (Driver h) = slice_index c.drivers h.0
count_at c Channels = c.channels
count_at c Caches = c.caches

-- one of the four harts that a machine may have, or another thread
abbrev pub IsCounted : Turner → Type 0
IsCounted (Driver h) = h.0 < 4
IsCounted Channels = Unit {0}
IsCounted Caches = Unit {0}

-- each thread's count is that of its events
abbrev pub AreCounts : Counts → List Event → Type 0
AreCounts c es = (t : Turner) → IsCounted t → count_at c t ≡ made_by t es

-- how many events the threads of a machine have in all, which has four harts at most
abbrev pub total : List Event → ℕ
total es =
    made_by (Driver (hart 0)) es + made_by (Driver (hart 1)) es + made_by (Driver (hart 2)) es + made_by (Driver (hart 3)) es + made_by Channels es + made_by Caches es

-- ---- the two states

-- the world is the run of the events on the scenario, and its records are dropped
pub record IsRun (sc : Scenario) (w : WorldView) (es : List Event) : Type 0 where
  pub accepted : IsAccepted sc
  pub world : w ≡ record { state = world_of sc es; records = [] }
  pub of_scenario : IsWorldOf sc (world_of sc es)
  pub there : AreThere sc es
  pub few : length es ≤ sc.limit

pub record IsLive (sc : Scenario) (limit harts blocks : ℕ) (counts : Counts) (draws : Draws) (w : WorldView) (es : List Event) : Type 0 where
  pub limit_is : limit ≡ sc.limit
  pub harts_is : harts ≡ length sc.harts
  pub blocks_is : blocks ≡ sc.ram / sc.block_size
  pub run : IsRun sc w es
  pub threaded : IsThreaded sc es
  pub all : length es ≤ total es
  pub counts_are : AreCounts counts es
  pub draws_is : draws ≡ draw_from (after_draws (begun (seed_of sc.plan)) (made_by Caches es))

pub record IsDone (sc : Scenario) (limit turns : ℕ) (w : WorldView) (es : List Event) : Type 0 where
  pub limit_is : limit ≡ sc.limit
  pub run : IsRun sc w es
  pub turns_few : turns ≤ length es
  pub threaded : IsThreaded sc (take turns es)
  pub through : AreThrough sc (take turns es)
