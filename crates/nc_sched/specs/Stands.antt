-- Where a schedule stands, and which events are still to come from there.
use Rattle.std.specs.Prelude.{ℕ, ◌+◌, ◌-◌, ◌==◌, ◌||◌, ◌&&◌, Bool, true, false, not, nat_le, nat_lt, List, [], ◌++◌, length, take, drop, slice_get, Option, Some, None, if◌then◌else◌}
use Rattle.rand_pcg.specs.Lcg.{Lcg}
use Rattle.nc_scen.specs.declared.events.Event.{Event}
use Rattle.nc_scen.specs.declared.scenario.Plan.{Plan}
use Rattle.nc_scen.specs.declared.scenario.Plan.TheVariants as plans
use Rattle.nc_scen.specs.declared.scenario.Scenario.{Scenario}
use Rattle.nc_rules.specs.World.{WorldState}
use Rattle.nc_rules.specs.Run.{after}
use Rattle.nc_rules.specs.Schedule.{size_of, begun, after_words, drawn, draws, round_event, round_len, round_from, rounds, finishing, no_event_enabled}
use Rattle.nc_world.specs.declared.world.Stepped.{Stepped}
use Rattle.nc_world.specs.declared.world.Stepped.TheVariants.{Done, Skipped}
use Rattle.nc_sched.specs.declared.sched.Phase.{Phase}
use Rattle.nc_sched.specs.declared.sched.Phase.TheVariants as phases

-- how many events may still be tried, the place in the list, in the draws or in a round, and the generator
pub record Stand : Type 0 where
  pub left : ℕ
  pub phase : Phase
  pub generator : Lcg

-- the listed events of a plan
abbrev pub listed : Plan → List Event
listed (plans.List es) = es
listed (plans.Seeded seed events) = []

-- where a plan begins
abbrev pub first_phase : Plan → Phase
first_phase (plans.List es) = phases.List 0
first_phase (plans.Seeded seed events) = phases.Drawn events

abbrev pub seed_of : Plan → ℕ
seed_of (plans.List es) = 0
seed_of (plans.Seeded seed events) = seed

abbrev pub first_stand : Scenario → Stand
first_stand sc = record { left = sc.limit; phase = first_phase sc.plan; generator = begun (seed_of sc.plan) }

-- whether the last event was done
abbrev pub is_done : Option Stepped → Bool
is_done None = false
is_done (Some Done) = true
is_done (Some Skipped) = false

-- the phase once the last event is answered: whether it was done counts in a round
abbrev pub after_answer : Phase → Bool → Phase
after_answer (phases.List i) was_done = phases.List i
after_answer (phases.Drawn k) was_done = phases.Drawn k
after_answer (phases.Round at moved) was_done = phases.Round at (moved || was_done)

abbrev pub harts_of : Scenario → ℕ
harts_of sc = length sc.harts

-- the events of a round that are left, and further rounds where one of the round is done
unfoldable pub round_on : ℕ → ℕ → Bool → List Event → WorldState → List Event
round_on harts n moved es w = es ++ (if moved || not (no_event_enabled w es) then rounds harts n (after w es) else [])

-- events, and the rounds that are wanted behind them
abbrev pub then_rounds : Scenario → ℕ → List Event → WorldState → List Event
then_rounds sc n es w = es ++ finishing sc.finish (harts_of sc) n (after w es)

-- the events that follow from a phase, with at most n further rounds
unfoldable pub follow : Scenario → ℕ → Phase → Lcg → WorldState → List Event
follow sc n (phases.List i) g w = then_rounds sc n (drop i (listed sc.plan)) w
follow sc n (phases.Drawn k) g w = then_rounds sc n (draws k (size_of sc) g w) w
follow sc n (phases.Round at moved) g w = round_on (harts_of sc) n moved (round_from (harts_of sc) at (round_len (harts_of sc) - at) w) w

-- the events that are still to come, from the state of the world and whether the last event was done
unfoldable pub to_come : Scenario → Stand → WorldState → Bool → List Event
to_come sc s w was_done = take s.left (follow sc s.left (after_answer s.phase was_done) s.generator w)

-- at the start of a round, where one begins here
abbrev pub enter_round : Scenario → Phase → Phase
enter_round sc (phases.List i) = if nat_le (length (listed sc.plan)) i && sc.finish then phases.Round 0 false else phases.List i
enter_round sc (phases.Drawn k) = if k == 0 && sc.finish then phases.Round 0 false else phases.Drawn k
enter_round sc (phases.Round at moved) = if nat_le (round_len (harts_of sc)) at && moved then phases.Round 0 false else phases.Round at moved

-- the event at a settled phase
abbrev pub given : Scenario → Phase → Lcg → WorldState → Option Event
given sc (phases.List i) g w = slice_get (listed sc.plan) i
given sc (phases.Drawn k) g w = if k == 0 then None else Some (drawn w (size_of sc) g)
given sc (phases.Round at moved) g w = if nat_lt at (round_len (harts_of sc)) then Some (round_event (harts_of sc) w at) else None

-- the phase and the generator behind it
abbrev pub next_phase : Phase → Phase
next_phase (phases.List i) = phases.List (i + 1)
next_phase (phases.Drawn k) = phases.Drawn (k - 1)
next_phase (phases.Round at moved) = phases.Round (at + 1) moved

abbrev pub next_generator : Phase → Lcg → Lcg
next_generator (phases.List i) g = g
next_generator (phases.Drawn k) g = after_words g
next_generator (phases.Round at moved) g = g
