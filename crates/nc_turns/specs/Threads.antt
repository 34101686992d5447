-- The threads of a scenario, one for each driver, one for the channels and one for the caches; which events each has, and
-- in which order they come. This project's own.
use Rattle.std.specs.Prelude.{◌≡◌, ℕ, ◌+◌, ◌/◌, ◌%◌, ◌≤◌, ◌<◌, ◌==◌, ◌⊎◌, Bool, true, false, if◌then◌else◌, List, [], ◌∷◌, ◌++◌, length, take, slice_get, Option, Some, None}
use Rattle.std.specs.List.{count_by}
use Rattle.nc_num.specs.declared.names.HartNo.{HartNo}
use Rattle.nc_scen.specs.declared.events.Event.{Event}
use Rattle.nc_scen.specs.declared.events.Event.TheVariants.{Issue, Try, Told, Drain, Fill, Evict, ChanRead, ChanWrite}
use Rattle.nc_scen.specs.declared.scenario.Scenario.{Scenario}
use Rattle.nc_pool.specs.declared.pool.PoolTry.{PoolTry}
use Rattle.nc_pool.specs.Answers.{found_of}
use Rattle.nc_rules.specs.Driver.{searching}
use Rattle.nc_rules.specs.Run.{after}
use Rattle.nc_rules.specs.Schedule.{begun, channel_event, size_of, first_word, second_word}
use Rattle.nc_rules.specs.World.{WorldState, driver_of, start}
use Rattle.nc_sched.specs.Stands.{seed_of}
use Rattle.nc_world.specs.Looks.{is_ended}
use Rattle.nc_turns.specs.declared.threads.Turner.{Turner}
use Rattle.nc_turns.specs.declared.threads.Turner.TheVariants.{Driver, Channels, Caches}
use Rattle.nc_turns.specs.Draws.{after_draws, copy_event}

-- ---- the world of a history

-- the world after these events of a scenario
abbrev pub world_of : Scenario → List Event → WorldState
world_of sc es = after (start sc) es

-- the slot word that a driver's search tries next there
abbrev pub search_of : Scenario → List Event → HartNo → Option ℕ
search_of sc es h = searching (driver_of (world_of sc es) h.0)

-- ---- the events of a thread

-- the scenario has this thread
abbrev pub IsThread : Scenario → Turner → Type 0
IsThread sc (Driver h) = h.0 < length sc.harts
IsThread sc Channels = Unit {0}
IsThread sc Caches = Unit {0}

-- a driver's steps, the answers told to it, and the drains of its queue
abbrev pub is_driver_event : HartNo → Event → Bool
is_driver_event g (Issue h) = h.0 == g.0
is_driver_event g (Try h) = false
is_driver_event g (Told h got) = h.0 == g.0
is_driver_event g (Drain h i) = h.0 == g.0
is_driver_event g (Fill h b) = false
is_driver_event g (Evict h b) = false
is_driver_event g (ChanRead c) = false
is_driver_event g (ChanWrite c) = false

-- the transactions of all channels
abbrev pub is_channel_event : Event → Bool
is_channel_event (Issue h) = false
is_channel_event (Try h) = false
is_channel_event (Told h got) = false
is_channel_event (Drain h i) = false
is_channel_event (Fill h b) = false
is_channel_event (Evict h b) = false
is_channel_event (ChanRead c) = true
is_channel_event (ChanWrite c) = true

-- the fills and evictions of all caches
abbrev pub is_cache_event : Event → Bool
is_cache_event (Issue h) = false
is_cache_event (Try h) = false
is_cache_event (Told h got) = false
is_cache_event (Drain h i) = false
is_cache_event (Fill h b) = true
is_cache_event (Evict h b) = true
is_cache_event (ChanRead c) = false
is_cache_event (ChanWrite c) = false

-- whether an event is one of a thread: a try is of none
abbrev pub belongs : Turner → Event → Bool
belongs (Driver h) e = is_driver_event h e
belongs Channels e = is_channel_event e
belongs Caches e = is_cache_event e

-- how many events of a thread there are
abbrev pub made_by : Turner → List Event → ℕ
made_by t es = count_by (belongs t) es

-- how many a thread makes at most
abbrev pub most : Scenario → ℕ
most sc = sc.limit / 8

-- ---- the order of a thread's events

abbrev pub is_even : ℕ → Bool
is_even n = n % 2 == 0

-- the next event of a thread, which is no driver at a search whose turn it is to issue: a driver issues and drains by turns,
-- the channels go round their eight transactions, the caches draw
abbrev pub next_of : Scenario → List Event → Turner → Event
next_of sc es (Driver h) = if is_even (made_by (Driver h) es) then Issue h else Drain h 0
next_of sc es Channels = channel_event (made_by Channels es % 8)
next_of sc es Caches = (let g = after_draws (begun (seed_of sc.plan)) (made_by Caches es) in copy_event (size_of sc) (first_word g) (second_word g))

-- an event comes next in its thread behind a history: where a driver issues that is at a search, it is told an answer
abbrev pub ComesNext : Scenario → List Event → Event → Type 0
ComesNext sc es (Issue h) = (is_even (made_by (Driver h) es) ≡ true) × (search_of sc es h ≡ None)
ComesNext sc es (Try h) = ⊥
ComesNext sc es (Told h got) = (is_even (made_by (Driver h) es) ≡ true) × ((k : ℕ) × (search_of sc es h ≡ Some k))
ComesNext sc es (Drain h i) = (is_even (made_by (Driver h) es) ≡ false) × (i ≡ 0)
ComesNext sc es (Fill h b) = Fill h b ≡ next_of sc es Caches
ComesNext sc es (Evict h b) = Evict h b ≡ next_of sc es Caches
ComesNext sc es (ChanRead c) = ChanRead c ≡ next_of sc es Channels
ComesNext sc es (ChanWrite c) = ChanWrite c ≡ next_of sc es Channels

-- a history of threads: each event comes next in its thread behind those before it, and no thread has more than its most
pub record IsThreaded (sc : Scenario) (es : List Event) : Type 0 where
  pub each : (n : ℕ) (e : Event) → slice_get es n ≡ Some e → ComesNext sc (take n es) e
  pub few : (t : Turner) → made_by t es ≤ most sc

-- ---- the conditions of a turn

-- the thread is no driver that is at a search while it is to issue
abbrev pub IsFree : Scenario → List Event → Turner → Type 0
IsFree sc es (Driver h) = is_even (made_by (Driver h) es) ≡ true → search_of sc es h ≡ None
IsFree sc es Channels = Unit {0}
IsFree sc es Caches = Unit {0}

-- a log of tries ends with this one
abbrev pub EndsWith : List (ℕ × ℕ) → ℕ × ℕ → Type 0
EndsWith log t = (prefix : List (ℕ × ℕ)) × (log ≡ prefix ++ t ∷ [])

-- what a driver is told of a pool's answer: that it got the slot, exactly where the word found is that of a free slot
abbrev pub told_by : HartNo → PoolTry → Event
told_by h a = Told h (found_of a == 0)

-- ---- the end of the threads

-- each thread made its most
pub record AreFull (sc : Scenario) (es : List Event) : Type 0 where
  pub drivers : (h : HartNo) → h.0 < length sc.harts → made_by (Driver h) es ≡ most sc
  pub channels : made_by Channels es ≡ most sc
  pub caches : made_by Caches es ≡ most sc

-- the run is at its end, or each thread made its most
abbrev pub AreThrough : Scenario → List Event → Type 0
AreThrough sc es = (is_ended (world_of sc es) ≡ true) ⊎ AreFull sc es
