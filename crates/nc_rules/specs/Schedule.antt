-- The events of a scenario that are tried, in order: a list, or seeded draws; then finishing rounds; and at most so many
-- in all as the limit. This project's own; the generator is PCG XSH RR 64/32 on stream 54 (O'Neill, pcg-random.org).
use Rattle.std.specs.Prelude.{ℕ, zero, suc, ◌+◌, ◌-◌, ◌*◌, ◌/◌, ◌%◌, ◌==◌, nat_lt, Bool, true, false, List, [], ◌∷◌, ◌++◌, take, length, if◌then◌else◌, is_some}
use Rattle.rand_pcg.specs.Lcg.{Lcg, started, increment_of}
use Rattle.rand_pcg.specs.Pcg.{multiplier_64, pcg32}
use Rattle.nc_num.specs.declared.names.ChanNo.{ChanNo}
use Rattle.nc_scen.specs.declared.events.Event.{Event}
use Rattle.nc_scen.specs.declared.events.Event.TheVariants.{Issue, Try, Drain, Fill, Evict, ChanRead, ChanWrite}
use Rattle.nc_scen.specs.declared.scenario.Plan.{Plan}
use Rattle.nc_scen.specs.declared.scenario.Plan.TheVariants as plans
use Rattle.nc_scen.specs.declared.scenario.Scenario.{Scenario}
use Rattle.nc_rules.specs.declared.records.Record.{Record}
use Rattle.nc_rules.specs.Driver.{searching}
use Rattle.nc_rules.specs.World.{WorldState, hart, driver_of, start}
use Rattle.nc_rules.specs.Next.{next}
use Rattle.nc_rules.specs.Run.{after, records}

abbrev pub chan : ℕ → ChanNo
chan n = record { 0 = n }

-- a driver's turn: a try where it searches for a slot, else its next step
abbrev pub turn_event : WorldState → ℕ → Event
turn_event w h = if is_some (searching (driver_of w h)) then Try (hart h) else Issue (hart h)

-- ---- seeded draws: two words an event, a and b

-- the machine's size, as far as the draws depend on it
pub record Size : Type 0 where
  pub harts : ℕ
  pub blocks : ℕ

abbrev pub size_of : Scenario → Size
size_of sc = record { harts = length sc.harts; blocks = sc.ram / sc.block_size }

-- the event of two words: a's low four bits choose its kind, the others hart or channel, and b the entry or block
abbrev pub event_of : WorldState → Size → ℕ → ℕ → Event
event_of w s a b =
    if nat_lt (a % 16) 7 then turn_event w (a / 16 % s.harts)
    else (if nat_lt (a % 16) 10 then Drain (hart (a / 16 % s.harts)) (b % 8)
    else (if nat_lt (a % 16) 12 then ChanRead (chan (a / 16 % 4))
    else (if nat_lt (a % 16) 14 then ChanWrite (chan (a / 16 % 4))
    else (if a % 16 == 14 then Fill (hart (a / 16 % s.harts)) (record { 0 = b % s.blocks })
    else Evict (hart (a / 16 % s.harts)) (record { 0 = b % s.blocks })))))

-- the generator of a seed
abbrev pub begun : ℕ → Lcg
begun seed = started 64 multiplier_64 seed (increment_of 64 54)

-- the first word, the second, and the generator after both
abbrev pub first_word : Lcg → ℕ
first_word g = (pcg32 g).0

abbrev pub second_word : Lcg → ℕ
second_word g = (pcg32 (pcg32 g).1).0

abbrev pub after_words : Lcg → Lcg
after_words g = (pcg32 (pcg32 g).1).1

abbrev pub drawn : WorldState → Size → Lcg → Event
drawn w s g = event_of w s (first_word g) (second_word g)

-- the events of n draws
unfoldable pub draws : ℕ → Size → Lcg → WorldState → List Event
draws zero s g w = []
draws (suc n) s g w = drawn w s g ∷ draws n s (after_words g) (next w (drawn w s g))

-- the events before the finishing rounds
abbrev pub planned : Size → Plan → WorldState → List Event
planned s (plans.List es) w = es
planned s (plans.Seeded seed events) w = draws events s (begun seed) w

-- ---- finishing rounds

-- event i of a round: each hart's turn, each hart's oldest entry, and a read and a write of each channel
abbrev pub channel_event : ℕ → Event
channel_event j = if j % 2 == 0 then ChanRead (chan (j / 2)) else ChanWrite (chan (j / 2))

abbrev pub round_event : ℕ → WorldState → ℕ → Event
round_event harts w i =
    if nat_lt i harts then turn_event w i else (if nat_lt i (2 * harts) then Drain (hart (i - harts)) 0 else channel_event (i - 2 * harts))

-- the length of a round
abbrev pub round_len : ℕ → ℕ
round_len harts = 2 * harts + 8

-- n events of a round from event i on
unfoldable pub round_from : ℕ → ℕ → ℕ → WorldState → List Event
round_from harts i zero w = []
round_from harts i (suc n) w = round_event harts w i ∷ round_from harts (i + 1) n (next w (round_event harts w i))

abbrev pub round : ℕ → WorldState → List Event
round harts w = round_from harts 0 (round_len harts) w

abbrev pub is_nothing : List Record → Bool
is_nothing [] = true
is_nothing (r ∷ rs) = false

-- whether each of these events is skipped: an event that is done has a record
unfoldable pub no_event_enabled : WorldState → List Event → Bool
no_event_enabled w es = is_nothing (records w es)

-- rounds up to the first in which every event is skipped, at most n of them
unfoldable pub rounds : ℕ → ℕ → WorldState → List Event
rounds harts zero w = []
rounds harts (suc n) w = round harts w ++ (if no_event_enabled w (round harts w) then [] else rounds harts n (after w (round harts w)))

-- what follows the plan
abbrev pub finishing : Bool → ℕ → ℕ → WorldState → List Event
finishing true harts n w = rounds harts n w
finishing false harts n w = []

-- ---- all events that are tried

abbrev pub plan_events : Scenario → List Event
plan_events sc = planned (size_of sc) sc.plan (start sc)

unfoldable pub sched : Scenario → List Event
sched sc = take sc.limit (plan_events sc ++ finishing sc.finish (length sc.harts) sc.limit (after (start sc) (plan_events sc)))
