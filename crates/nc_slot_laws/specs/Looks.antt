-- What a run's records tell of a hart's looks at slot words, and what stands before an answer that no slot was found. This
-- project's own.
use Rattle.std.specs.Prelude.{ℕ, ◌≡◌, ◌-◌, ◌<◌, ◌==◌, Bool, true, false, if◌then◌else◌, List, [], ◌∷◌, ◌++◌, length, map, flat_map, drop, Option, Some, None}
use Rattle.std.specs.List.{range_with_len}
use Rattle.nc_num.specs.declared.names.HartNo.{HartNo}
use Rattle.nc_slots.specs.declared.slots.TryAnswer.{TryAnswer}
use Rattle.nc_slots.specs.declared.slots.TryAnswer.TheVariants as tries
use Rattle.nc_scen.specs.Accepted.{IsAccepted}
use Rattle.nc_scen.specs.declared.events.Event.{Event}
use Rattle.nc_scen.specs.declared.events.Event.TheVariants as events
use Rattle.nc_scen.specs.declared.scenario.Scenario.{Scenario}
use Rattle.nc_rules.specs.declared.answers.Answer.{Answer}
use Rattle.nc_rules.specs.declared.answers.Answer.TheVariants as answers
use Rattle.nc_rules.specs.declared.answers.Refusal.{Refusal}
use Rattle.nc_rules.specs.declared.answers.Refusal.TheVariants as refusals
use Rattle.nc_rules.specs.declared.records.Record.{Record}
use Rattle.nc_rules.specs.declared.records.Record.TheVariants as records
use Rattle.nc_rules.specs.declared.records.ToldAnswer.{ToldAnswer}
use Rattle.nc_rules.specs.declared.records.ToldAnswer.TheVariants as tolds
use Rattle.nc_rules.specs.Flat.{AreThere}
use Rattle.nc_rules.specs.Run as run
use Rattle.nc_rules.specs.World.{start}

-- ---- looks

-- a hart's look at a slot word: a try, or an answer that it was told
pub record Look : Type 0 where
  pub hart : HartNo
  pub word : ℕ
  -- the slot was not got
  pub missed : Bool

abbrev pub is_held : TryAnswer → Bool
is_held tries.Got = false
is_held (tries.Held g) = true

-- told as a miss, or as got where the word was held
abbrev pub is_missed : ToldAnswer → Bool
is_missed tolds.Got = false
is_missed tolds.Miss = true
is_missed (tolds.Held g) = true

-- the look that a record tells
abbrev pub look_in : Record → Option Look
look_in (records.Try h k a) = Some (record { hart = h; word = k; missed = is_held a })
look_in (records.Told h k a) = Some (record { hart = h; word = k; missed = is_missed a })
look_in _ = None

abbrev pub look_of : HartNo → Option Look → List Look
look_of h None = []
look_of h (Some l) = if l.hart.0 == h.0 then l ∷ [] else []

-- the looks of hart h, in order
abbrev pub looks : HartNo → List Record → List Look
looks h rs = flat_map (λ r. look_of h (look_in r)) rs

-- ---- since a step

abbrev pub event_in : Record → Option Event
event_in (records.Event e) = Some e
event_in _ = None

-- hart h's driver makes a step: it starts an operation, or goes on with one
abbrev pub is_step : HartNo → Option Event → Bool
is_step h None = false
is_step h (Some (events.Issue g)) = g.0 == h.0
is_step h (Some (events.Try g)) = false
is_step h (Some (events.Told g got)) = false
is_step h (Some (events.Drain g i)) = false
is_step h (Some (events.Fill g b)) = false
is_step h (Some (events.Evict g b)) = false
is_step h (Some (events.ChanRead chan)) = false
is_step h (Some (events.ChanWrite chan)) = false

-- the looks of hart h since its last step, record after record: with a step what was seen before it is gone. A search
-- makes no step, so these are of one operation
abbrev pub looks_since : HartNo → List Look → List Record → List Look
looks_since h seen [] = seen
looks_since h seen (r ∷ rs) = looks_since h (if is_step h (event_in r) then [] else seen ++ look_of h (look_in r)) rs

-- hart h looks at a slot word
abbrev pub is_look : HartNo → Option Event → Bool
is_look h None = false
is_look h (Some (events.Try g)) = g.0 == h.0
is_look h (Some (events.Told g got)) = g.0 == h.0
is_look h (Some (events.Issue g)) = false
is_look h (Some (events.Drain g i)) = false
is_look h (Some (events.Fill g b)) = false
is_look h (Some (events.Evict g b)) = false
is_look h (Some (events.ChanRead chan)) = false
is_look h (Some (events.ChanWrite chan)) = false

-- the event of the last record of one, or else this
abbrev pub later : Option Event → Option Event → Option Event
later before None = before
later before (Some e) = Some e

abbrev pub last_event : Option Event → List Record → Option Event
last_event before [] = before
last_event before (r ∷ rs) = last_event (later before (event_in r)) rs

-- ---- no slot

abbrev pub is_unslotted : Refusal → Bool
is_unslotted refusals.NoSlot = true
is_unslotted _ = false

-- an operation is refused since no slot was found; a scatter list has no segments then
abbrev pub is_noslot : Answer → Bool
is_noslot (answers.Refused r) = is_unslotted r
is_noslot (answers.NoSegments r) = is_unslotted r
is_noslot _ = false

-- the words 0, 1, .. in turn, so many, each missed
abbrev pub miss : HartNo → ℕ → Look
miss h k = record { hart = h; word = k; missed = true }

abbrev pub misses : HartNo → ℕ → List Look
misses h n = map (miss h) (range_with_len 0 n)

-- the last n
abbrev pub last_of : {A : Type 0} → ℕ → List A → List A
last_of n xs = drop (length xs - n) xs

-- What stands before an answer that no slot was found. Each word was tried: the last looks of the hart, as many as there
-- are slots, are at the words 0, 1, .. in turn, each missed; they stand behind its last step; and the answer is of the
-- event of the last of them. Without slots the hart looked at none, and the answer is of its step
pub record IsSearched (h : HartNo) (slots : ℕ) (before : List Record) : Type 0 where
  pub looked : last_of slots (looks h before) ≡ misses h slots
  pub since : last_of slots (looks_since h [] before) ≡ misses h slots
  pub last : 0 < slots → is_look h (last_event None before) ≡ true
  pub none : slots ≡ 0 → looks h before ≡ []
  pub start : slots ≡ 0 → last_event None before ≡ Some (events.Issue h)

-- before each such answer of a run, touches or not
abbrev pub EachIsSearched : Type 0
EachIsSearched =
    (sc : Scenario) (es : List Event) (h : HartNo) (op : ℕ) (a : Answer) (before behind : List Record) → IsAccepted sc → AreThere sc es → run.records (start sc) es ≡ before ++ records.Ans h op a ∷ behind → is_noslot a ≡ true
    → IsSearched h sc.slots before
