-- What a call has read.
use Rattle.std.specs.Prelude.{◌≡◌, ◌≢◌, ◌+◌, ◌<◌, ◌≤◌, ◌⊎◌, ◌↔◌, ℕ, Ok, List, Bool, true, false, [], Option, length}
use Rattle.std.specs.Io.KnownBytes.{Consumes, IsAtEnd, Keeps}
use Rattle.nc_io.specs.Streams.{GrowsByPrefix}
use Rattle.nc_migrate.specs.Migrating.{KeepsReading}
use Rattle.nc_top.specs.Due.{due, due_for, command_of, asks_input}
use Rattle.nc_scen.specs.Reading.{most_bytes, reading}
use Rattle.nc_scen.specs.declared.scenario.Scenario.{Scenario}
use Rattle.nc_counts.specs.Touches.{TellsTouches}
use Rattle.nc_rules.specs.Flat.{IsLatest, IsKept}
use Rattle.nc_copied.specs.Copied.{IsEachCopied}
use Rattle.nc_rules.specs.Schedule.{sched}

-- The bytes were read, and they are all: the source told its end, or more came than a scenario may have.
pub record HasRead (before now : Option (List ℕ)) (ended : Bool) (bytes : List ℕ) : Type 0 where
  pub taken : Consumes before now bytes
  pub whole : ((ended ≡ true) × IsAtEnd now) ⊎ (most_bytes < length bytes)

-- Of the source at most one byte more was taken than a scenario may have, whatever came of it.
pub record TakesFew (before now : Option (List ℕ)) : Type 0 where
  pub bytes : List ℕ
  pub taken : Consumes before now bytes
  pub few : length bytes ≤ most_bytes + 1

-- Nothing was written, or a prefix of what is due: for words that ask for no input by the words alone, else for all bytes
-- that were read.
abbrev pub WrotePrefix : List (List ℕ) → Option (List ℕ) → Option (List ℕ) → Bool → Option (List ℕ) → Option (List ℕ) → Type 0
WrotePrefix words before now ended held_before held_now = Keeps held_before held_now
    ⊎ ((asks_input (command_of words) ≡ false) × GrowsByPrefix held_before held_now (due words []).text)
    ⊎ ((bytes : List ℕ) × HasRead before now ended bytes × GrowsByPrefix held_before held_now (due words bytes).text)

-- The status is a refusal's exactly where the bytes are no scenario.
abbrev pub IsRunWhereRead : ℕ → List ℕ → Type 0
IsRunWhereRead status bytes = (status ≢ 3) ↔ ((sc : Scenario) × (reading bytes ≡ Ok sc))

-- Where the status is not a refusal's, the bytes are a scenario. In the run of its schedule the loads and channel reads up to
-- the first touch show flat memory; after each prefix of the run without a touch flat memory's bytes are kept; and of each
-- answer of a copy before the first touch holds what nc_copied says: with its poll the destination had the source's bytes.
abbrev pub IsFlat : ℕ → List ℕ → Type 0
IsFlat status bytes = status ≢ 3 → (sc : Scenario) × (reading bytes ≡ Ok sc) × (IsLatest sc (sched sc) × IsKept sc (sched sc) × IsEachCopied sc (sched sc))

-- Where the status is not a refusal's, the bytes are a scenario, and the status is 1 exactly where a line of the run of its
-- schedule is a touch; with each other status that run has no touch.
abbrev pub TellsItsTouches : ℕ → List ℕ → Type 0
TellsItsTouches status bytes = status ≢ 3 → (sc : Scenario) × (reading bytes ≡ Ok sc) × TellsTouches status sc (sched sc)

-- A text stands for the scenario that some bytes are: its reading is that of the bytes with version 2, and where it is not
-- too long to be read, what `run` owes for it, report and status, is what it owes for the bytes.
unfoldable pub KeepsScenario : List ℕ → List ℕ → Type 0
KeepsScenario bytes text = KeepsReading bytes text × (length text ≤ most_bytes → due_for (reading text) ≡ due_for (reading bytes))
