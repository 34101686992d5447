-- A scenario moved to version 2. This project's own.
use Rattle.std.specs.Prelude.{◌≡◌, ◌≤◌, length, ℕ, ◌==◌, List, [], ◌∷◌, ◌++◌, codes, if◌then◌else◌, Result, Ok}
use Rattle.serde_json.specs.Data.{Data, null, boolean, number, string, array, object, unsigned, Members, put}
use Rattle.serde_json.specs.Written.{compact_text}
use Rattle.nc_scen.specs.declared.scenario.Scenario.{Scenario}
use Rattle.nc_scen.specs.Reading.{most_bytes, reading}
use Rattle.nc_values.specs.declared.refused.Refused.{Refused}
use Rattle.nc_values.specs.Json.{json_of, json_value}
use Rattle.nc_values.specs.Outcomes.{◌>>=◌}

-- the members of a version 1 value, with version 2 and the sizes that version 1 has
abbrev pub raised : Members → Members
raised ms = put (codes "zero") (number (unsigned 64)) (put (codes "block") (number (unsigned 64)) (put (codes "version") (number (unsigned 2)) ms))

abbrev pub raised_value : Data → Data
raised_value (object ms) = object (raised ms)
raised_value null = null
raised_value (boolean b) = boolean b
raised_value (number n) = number n
raised_value (string s) = string s
raised_value (array ds) = array ds

-- a value of this version, moved to version 2; a version 2 value is unchanged
abbrev pub moved : ℕ → Data → Data
moved version d = if version == 1 then raised_value d else d

-- what stands for an accepted scenario
abbrev pub moved_value : List ℕ → Result Data Refused
moved_value bytes = reading bytes >>= λ sc. json_value (json_of bytes) >>= λ d. Ok (moved sc.version d)

-- one line: the compact text of a value
abbrev pub line : Data → List ℕ
line d = compact_text d ++ 10 ∷ []

-- what the command writes for some bytes: the line of the value, or the refusal of the scenario
abbrev pub migrated : List ℕ → Result (List ℕ) Refused
migrated bytes = moved_value bytes >>= λ d. Ok (line d)

abbrev pub as_version_2 : Scenario → Scenario
as_version_2 sc = record sc { version = 2 }

-- the law: where the line is not too long, its reading is that of the input with version 2, and moving it again changes
-- nothing
pub record KeepsReading (bytes text : List ℕ) : Type 0 where
  pub reads : length text ≤ most_bytes → (sc : Scenario) → reading bytes ≡ Ok sc → reading text ≡ Ok (as_version_2 sc)
  pub again : length text ≤ most_bytes → migrated text ≡ Ok text
