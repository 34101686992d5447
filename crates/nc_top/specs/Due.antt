-- What is due for the words and the bytes that were read.
use Rattle.std.specs.Prelude.{◌≢◌, ℕ, List, [], ◌∷◌, codes, Bool, true, false, Option, Some, None, option_map, Result, Ok, Err, if◌then◌else◌}
use Rattle.std.specs.Str.{bytes_eq}
use Rattle.nc_values.specs.Numbers.{number_in}
use Rattle.nc_scen.specs.Reading.{reading}
use Rattle.nc_values.specs.declared.refused.Refused.{Refused}
use Rattle.nc_scen.specs.declared.scenario.Scenario.{Scenario}
use Rattle.nc_rules.specs.Schedule.{sched}
use Rattle.nc_gen.specs.Generator.{scenario}
use Rattle.nc_gen.specs.Summary.{summary}
use Rattle.nc_migrate.specs.Migrating.{migrated}
use Rattle.nc_pieces.specs.declared.refused.PoolRefused.{PoolRefused}
use Rattle.nc_pieces.specs.Serving.{pool_answer, pool_refused_line}
use Rattle.nc_top.specs.declared.words.Command.{Command}
use Rattle.nc_top.specs.declared.words.Command.TheVariants.{Run, Migrate, Pool, Gen}
use Rattle.nc_rules.specs.Lines.{words, report, status, refused_line}

-- a status, and what is written
pub record Due : Type 0 where
  pub status : ℕ
  pub text : List ℕ

-- the words are `run`
abbrev pub is_run : List (List ℕ) → Bool
is_run [] = false
is_run (w ∷ []) = bytes_eq w (codes "run")
is_run (w ∷ v ∷ rest) = false

-- the words are `migrate`
abbrev pub is_migrate : List (List ℕ) → Bool
is_migrate [] = false
is_migrate (w ∷ []) = bytes_eq w (codes "migrate")
is_migrate (w ∷ v ∷ rest) = false

-- the words are `pool`
abbrev pub is_pool : List (List ℕ) → Bool
is_pool [] = false
is_pool (w ∷ []) = bytes_eq w (codes "pool")
is_pool (w ∷ v ∷ rest) = false

-- the number of the words `gen N`: in decimal digits without leading zeros, below 2^64
abbrev pub seed_in : List (List ℕ) → Option ℕ
seed_in [] = None
seed_in (w ∷ []) = None
seed_in (w ∷ v ∷ []) = if bytes_eq w (codes "gen") then number_in v else None
seed_in (w ∷ v ∷ u ∷ rest) = None

-- the command that the words are
abbrev pub command_of : List (List ℕ) → Option Command
command_of given = if is_run given then Some Run else (if is_migrate given then Some Migrate else (if is_pool given then Some Pool else option_map (λ n. Gen n) (seed_in given)))

-- a line, with the status of refused input
abbrev pub refusal : List ℕ → Due
refusal text = record { status = 3; text = text }

-- the run of a scenario's schedule
abbrev pub run_of : Scenario → Due
run_of sc = record { status = status sc (sched sc); text = report sc (sched sc) }

-- what is due for a scenario, or for a refusal
abbrev pub due_for : Result Scenario Refused → Due
due_for (Ok sc) = run_of sc
due_for (Err r) = refusal (refused_line r)

-- what is due for a scenario moved to version 2, or for a refusal
abbrev pub due_for_migrate : Result (List ℕ) Refused → Due
due_for_migrate (Ok text) = record { status = 0; text = text }
due_for_migrate (Err r) = refusal (refused_line r)

-- what is due for a pool of pieces, or for a refusal
abbrev pub due_for_pool : Result (List ℕ) PoolRefused → Due
due_for_pool (Ok text) = record { status = 0; text = text }
due_for_pool (Err r) = refusal (pool_refused_line r)

-- what is due for a number: the line and the status of the run of its scenario's schedule
abbrev pub due_for_gen : ℕ → Due
due_for_gen n = record { status = status (scenario n) (sched (scenario n)); text = summary n }

abbrev pub unknown_words : Due
unknown_words = record { status = 2; text = words (codes "refused" ∷ codes "words" ∷ []) }

-- what is due for a command and all bytes of the input
abbrev pub due_by : Command → List ℕ → Due
due_by Run bytes = due_for (reading bytes)
due_by Migrate bytes = due_for_migrate (migrated bytes)
due_by Pool bytes = due_for_pool (pool_answer bytes)
due_by (Gen n) bytes = due_for_gen n

-- the command reads an input
abbrev pub reads : Command → Bool
reads Run = true
reads Migrate = true
reads Pool = true
reads (Gen n) = false

-- what the words ask for reads an input
abbrev pub asks_input : Option Command → Bool
asks_input None = false
asks_input (Some command) = reads command

abbrev pub due_of : Option Command → List ℕ → Due
due_of None bytes = unknown_words
due_of (Some command) bytes = due_by command bytes

-- what is due for the words and all bytes of the input
unfoldable pub due : List (List ℕ) → List ℕ → Due
due given bytes = due_of (command_of given) bytes

-- an answer, and neither a failure nor out of memory
pub record IsAnswer (status : ℕ) : Type 0 where
  pub reads : status ≢ 4
  pub writes : status ≢ 5
  pub remembers : status ≢ 6
