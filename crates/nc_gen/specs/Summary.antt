-- The line that sums up the run of a scenario of a number. This project's own.
use Rattle.std.specs.Prelude.{ℕ, Bool, true, false, List, [], ◌∷◌, codes, decimal, Option, Some, None}
use Rattle.std.specs.List.{count_by}
use Rattle.nc_scen.specs.declared.events.Event.{Event}
use Rattle.nc_rules.specs.declared.answers.Answer.{Answer}
use Rattle.nc_rules.specs.declared.answers.Answer.TheVariants as answers
use Rattle.nc_rules.specs.declared.answers.Refusal.TheVariants as refusals
use Rattle.nc_rules.specs.declared.records.Record.{Record}
use Rattle.nc_rules.specs.declared.records.Record.TheVariants as records
use Rattle.nc_rules.specs.Lines.{words}
use Rattle.nc_rules.specs.Run as run
use Rattle.nc_rules.specs.Schedule.{sched}
use Rattle.nc_rules.specs.World.{WorldState, start}
use Rattle.nc_gen.specs.Generator.{harts, scenario}

-- the answer that a record tells
abbrev pub answer_in : Record → Option Answer
answer_in (records.Ans h op a) = Some a
answer_in _ = None

-- the answer of a copy that is done
abbrev pub copies : Option Answer → Bool
copies (Some answers.CopyDone) = true
copies _ = false

unfoldable pub is_copydone : Record → Bool
is_copydone r = copies (answer_in r)

-- the answer that each slot was found held
abbrev pub misses : Option Answer → Bool
misses (Some (answers.Refused refusals.NoSlot)) = true
misses _ = false

unfoldable pub is_noslot : Record → Bool
is_noslot r = misses (answer_in r)

-- the line of a number, its harts, a state, and how often the two answers came
abbrev pub line : ℕ → ℕ → WorldState → ℕ → ℕ → List ℕ
line n count w done missed =
    words (codes "gen" ∷ decimal n ∷ codes "harts" ∷ decimal count ∷ codes "events" ∷ decimal w.events ∷ codes "touches" ∷ decimal w.touches ∷ codes "copydone" ∷ decimal done ∷ codes "noslot" ∷ decimal missed ∷ [])

-- the line of a state of the number's scenario, and the records of the run up to there
abbrev pub line_of : ℕ → WorldState → List Record → List ℕ
line_of n w rs = line n (harts n) w (count_by is_copydone rs) (count_by is_noslot rs)

-- the line of the run of some events
abbrev pub line_after : ℕ → List Event → List ℕ
line_after n es = line_of n (run.after (start (scenario n)) es) (run.records (start (scenario n)) es)

-- the line of the run of the schedule of the number's scenario
unfoldable pub summary : ℕ → List ℕ
summary n = line_after n (sched (scenario n))
