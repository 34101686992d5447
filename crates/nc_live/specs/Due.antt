-- What is due for a scenario that is run in threads. This project's own.
use Rattle.std.specs.Prelude.{◌≡◌, ◌⊎◌, ℕ, List, Option, Bool, false, Result, Ok, Err}
use Rattle.std.specs.Io.KnownBytes.{Appends, Keeps}
use Rattle.nc_io.specs.Streams.{GrowsByPrefix}
use Rattle.nc_values.specs.declared.refused.Refused.{Refused}
use Rattle.nc_scen.specs.Reading.{reading}
use Rattle.nc_scen.specs.declared.events.Event.{Event}
use Rattle.nc_scen.specs.declared.scenario.Scenario.{Scenario}
use Rattle.nc_rules.specs.Flat.{IsLatest, IsKept}
use Rattle.nc_copied.specs.Copied.{IsEachCopied}
use Rattle.nc_rules.specs.Lines.{status, refused_line}
use Rattle.nc_top.specs.Due.{unknown_words, is_run}
use Rattle.nc_top.specs.Inputs.{HasRead}
use Rattle.nc_turns.specs.Played.{IsLiveRun, live_text}

-- a history of the scenario's threads was written, with the report of its run, whose status this is; its loads and channel
-- reads show flat memory up to the first touch, after each prefix without a touch flat memory's bytes are kept, and of each
-- answer of a copy before the first touch holds what nc_copied says: with its poll the destination had the source's bytes
pub record WroteLive (before now : Option (List ℕ)) (sc : Scenario) (answered : ℕ) : Type 0 where
  pub history : List Event
  pub run : IsLiveRun sc history
  pub status : answered ≡ status sc history
  pub text : Appends before now (live_text sc history)
  pub flat : IsLatest sc history × IsKept sc history × IsEachCopied sc history

-- nothing was written, or a prefix of what is due for a history of the scenario's threads
abbrev pub GrewByLive : Option (List ℕ) → Option (List ℕ) → Scenario → Type 0
GrewByLive before now sc = Keeps before now ⊎ ((es : List Event) × IsLiveRun sc es × GrowsByPrefix before now (live_text sc es))

-- what is due for a reading was written and answered: a run in threads, or the line of the refusal
abbrev pub WroteFor : Option (List ℕ) → Option (List ℕ) → Result Scenario Refused → ℕ → Type 0
WroteFor before now (Ok sc) answered = WroteLive before now sc answered
WroteFor before now (Err r) answered = (answered ≡ 3) × Appends before now (refused_line r)

abbrev pub GrewFor : Option (List ℕ) → Option (List ℕ) → Result Scenario Refused → Type 0
GrewFor before now (Ok sc) = GrewByLive before now sc
GrewFor before now (Err r) = Keeps before now ⊎ GrowsByPrefix before now (refused_line r)

-- nothing was written, or a prefix of what is due: for words that are no command the refusal's line, else what is due for all
-- bytes that were read
abbrev pub WrotePrefix : List (List ℕ) → Option (List ℕ) → Option (List ℕ) → Bool → Option (List ℕ) → Option (List ℕ) → Type 0
WrotePrefix words before now ended held_before held_now = Keeps held_before held_now
    ⊎ ((is_run words ≡ false) × GrowsByPrefix held_before held_now unknown_words.text)
    ⊎ ((bytes : List ℕ) × HasRead before now ended bytes × GrewFor held_before held_now (reading bytes))
