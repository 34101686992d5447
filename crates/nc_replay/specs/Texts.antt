-- The events that a report tells, read from its text alone: the lines that begin with `e` and a blank, each with the token
-- of an event behind that. This project's own.
use Rattle.std.specs.Prelude.{ℕ, ◌==◌, List, map, take, drop, codes, if◌then◌else◌, Option, Some, None}
use Rattle.std.specs.List.{slice_split, filter_map}
use Rattle.std.specs.Str.{bytes_eq}
use Rattle.nc_scen.specs.declared.events.Event.{Event}
use Rattle.nc_scen.specs.Tokens.{token_in}

-- a text, cut at its line feeds
abbrev pub lines_of : List ℕ → List (List ℕ)
lines_of text = slice_split (λ c. c == 10) text

-- what stands behind the blank in a line of an event
abbrev pub event_token : List ℕ → Option (List ℕ)
event_token line = if bytes_eq (take 2 line) (codes "e ") then Some (drop 2 line) else None

abbrev pub event_tokens : List ℕ → List (List ℕ)
event_tokens text = filter_map event_token (lines_of text)

-- each read as a schedule's token, in a machine of so many harts and blocks
abbrev pub events_in : ℕ → ℕ → List ℕ → List (Option Event)
events_in harts blocks text = map (token_in harts blocks) (event_tokens text)
