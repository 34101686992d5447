-- What a reader may conclude from the lines of a run: the counts of its last line, and the owner of each byte. This
-- project's own.
use Rattle.std.specs.Prelude.{ℕ, ◌≡◌, ◌-◌, ◌^◌, min, Bool, true, false, List, [], ◌∷◌, flat_map}
use Rattle.std.specs.List.{count_by}
use Rattle.nc_num.specs.declared.places.Span.{Span}
use Rattle.nc_model.specs.declared.owners.Owner.{Owner}
use Rattle.nc_scen.specs.declared.events.Event.{Event}
use Rattle.nc_scen.specs.declared.scenario.Scenario.{Scenario}
use Rattle.nc_rules.specs.declared.records.Record.{Record}
use Rattle.nc_rules.specs.declared.records.Record.TheVariants as records
use Rattle.nc_rules.specs.World.{WorldState, start, first_owners, owners_moved}
use Rattle.nc_rules.specs.Run as run

-- ---- what a record tells

abbrev pub is_event : Record → Bool
is_event (records.Event e) = true
is_event _ = false

abbrev pub is_touch : Record → Bool
is_touch (records.Touched t) = true
is_touch _ = false

-- these bytes get this owner
abbrev pub owner_change : Record → List (Span × Owner)
owner_change (records.Ow span owner) = (span, owner) ∷ []
owner_change _ = []

-- ---- the counts

-- so many, but at most 2^64 − 1, where a count stands still
abbrev pub up_to_end : ℕ → ℕ
up_to_end n = min n (2 ^ 64 - 1)

-- after these events of a run
pub record AreCounted (w : WorldState) (rs : List Record) : Type 0 where
  pub events : w.events ≡ up_to_end (count_by is_event rs)
  pub touches : w.touches ≡ up_to_end (count_by is_touch rs)

abbrev pub EachRunIsCounted : Type 0
EachRunIsCounted = (sc : Scenario) (es : List Event) → AreCounted (run.after (start sc) es) (run.records (start sc) es)

-- ---- the owners

-- the changes that records tell, in order
abbrev pub owner_changes : List Record → List (Span × Owner)
owner_changes rs = flat_map owner_change rs

-- the owners of the start, with the changes of owners that the records of the run tell
abbrev pub EachRunTellsOwners : Type 0
EachRunTellsOwners = (sc : Scenario) (es : List Event) → (run.after (start sc) es).owners ≡ owners_moved (first_owners sc) (owner_changes (run.records (start sc) es))
