-- The laws of flat memory, as statements, of every accepted scenario.
use Rattle.std.specs.Prelude.{ℕ, ◌≡◌, ◌⊎◌, true, List, length}
use Rattle.nc_num.specs.Places.{covers}
use Rattle.nc_model.specs.Flat.{Untouched, flat, deeds}
use Rattle.nc_scen.specs.Accepted.{IsAccepted}
use Rattle.nc_scen.specs.Events.{IsThere}
use Rattle.nc_scen.specs.Regions.{pool_of}
use Rattle.nc_scen.specs.declared.events.Event.{Event}
use Rattle.nc_scen.specs.declared.scenario.Scenario.{Scenario}
use Rattle.nc_rules.specs.Flat.{run_trace, AreThere, IsLatest, IsKept}
use Rattle.nc_rules.specs.Run.{after}
use Rattle.nc_rules.specs.Start.{memory}
use Rattle.nc_rules.specs.EventTouches.{owner_of}
use Rattle.nc_rules.specs.World.{WorldState, start}
use Rattle.nc_calls.specs.PlaceLaws.{NotHeld}
use Rattle.nc_rows.specs.Parts.{MayBeHeld}
use Rattle.nc_flatness.specs.Books.{book_of}
use Rattle.nc_flatness.specs.Flatness.{Flatness}
use Rattle.nc_flatness.specs.Steps.{Goes}

-- whatever events happen in whatever order
abbrev pub EachRunIsLatest : Type 0
EachRunIsLatest = (sc : Scenario) → IsAccepted sc → (es : List Event) → AreThere sc es → IsLatest sc es

abbrev pub EachRunIsKept : Type 0
EachRunIsKept = (sc : Scenario) → IsAccepted sc → (es : List Event) → AreThere sc es → IsKept sc es

-- each event begins with a touch, or shows flat memory, whose bytes, with what it writes, stand behind it
abbrev pub EachEventIsFlat : Type 0
EachEventIsFlat =
    (sc : Scenario) (f : List ℕ) (w : WorldState) (e : Event) → IsAccepted sc → Flatness sc f w → IsThere (length sc.harts) sc.block_size sc.ram e
    → Goes sc f w e

-- so they stand after every run without a touch
abbrev pub EachRunIsFlat : Type 0
EachRunIsFlat =
    (sc : Scenario) (es : List Event) → IsAccepted sc → AreThere sc es → Untouched (run_trace (start sc) es)
    → Flatness sc (flat (memory sc) (deeds (run_trace (start sc) es))) (after (start sc) es)

-- after every run without a touch no cache has a copy of a place of the coherent pool, but while the area that has it is
-- being allocated
abbrev pub EachPoolIsUncached : Type 0
EachPoolIsUncached =
    (sc : Scenario) (es : List Event) → IsAccepted sc → AreThere sc es → Untouched (run_trace (start sc) es)
    → (x : ℕ) → covers (pool_of sc) x ≡ true
    → NotHeld (after (start sc) es).machine x ⊎ MayBeHeld (book_of (after (start sc) es)) (owner_of (after (start sc) es) x)
