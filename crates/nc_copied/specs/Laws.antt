-- The law of copies, as a statement.
use Rattle.std.specs.Prelude.{List}
use Rattle.nc_scen.specs.Accepted.{IsAccepted}
use Rattle.nc_scen.specs.declared.events.Event.{Event}
use Rattle.nc_scen.specs.declared.scenario.Scenario.{Scenario}
use Rattle.nc_rules.specs.Flat.{AreThere}
use Rattle.nc_copied.specs.Copied.{IsEachCopied}

-- whatever events happen in whatever order
abbrev pub EachCopyIsDone : Type 0
EachCopyIsDone = (sc : Scenario) → IsAccepted sc → (es : List Event) → AreThere sc es → IsEachCopied sc es
