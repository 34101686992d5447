-- What the machine does at any moment, and what channels do, in flat memory, as a statement.
use Rattle.nc_flatness.specs.Steps.{MovesAreFlat}

-- What drains, and what the caches bring and drop, is no touch or one of a register, and leaves flat memory as it is. A
-- transaction in RAM is a touch, or reads flat memory, or writes it
abbrev pub MovesGo : Type 0
MovesGo = MovesAreFlat
