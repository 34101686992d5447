-- The moves of a step, as nc_rules sees them, and how many they are.
use Rattle.std.specs.Prelude.{◌≤◌, length}
use Rattle.nc_rules.specs.Turns.{Moved}
use Rattle.nc_moves.specs.declared.moves.Moves.{Moves}

abbrev pub moves_view : Moves → Moved
moves_view m = record { transfers = m.transfers; grants = m.grants; ended = m.ended; backs = m.backs; pages = m.pages; answer = m.answer }

-- no list of it is longer than a step's
pub record IsFew (m : Moved) : Type 0 where
  pub transfers : length m.transfers ≤ 34
  pub grants : length m.grants ≤ 32
  pub ended : length m.ended ≤ 32
  pub backs : length m.backs ≤ 32
