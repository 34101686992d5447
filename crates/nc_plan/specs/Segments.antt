-- Cells with empty segments behind the segments of a list.
use Rattle.std.specs.Prelude.{◌≡◌, ℕ, ◌-◌, ◌≤◌, List, ◌++◌, length, drop, replicate}
use Rattle.nc_plan.specs.declared.segments.Segment.{Segment}

abbrev pub empty : Segment
empty = record { bus = 0; len = 0 }

abbrev pub padded : List Segment → List Segment
padded v = v ++ replicate (16 - length v) empty

pub record IsPadded (cells : List Segment) (len : ℕ) : Type 0 where
  pub fits : len ≤ 16
  pub whole : length cells ≡ 16
  pub empties : drop len cells ≡ replicate (16 - len) empty
