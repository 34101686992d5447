-- What a script's access is judged by.
use Rattle.std.specs.Prelude.{ℕ, ◌+◌, ◌^◌, ◌<◌, ◌≤◌, List, Option, Some}
use Rattle.nc_num.specs.declared.names.HartNo.{HartNo}
use Rattle.nc_num.specs.declared.places.Span.{Span}
use Rattle.nc_model.specs.Touches.{piece_touch, discard_touch, zero_touch}
use Rattle.nc_model.specs.declared.owners.Grant.{Grant}
use Rattle.nc_model.specs.declared.owners.Owner.{Owner}
use Rattle.nc_model.specs.declared.touches.Touch.{Touch}
use Rattle.nc_touch.specs.declared.looks.Look.{Look}
use Rattle.nc_touch.specs.declared.looks.Look.TheVariants.{Piece, Discard, Zero}

-- the bytes that an access is over
abbrev pub span_of : Look → Span
span_of (Piece access span kind) = span
span_of (Discard block) = block
span_of (Zero block) = block

-- a span of some bytes of a RAM of this size
pub record IsSpanIn (ram : ℕ) (span : Span) : Type 0 where
  pub some : 0 < span.len
  pub inside : span.at + span.len ≤ ram
  pub ends : span.at + span.len < 2 ^ 32

-- the touch that a script's access is
abbrev pub look_touch : (ℕ → Owner) → List Grant → Span → HartNo → Look → Option Touch
look_touch owners grants pool h (Piece access span kind) = piece_touch owners grants pool h access span kind
look_touch owners grants pool h (Discard block) = Some (discard_touch owners h block)
look_touch owners grants pool h (Zero block) = zero_touch owners grants h block
