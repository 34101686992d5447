-- Ranges that are to be lent together: the owners as they go over, and the first byte that is not the hart's own.
use Rattle.std.specs.Prelude.{ℕ, ◌≡◌, ◌+◌, ◌≤◌, List, [], ◌∷◌, Option, Some, None, IfSome}
use Rattle.std.specs.Option.{option_map}
use Rattle.nc_num.specs.declared.names.HartNo.{HartNo}
use Rattle.nc_num.specs.declared.places.Place.{Place}
use Rattle.nc_num.specs.declared.places.Span.{Span}
use Rattle.nc_model.specs.declared.owners.Owner.{Owner}
use Rattle.nc_model.specs.declared.owners.Owner.TheVariants.{Lending}
use Rattle.nc_model.specs.Rights.{is_thread}
use Rattle.nc_model.specs.Touches.{first_fault}
use Rattle.nc_own.specs.Books.{owner_in, transferred}
use Rattle.nc_rules.specs.declared.lots.LotId.{LotId}
use Rattle.nc_rules.specs.Lots.{map_id}

-- the owners once these ranges are being lent, the first of which is entry i of the lot
abbrev pub lent_all : HartNo → LotId → ℕ → List Owner → List Span → List Owner
lent_all me id i owners [] = owners
lent_all me id i owners (range ∷ ranges) = lent_all me id (i + 1) (transferred owners range (Lending (map_id me id i))) ranges

-- the first place of a range whose byte is not the hart's own, with its owner; none where each is
pub record IsOther (me : HartNo) (owners : List Owner) (range : Span) (found : Option (Place × Owner)) : Type 0 where
  pub first : option_map (λ p. p.0.0) found ≡ first_fault (λ x. is_thread me (owner_in owners x)) range
  pub owner : IfSome found (λ p. p.1 ≡ owner_in owners p.0.0)

-- what was found, if anything, lies at this place or behind it
abbrev pub IsBehind : ℕ → Option (Place × Owner) → Type 0
IsBehind at None = Unit {0}
IsBehind at (Some p) = at ≤ p.0.0
