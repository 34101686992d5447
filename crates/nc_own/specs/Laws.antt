-- The laws, as statements.
use Rattle.std.specs.Prelude.{ℕ, ◌≡◌, ◌+◌, ◌<◌, ◌≤◌, List, [], ◌∷◌, length, replicate}
use Rattle.nc_num.specs.declared.places.Span.{Span}
use Rattle.nc_model.specs.Grants.{IsGrants}
use Rattle.nc_model.specs.Owners.{owner_at}
use Rattle.nc_model.specs.Touches.{owner_touch}
use Rattle.nc_model.specs.declared.owners.Access.{Access}
use Rattle.nc_model.specs.declared.owners.Actor.{Actor}
use Rattle.nc_model.specs.declared.owners.Grant.{Grant}
use Rattle.nc_model.specs.declared.owners.Owner.{Owner}
use Rattle.nc_model.specs.declared.owners.Owner.TheVariants.{Pool}
use Rattle.nc_own.specs.Books.{owner_in, transferred, owners_of}

-- the list of the owners of all places follows the list of transfers
pub record FollowsTransfers (ram : ℕ) (ts : List (Span × Owner)) : Type 0 where
  pub start : owners_of ram [] ≡ replicate ram Pool
  pub size : length (owners_of ram ts) ≡ ram
  pub owner : (x : ℕ) → x < ram → owner_in (owners_of ram ts) x ≡ owner_at ts x
  pub change : (span : Span) (owner : Owner) → transferred (owners_of ram ts) span owner ≡ owners_of ram ((span, owner) ∷ ts)

abbrev pub EachFollows : Type 0
EachFollows = (ram : ℕ) (ts : List (Span × Owner)) → FollowsTransfers ram ts

-- owners that agree in RAM judge an access inside it alike
abbrev pub JudgeAlike : Type 0
JudgeAlike = (owners others : ℕ → Owner) (grants : List Grant) (who : Actor) (access : Access) (span : Span) (ram : ℕ)
    → ((x : ℕ) → x < ram → owners x ≡ others x) → IsGrants ram grants → span.at + span.len ≤ ram
    → owner_touch owners grants who access span ≡ owner_touch others grants who access span
