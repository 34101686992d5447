-- Lists of grants, in order of adding.
use Rattle.std.specs.Prelude.{ℕ, ◌≡◌, ◌+◌, ◌≤◌, true, false, not, List, [], ◌∷◌, filter, count_by}
use Rattle.std.specs.List.{list_any}
use Rattle.nc_num.specs.Places.{covers}
use Rattle.nc_num.specs.declared.names.MapId.{MapId}
use Rattle.nc_model.specs.Rights.{is_of, has_device}
use Rattle.nc_model.specs.declared.owners.Grant.{Grant}

-- both ranges lie in a RAM of this size, and one is as long as the other
pub record FitsIn (ram : ℕ) (g : Grant) : Type 0 where
  pub lengths : g.buffer.len ≡ g.device.len
  pub buffer : g.buffer.at + g.buffer.len ≤ ram
  pub device : g.device.at + g.device.len ≤ ram

abbrev pub AllFit : ℕ → List Grant → Type 0
AllFit ram [] = Unit {0}
AllFit ram (g ∷ grants) = FitsIn ram g × AllFit ram grants

-- no two have a place of their device ranges in common, and no two are of one mapping
pub record IsGrants (ram : ℕ) (grants : List Grant) : Type 0 where
  pub fit : AllFit ram grants
  pub apart : (x : ℕ) → count_by (has_device x) grants ≤ 1
  pub ids : (m : MapId) → count_by (is_of m) grants ≤ 1

-- a grant that may be added: its device range meets no other's, and its mapping has none
pub record CanAdd (ram : ℕ) (grants : List Grant) (g : Grant) : Type 0 where
  pub fits : FitsIn ram g
  pub apart : (x : ℕ) → covers g.device x ≡ true → list_any (has_device x) grants ≡ false
  pub id : list_any (is_of g.id) grants ≡ false

-- the grants without that of a mapping
abbrev pub without : List Grant → MapId → List Grant
without grants m = filter (λ g. not (is_of m g)) grants
