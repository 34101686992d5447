-- Who owns each place of RAM: a list of transfers, the newest first (this project's own).
use Rattle.std.specs.Prelude.{ℕ, Bool, List, [], ◌∷◌, if◌then◌else◌}
use Rattle.std.specs.List.{list_any}
use Rattle.nc_num.specs.Places.{covers}
use Rattle.nc_num.specs.declared.places.Span.{Span}
use Rattle.nc_model.specs.declared.owners.Owner.{Owner}
use Rattle.nc_model.specs.declared.owners.Owner.TheVariants.{Pool}

-- the owner of a place is that of the newest transfer that covers it, and the pool where none does
abbrev pub owner_at : List (Span × Owner) → ℕ → Owner
owner_at [] x = Pool
owner_at (t ∷ ts) x = if covers t.0 x then t.1 else owner_at ts x

-- some transfer covers the place
abbrev pub covered : List (Span × Owner) → ℕ → Bool
covered ts x = list_any (λ t. covers t.0 x) ts
