-- The keys of a scenario's objects.
use Rattle.std.specs.Prelude.{ℕ, List, ◌||◌, codes, Bool, Option, Some, None, Result, Ok, Err, ⊤, if◌then◌else◌}
use Rattle.std.specs.Str.{bytes_eq}
use Rattle.serde_json.specs.Data.{Data, Members, no_members, member}
use Rattle.serde_json.specs.Find.{as_object}
use Rattle.nc_values.specs.declared.refused.Refused.{Refused}
use Rattle.nc_values.specs.declared.refused.Refused.TheVariants.{Shape}
use Rattle.nc_values.specs.Outcomes.{◌>>=◌, placed, shaped}
use Rattle.nc_values.specs.Paths.{under, told}
use Rattle.nc_scen.specs.declared.keys.Keys.{Keys}
use Rattle.nc_scen.specs.declared.keys.Keys.TheVariants.{Top, Hart, Buffer, Slots, Pool, Seeded}

-- the keys that an object of the scenario may have
abbrev pub knows : Keys → List ℕ → Bool
knows Top key = bytes_eq key (codes "version") || bytes_eq key (codes "block") || bytes_eq key (codes "zero") || bytes_eq key (codes "fences") || bytes_eq key (codes "ram") || bytes_eq key (codes "harts") || bytes_eq key (codes "ptes") || bytes_eq key (codes "buffers") || bytes_eq key (codes "slots") || bytes_eq key (codes "pool") || bytes_eq key (codes "reach") || bytes_eq key (codes "schedule") || bytes_eq key (codes "finish") || bytes_eq key (codes "limit")
knows Hart key = bytes_eq key (codes "mode") || bytes_eq key (codes "menvcfg") || bytes_eq key (codes "senvcfg") || bytes_eq key (codes "script")
knows Buffer key = bytes_eq key (codes "at") || bytes_eq key (codes "len") || bytes_eq key (codes "fill") || bytes_eq key (codes "step") || bytes_eq key (codes "owner")
knows Slots key = bytes_eq key (codes "at") || bytes_eq key (codes "count")
knows Pool key = bytes_eq key (codes "at") || bytes_eq key (codes "pages")
knows Seeded key = bytes_eq key (codes "seed") || bytes_eq key (codes "events")

-- the first key that is not known, in the order of their bytes: an object has its keys in that order
abbrev pub first_unknown : Keys → Members → Option (List ℕ)
first_unknown keys no_members = None
first_unknown keys (member key d ms) = if knows keys key then first_unknown keys ms else Some key

abbrev pub no_unknown : List ℕ → Option (List ℕ) → Result ⊤ Refused
no_unknown path None = Ok tt
no_unknown path (Some key) = Err (Shape (under path key))

-- the value at a path is an object with no other keys than the known ones
abbrev pub keyed : Keys → List ℕ → Data → Result ⊤ Refused
keyed keys path d = placed (told path) (shaped (as_object d)) >>= λ ms. no_unknown path (first_unknown keys ms)
