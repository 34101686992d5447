-- The JSON value that some bytes are.
use Rattle.std.specs.Prelude.{ℕ, suc, List, Option, Some, None, Result, Ok, Err, if◌then◌else◌}
use Rattle.std.specs.Str.{is_utf8}
use Rattle.serde_json.specs.Data.{Data, Items, no_items, item}
use Rattle.serde_json.specs.Read.{read}
use Rattle.nc_values.specs.declared.refused.Refused.{Refused}
use Rattle.nc_values.specs.declared.refused.Refused.TheVariants.{NotJson}

-- what serde_json reads, of bytes that are UTF-8: at most 127 levels, and no number past every float
abbrev pub json_of : List ℕ → Option Data
json_of bytes = if is_utf8 bytes then read bytes else None

abbrev pub json_value : Option Data → Result Data Refused
json_value None = Err NotJson
json_value (Some d) = Ok d

-- how many values a list has
abbrev pub items_len : Items → ℕ
items_len no_items = 0
items_len (item d ds) = suc (items_len ds)
