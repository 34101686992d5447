-- The request that some bytes are: a JSON object with exactly six keys.
use Rattle.std.specs.Prelude.{ℕ, ◌+◌, ◌-◌, ◌*◌, ◌%◌, ◌^◌, ◌==◌, ◌&&◌, ◌||◌, Bool, true, false, nat_lt, nat_le, codes, length, if◌then◌else◌, List, Option, Some, None, Result, Ok, Err, ⊤}
use Rattle.std.specs.Str.{bytes_eq}
use Rattle.serde_json.specs.Data.{Data, Items, no_items, item, Members, no_members, member}
use Rattle.serde_json.specs.Find.{as_object}
use Rattle.nc_values.specs.declared.wrong.Wrong.{Wrong}
use Rattle.nc_values.specs.declared.wrong.Wrong.TheVariants.{Shape}
use Rattle.nc_values.specs.Json.{json_of}
use Rattle.nc_values.specs.Outcomes.{◌>>=◌, shaped, each}
use Rattle.nc_values.specs.Values.{number_of, text_of, list_of, limited, number_to, sized_of, got}
use Rattle.nc_scen.specs.Reading.{most_bytes}
use Rattle.nc_pieces.specs.declared.request.PieceOp.{PieceOp}
use Rattle.nc_pieces.specs.declared.request.PieceOp.TheVariants.{Alloc, Free}
use Rattle.nc_pieces.specs.declared.refused.PoolRefused.{PoolRefused}
use Rattle.nc_pieces.specs.declared.refused.PoolRefused.TheVariants as refusals
use Rattle.nc_pieces.specs.Requests.{Request}

-- ---- keys

abbrev pub knows : List ℕ → Bool
knows key = bytes_eq key (codes "at") || bytes_eq key (codes "pages") || bytes_eq key (codes "size") || bytes_eq key (codes "align") || bytes_eq key (codes "boundary") || bytes_eq key (codes "ops")

abbrev pub knows_all : Members → Bool
knows_all no_members = true
knows_all (member key d ms) = if knows key then knows_all ms else false

abbrev pub known : Members → Result ⊤ Wrong
known ms = if knows_all ms then Ok tt else Err Shape

-- an object with no other keys than these six
abbrev pub keyed : Data → Result ⊤ Wrong
keyed d = shaped (as_object d) >>= known

-- ---- operations

abbrev pub op_named : List ℕ → ℕ → Result PieceOp Wrong
op_named name label = if bytes_eq name (codes "alloc") then Ok (Alloc label) else (if bytes_eq name (codes "free") then Ok (Free label) else Err Shape)

abbrev pub op_with : Data → Data → Result PieceOp Wrong
op_with name label = text_of name >>= λ name. number_to 999 label >>= op_named name

abbrev pub op_items : Items → Result PieceOp Wrong
op_items (item name (item label no_items)) = op_with name label
op_items _ = Err Shape

-- a list of a name and a label
abbrev pub op_of : Data → Result PieceOp Wrong
op_of d = list_of d >>= op_items

-- ---- the whole

-- where the pages start
abbrev pub start_of : Data → Result ℕ Wrong
start_of d = number_of d >>= λ at. limited (at % 4096 == 0) at

-- how many they are, from a place on
abbrev pub pages_from : ℕ → Data → Result ℕ Wrong
pages_from at d = number_of d >>= λ n. limited (nat_le n 64 && nat_le (at + 4096 * n) 1048576) n

-- a number of 32 bits
abbrev pub wide_of : Data → Result ℕ Wrong
wide_of d = number_to (2 ^ 32 - 1) d

unfoldable pub request_of : Data → Result Request Wrong
request_of d = do
  known ← keyed d
  at ← got start_of (codes "at") d
  pages ← got (pages_from at) (codes "pages") d
  size ← got wide_of (codes "size") d
  align ← got wide_of (codes "align") d
  boundary ← got wide_of (codes "boundary") d
  items ← got (sized_of 0 4096) (codes "ops") d
  ops ← each (λ i d. op_of d) 0 items
  Ok (record { at = at; pages = pages; size = size; align = align; boundary = boundary; ops = ops })

-- a value that is not of this form is one refusal, whatever is wrong with it
abbrev pub formed : Result Request Wrong → Result Request PoolRefused
formed (Ok r) = Ok r
formed (Err w) = Err refusals.Shape

abbrev pub json_request : Option Data → Result Request PoolRefused
json_request None = Err refusals.NotJson
json_request (Some d) = formed (request_of d)

unfoldable pub request_in : List ℕ → Result Request PoolRefused
request_in bytes = if nat_lt most_bytes (length bytes) then Err refusals.TooLong else json_request (json_of bytes)
