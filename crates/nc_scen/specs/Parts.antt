-- The parts of a scenario, by its keys: what stands at each of them, or the first thing that is wrong there.
use Rattle.std.specs.Prelude.{ℕ, ◌+◌, ◌*◌, ◌%◌, ◌==◌, ◌&&◌, ◌||◌, List, [], ◌∷◌, Bool, true, false, max, nat_lt, nat_le, is_some, codes, if◌then◌else◌, Option, Some, None, Result, Ok, Err, ⊤}
use Rattle.serde_json.specs.Data.{Data, Items, no_items, item}
use Rattle.serde_json.specs.Find.{get}
use Rattle.nc_scen.specs.declared.format.Format.{Format}
use Rattle.nc_scen.specs.declared.keys.Keys.{Keys}
use Rattle.nc_scen.specs.declared.keys.Keys.TheVariants as keys
use Rattle.nc_ops.specs.declared.ops.Op.{Op}
use Rattle.nc_ops.specs.declared.arguments.Counts.{Counts}
use Rattle.nc_values.specs.declared.refused.Refused.{Refused}
use Rattle.nc_values.specs.declared.refused.Refused.TheVariants.{Shape, Version}
use Rattle.nc_scen.specs.declared.harts.Settings.{Settings}
use Rattle.nc_scen.specs.declared.regions.Region.{Region}
use Rattle.nc_scen.specs.declared.regions.RegionKind.{RegionKind}
use Rattle.nc_scen.specs.declared.regions.RegionKind.TheVariants as kinds
use Rattle.nc_scen.specs.declared.scenario.BufferSpec.{BufferSpec}
use Rattle.nc_scen.specs.declared.scenario.HartSpec.{HartSpec}
use Rattle.nc_values.specs.declared.wrong.Wrong.{Wrong}
use Rattle.nc_scen.specs.Keys.{keyed}
use Rattle.nc_ops.specs.Operations.{op_of}
use Rattle.nc_values.specs.Outcomes.{◌>>=◌, placed, each}
use Rattle.nc_values.specs.Paths.{under, at_position}
use Rattle.nc_values.specs.Values.{number_of, list_of, truth_of, mode_of, fences_of, register_of, word_of, limited, number_to, number_under, sized_of, is_size, is_ram, field, number_at, number_to_at, list_at}

-- ---- the version, the sizes of blocks, and the fences

abbrev pub version_of : Data → Result ℕ Refused
version_of d = number_at [] (codes "version") d >>= λ n. if n == 1 || n == 2 then Ok n else Err (Version n)

-- a key that only a later version has
abbrev pub absent : List ℕ → Data → Result ⊤ Refused
absent key d = if is_some (get key d) then Err (Shape key) else Ok tt

-- a size of at least so many bytes
abbrev pub size_in : ℕ → Data → Result ℕ Wrong
size_in least d = number_of d >>= λ n. limited (is_size n && nat_le least n) n

abbrev pub size_at : ℕ → List ℕ → Data → Result ℕ Refused
size_at least key d = field (size_in least) [] key d

abbrev pub fences_or_full : Option Data → Result Bool Refused
fences_or_full None = Ok false
fences_or_full (Some d) = placed (codes "fences") (fences_of d)

unfoldable pub old_format : Data → Result Format Refused
old_format d = do
  no_block ← absent (codes "block") d
  no_zero ← absent (codes "zero") d
  no_fences ← absent (codes "fences") d
  Ok (record { version = 1; block_size = 64; zero_size = 64; light = false })

unfoldable pub new_format : Data → Result Format Refused
new_format d = do
  block ← size_at 0 (codes "block") d
  zero ← size_at block (codes "zero") d
  light ← fences_or_full (get (codes "fences") d)
  Ok (record { version = 2; block_size = block; zero_size = zero; light = light })

unfoldable pub format_of : Data → Result Format Refused
format_of d = version_of d >>= λ version. if version == 1 then old_format d else new_format d

-- ---- RAM and its words

abbrev pub ram_in : Data → Result ℕ Wrong
ram_in d = number_of d >>= λ n. limited (is_ram n) n

abbrev pub ram_of : Data → Result ℕ Refused
ram_of d = field ram_in [] (codes "ram") d

abbrev pub word_at : ℕ → ℕ → Data → Result ℕ Refused
word_at ram i d = placed (at_position (codes "ptes") i) (word_of ram d)

abbrev pub words_or_none : ℕ → Option Data → Result (List ℕ) Refused
words_or_none ram None = Ok []
words_or_none ram (Some d) = placed (codes "ptes") (sized_of 0 256 d) >>= each (word_at ram) 0

-- ---- harts

-- all of a hart but its script
unfoldable pub settings_of : List ℕ → Data → Result Settings Refused
settings_of path d = do
  known ← keyed keys.Hart path d
  mode ← field mode_of path (codes "mode") d
  menvcfg ← field register_of path (codes "menvcfg") d
  senvcfg ← field register_of path (codes "senvcfg") d
  Ok (record { mode = mode; menvcfg = menvcfg; senvcfg = senvcfg })

abbrev pub script_items : List ℕ → Data → Result Items Refused
script_items path d = list_at 0 4096 path (codes "script") d

-- a hart, whose operations are not looked at
abbrev pub hart_checked : ℕ → Data → Result ⊤ Refused
hart_checked i d = settings_of (at_position (codes "harts") i) d >>= λ s. script_items (at_position (codes "harts") i) d >>= λ items. Ok tt

-- an operation of a script
abbrev pub op_at : Counts → List ℕ → ℕ → Data → Result Op Refused
op_at counts path i d = placed (at_position path i) (op_of counts d)

abbrev pub script_at : Counts → List ℕ → Items → Result (List Op) Refused
script_at counts path items = each (op_at counts (under path (codes "script"))) 0 items

-- a hart with its operations
unfoldable pub hart_of : Counts → List ℕ → Data → Result HartSpec Refused
hart_of counts path d = do
  s ← settings_of path d
  items ← script_items path d
  script ← script_at counts path items
  Ok (record { mode = s.mode; menvcfg = s.menvcfg; senvcfg = s.senvcfg; script = script })

abbrev pub hart_at : Counts → ℕ → Data → Result HartSpec Refused
hart_at counts i d = hart_of counts (at_position (codes "harts") i) d

-- ---- buffers

abbrev pub ends_in : ℕ → ℕ → ℕ → Bool
ends_in ram at len = nat_le (at + len) ram

-- a length of 1 to 65,536 bytes that ends in RAM
abbrev pub len_of : ℕ → ℕ → Data → Result ℕ Wrong
len_of ram at d = number_of d >>= λ len. limited (nat_lt 0 len && nat_le len 65536 && ends_in ram at len) len

unfoldable pub buffer_of : ℕ → ℕ → List ℕ → Data → Result BufferSpec Refused
buffer_of ram harts path d = do
  known ← keyed keys.Buffer path d
  at ← number_at path (codes "at") d
  len ← field (len_of ram at) path (codes "len") d
  fill ← number_to_at 255 path (codes "fill") d
  step ← number_to_at 255 path (codes "step") d
  owner ← field (number_under harts) path (codes "owner") d
  Ok (record { span = record { at = at; len = len }; fill = fill; step = step; owner = record { 0 = owner } })

abbrev pub buffer_at : ℕ → ℕ → ℕ → Data → Result BufferSpec Refused
buffer_at ram harts i d = buffer_of ram harts (at_position (codes "buffers") i) d

-- ---- slots and pool

abbrev pub key_of : RegionKind → List ℕ
key_of kinds.Slots = codes "slots"
key_of kinds.Pool = codes "pool"

abbrev pub count_key : RegionKind → List ℕ
count_key kinds.Slots = codes "count"
count_key kinds.Pool = codes "pages"

abbrev pub keys_of : RegionKind → Keys
keys_of kinds.Slots = keys.Slots
keys_of kinds.Pool = keys.Pool

-- the bytes of a slot, and of a page
abbrev pub unit_of : RegionKind → ℕ
unit_of kinds.Slots = 2048
unit_of kinds.Pool = 4096

abbrev pub start_of : RegionKind → Data → Result ℕ Wrong
start_of kind d = number_of d >>= λ at. limited (at % unit_of kind == 0) at

abbrev pub count_of : RegionKind → ℕ → ℕ → Data → Result ℕ Wrong
count_of kind ram at d = number_of d >>= λ n. limited (nat_le n 64 && ends_in ram at (unit_of kind * n)) n

unfoldable pub region_of : RegionKind → ℕ → Data → Result Region Refused
region_of kind ram d = do
  known ← keyed (keys_of kind) (key_of kind) d
  at ← field (start_of kind) (key_of kind) (codes "at") d
  n ← field (count_of kind ram at) (key_of kind) (count_key kind) d
  Ok (record { at = at; count = n })

abbrev pub region_or_none : RegionKind → ℕ → Option Data → Result Region Refused
region_or_none kind ram None = Ok (record { at = 0; count = 0 })
region_or_none kind ram (Some d) = region_of kind ram d

-- ---- reach

-- the end of a region, and 0 where it is empty
abbrev pub end_of : RegionKind → Region → ℕ
end_of kind r = if r.count == 0 then 0 else r.at + unit_of kind * r.count

abbrev pub least_reach : Region → Region → ℕ
least_reach slots pool = max (end_of kinds.Slots slots) (end_of kinds.Pool pool)

abbrev pub reach_in : ℕ → ℕ → Data → Result ℕ Wrong
reach_in least ram d = number_of d >>= λ n. limited (nat_le least n && nat_le n ram) n

abbrev pub reach_at : ℕ → ℕ → ℕ → Data → Result ℕ Refused
reach_at least ram i d = placed (at_position (codes "reach") i) (reach_in least ram d)

abbrev pub reach_items : ℕ → ℕ → Items → Result (List ℕ) Refused
reach_items least ram (item a (item b (item c (item d no_items)))) =
    reach_at least ram 0 a >>= λ a. reach_at least ram 1 b >>= λ b. reach_at least ram 2 c >>= λ c. reach_at least ram 3 d >>= λ d. Ok (a ∷ b ∷ c ∷ d ∷ [])
reach_items least ram _ = Err (Shape (codes "reach"))

abbrev pub reach_or_ram : ℕ → ℕ → Option Data → Result (List ℕ) Refused
reach_or_ram least ram None = Ok (ram ∷ ram ∷ ram ∷ ram ∷ [])
reach_or_ram least ram (Some d) = placed (codes "reach") (list_of d) >>= reach_items least ram

-- ---- how it ends

abbrev pub finish_or_true : Option Data → Result Bool Refused
finish_or_true None = Ok true
finish_or_true (Some d) = placed (codes "finish") (truth_of d)

abbrev pub limit_in : Data → Result ℕ Wrong
limit_in d = number_to 400000 d

abbrev pub limit_or_default : Option Data → Result ℕ Refused
limit_or_default None = Ok 100000
limit_or_default (Some d) = placed (codes "limit") (limit_in d)
