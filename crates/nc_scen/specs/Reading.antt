-- The scenario that some bytes are, or the first refusal.
use Rattle.std.specs.Prelude.{ℕ, ◌/◌, List, [], length, is_some, nat_lt, codes, if◌then◌else◌, Option, Some, None, Result, Ok, Err, ⊤, option_and_then}
use Rattle.serde_json.specs.Data.{Data, Items}
use Rattle.serde_json.specs.Find.{get, as_object, as_str}
use Rattle.nc_scen.specs.declared.events.Event.{Event}
use Rattle.nc_scen.specs.declared.keys.Keys.TheVariants as keys
use Rattle.nc_scen.specs.declared.reading.Land.{Land}
use Rattle.nc_scen.specs.declared.reading.Terms.{Terms}
use Rattle.nc_values.specs.declared.refused.Refused.{Refused}
use Rattle.nc_values.specs.declared.refused.Refused.TheVariants.{TooLong, Overlap, Token}
use Rattle.nc_scen.specs.declared.regions.RegionKind.TheVariants as kinds
use Rattle.nc_scen.specs.declared.scenario.HartSpec.{HartSpec}
use Rattle.nc_scen.specs.declared.scenario.Plan.{Plan}
use Rattle.nc_scen.specs.declared.scenario.Plan.TheVariants as plans
use Rattle.nc_scen.specs.declared.scenario.Scenario.{Scenario}
use Rattle.nc_values.specs.Json.{json_of, json_value, items_len}
use Rattle.nc_scen.specs.Keys.{keyed}
use Rattle.nc_values.specs.Outcomes.{◌>>=◌, placed, shaped, each, check_each}
use Rattle.nc_scen.specs.Parts.{format_of, ram_of, hart_checked, hart_at, words_or_none, buffer_at, region_or_none, least_reach, reach_or_ram, finish_or_true, limit_or_default}
use Rattle.nc_values.specs.Paths.{at_position}
use Rattle.nc_scen.specs.Regions.{slots_span, pool_span, regions, first_overlap}
use Rattle.nc_scen.specs.Tokens.{token_in}
use Rattle.nc_values.specs.Values.{text_of, sized_of, number_at, number_to_at, list_at}

abbrev pub most_bytes : ℕ
most_bytes = 8388608

-- ---- RAM and what lies in it

-- but the harts, of which there are so many
unfoldable pub land_of : ℕ → ℕ → Data → Result Land Refused
land_of ram harts d = do
  ptes ← words_or_none ram (get (codes "ptes") d)
  items ← list_at 0 64 [] (codes "buffers") d
  buffers ← each (buffer_at ram harts) 0 items
  slots ← region_or_none kinds.Slots ram (get (codes "slots") d)
  pool ← region_or_none kinds.Pool ram (get (codes "pool") d)
  reach ← reach_or_ram (least_reach slots pool) ram (get (codes "reach") d)
  Ok (record { ptes = ptes; buffers = buffers; slots = slots; pool = pool; reach = reach })

-- ---- the schedule

-- `{"seed":n,"events":n}`
unfoldable pub seeded_of : Data → Result Plan Refused
seeded_of d = do
  known ← keyed keys.Seeded (codes "schedule") d
  seed ← number_at (codes "schedule") (codes "seed") d
  events ← number_to_at 400000 (codes "schedule") (codes "events") d
  Ok (plans.Seeded seed events)

abbrev pub tokens_of : Data → Result Items Refused
tokens_of d = placed (codes "schedule") (sized_of 0 400000 d)

abbrev pub text_at : ℕ → Data → Result ⊤ Refused
text_at i d = placed (at_position (codes "schedule") i) (text_of d) >>= λ text. Ok tt

-- a seeded schedule, or a list of texts that are not looked at
abbrev pub plan_checked : Data → Result ⊤ Refused
plan_checked d = if is_some (as_object d) then (seeded_of d >>= λ p. Ok tt) else tokens_of d >>= check_each text_at 0

abbrev pub token_or : ℕ → Option Event → Result Event Refused
token_or i None = Err (Token i)
token_or i (Some e) = Ok e

-- a token of a machine with so many harts and blocks
abbrev pub token_at : ℕ → ℕ → ℕ → Data → Result Event Refused
token_at harts blocks i d = token_or i (option_and_then (token_in harts blocks) (as_str d))

abbrev pub plan_of : ℕ → ℕ → Data → Result Plan Refused
plan_of harts blocks d = if is_some (as_object d) then seeded_of d else (tokens_of d >>= each (token_at harts blocks) 0 >>= λ events. Ok (plans.List events))

abbrev pub schedule_of : Data → Result Data Refused
schedule_of d = placed (codes "schedule") (shaped (get (codes "schedule") d))

-- ---- regions that share a byte

abbrev pub none_meet : Option (ℕ × ℕ) → Result ⊤ Refused
none_meet None = Ok tt
none_meet (Some p) = Err (Overlap p.0 p.1)

abbrev pub apart : Land → Result ⊤ Refused
apart land = none_meet (first_overlap 0 (regions land.buffers (slots_span land.slots.at land.slots.count) (pool_span land.pool.at land.pool.count)))

-- ---- the whole, check by check

-- the values of the harts, which are checked but for their operations
abbrev pub harts_known : Data → Result Items Refused
harts_known d = list_at 1 4 [] (codes "harts") d >>= λ items. check_each hart_checked 0 items >>= λ known. Ok items

-- the schedule but for its tokens
abbrev pub schedule_checked : Data → Result ⊤ Refused
schedule_checked d = schedule_of d >>= plan_checked

-- how the run ends
unfoldable pub terms_of : Data → Result Terms Refused
terms_of d = do
  finish ← finish_or_true (get (codes "finish") d)
  limit ← limit_or_default (get (codes "limit") d)
  Ok (record { finish = finish; limit = limit })

-- the harts with their operations
abbrev pub harts_of : Land → Items → Result (List HartSpec) Refused
harts_of land items = each (hart_at (record { harts = items_len items; buffers = length land.buffers })) 0 items

-- the schedule with its tokens
abbrev pub schedule_read : ℕ → ℕ → Data → Result Plan Refused
schedule_read harts blocks d = schedule_of d >>= plan_of harts blocks

unfoldable pub scenario_of : Data → Result Scenario Refused
scenario_of d = do
  known ← keyed keys.Top [] d
  format ← format_of d
  ram ← ram_of d
  items ← harts_known d
  land ← land_of ram (items_len items) d
  planned ← schedule_checked d
  terms ← terms_of d
  no_overlap ← apart land
  harts ← harts_of land items
  plan ← schedule_read (items_len items) (ram / format.block_size) d
  Ok (record {
    version = format.version;
    block_size = format.block_size;
    zero_size = format.zero_size;
    light = format.light;
    ram = ram;
    harts = harts;
    ptes = land.ptes;
    buffers = land.buffers;
    slots_at = land.slots.at;
    slots = land.slots.count;
    pool_at = land.pool.at;
    pages = land.pool.count;
    reach = land.reach;
    plan = plan;
    finish = terms.finish;
    limit = terms.limit;
  })

-- what the bytes are
unfoldable pub reading : List ℕ → Result Scenario Refused
reading bytes = if nat_lt most_bytes (length bytes) then Err TooLong else json_value (json_of bytes) >>= scenario_of
