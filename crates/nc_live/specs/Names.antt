-- The name of no pool, where a name stands before one is picked; and whose slot word one is in the core.
use Rattle.std.specs.Prelude.{◌==◌, ℕ, [], Bool, false, List, Option, Some, None}
use Rattle.atomic_table.specs.Seated.{TableId}
use Rattle.nc_num.specs.declared.names.HartNo.{HartNo}
use Rattle.nc_slots.specs.SlotWords.{holder_of}

abbrev pub no_pool : TableId
no_pool = record { words = 0; slots = 0; views_name = 0; atom = 0; block = 0; offset = 0; slot_names = [] }

abbrev pub is_hart : Option HartNo → HartNo → Bool
is_hart None h = false
is_hart (Some g) h = g.0 == h.0

-- the hart holds the slot word k
abbrev pub is_held_by : List (Option HartNo) → ℕ → HartNo → Bool
is_held_by words k h = is_hart (holder_of words k) h
