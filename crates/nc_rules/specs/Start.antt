-- The start of a run: memory with the buffers' first bytes, and a machine and drivers that have done nothing.
use Rattle.std.specs.Prelude.{ℕ, ◌+◌, ◌*◌, ◌/◌, ◌%◌, ◌^◌, ◌==◌, Bool, List, [], ◌∷◌, length, map, replicate, slice_index_or}
use Rattle.std.specs.List.{range_with_len}
use Rattle.nc_num.specs.Memory.{splice}
use Rattle.nc_num.specs.declared.names.HartNo.{HartNo}
use Rattle.nc_env.specs.declared.Mode.TheVariants.{M}
use Rattle.nc_plan.specs.Effects.{effects_of}
use Rattle.nc_scen.specs.declared.scenario.BufferSpec.{BufferSpec}
use Rattle.nc_scen.specs.declared.scenario.HartSpec.{HartSpec}
use Rattle.nc_scen.specs.declared.scenario.Scenario.{Scenario}
use Rattle.nc_scen.specs.Regions.{pool_of}
use Rattle.nc_rules.specs.declared.steps.Phase.TheVariants.{Steps}
use Rattle.nc_rules.specs.declared.steps.Seen.TheVariants.{Nothing}
use Rattle.nc_rules.specs.Machine.{MachineState, fresh}
use Rattle.nc_rules.specs.Lots.{DriverConfig}
use Rattle.nc_rules.specs.Driver.{DriverState}

-- the first bytes of a buffer
abbrev pub pattern : BufferSpec → List ℕ
pattern b = map (λ i. (b.fill + i * b.step) % 256) (range_with_len 0 b.span.len)

-- the buffers hold their first bytes
abbrev pub filled : List ℕ → List BufferSpec → List ℕ
filled m [] = m
filled m (b ∷ bs) = filled (splice m b.span.at (pattern b)) bs

-- memory at the start: the buffers' first bytes, and else 0
unfoldable pub memory : Scenario → List ℕ
memory sc = filled (replicate sc.ram 0) sc.buffers

unfoldable pub first_machine : Scenario → MachineState
first_machine sc = fresh sc.block_size (pool_of sc) (memory sc) (length sc.harts) (length sc.buffers)

abbrev pub no_hart_spec : HartSpec
no_hart_spec = record { mode = M; menvcfg = 0; senvcfg = 0; script = [] }

abbrev pub hart_spec : Scenario → ℕ → HartSpec
hart_spec sc h = slice_index_or sc.harts h no_hart_spec

-- menvcfg.PBMTE, bit 62 (Svpbmt)
abbrev pub pbmte_of : ℕ → Bool
pbmte_of menvcfg = menvcfg / 2 ^ 62 % 2 == 1

abbrev pub fixed_of : Scenario → HartNo → HartSpec → DriverConfig
fixed_of sc me h = record {
  me = me;
  effects = effects_of h.mode h.menvcfg h.senvcfg;
  pbmte = pbmte_of h.menvcfg;
  table = sc.ptes;
  buffers = map (λ b. b.span) sc.buffers;
  size = sc.block_size;
  zero_size = sc.zero_size;
  reach = sc.reach;
  slots_at = sc.slots_at;
  slots = sc.slots;
  pool = pool_of sc;
  light = sc.light;
  script = h.script;
}

unfoldable pub first_driver : Scenario → HartNo → DriverState
first_driver sc me = record { fixed = fixed_of sc me (hart_spec sc me.0); op = 0; phase = Steps 0; rest = []; lots = []; saw = Nothing }
