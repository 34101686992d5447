-- What holds of each scenario that is accepted: what the crates above take for granted.
use Rattle.std.specs.Prelude.{◌≡◌, ℕ, ◌+◌, ◌*◌, ◌%◌, ◌^◌, ◌<◌, ◌≤◌, ◌⊎◌, All, length, false}
use Rattle.nc_num.specs.Sizes.{IsBlockSize}
use Rattle.nc_env.specs.Enables.{IsEnvcfg}
use Rattle.nc_pte.specs.Words.{IsPteWord}
use Rattle.nc_ops.specs.Fits.{FitsOp}
use Rattle.nc_scen.specs.declared.scenario.BufferSpec.{BufferSpec}
use Rattle.nc_scen.specs.declared.scenario.HartSpec.{HartSpec}
use Rattle.nc_scen.specs.declared.scenario.Plan.{Plan}
use Rattle.nc_scen.specs.declared.scenario.Plan.TheVariants as plans
use Rattle.nc_scen.specs.declared.scenario.Scenario.{Scenario}
use Rattle.nc_scen.specs.Events.{IsThere}
use Rattle.nc_scen.specs.Regions.{slots_of, pool_of, AreApart, HasBuffersApart}

-- ---- harts, buffers and the schedule

pub record FitsHart (harts buffers : ℕ) (h : HartSpec) : Type 0 where
  pub menvcfg_fits : h.menvcfg < 2 ^ 64
  pub menvcfg_known : IsEnvcfg h.menvcfg
  pub senvcfg_fits : h.senvcfg < 2 ^ 64
  pub senvcfg_known : IsEnvcfg h.senvcfg
  pub short : length h.script ≤ 4096
  pub script : All (FitsOp harts buffers) h.script

-- a buffer of 1 to 65,536 bytes, in a RAM of so many bytes, of one of so many harts
pub record FitsBuffer (ram harts : ℕ) (b : BufferSpec) : Type 0 where
  pub some : 0 < b.span.len
  pub short : b.span.len ≤ 65536
  pub ends : b.span.at + b.span.len ≤ ram
  pub fill : b.fill < 256
  pub step : b.step < 256
  pub owner : b.owner.0 < harts

abbrev pub FitsPlan : ℕ → ℕ → ℕ → Plan → Type 0
FitsPlan harts block_size ram (plans.List events) = (length events ≤ 400000) × All (IsThere harts block_size ram) events
FitsPlan harts block_size ram (plans.Seeded seed events) = (seed < 2 ^ 64) × (events ≤ 400000)

-- ---- the whole

-- a scenario of version 1 has blocks of 64 bytes and full fences
pub record IsOld (sc : Scenario) : Type 0 where
  pub block : sc.block_size ≡ 64
  pub zero : sc.zero_size ≡ 64
  pub full : sc.light ≡ false

pub record IsAccepted (sc : Scenario) : Type 0 where
  pub version : (sc.version ≡ 1) ⊎ (sc.version ≡ 2)
  pub old : sc.version ≡ 1 → IsOld sc
  pub sized : IsBlockSize sc.block_size
  pub zero_sized : IsBlockSize sc.zero_size
  pub zero_wide : sc.block_size ≤ sc.zero_size
  pub zero_whole : sc.zero_size % sc.block_size ≡ 0
  pub ram_whole : sc.ram % 4096 ≡ 0
  pub ram_some : 4096 ≤ sc.ram
  pub ram_small : sc.ram ≤ 1048576
  pub harts_some : 1 ≤ length sc.harts
  pub harts_few : length sc.harts ≤ 4
  pub harts : All (FitsHart (length sc.harts) (length sc.buffers)) sc.harts
  pub ptes_few : length sc.ptes ≤ 256
  pub ptes : All (IsPteWord sc.ram) sc.ptes
  pub buffers_few : length sc.buffers ≤ 64
  pub buffers : All (FitsBuffer sc.ram (length sc.harts)) sc.buffers
  pub slots_whole : sc.slots_at % 2048 ≡ 0
  pub slots_few : sc.slots ≤ 64
  pub slots_end : sc.slots_at + 2048 * sc.slots ≤ sc.ram
  pub pool_whole : sc.pool_at % 4096 ≡ 0
  pub pages_few : sc.pages ≤ 64
  pub pool_end : sc.pool_at + 4096 * sc.pages ≤ sc.ram
  pub channels : length sc.reach ≡ 4
  pub reach : All (λ r. r ≤ sc.ram) sc.reach
  pub reaches_slots : 0 < sc.slots → All (λ r. sc.slots_at + 2048 * sc.slots ≤ r) sc.reach
  pub reaches_pool : 0 < sc.pages → All (λ r. sc.pool_at + 4096 * sc.pages ≤ r) sc.reach
  pub buffers_apart : HasBuffersApart sc.buffers
  pub buffers_off_slots : All (λ b. AreApart b.span (slots_of sc)) sc.buffers
  pub buffers_off_pool : All (λ b. AreApart b.span (pool_of sc)) sc.buffers
  pub slots_off_pool : AreApart (slots_of sc) (pool_of sc)
  pub plan : FitsPlan (length sc.harts) sc.block_size sc.ram sc.plan
  pub limit : sc.limit ≤ 400000
