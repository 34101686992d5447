-- What holds of the parts of a scenario that are read.
use Rattle.std.specs.Prelude.{◌≡◌, ℕ, ◌+◌, ◌*◌, ◌%◌, ◌≤◌, ◌⊎◌, All, length, false}
use Rattle.nc_num.specs.Sizes.{IsBlockSize}
use Rattle.nc_num.specs.declared.places.Span.{Span}
use Rattle.nc_pte.specs.Words.{IsPteWord}
use Rattle.nc_scen.specs.declared.format.Format.{Format}
use Rattle.nc_scen.specs.declared.reading.Land.{Land}
use Rattle.nc_scen.specs.declared.regions.Region.{Region}
use Rattle.nc_scen.specs.declared.regions.RegionKind.{RegionKind}
use Rattle.nc_scen.specs.declared.regions.RegionKind.TheVariants.{Slots, Pool}
use Rattle.nc_scen.specs.Accepted.{FitsBuffer}
use Rattle.nc_scen.specs.Parts.{unit_of, least_reach}
use Rattle.nc_scen.specs.Regions.{slots_span, pool_span, AreApart, HasBuffersApart}

-- a format of version 1 has blocks of 64 bytes and full fences
pub record IsOldFormat (f : Format) : Type 0 where
  pub block : f.block_size ≡ 64
  pub zero : f.zero_size ≡ 64
  pub full : f.light ≡ false

pub record IsFormat (f : Format) : Type 0 where
  pub version : (f.version ≡ 1) ⊎ (f.version ≡ 2)
  pub old : f.version ≡ 1 → IsOldFormat f
  pub sized : IsBlockSize f.block_size
  pub zero_sized : IsBlockSize f.zero_size
  pub zero_wide : f.block_size ≤ f.zero_size
  pub zero_whole : f.zero_size % f.block_size ≡ 0

-- slots or pages in a RAM of so many bytes
pub record FitsRegion (kind : RegionKind) (ram : ℕ) (r : Region) : Type 0 where
  pub whole : r.at % unit_of kind ≡ 0
  pub few : r.count ≤ 64
  pub ends : r.at + unit_of kind * r.count ≤ ram

pub record Reaches (least ram n : ℕ) : Type 0 where
  pub far : least ≤ n
  pub within : n ≤ ram

pub record FitsLand (ram harts : ℕ) (l : Land) : Type 0 where
  pub ptes_few : length l.ptes ≤ 256
  pub ptes : All (IsPteWord ram) l.ptes
  pub buffers_few : length l.buffers ≤ 64
  pub buffers : All (FitsBuffer ram harts) l.buffers
  pub slots : FitsRegion Slots ram l.slots
  pub pool : FitsRegion Pool ram l.pool
  pub channels : length l.reach ≡ 4
  pub reach : All (Reaches (least_reach l.slots l.pool) ram) l.reach

-- the slots and the pool as spans
abbrev pub land_slots : Land → Span
land_slots l = slots_span l.slots.at l.slots.count

abbrev pub land_pool : Land → Span
land_pool l = pool_span l.pool.at l.pool.count

pub record HasRegionsApart (l : Land) : Type 0 where
  pub buffers : HasBuffersApart l.buffers
  pub off_slots : All (λ b. AreApart b.span (land_slots l)) l.buffers
  pub off_pool : All (λ b. AreApart b.span (land_pool l)) l.buffers
  pub slots_off_pool : AreApart (land_slots l) (land_pool l)
