-- What the code needs of what it is given: sums of places and lengths fit, each page of the table has a valid word, and
-- a store and a list are short.
use Rattle.std.specs.Prelude.{◌+◌, ◌≤◌, length, All, EachIndex, slice_index}
use Rattle.nc_num.specs.Sizes.{IsBlockSize}
use Rattle.nc_num.specs.declared.places.Span.{Span}
use Rattle.nc_pte.specs.Words.{IsPteWord}
use Rattle.nc_ops.specs.declared.ops.Op.{Op}
use Rattle.nc_ops.specs.declared.ops.Op.TheVariants.{Ld, St, Cbo, Fence, Map, Unmap, ToCpu, ToDev, MapSg, UnmapSg, Calloc, Cgive, Ctake, Cfree, Hand, Take, Claim, Free, Regs, Run, Poll, Regr, Regw, Copy}
use Rattle.nc_rules.specs.Lots.{DriverConfig}

-- a range of the largest RAM
pub record IsSmall (range : Span) : Type 0 where
  pub ends : range.at + range.len ≤ 1048576

-- a store has few bytes, and a list few entries
abbrev pub IsShort : Op → Type 0
IsShort (St spot off bytes) = length bytes ≤ 4096
IsShort (Ld spot off len) = Unit {0}
IsShort (Cbo op buf off) = Unit {0}
IsShort (Fence pred succ) = Unit {0}
IsShort (Map label buf off len dir chan) = Unit {0}
IsShort (Unmap label) = Unit {0}
IsShort (ToCpu label) = Unit {0}
IsShort (ToDev label) = Unit {0}
IsShort (MapSg label entries dir chan) = length entries ≤ 16
IsShort (UnmapSg label count) = Unit {0}
IsShort (Calloc label pages chan) = Unit {0}
IsShort (Cgive label) = Unit {0}
IsShort (Ctake label) = Unit {0}
IsShort (Cfree label) = Unit {0}
IsShort (Hand buf to) = Unit {0}
IsShort (Take buf) = Unit {0}
IsShort (Claim chan) = Unit {0}
IsShort (Free chan) = Unit {0}
IsShort (Regs chan src dst len cfg) = Unit {0}
IsShort (Run chan) = Unit {0}
IsShort (Poll chan) = Unit {0}
IsShort (Regr chan off width) = Unit {0}
IsShort (Regw chan off width value) = Unit {0}
IsShort (Copy chan src src_off dst dst_off len cfg) = Unit {0}

pub record IsSafe (f : DriverConfig) : Type 0 where
  pub sized : IsBlockSize f.size
  pub zero_sized : IsBlockSize f.zero_size
  pub buffers : All IsSmall f.buffers
  pub slots : f.slots_at ≤ 1048576
  pub pages : length f.table ≤ 256
  pub table : EachIndex f.table (λ k. IsPteWord 1048576 (slice_index f.table k))
  pub script : All IsShort f.script
