-- What holds of each operation that is read: the limits in the order of the arguments.
use Rattle.std.specs.Prelude.{ℕ, ◌^◌, ◌<◌, ◌≤◌, All, length}
use Rattle.nc_values.specs.Values.{FitsLabel, HasNoRepeat}
use Rattle.nc_ops.specs.declared.ops.BusArg.{BusArg}
use Rattle.nc_ops.specs.declared.ops.BusArg.TheVariants as bus
use Rattle.nc_ops.specs.declared.ops.Op.{Op}
use Rattle.nc_ops.specs.declared.ops.Op.TheVariants.{Ld, St, Cbo, Fence, Map, Unmap, ToCpu, ToDev, MapSg, UnmapSg, Calloc, Cgive, Ctake, Cfree, Hand, Take, Claim, Free, Regs, Run, Poll, Regr, Regw, Copy}
use Rattle.nc_ops.specs.declared.ops.SgEntry.{SgEntry}
use Rattle.nc_ops.specs.declared.ops.Spot.{Spot}
use Rattle.nc_ops.specs.declared.ops.Spot.TheVariants as spots

-- In a scenario of so many harts and buffers: the limits in the order of the arguments

abbrev pub FitsSpot : ℕ → Spot → Type 0
FitsSpot buffers (spots.Buffer b) = b < buffers
FitsSpot buffers (spots.Area l) = FitsLabel l
FitsSpot buffers spots.Virtual = Unit {0}

abbrev pub FitsBus : BusArg → Type 0
FitsBus (bus.At n) = n < 2 ^ 64
FitsBus (bus.Map l) = FitsLabel l
FitsBus (bus.Segment l s) = FitsLabel l × (s < 2 ^ 32)
FitsBus (bus.Area l) = FitsLabel l

pub record FitsEntry (buffers : ℕ) (e : SgEntry) : Type 0 where
  pub buffer : e.buf < buffers
  pub off : e.off < 2 ^ 32
  pub len : e.len < 2 ^ 32

abbrev pub FitsOp : ℕ → ℕ → Op → Type 0
FitsOp harts buffers (Ld spot off len) = FitsSpot buffers spot × (off < 2 ^ 32) × (len ≤ 4096)
FitsOp harts buffers (St spot off bytes) = FitsSpot buffers spot × (off < 2 ^ 32) × (length bytes ≤ 4096) × All (λ b. b < 256) bytes
FitsOp harts buffers (Cbo op buf off) = (buf < buffers) × (off < 2 ^ 32)
FitsOp harts buffers (Fence pred succ) = (pred ≤ 15) × (succ ≤ 15)
FitsOp harts buffers (Map label buf off len dir chan) = FitsLabel label × (buf < buffers) × (off < 2 ^ 32) × (len < 2 ^ 32) × (chan.0 < 4)
FitsOp harts buffers (Unmap label) = FitsLabel label
FitsOp harts buffers (ToCpu label) = FitsLabel label
FitsOp harts buffers (ToDev label) = FitsLabel label
FitsOp harts buffers (MapSg label entries dir chan) = FitsLabel label × (length entries ≤ 16) × All (FitsEntry buffers) entries × (chan.0 < 4)
FitsOp harts buffers (UnmapSg label count) = FitsLabel label × (count < 2 ^ 32)
FitsOp harts buffers (Calloc label pages chan) = FitsLabel label × (pages ≤ 64) × (chan.0 < 4)
FitsOp harts buffers (Cgive label) = FitsLabel label
FitsOp harts buffers (Ctake label) = FitsLabel label
FitsOp harts buffers (Cfree label) = FitsLabel label
FitsOp harts buffers (Hand buf to) = (buf < buffers) × (to.0 < harts)
FitsOp harts buffers (Take buf) = buf < buffers
FitsOp harts buffers (Claim chan) = chan.0 < 4
FitsOp harts buffers (Free chan) = chan.0 < 4
FitsOp harts buffers (Regs chan src dst len cfg) = (chan.0 < 4) × FitsBus src × FitsBus dst × (len < 2 ^ 64) × (cfg < 2 ^ 32)
FitsOp harts buffers (Run chan) = chan.0 < 4
FitsOp harts buffers (Poll chan) = chan.0 < 4
FitsOp harts buffers (Regr chan off width) = (chan.0 < 4) × (off ≤ 4095) × (width ≤ 8)
FitsOp harts buffers (Regw chan off width value) = (chan.0 < 4) × (off ≤ 4095) × (width ≤ 8) × (value < 2 ^ 64)
FitsOp harts buffers (Copy chan src src_off dst dst_off len cfg) = (chan.0 < 4) × (src < buffers) × (src_off < 2 ^ 32) × (dst < buffers) × (dst_off < 2 ^ 32) × (len < 2 ^ 32) × (cfg < 2 ^ 32) × HasNoRepeat cfg
