-- What a driver knows from the start is fit for the code.
use Rattle.std.proofs.Common.{ℕ, ◌≤◌, arith, length}
use Rattle.nc_num.specs.declared.places.Span.{Span}
use Rattle.nc_pte.specs.Words.{IsPteWord}
use Rattle.nc_ops.specs.Fits.{FitsOp}
use Rattle.nc_ops.specs.declared.ops.Op.{Op}
use Rattle.nc_ops.specs.declared.ops.Op.TheVariants.{St, MapSg}
use Rattle.nc_rules.specs.Lots.{DriverConfig}
use Rattle.nc_scripts.specs.Scripts.{IsRangeIn}
use Rattle.nc_scripts.specs.Drivers.{IsFixed}
use Rattle.nc_checks.specs.Safe.{IsSmall, IsShort, IsSafe}
use Rattle.nc_driver.specs.Kept.{IsFit}

small_range : (ram : ℕ) (range : Span) → ram ≤ 1048576 → IsRangeIn ram range → IsSmall range
small_range ram range le is = record { ends = omega (arith, is.ends) }

short_op : (harts buffers : ℕ) (o : Op) → FitsOp harts buffers o → IsShort o
short_op harts buffers (St spot off bytes) is = is.2
short_op harts buffers (MapSg label entries dir chan) is = is.1
short_op harts buffers _ is = tt

wide_word : (ram word : ℕ) → ram ≤ 1048576 → IsPteWord ram word → IsPteWord 1048576 word
wide_word ram word le is = record {
  flags = is.flags;
  reserved = is.reserved;
  napot = is.napot;
  from_ram = is.from_ram;
  in_ram = omega (arith, is.in_ram);
}

pub safe_of : (ram harts : ℕ) (f : DriverConfig) → IsFixed ram harts f → IsSafe f
safe_of ram harts f is = record {
  sized = is.sized;
  zero_sized = is.zero_sized;
  buffers = λ k d lt. small_range ram _ is.ram_small (is.buffers k d lt);
  slots = omega (arith, is.slots_end, is.ram_small);
  pages = is.pages;
  table = λ k lt. wide_word ram _ is.ram_small (is.table k lt);
  script = λ k d lt. short_op harts (length f.buffers) _ (is.script k d lt);
}

pub fit_of : (ram harts : ℕ) (f : DriverConfig) → IsFixed ram harts f → IsFit f
fit_of ram harts f is = record {
  safe = safe_of ram harts f is;
  short = is.short;
  slots = is.slots_few;
  slots_at = omega (arith, is.slots_end, is.ram_small);
}
