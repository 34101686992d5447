-- What the plans of a hart's lots depend on, of what its driver knows from the start. This project's own.
use Rattle.std.specs.Prelude.{[], false}
use Rattle.nc_planned.specs.declared.lender.Lender.{Lender}
use Rattle.nc_rules.specs.Lots.{DriverConfig}

-- that part of it
abbrev pub lender_of : DriverConfig → Lender
lender_of f = record { effects = f.effects; size = f.size; slots_at = f.slots_at; light = f.light }

-- one who knows this much, and of all else nothing
abbrev pub fixed_by : Lender → DriverConfig
fixed_by by = record {
  me = record { 0 = 0 };
  effects = by.effects;
  pbmte = false;
  table = [];
  buffers = [];
  size = by.size;
  zero_size = by.size;
  reach = [];
  slots_at = by.slots_at;
  slots = 0;
  pool = record { at = 0; len = 0 };
  light = by.light;
  script = [];
}
