-- A scenario for a name that names none yet.
use Rattle.std.specs.Prelude.{List, [], false}
use Rattle.nc_scen.specs.declared.scenario.Plan.TheVariants as plans
use Rattle.nc_scen.specs.declared.scenario.Scenario.{Scenario}

abbrev pub no_scenario : Scenario
no_scenario = record {
  version = 1;
  block_size = 64;
  zero_size = 64;
  light = false;
  ram = 0;
  harts = [];
  ptes = [];
  buffers = [];
  slots_at = 0;
  slots = 0;
  pool_at = 0;
  pages = 0;
  reach = [];
  plan = plans.List [];
  finish = false;
  limit = 0;
}
