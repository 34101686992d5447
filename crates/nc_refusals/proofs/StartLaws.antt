-- Which operations have a start step.
use Rattle.std.proofs.Common.{refl}
use Rattle.nc_ops.specs.declared.ops.Op.TheVariants as ops
use Rattle.nc_rules.specs.Operations.{meaning}
use Rattle.nc_rules.specs.Accesses as accesses
use Rattle.nc_rules.specs.CacheOps as cache_ops
use Rattle.nc_rules.specs.Mappings as mappings
use Rattle.nc_rules.specs.ScatterLists as lists
use Rattle.nc_rules.specs.Areas as areas
use Rattle.nc_rules.specs.Handing as handing
use Rattle.nc_rules.specs.Channels as channels
use Rattle.nc_rules.specs.Copies as copies
use Rattle.nc_refusals.specs.Laws.{StartsAreOfPlans}

pub plans_start : StartsAreOfPlans
unfolding meaning accesses.load accesses.store cache_ops.cache_operation cache_ops.fence handing.take handing.hand channels.claim channels.free channels.set_up channels.run channels.poll channels.read_register channels.write_register mappings.map_single mappings.unmap_single mappings.sync_for_cpu mappings.sync_for_device lists.map_sg lists.unmap_sg areas.calloc areas.give_area areas.take_area areas.free_area copies.copy
plans_start f lots (ops.Ld spot off len) = refl
plans_start f lots _ = refl
