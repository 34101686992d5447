-- A plan depends on what its lender knows alone.
use Rattle.std.proofs.Common.{◌≡◌, ◌∙◌, List, refl, ap}
use Rattle.nc_ops.specs.declared.ops.Op.{Op}
use Rattle.nc_ops.specs.declared.ops.Op.TheVariants as ops
use Rattle.nc_rules.specs.declared.lots.Lot.{Lot}
use Rattle.nc_rules.specs.Lots.{DriverConfig}
use Rattle.nc_rules.specs.Operations.{plan_of, meaning}
use Rattle.nc_rules.specs.Accesses.{load, store}
use Rattle.nc_rules.specs.CacheOps.{cache_operation, fence}
use Rattle.nc_rules.specs.Mappings.{map_single, unmap_single, sync_for_cpu, sync_for_device}
use Rattle.nc_rules.specs.ScatterLists.{map_sg, unmap_sg}
use Rattle.nc_rules.specs.Areas.{calloc, give_area, take_area, free_area}
use Rattle.nc_rules.specs.Handing.{hand, take}
use Rattle.nc_rules.specs.Channels.{claim, free, set_up, run, poll, read_register, write_register}
use Rattle.nc_rules.specs.Copies.{copy}
use Rattle.nc_planned.specs.declared.lender.Lender.{Lender}
use Rattle.nc_planned.specs.Lenders.{lender_of, fixed_by}

same_plan : (f : DriverConfig) (lots : List Lot) (o : Op) → plan_of f lots o ≡ plan_of (fixed_by (lender_of f)) lots o
unfolding plan_of meaning load store cache_operation fence map_single unmap_single sync_for_cpu sync_for_device map_sg unmap_sg calloc give_area take_area free_area hand take claim free set_up run poll read_register write_register copy
same_plan f lots (ops.Ld spot off len) = refl
same_plan f lots _ = refl

pub plans_by : (f : DriverConfig) (by : Lender) (lots : List Lot) (o : Op) → lender_of f ≡ by → plan_of f lots o ≡ plan_of (fixed_by by) lots o
plans_by f by lots o e = same_plan f lots o ∙ ap (λ (l : Lender). plan_of (fixed_by l) lots o) e
