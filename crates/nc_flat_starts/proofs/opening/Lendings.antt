-- The operations that lend and take back have a start step.
use Rattle.std.specs.Prelude.{true}
use Rattle.std.proofs.Common.{◌≡◌, refl}
use Rattle.nc_ops.specs.declared.ops.Op.{Op}
use Rattle.nc_ops.specs.declared.ops.Op.TheVariants as ops
use Rattle.nc_rules.specs.Operations.{has_start}
use Rattle.nc_flatness.specs.Lending.{is_lending}

pub lending_starts : (o : Op) → is_lending o ≡ true → has_start o ≡ true
lending_starts (ops.Map label buf off len dir chan) is = refl
lending_starts (ops.Unmap label) is = refl
lending_starts (ops.ToCpu label) is = refl
lending_starts (ops.ToDev label) is = refl
lending_starts (ops.Ld spot off len) is = absurd cc
lending_starts (ops.St spot off bytes) is = absurd cc
lending_starts (ops.Cbo op buf off) is = absurd cc
lending_starts (ops.Fence pred succ) is = absurd cc
lending_starts (ops.MapSg label entries dir chan) is = refl
lending_starts (ops.UnmapSg label count) is = refl
lending_starts (ops.Calloc label count chan) is = refl
lending_starts (ops.Cgive label) is = refl
lending_starts (ops.Ctake label) is = refl
lending_starts (ops.Cfree label) is = refl
lending_starts (ops.Hand buf to) is = absurd cc
lending_starts (ops.Take buf) is = absurd cc
lending_starts (ops.Claim chan) is = absurd cc
lending_starts (ops.Free chan) is = absurd cc
lending_starts (ops.Regs chan src dst len cfg) is = absurd cc
lending_starts (ops.Run chan) is = absurd cc
lending_starts (ops.Poll chan) is = absurd cc
lending_starts (ops.Regr chan off width) is = absurd cc
lending_starts (ops.Regw chan off width value) is = absurd cc
lending_starts (ops.Copy chan src src_off dst dst_off len cfg) is = refl
