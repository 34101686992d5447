-- The plan of an operation that lends or takes back is one that goes through.
use Rattle.std.specs.Prelude.{true}
use Rattle.std.proofs.Common.{◌≡◌}
use Rattle.std.proofs.lemmas.Bool.{false≢true}
use Rattle.nc_ops.specs.declared.ops.Op.{Op}
use Rattle.nc_ops.specs.declared.ops.Op.TheVariants as ops
use Rattle.nc_rules.specs.Driver.{DriverState}
use Rattle.nc_flatness.specs.Lending.{is_lending}
use Rattle.nc_flatness.specs.Flatness.{PlanLeft, PlanIs}

pub record IsPlanLeft (d : DriverState) (o : Op) : Type 0 where
  pub left : PlanIs d o → PlanLeft d
  pub is : PlanLeft d → PlanIs d o

pub plan_left : (d : DriverState) (o : Op) → is_lending o ≡ true → IsPlanLeft d o
plan_left d (ops.Map label buf off len dir chan) lends = record { left = λ p. p; is = λ p. p }
plan_left d (ops.Unmap label) lends = record { left = λ p. p; is = λ p. p }
plan_left d (ops.ToCpu label) lends = record { left = λ p. p; is = λ p. p }
plan_left d (ops.ToDev label) lends = record { left = λ p. p; is = λ p. p }
plan_left d (ops.MapSg label entries dir chan) lends = record { left = λ p. p; is = λ p. p }
plan_left d (ops.UnmapSg label count) lends = record { left = λ p. p; is = λ p. p }
plan_left d (ops.Calloc label pages chan) lends = record { left = λ p. p; is = λ p. p }
plan_left d (ops.Cgive label) lends = record { left = λ p. p; is = λ p. p }
plan_left d (ops.Ctake label) lends = record { left = λ p. p; is = λ p. p }
plan_left d (ops.Cfree label) lends = record { left = λ p. p; is = λ p. p }
plan_left d (ops.Copy chan src src_off dst dst_off len cfg) lends = record { left = λ p. p; is = λ p. p }
plan_left d _ lends = absurd (false≢true lends)
