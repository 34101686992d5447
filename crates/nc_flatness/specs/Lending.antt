-- Which operations lend and take back. This project's own.
use Rattle.std.specs.Prelude.{Bool, true, false}
use Rattle.nc_ops.specs.declared.ops.Op.{Op}
use Rattle.nc_ops.specs.declared.ops.Op.TheVariants.{Ld, St, Cbo, Fence, Map, Unmap, ToCpu, ToDev, MapSg, UnmapSg, Calloc, Cgive, Ctake, Cfree, Hand, Take, Claim, Free, Regs, Run, Poll, Regr, Regw, Copy}

-- the operation is one of those that lend and take back
abbrev pub is_lending : Op → Bool
is_lending (Map label buf off len dir chan) = true
is_lending (Unmap label) = true
is_lending (ToCpu label) = true
is_lending (ToDev label) = true
is_lending (Ld spot off len) = false
is_lending (St spot off bytes) = false
is_lending (Cbo op buf off) = false
is_lending (Fence pred succ) = false
is_lending (Hand buf to) = false
is_lending (Take buf) = false
is_lending (Claim chan) = false
is_lending (Free chan) = false
is_lending (Regs chan src dst len cfg) = false
is_lending (Run chan) = false
is_lending (Poll chan) = false
is_lending (Regr chan off width) = false
is_lending (Regw chan off width value) = false
is_lending (MapSg label entries dir chan) = true
is_lending (UnmapSg label count) = true
is_lending (Calloc label pages chan) = true
is_lending (Cgive label) = true
is_lending (Ctake label) = true
is_lending (Cfree label) = true
is_lending (Copy chan src src_off dst dst_off len cfg) = true
