-- The steps of a copy by a channel. This project's own.
use Rattle.std.specs.Prelude.{◌≡◌, ℕ, ◌+◌, List, [], ◌∷◌, ◌++◌, map}
use Rattle.nc_num.specs.declared.places.Span.{Span}
use Rattle.nc_num.specs.declared.names.ChanNo.{ChanNo}
use Rattle.nc_num.specs.declared.names.Dir.TheVariants.{ToDev, FromDev}
use Rattle.nc_plan.specs.declared.ops.HartOp.{HartOp}
use Rattle.nc_plan.specs.declared.ops.HartOp.TheVariants.{IoStore}
use Rattle.nc_plan.specs.declared.ops.IoTarget.TheVariants.{Reg}
use Rattle.nc_plan.specs.declared.effects.Effects.{Effects}
use Rattle.nc_plan.specs.declared.parts.Part.{Part}
use Rattle.nc_plan.specs.Registers.{regs_stores}
use Rattle.nc_plan.specs.Plans.{lending, returning}
use Rattle.nc_memcpy.specs.declared.copy.CopyStep.{CopyStep}
use Rattle.nc_memcpy.specs.declared.copy.CopyStep.TheVariants.{Op, Poll}

-- the device reads the source and writes the destination, and the two are as long
pub record IsCopy (src dst : Part) : Type 0 where
  pub reads : src.dir ≡ ToDev
  pub writes : dst.dir ≡ FromDev
  pub length : src.device.len ≡ dst.device.len

-- where a range starts on the bus
abbrev pub bus_of : Span → ℕ
bus_of span = 2147483648 + span.at

-- a store to a register of the channel, at this offset and of this width
abbrev pub reg : ChanNo → ℕ → ℕ → ℕ → HartOp
reg chan off width value = IoStore (Reg chan off width value)

-- Control
abbrev pub control : ChanNo → ℕ → HartOp
control chan value = reg chan 0 4 value

abbrev pub ops : List HartOp → List CopyStep
ops os = map (λ o. Op o) os

-- the registers are set, the channel runs, and once the poll told done or an error it is released
abbrev pub transfer : ChanNo → Part → Part → ℕ → List CopyStep
transfer chan src dst cfg = ops (regs_stores chan (bus_of src.device) (bus_of dst.device) src.device.len cfg ++ control chan 3 ∷ []) ++ Poll ∷ Op (control chan 0) ∷ []

-- the source is lent, then the destination; the channel copies; the destination is taken back, then the source
unfoldable pub copy_steps : Effects → ℕ → ChanNo → Part → Part → ℕ → List CopyStep
copy_steps e size chan src dst cfg =
    ops (lending e size (src ∷ [])) ++ ops (lending e size (dst ∷ [])) ++ transfer chan src dst cfg ++ ops (returning e size (dst ∷ [])) ++ ops (returning e size (src ∷ []))
