-- The stores that set up a channel. The registers' names are after the SiFive FU540 PDMA; their offsets, widths and
-- order are this project's own.
use Rattle.std.specs.Prelude.{ℕ, List, [], ◌∷◌, Option, slice_get}
use Rattle.nc_num.specs.declared.names.ChanNo.{ChanNo}
use Rattle.nc_plan.specs.declared.ops.IoTarget.TheVariants.{Reg}
use Rattle.nc_plan.specs.declared.ops.HartOp.{HartOp}
use Rattle.nc_plan.specs.declared.ops.HartOp.TheVariants.{IoStore}

abbrev pub next_config : ChanNo → ℕ → HartOp
next_config chan value = IoStore (Reg chan 0x004 4 value)

abbrev pub next_bytes : ChanNo → ℕ → HartOp
next_bytes chan value = IoStore (Reg chan 0x008 8 value)

abbrev pub next_destination : ChanNo → ℕ → HartOp
next_destination chan value = IoStore (Reg chan 0x010 8 value)

abbrev pub next_source : ChanNo → ℕ → HartOp
next_source chan value = IoStore (Reg chan 0x018 8 value)

-- the four stores, in order
abbrev pub regs_stores : ChanNo → ℕ → ℕ → ℕ → ℕ → List HartOp
regs_stores chan source destination bytes config =
    next_config chan config ∷ next_bytes chan bytes ∷ next_destination chan destination ∷ next_source chan source ∷ []

-- store n of them, counted from 0
abbrev pub regs_step : ChanNo → ℕ → ℕ → ℕ → ℕ → ℕ → Option HartOp
regs_step chan source destination bytes config n = slice_get (regs_stores chan source destination bytes config) n
