-- The nine registers of a channel, and what a read gives (this project's own).
use Rattle.std.specs.Prelude.{ℕ, List, length, Option, Some, None, Result, Ok, Err}
use Rattle.byteorder.specs.Endian.{little_bytes}
use Rattle.nc_pdma_regs.specs.Control.{ControlBits, number_of, no_flags}
use Rattle.nc_pdma_regs.specs.Config.{no_transfer}
use Rattle.nc_pdma_regs.specs.Table.{register_at}
use Rattle.nc_pdma_regs.specs.declared.config.Transfer.{Transfer}
use Rattle.nc_pdma_regs.specs.declared.table.BadMmio.{BadMmio}
use Rattle.nc_pdma_regs.specs.declared.table.Register.{Register}
use Rattle.nc_pdma_regs.specs.declared.table.Register.TheVariants.{Control, NextConfig, NextBytes, NextDestination, NextSource, ExecConfig, ExecBytes, ExecDestination, ExecSource}

pub record Registers : Type 0 where
  pub control : ControlBits
  pub next : Transfer
  pub exec : Transfer

-- at the start all registers are 0
abbrev pub no_registers : Registers
no_registers = record { control = no_flags; next = no_transfer; exec = no_transfer }

-- the number that a register holds
abbrev pub value_of : Registers → Register → ℕ
value_of r Control = number_of r.control
value_of r NextConfig = r.next.config
value_of r NextBytes = r.next.bytes
value_of r NextDestination = r.next.destination
value_of r NextSource = r.next.source
value_of r ExecConfig = r.exec.config
value_of r ExecBytes = r.exec.bytes
value_of r ExecDestination = r.exec.destination
value_of r ExecSource = r.exec.source

abbrev pub value_at : Registers → Option Register → ℕ → ℕ → Result ℕ BadMmio
value_at r (Some reg) off width = Ok (value_of r reg)
value_at r None off width = Err (record { off = off; width = width })

-- what a read of this width at this offset gives
abbrev pub read_of : Registers → ℕ → ℕ → Result ℕ BadMmio
read_of r off width = value_at r (register_at off width) off width

-- the bytes of a read, the lowest first; where there is no register the bytes are left as they were
abbrev pub read_into : Result ℕ BadMmio → List ℕ → List ℕ
read_into (Ok v) out = little_bytes (length out) v
read_into (Err e) out = out
