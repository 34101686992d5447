-- What a write of a value does to the registers, point by point (this project's own).
use Rattle.std.specs.Prelude.{ℕ, ◌%◌, ◌^◌, ◌==◌, ◌&&◌, ◌||◌, not, Bool, if◌then◌else◌, Option, Some, None}
use Rattle.nc_pdma_regs.specs.Control.{ControlBits, bit}
use Rattle.nc_pdma_regs.specs.Config.{config_kept, no_transfer}
use Rattle.nc_pdma_regs.specs.Table.{register_at}
use Rattle.nc_pdma_regs.specs.Registers.{Registers}
use Rattle.nc_pdma_regs.specs.declared.config.Transfer.{Transfer}
use Rattle.nc_pdma_regs.specs.declared.table.Register.{Register}
use Rattle.nc_pdma_regs.specs.declared.table.Register.TheVariants.{Control, NextConfig, NextBytes, NextDestination, NextSource}

-- a 4-byte register takes the low 32 bits of a value
abbrev pub low : ℕ → ℕ
low v = v % 2 ^ 32

-- claim becomes bit 0 where no transfer runs, and else it stays
abbrev pub claim_after : ControlBits → ℕ → Bool
claim_after c v = if c.run then c.claim else bit v 0

-- a channel is claimed where claim goes from 0 to 1, and then the Next registers become 0
abbrev pub claims : ControlBits → ℕ → Bool
claims c v = not c.claim && claim_after c v

abbrev pub next_after : Registers → ℕ → Transfer
next_after r v = if claims r.control v then no_transfer else r.next

-- a transfer starts where none runs, bit 1 is written, and claim was set and stays set
abbrev pub starts : ControlBits → ℕ → Bool
starts c v = not c.run && bit v 1 && c.claim && claim_after c v

-- it stops where one runs and bit 1 is written as 0
abbrev pub stops : ControlBits → ℕ → Bool
stops c v = c.run && not (bit v 1)

-- at a start Exec takes the values of Next
abbrev pub exec_after : Registers → ℕ → Transfer
exec_after r v = if starts r.control v then r.next else r.exec

-- a transfer of no bytes is done as it starts
abbrev pub is_empty : Transfer → Bool
is_empty t = t.bytes == 0

abbrev pub run_after : ControlBits → Bool → ℕ → Bool
run_after c empty v = if starts c v then not empty else c.run && bit v 1

-- done stays set only where bit 30 is written, and is set at a start of no bytes
abbrev pub done_after : ControlBits → Bool → ℕ → Bool
done_after c empty v = (c.done && bit v 30) || (starts c v && empty)

-- error stays set only where bit 31 is written
abbrev pub error_after : ControlBits → ℕ → Bool
error_after c v = c.error && bit v 31

-- a start and a stop empty the FIFO
abbrev pub empties_fifo : ControlBits → ℕ → Bool
empties_fifo c v = starts c v || stops c v

-- the flags after a write of v; doneIE and errorIE become bits 14 and 15, and nothing is delivered
abbrev pub control_after : ControlBits → Bool → ℕ → ControlBits
control_after c empty v = record {
  claim = claim_after c v;
  run = run_after c empty v;
  done_ie = bit v 14;
  error_ie = bit v 15;
  done = done_after c empty v;
  error = error_after c v;
}

-- a write of v to Control
unfoldable pub control_write : Registers → ℕ → Registers
control_write r v = record { control = control_after r.control (is_empty r.next) v; next = next_after r v; exec = exec_after r v }

-- Next with a value written to one of its registers; a write to Exec is ignored
abbrev pub next_written : Transfer → Register → ℕ → Transfer
next_written t NextConfig v = record t { config = config_kept (low v) }
next_written t NextBytes v = record t { bytes = v }
next_written t NextDestination v = record t { destination = v }
next_written t NextSource v = record t { source = v }
next_written t _ v = t

-- a write to Next is ignored while the channel is not claimed
abbrev pub written : Registers → Register → ℕ → Registers
written r Control v = control_write r (low v)
written r reg v = if r.control.claim then record r { next = next_written r.next reg v } else r

abbrev pub written_at : Registers → Option Register → ℕ → Registers
written_at r (Some reg) v = written r reg v
written_at r None v = r

-- the registers after a write of this width at this offset
abbrev pub write_of : Registers → ℕ → ℕ → ℕ → Registers
write_of r off width v = written_at r (register_at off width) v
