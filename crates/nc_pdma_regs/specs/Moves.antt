-- What the moves of a transfer do to the registers (this project's own).
use Rattle.std.specs.Prelude.{ℕ, ◌+◌, ◌-◌, ◌==◌, ◌&&◌, not, Bool, true, false, if◌then◌else◌}
use Rattle.nc_pdma_regs.specs.Control.{ControlBits}
use Rattle.nc_pdma_regs.specs.Config.{repeat_of}
use Rattle.nc_pdma_regs.specs.Registers.{Registers}
use Rattle.nc_pdma_regs.specs.Writes.{is_empty}

-- a transfer meets an error, and ends
abbrev pub failed : Registers → Registers
failed r = record r { control = record r.control { run = false; error = true } }

-- n bytes were read
abbrev pub bytes_read : Registers → ℕ → Registers
bytes_read r n = record r { exec = record r.exec { source = r.exec.source + n } }

-- n bytes were written
abbrev pub bytes_written : Registers → ℕ → Registers
bytes_written r n = record r { exec = record r.exec { bytes = r.exec.bytes - n; destination = r.exec.destination + n } }

-- whether a transfer that is done starts again
abbrev pub starts_again : Registers → Bool
starts_again r = repeat_of r.exec.config && not (is_empty r.next)

-- the flags once a transfer is done: it runs on where it starts again
abbrev pub done_flags : Bool → ControlBits → ControlBits
done_flags again c = record c { run = again && c.run; done = true }

-- a transfer is done, and Exec takes the values of Next where it starts again
abbrev pub finished : Registers → Registers
finished r = record { control = done_flags (starts_again r) r.control; next = r.next; exec = if starts_again r then r.next else r.exec }

-- after n bytes were written: where none is left, the transfer is done
unfoldable pub written_on : Registers → ℕ → Registers
written_on r n = if r.exec.bytes - n == 0 then finished (bytes_written r n) else bytes_written r n
