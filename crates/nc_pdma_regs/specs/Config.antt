-- The registers of a transfer (this project's own).
use Rattle.std.specs.Prelude.{ℕ, ◌+◌, ◌*◌, ◌/◌, ◌%◌, ◌^◌, min, Bool}
use Rattle.nc_pdma_regs.specs.declared.config.Transfer.{Transfer}
use Rattle.nc_pdma_regs.specs.Control.{bit}

abbrev pub no_transfer : Transfer
no_transfer = record { config = 0; bytes = 0; destination = 0; source = 0 }

-- what Config keeps of a value: bits 2 and 3, and bits 31:24
abbrev pub config_kept : ℕ → ℕ
config_kept v = (v / 2 ^ 2 % 2 ^ 2) * 2 ^ 2 + (v / 2 ^ 24 % 2 ^ 8) * 2 ^ 24

abbrev pub repeat_of : ℕ → Bool
repeat_of config = bit config 2

abbrev pub order_of : ℕ → Bool
order_of config = bit config 3

-- the sizes of a write and of a read: two to the power of wsize and of rsize, and at most 64
unfoldable pub write_size : ℕ → ℕ
write_size config = 2 ^ min (config / 2 ^ 24 % 16) 6

unfoldable pub read_size : ℕ → ℕ
read_size config = 2 ^ min (config / 2 ^ 28 % 16) 6
