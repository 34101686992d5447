-- The mailbox as a list of who waits, buffer by buffer (this project's own).
use Rattle.std.specs.Prelude.{ℕ, List, Option, None, slice_index_or}
use Rattle.nc_num.specs.declared.names.HartNo.{HartNo}

-- the hart for which a buffer's message waits
abbrev pub waiting : List (Option HartNo) → ℕ → Option HartNo
waiting boxes buf = slice_index_or boxes buf None
