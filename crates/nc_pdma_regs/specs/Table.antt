-- The table of registers, by offset and width in bytes (this project's own).
use Rattle.std.specs.Prelude.{ℕ, ◌==◌, ◌&&◌, if◌then◌else◌, List, [], ◌∷◌, Option, Some, None, Result, Ok, Err}
use Rattle.nc_pdma_regs.specs.declared.table.BadMmio.{BadMmio}
use Rattle.nc_pdma_regs.specs.declared.table.Register.{Register}
use Rattle.nc_pdma_regs.specs.declared.table.Register.TheVariants.{Control, NextConfig, NextBytes, NextDestination, NextSource, ExecConfig, ExecBytes, ExecDestination, ExecSource}

pub record Row : Type 0 where
  pub off : ℕ
  pub width : ℕ
  pub register : Register

abbrev pub row : ℕ → ℕ → Register → Row
row off width register = record { off = off; width = width; register = register }

abbrev pub rows : List Row
rows =
    row 0x000 4 Control
    ∷ row 0x004 4 NextConfig
    ∷ row 0x008 8 NextBytes
    ∷ row 0x010 8 NextDestination
    ∷ row 0x018 8 NextSource
    ∷ row 0x104 4 ExecConfig
    ∷ row 0x108 8 ExecBytes
    ∷ row 0x110 8 ExecDestination
    ∷ row 0x118 8 ExecSource
    ∷ []

abbrev pub row_at : List Row → ℕ → ℕ → Option Register
row_at [] off width = None
row_at (r ∷ rs) off width = if r.off == off && r.width == width then Some r.register else row_at rs off width

-- the register that an access finds
abbrev pub register_at : ℕ → ℕ → Option Register
register_at off width = row_at rows off width

abbrev pub width_of : Register → ℕ
width_of Control = 4
width_of NextConfig = 4
width_of ExecConfig = 4
width_of _ = 8

-- the answer of an access to a register, where there is one
abbrev pub answer : {A : Type 0} → Option A → ℕ → ℕ → Result A BadMmio
answer (Some a) off width = Ok a
answer None off width = Err (record { off = off; width = width })

abbrev pub done_at : Option Register → ℕ → ℕ → Result Unit BadMmio
done_at (Some r) off width = Ok tt
done_at None off width = Err (record { off = off; width = width })

abbrev pub known_at : ℕ → ℕ → Result Unit BadMmio
known_at off width = done_at (register_at off width) off width
