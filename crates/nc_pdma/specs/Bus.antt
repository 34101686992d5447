-- RAM on the bus (this project's own).
use Rattle.std.specs.Prelude.{ℕ, ◌+◌, ◌-◌, ◌&&◌, Bool, nat_le, if◌then◌else◌, Option, Some, None}

-- the bus address of RAM's first byte, 0x8000_0000
abbrev pub ram_base : ℕ
ram_base = 2147483648

-- whether n bytes at a bus address are all in a RAM of so many bytes
abbrev pub in_ram : ℕ → ℕ → ℕ → Bool
in_ram size bus n = nat_le ram_base bus && nat_le (bus + n) (ram_base + size)

-- the place of the first of them, where they are
abbrev pub place_of : ℕ → ℕ → ℕ → Option ℕ
place_of size bus n = if in_ram size bus n then Some (bus - ram_base) else None
