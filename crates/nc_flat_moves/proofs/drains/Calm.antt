-- A calm row by memory's byte, which may be another behind an event.
use Rattle.std.proofs.Common.{ℕ, sym, subst}
use Rattle.nc_num.specs.Memory.{byte}
use Rattle.nc_rules.specs.Machine.{MachineState}
use Rattle.nc_rows.specs.Places.{PoolRow, CalmRow}

pub calm_of : (m k : MachineState) (z : ℕ) → PoolRow (byte m.cache.ram z) k z → CalmRow k z
calm_of m k z row = subst (λ (v : ℕ). PoolRow v k z) (sym row.both.memory) row
