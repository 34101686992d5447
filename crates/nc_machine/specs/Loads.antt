-- The loads: which operation is one, and its bytes from the bytes below the queue.
use Rattle.std.specs.Prelude.{ℕ, ◌+◌, Bool, true, false, List, [], ◌∷◌, unwrap_or}
use Rattle.nc_queue.specs.Rules.{gives}
use Rattle.nc_queue.specs.declared.entry.Entry.{Entry}
use Rattle.nc_plan.specs.declared.ops.HartOp.{HartOp}
use Rattle.nc_plan.specs.declared.ops.HartOp.TheVariants.{Load}

-- only a load of memory may bring a block to the caches
abbrev pub may_bring : HartOp → Bool
may_bring (Load span kind) = true
may_bring _ = false

-- these bytes, which stand from a place on, but for those that an entry gives
abbrev pub overlaid : ℕ → List Entry → ℕ → List ℕ → List ℕ
overlaid s q x [] = []
overlaid s q x (b ∷ bs) = unwrap_or (gives s q x) b ∷ overlaid s q (x + 1) bs
