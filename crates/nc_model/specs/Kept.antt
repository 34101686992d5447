-- What is said of the bytes themselves at one moment before the first touch.
use Rattle.std.specs.Prelude.{ℕ, ◌≡◌, ◌+◌, ◌<◌, Bool, true, false}
use Rattle.nc_num.specs.Places.{covers}
use Rattle.nc_num.specs.declared.places.Span.{Span}
use Rattle.nc_model.specs.declared.owners.Owner.{Owner}
use Rattle.nc_model.specs.declared.owners.Owner.TheVariants.{Thread, Passing, Lending, Device, Returning, Synced, Pool}

-- the flat byte stands in the coherent domain, or in a queue, while no mapping lends the place
abbrev pub is_kept : Owner → Bool
is_kept (Thread h) = true
is_kept (Passing h g) = true
is_kept (Lending m) = false
is_kept (Device m) = false
is_kept (Returning m) = false
is_kept (Synced m) = true
is_kept Pool = true

-- of a RAM of this size with these bounce slots: a place that is kept and that no queue gives has its flat byte.
-- `middle` is the domain's byte where the block is held, else memory's
pub record Kept (size : ℕ) (slots : Span) (owner : ℕ → Owner) (given : ℕ → Bool) (middle flat : ℕ → ℕ) : Type 0 where
  pub at : (x : ℕ) → x < size → covers slots x ≡ false → is_kept (owner x) ≡ true → given x ≡ false → middle x ≡ flat x

-- a copy of so many bytes between two places: the destination has the source's bytes, and its hart sees them
pub record Copied (len source target : ℕ) (view flat : ℕ → ℕ) : Type 0 where
  pub seen : (i : ℕ) → i < len → view (target + i) ≡ flat (target + i)
  pub same : (i : ℕ) → i < len → flat (target + i) ≡ flat (source + i)
